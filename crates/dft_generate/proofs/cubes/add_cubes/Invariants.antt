-- The lines of the cubes before this one.
use Rattle.std.proofs.Common.{◌≡◌, ◌++◌, flat_map}
use Rattle.std.specs.List.{range_with_len}
use Rattle.dft_generate.specs.Cubes.{cube_lines}
use Rattle.dft_generate.proofs.cubes.add_cubes.Given as goal

abbrev pub invariant-loop-cube : goal.invariant-loop-cube
invariant-loop-cube l = l.out.items ≡ l.fn.out.items ++ flat_map (cube_lines l.size l.words) (range_with_len 0 l.cube)
