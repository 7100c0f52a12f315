use Rattle.std.proofs.Common.{◌≡◌, ◌++◌, flat_map, drop}
use Rattle.dft_report.specs.Written.{cube_lines}
use Rattle.dft_report.proofs.cubes.add_cubes.Given as goal

abbrev pub invariant-loop-cube : goal.invariant-loop-cube
invariant-loop-cube l = l.out.items ++ flat_map cube_lines (drop l.cube-index l.cubes) ≡ l.fn.out.items ++ flat_map cube_lines l.cubes
