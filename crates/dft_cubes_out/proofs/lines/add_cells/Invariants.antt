use Rattle.std.proofs.Common.{◌≡◌, ◌++◌, flat_map, drop}
use Rattle.dft_cubes_out.specs.Written.{cell_line}
use Rattle.dft_cubes_out.proofs.lines.add_cells.Given as goal

abbrev pub invariant-loop-given : goal.invariant-loop-given
invariant-loop-given l = l.out.items ++ flat_map (cell_line l.design) (drop l.given-index l.cells) ≡ l.fn.out.items ++ flat_map (cell_line l.design) l.cells
