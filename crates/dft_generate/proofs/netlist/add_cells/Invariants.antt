-- The lines of the cells before this one.
use Rattle.std.proofs.Common.{◌≡◌, ◌++◌, flat_map}
use Rattle.std.specs.List.{range_with_len}
use Rattle.dft_generate.specs.Netlists.{cell_lines}
use Rattle.dft_generate.proofs.netlist.add_cells.Given as goal

abbrev pub invariant-loop-cell : goal.invariant-loop-cell
invariant-loop-cell l = l.out.items ≡ l.fn.out.items ++ flat_map (cell_lines l.size l.words) (range_with_len 0 l.cell)
