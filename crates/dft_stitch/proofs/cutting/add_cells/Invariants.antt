-- The cells so far, and those of the rest.
use Rattle.std.proofs.Common.{◌≡◌, ◌-◌, ◌++◌}
use Rattle.std.specs.List.{filter_map, range_with_len}
use Rattle.dft_stitch.specs.Chains.{cell_in, cells_in}
use Rattle.dft_stitch.proofs.cutting.add_cells.Given as goal

abbrev pub invariant-loop-number : goal.invariant-loop-number
invariant-loop-number l =
    l.cells.items ++ filter_map (cell_in l.verdicts l.fn.domains l.fn.group) (range_with_len l.number (l.fn.count - l.number)) ≡ l.fn.cells.items ++ cells_in l.verdicts l.fn.domains l.fn.group
