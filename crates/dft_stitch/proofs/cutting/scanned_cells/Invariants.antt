-- The cells of the groups so far, and those of the rest.
use Rattle.std.proofs.Common.{◌≡◌, ◌-◌, ◌*◌, ◌++◌, flat_map}
use Rattle.std.specs.List.{range_with_len}
use Rattle.dft_stitch.specs.Chains.{cells_in, scanned_cells}
use Rattle.dft_stitch.proofs.cutting.scanned_cells.Given as goal

abbrev pub invariant-loop-group : goal.invariant-loop-group
invariant-loop-group l = l.cells.items ++ flat_map (cells_in l.verdicts l.domains) (range_with_len l.group (2 * l.domains - l.group)) ≡ scanned_cells l.verdicts l.domains
