-- The variables so far, and those of the columns that are left.
use Rattle.std.proofs.Common.{◌≡◌, ◌++◌, ◌-◌}
use Rattle.dft_base.specs.Packed.{packed_bit}
use Rattle.dft_cube_reports.proofs.VariableLemmas.{listed_in}
use Rattle.dft_cube_reports.proofs.cell_sums.variables.Given as goal

abbrev pub invariant-loop-column : goal.invariant-loop-column
invariant-loop-column l = l.variables.items ++ listed_in l.ring (packed_bit l.row) l.column (l.columns - l.column) ≡ listed_in l.ring (packed_bit l.row) 0 l.columns
