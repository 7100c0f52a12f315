-- The cells before this one take from the others.
use Rattle.std.proofs.Common.{ℕ, suc, ◌≡◌, ◌<◌, ◌-◌, slice_index_or}
use Rattle.dft_takings.specs.Entries.{Follows}
use Rattle.dft_takings.specs.EntryTables.{entry_at}
use Rattle.dft_takings.proofs.takings.all_take.Given as goal

abbrev pub invariant-loop-index : goal.invariant-loop-index
invariant-loop-index l = (i : ℕ) → suc i < l.index → entry_at l.entries (slice_index_or l.cells (suc i) 0) ≡ Follows (slice_index_or l.others (suc i - l.start) 0)
