-- The lock-ups before this one are listed.
use Rattle.dft_logic.specs.Circuit.{latch_at, latch_domains}
use Rattle.dft_logic.specs.Tables.{IsTable}
use Rattle.dft_logic.proofs.tables.holders.Given as goal

abbrev pub invariant-loop-place : goal.invariant-loop-place
invariant-loop-place l = IsTable l.nets l.place (λ c. latch_domains (latch_at l.latches c)) l.table.items
