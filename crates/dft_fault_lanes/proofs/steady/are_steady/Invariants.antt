-- The cells before this one that take a value read what is still.
use Rattle.std.proofs.Common.{true}
use Rattle.dft_takings.specs.Needs.{HasAll}
use Rattle.dft_takings.specs.Shows.{still_needs}
use Rattle.dft_takings.specs.ShownTables.{shown_at}
use Rattle.dft_fault_laws.specs.Rounds.{every}
use Rattle.dft_fault_lanes.specs.Lanes.{flop_at, is_changed}
use Rattle.dft_fault_lanes.specs.Plans.{cell_needs}
use Rattle.dft_fault_lanes.proofs.MarkLemmas.{ShownTo}
use Rattle.dft_fault_lanes.proofs.steady.are_steady.Given as goal

abbrev pub invariant-loop-flop : goal.invariant-loop-flop
invariant-loop-flop l = ShownTo (λ c. is_changed (flop_at l.flops c) true l.pulsed) (λ c. HasAll (still_needs every (shown_at l.shown) (flop_at l.flops c).domain) (cell_needs l.steer (flop_at l.flops c))) l.flop-index
