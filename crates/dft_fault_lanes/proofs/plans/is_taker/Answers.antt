-- It takes a value, or it is left out.
use Rattle.std.proofs.Common.{◌∙◌, sym, true≢false}
use Rattle.dft_fault_lanes.proofs.plans.is_taker.Goals as goal

pub returns-then-left-clause-down : goal.returns-then-left-clause-down
returns-then-left-clause-down c = λ down stays. absurd (true≢false (sym c.if-left.true ∙ stays))

pub returns-clause-up : goal.returns-clause-up
returns-clause-up c = λ up. (sym c.changes.ensures ∙ up, c.if-left.false)

pub returns-clause-down : goal.returns-clause-down
returns-clause-down c = λ down stays. sym c.changes.ensures ∙ down
