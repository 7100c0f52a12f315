-- It takes no value, or it reads what is still.
use Rattle.std.proofs.Common.{◌∙◌, sym, true≢false}
use Rattle.dft_fault_lanes.proofs.steady.rises_steady.Goals as goal

pub returns-then-not-changes : goal.returns-then-not-changes
returns-then-not-changes c = λ up is. absurd (true≢false (sym is ∙ sym c.changes.ensures ∙ c.if-not-changes.true))

pub returns : goal.returns
returns c = λ up is. c.is_steady.ensures up
