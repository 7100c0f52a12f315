-- Nothing is known of the net, or it has its value in each lane.
use Rattle.std.proofs.Common.{◌∙◌, inl, inr, ap, sym}
use Rattle.dft_lanes.specs.declared.wide.Wide.{Wide}
use Rattle.dft_evaluator.specs.Wides.{value_in}
use Rattle.dft_fault_lanes.proofs.pulsing.holds.Goals as goal

pub returns-in-Unknown : goal.returns-in-Unknown
returns-in-Unknown c = λ up lane within. inl c.in-Unknown.is

pub returns-in-Zero : goal.returns-in-Zero
returns-in-Zero c = λ up lane within. inr (ap (λ (v : Wide). value_in v lane) (sym c.wide_at.ensures) ∙ c.is_all.ensures up lane within ∙ sym c.in-Zero.is)

pub returns-in-One : goal.returns-in-One
returns-in-One c = λ up lane within. inr (ap (λ (v : Wide). value_in v lane) (sym c.wide_at-in-One.ensures) ∙ c.is_all-in-One.ensures up lane within ∙ sym c.in-One.is)
