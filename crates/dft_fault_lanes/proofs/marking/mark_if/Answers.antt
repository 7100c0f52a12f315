-- Where there is a bit the net is marked.
use Rattle.std.proofs.Common.{◌≡◌, ◌∙◌, inl, refl, sym, None, Some}
use Rattle.dft_fault_lanes.proofs.marking.mark_if.Goals as goal

pub returns-in-Some-clause-here : goal.returns-in-Some-clause-here
returns-in-Some-clause-here c = λ b is less. c.mark_net.ensures.all c.args.net.0 less (inl refl)

pub returns-in-None-clause-here : goal.returns-in-None-clause-here
returns-in-None-clause-here c = λ b is. absurd (let e : None ≡ Some b = sym c.in-None.is ∙ is in let f : ⊥ = cc in f)
