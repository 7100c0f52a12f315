-- The net is marked, or no bit is compared.
use Rattle.std.proofs.Common.{◌≡◌, ◌∙◌, sym, None, Some}
use Rattle.dft_fault_lanes.proofs.marking.is_covered.Goals as goal

pub returns-in-Some : goal.returns-in-Some
returns-in-Some c = λ up bit is. sym c.flag_at.ensures ∙ up

pub returns-in-None : goal.returns-in-None
returns-in-None c = λ up bit is. absurd (let e : None ≡ Some bit = sym c.in-None.is ∙ c.printed.ensures ∙ is in let f : ⊥ = cc in f)
