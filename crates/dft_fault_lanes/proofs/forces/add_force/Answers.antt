-- The port of the reset or set is there.
use Rattle.std.proofs.Common.{ℕ, List, inl, inr, sym, ap, ◌∙◌, subst}
use Rattle.dft_logic.specs.Tables.{listed}
use Rattle.dft_netlist.specs.Orders.{Has, numbers_of}
use Rattle.dft_fault_lanes.proofs.forces.add_force.Goals as goal

pub returns-in-Some-clause-here : goal.returns-in-Some-clause-here
returns-in-Some-clause-here c = λ k h. (let P : List ℕ → Type 0 = λ l. Has l k in
    elim (subst P (sym c.force_net.ensures ∙ ap listed c.in-Some.is) h) [
      | inl e ↦ (let F : ℕ → Type 0 = λ i. Has (numbers_of c.add_net.new.list.items) i in subst F (sym e) c.add_net.ensures.here)
      | inr none ↦ absurd none
    ])

pub returns-in-None-clause-here : goal.returns-in-None-clause-here
returns-in-None-clause-here c = λ k h. (let P : List ℕ → Type 0 = λ l. Has l k in absurd (subst P (sym c.force_net.ensures ∙ ap listed c.in-None.is) h))
