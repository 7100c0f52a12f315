-- No value is known first, and each net is marked.
use Rattle.std.proofs.Common.{ℕ, List, true, ◌∙◌, sym, subst, ap, length}
use Rattle.std.specs.Prelude.{replicate}
use Rattle.std.proofs.lemmas.List.{length-replicate}
use Rattle.dft_base.specs.declared.tri.Tri.{Tri}
use Rattle.dft_base.specs.declared.tri.Tri.TheVariants.{Unknown}
use Rattle.dft_base.proofs.ListLemmas.{refilled_items}
use Rattle.dft_logic.specs.Circuit.{Circuit}
use Rattle.dft_seek.specs.Rigs.{IsBase}
use Rattle.dft_seek.proofs.rig.base.Goals as goal

pub settle_base-requires-clause-values : goal.settle_base-requires-clause-values
settle_base-requires-clause-values c = ap (λ (l : List Tri). length l) (c.deref_mut.ensures.value ∙ c.in_ok-values.ensures) ∙ length-replicate c.len.result Unknown ∙ c.len.ensures ∙ c.circuit.inside.ops.ok.0 ∙ ap (λ (m : Circuit). length m.ops) c.circuit.view_is

pub settle_base-requires-clause-marked : goal.settle_base-requires-clause-marked
settle_base-requires-clause-marked c = c.in_ok-marks.ensures.marked ∙ ap (λ (n : ℕ). replicate n true) (c.len-2.ensures ∙ c.circuit.inside.ops.ok.0 ∙ ap (λ (m : Circuit). length m.ops) c.circuit.view_is)

pub settle_base-requires-clause-busy : goal.settle_base-requires-clause-busy
settle_base-requires-clause-busy c = c.in_ok-marks.ensures.busy c.args.places.now

pub returns : goal.returns
returns c = subst (IsBase c.args.circuit.now c.args.resets.now c.args.holds.now) (sym (refilled_items c.in_ok-values.values c.settle_base.new.values c.deref_mut.result.now c.settle_base.auto.values c.deref_mut.ensures.value)) c.settle_base.ensures
