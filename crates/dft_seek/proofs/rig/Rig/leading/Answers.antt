-- None is marked first.
use Rattle.std.proofs.Common.{List, Bool, false, ◌++◌, ◌∙◌, sym, ap, subst, length}
use Rattle.std.proofs.lemmas.List.{length-replicate}
use Rattle.dft_base.proofs.ListLemmas.{refilled_items}
use Rattle.dft_netlist.specs.Orders.{numbers_of}
use Rattle.dft_logic.specs.Circuit.{Circuit, flag_at}
use Rattle.dft_logic.proofs.FlagLemmas.{down_all}
use Rattle.dft_seek.specs.Cones.{AreBefore}
use Rattle.dft_seek.specs.Rigs.{search_in}
use Rattle.dft_seek.proofs.rig.Rig.leading.Goals as goal

pub mark_before-requires-clause-size : goal.mark_before-requires-clause-size
mark_before-requires-clause-size c =
    ap (λ (l : List Bool). length l) (c.deref_mut.ensures.value ∙ c.in_ok-marked.ensures) ∙ length-replicate c.len.result false ∙ c.len.ensures ∙ c.circuit.inside.ops.ok.0 ∙ ap (λ (m : Circuit). length m.ops) c.circuit.view_is ∙ c.requires.rig.nets

pub mark_before-requires-clause-clear : goal.mark_before-requires-clause-clear
mark_before-requires-clause-clear c = λ k. ap (λ (l : List Bool). flag_at l k) (c.deref_mut.ensures.value ∙ c.in_ok-marked.ensures) ∙ down_all c.len.result k

pub returns : goal.returns
returns c = λ f.
    subst (AreBefore (search_in c.args.self.now f) (numbers_of c.args.outputs.now ++ numbers_of c.args.pins.now)) (sym (refilled_items c.in_ok-marked.marked c.mark_before.new.marked c.deref_mut.result.now c.mark_before.auto.marked c.deref_mut.ensures.value))
    (c.mark_before.ensures f)
