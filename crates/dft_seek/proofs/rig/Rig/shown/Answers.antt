-- None is flagged first.
use Rattle.std.proofs.Common.{List, Bool, false, Option, ◌||◌, ◌∙◌, sym, ap, length, arith}
use Rattle.std.proofs.lemmas.List.{length-replicate}
use Rattle.dft_base.proofs.ListLemmas.{refilled_items}
use Rattle.dft_netlist.specs.declared.ids.InstanceId.{InstanceId}
use Rattle.dft_logic.specs.Circuit.{flag_at}
use Rattle.dft_logic.proofs.FlagLemmas.{down_all}
use Rattle.dft_seek.specs.Cones.{shown_in}
use Rattle.dft_seek.proofs.rig.Rig.shown.Goals as goal

pub flag_shown-requires : goal.flag_shown-requires
flag_shown-requires c = c.requires.marked ∙ sym (ap (λ (l : List (Option InstanceId)). length l) c.deref.ensures.value ∙ c.requires.rig.shown)

pub returns : goal.returns
returns c = λ k less.
    (let r = c.args.self.now in
    let first = c.deref_mut.ensures.value ∙ c.in_ok-shown.ensures in
    let long = ap (λ (l : List Bool). length l) first ∙ length-replicate c.len.result false ∙ c.len.ensures ∙ r.holds.ok.0 ∙ c.requires.rig.instances in
    ap (λ (l : List Bool). flag_at l k) (refilled_items c.in_ok-shown.shown c.flag_shown.new.shown c.deref_mut.result.now c.flag_shown.auto.shown c.deref_mut.ensures.value)
    ∙ c.flag_shown.ensures.each k (omega (arith, less, long))
    ∙ (λ t. (ap (λ (l : List Bool). flag_at l k) first ∙ down_all c.len.result k) t || shown_in (c.deref.ensures.value t) c.args.marked.now k))
