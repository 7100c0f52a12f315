use Rattle.std.proofs.Common.{◌++◌, ◌∷◌, [], length, sym, ap, ◌∙◌, subst}
use Rattle.dft_stil_text.specs.SignalGroups as spec
use Rattle.dft_stil.specs.NamesShown.{AreInside}
use Rattle.dft_stil.proofs.NamesLemmas.{numbered_same, numbered_more, inside_more, longer}
use Rattle.dft_stil.proofs.names.Names.add_signal.Goals as goal

pub invariant_of-self-in_err-add : goal.invariant_of-self-in_err-add
invariant_of-self-in_err-add c =
    let v = c.self.invariant in
    record {
      numbered = numbered_same _ _ _ _ _ _ c.in_err-add.ensures.err c.reserve.ensures.items c.reserve-2.ensures.items v.numbered;
      inside = subst (λ n. AreInside n c.self.inside.groups.items) (ap length (sym c.reserve.ensures.items)) v.inside;
    }

pub invariant_of-self-2 : goal.invariant_of-self-2
invariant_of-self-2 c =
    let v = c.self.invariant in
    let names = c.in_ok-add.ensures.ok ∙ ap (λ w. c.self.inside.signal_names ++ w ∷ []) c.in_ok-from_slice.ensures.items in
    record {
      numbered = numbered_more _ _ _ _ _ _ _ _ c.args.word.now _ _ names c.reserve.ensures.items c.push_reserved-2.ensures.items c.reserve-2.ensures.items c.push_reserved.ensures.items c.in_ok-name.ensures
          (c.count-number.ensures ∙ ap (λ (m : spec.Names). length m.signals) (sym c.self.view_is)) v.numbered;
      inside = inside_more _ _ c.self.inside.groups.items (longer _ _ _ _ c.reserve.ensures.items c.push_reserved-2.ensures.items) v.inside;
    }
