-- The quiet inputs, the added ones, the design's outputs and the compactor's.
use Rattle.std.proofs.Common.{map, false, None, refl, ap, ◌∙◌}
use Rattle.dft_expect.specs.Captures.{port_value}
use Rattle.dft_vectors.specs.declared.own.OwnInput.{OwnInput}
use Rattle.dft_vectors.specs.OwnPorts.{driven, ignored}
use Rattle.dft_vectors.proofs.ListLemmas.{four_more}
use Rattle.dft_vectors.proofs.OwnLemmas.{quiet_inputs}
use Rattle.dft_vectors.proofs.layout.Layout.push_set_up.Goals as goal

pub returns : goal.returns
returns c =
    let l = c.args.self.now in
    four_more c.args.acts.now.items c.push_quiet.new.acts.items c.push_capturing.new.acts.items c.push_ignored.new.acts.items c.push_unseen.new.acts.items _ _ _ _ _ _ _ _
    c.in_ok-push_quiet.ensures (rw c.config.ensures at c.in_ok-push_capturing.ensures) c.in_ok-push_ignored.ensures c.in_ok-push_unseen.ensures
    (ap (map (λ (input : OwnInput). driven false (port_value input.is_reset None))) c.deref.ensures.value ∙ quiet_inputs l.planned.now.design l.planned.now.config l.own.inputs.items c.requires.own.inputs) refl (ap ignored c.requires.own.outputs) refl
