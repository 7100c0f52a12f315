use Rattle.std.proofs.Common.{ap, ◌∙◌}
use Rattle.std.proofs.lemmas.Result.{err_from_is_err_and}
use Rattle.dft_parts.proofs.Levels.{pairing_start, pairing_on, pairing_refused, paired_none, paired_last}
use Rattle.dft_parts.proofs.parts_builder.PartsBuilder.pairs.Goals.{then-place-nets+in_ok-push_net-2, else-place-nets}
use Rattle.dft_parts.proofs.parts_builder.PartsBuilder.pairs.Goals as goal

pub loop-place-init : goal.loop-place-init
loop-place-init c = pairing_start c.args.self.now c.args.nets.now c.new-joined.result.items c.new-joined.ensures.items

pub returns-in_err-net-clause-makes : goal.returns-in_err-net-clause-makes
returns-in_err-net-clause-makes c =
    let p = err_from_is_err_and c.from_residual.result c.from_residual.ensures.1 in
    rw (p.1, p.2) (pairing_refused c.args.self.now c.loop-place.self c.args.nets.now c.loop-place.joined.items c.loop-place.place _ _ c.in_err-net.field-0.0 c.loop-place.invariant c.loop-place-test.true c.in_err-net.ensures.makes)

pub loop-place-preserved : goal.loop-place-preserved
loop-place-preserved c =
    pairing_on c.args.self.now c.loop-place.self c.driving_gate.new.self c.args.nets.now c.loop-place.joined.items c.push_net.new.nets.items c.loop-place.place _ _ c.in_ok-net.net c.loop-place.invariant c.loop-place-test.true
    c.in_ok-net.ensures.makes c.in_ok-net.ensures.there c.in_ok-net.ensures.nets c.in_ok-push_net.ensures.ok

pub returns-clause-makes : goal.returns-clause-makes
returns-clause-makes c = elim c.if-place-nets.branch [
  | then-place-nets+in_ok-push_net-2 w ↦ (paired_last c.args.self.now c.loop-place.self c.args.nets.now c.loop-place.joined.items c.if-place-nets.joined.items c.loop-place.place _ c.requires c.loop-place.invariant w.if-place-nets.true (c.loop-place-test.false) (ap (λ v. v.items) w.joined-is ∙ w.in_ok-push_net-2.ensures.ok)).made
  | else-place-nets w ↦ (paired_none c.args.self.now c.loop-place.self c.args.nets.now c.loop-place.joined.items c.if-place-nets.joined.items c.loop-place.place c.loop-place.invariant w.if-place-nets.false (ap (λ v. v.items) w.joined-is)).made
]

pub returns-clause-there : goal.returns-clause-there
returns-clause-there c = elim c.if-place-nets.branch [
  | then-place-nets+in_ok-push_net-2 w ↦ (paired_last c.args.self.now c.loop-place.self c.args.nets.now c.loop-place.joined.items c.if-place-nets.joined.items c.loop-place.place _ c.requires c.loop-place.invariant w.if-place-nets.true (c.loop-place-test.false) (ap (λ v. v.items) w.joined-is ∙ w.in_ok-push_net-2.ensures.ok)).there
  | else-place-nets w ↦ (paired_none c.args.self.now c.loop-place.self c.args.nets.now c.loop-place.joined.items c.if-place-nets.joined.items c.loop-place.place c.loop-place.invariant w.if-place-nets.false (ap (λ v. v.items) w.joined-is)).there
]
