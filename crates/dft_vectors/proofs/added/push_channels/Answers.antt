-- One channel more.
use Rattle.std.proofs.Common.{◌+◌, ◌∙◌, ap, ℕ}
use Rattle.dft_base.specs.Packed.{packed_bit}
use Rattle.dft_vectors.specs.OwnPorts.{set_to}
use Rattle.dft_vectors.proofs.ListLemmas.{grown}
use Rattle.dft_vectors.proofs.added.push_channels.Goals as goal

pub loop-channel-preserved : goal.loop-channel-preserved
loop-channel-preserved c =
    grown (λ channel. set_to (packed_bit c.args.bits.now (c.args.first + channel))) c.args.acts.now.items c.loop-channel.acts.items c.push.new.self.items c.loop-channel.channel c.set_to.result c.loop-channel.invariant
    c.in_ok-push.ensures.items (c.set_to.ensures ∙ ap set_to (c.has_bit.ensures ∙ ap (λ (k : ℕ). packed_bit c.args.bits.now (c.args.first + k)) c.from.ensures))
