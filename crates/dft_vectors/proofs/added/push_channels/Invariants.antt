-- The channels so far.
use Rattle.std.proofs.Common.{◌≡◌, ◌+◌, ◌++◌}
use Rattle.dft_base.specs.Packed.{packed_bit}
use Rattle.dft_vectors.specs.AddedPorts.{set_all}
use Rattle.dft_vectors.proofs.added.push_channels.Given as goal

abbrev pub invariant-loop-channel : goal.invariant-loop-channel
invariant-loop-channel l = l.acts.items ≡ l.fn.acts.items ++ set_all l.channel (λ channel. packed_bit l.bits (l.first + channel))
