use Rattle.std.proofs.Common.{◌≡◌, ◌++◌, map, drop}
use Rattle.dft_replay.proofs.nets.add_bits.Given as goal

abbrev pub invariant-loop-bit : goal.invariant-loop-bit
invariant-loop-bit l = l.dirs.items ++ map (λ net. l.dir) (drop l._bit-index l.bits) ≡ l.fn.dirs.items ++ map (λ net. l.dir) l.bits
