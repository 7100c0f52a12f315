-- Bit by bit.
use Rattle.std.proofs.Common.{◌∙◌, min, ap}
use Rattle.std.specs.Int.{bit_at, bit_not, w64}
use Rattle.std.proofs.lemmas.Nat.Bits.{bit_at_and, bit_at_not}
use Rattle.dft_fault_lanes.proofs.comparing.without.Goals as goal

pub returns : goal.returns
returns c = λ i within. bit_at_and c.args.word (bit_not w64 c.args.other) i ∙ ap (min (bit_at c.args.word i)) (bit_at_not w64 c.args.other i c.ranges.other.fits within)
