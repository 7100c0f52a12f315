use Rattle.std.proofs.Common.{refl, sym, ap, subst, ◌∙◌}
use Rattle.dft_lanes.specs.Rows.{bits_of, IsPacked}
use Rattle.dft_gf2.proofs.BitsLemmas.{zeros_packed, zeros_listed}
use Rattle.dft_gf2.proofs.bits.Bits.zeros.Goals as goal

pub invariant_of-result : goal.invariant_of-result
invariant_of-result c = record { few = c.ranges.count.fits; packed = subst (IsPacked c.args.count) (sym c.in_ok-words.ensures) (zeros_packed c.args.count _ refl) }

pub returns : goal.returns
returns c = ap (bits_of c.args.count) c.in_ok-words.ensures ∙ zeros_listed c.args.count _ refl
