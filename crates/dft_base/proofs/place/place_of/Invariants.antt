use Rattle.std.proofs.Common.{◌≡◌, ◌+◌, ◌-◌, length, drop, take}
use Rattle.dft_base.specs.Lexing.{place_after, place_of}
use Rattle.dft_base.proofs.PlaceLemmas.{IsBelow}
use Rattle.dft_base.proofs.place.place_of.Given as goal

-- the bytes that are left lead to the place that is wanted
abbrev pub invariant-loop-byte : goal.invariant-loop-byte
invariant-loop-byte l = record {
  leads : place_after l.place (drop l.byte-index (take (length l.text - l.left) l.text)) ≡ place_of l.text l.left;
  below : IsBelow l.place (l.byte-index + 1);
}
