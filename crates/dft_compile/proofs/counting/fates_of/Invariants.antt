-- The cubes so far.
use Rattle.std.proofs.Common.{◌≡◌, ◌+◌, take}
use Rattle.std.specs.Prelude.{count_by}
use Rattle.dft_compile.specs.Texts as spec
use Rattle.dft_compile.proofs.counting.fates_of.Given as goal

abbrev pub invariant-loop-fate : goal.invariant-loop-fate
invariant-loop-fate l = record {
  encoded : l.fates.encoded ≡ count_by spec.is_encoded (take l.fate-index l.placed);
  unsolvable : l.fates.unsolvable ≡ count_by spec.is_unsolvable (take l.fate-index l.placed);
  skipped : l.fates.skipped ≡ count_by spec.is_skipped (take l.fate-index l.placed);
  all : l.fates.encoded + l.fates.unsolvable + l.fates.skipped ≡ l.fate-index;
}
