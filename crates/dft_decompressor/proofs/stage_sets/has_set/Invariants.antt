-- The sets from here on.
use Rattle.std.proofs.Common.{◌≡◌, drop}
use Rattle.dft_config.specs.Range.{has}
use Rattle.dft_decompressor.specs.StageSets.{same_set}
use Rattle.dft_decompressor.proofs.stage_sets.has_set.Given as goal

abbrev pub invariant-loop-other : goal.invariant-loop-other
invariant-loop-other l = has same_set (drop l.other-index l.moves) l.set ≡ has same_set l.moves l.set
