-- The others from here on.
use Rattle.std.proofs.Common.{◌≡◌, drop}
use Rattle.std.specs.List.{list_all}
use Rattle.dft_decompressor.specs.StageSets.{are_apart}
use Rattle.dft_decompressor.proofs.taken.is_apart.Given as goal

abbrev pub invariant-loop-other : goal.invariant-loop-other
invariant-loop-other l = list_all (λ other. are_apart l.moves other) (drop l.other-index l.others) ≡ list_all (λ other. are_apart l.moves other) l.others
