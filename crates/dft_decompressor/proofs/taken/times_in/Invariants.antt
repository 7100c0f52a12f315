-- The sets so far.
use Rattle.std.proofs.Common.{◌≡◌, ◌≤◌, ◌==◌, count_by, take}
use Rattle.std.specs.List.{list_any}
use Rattle.dft_decompressor.proofs.taken.times_in.Given as goal

abbrev pub invariant-loop-set : goal.invariant-loop-set
invariant-loop-set l = record {
  counted : l.times ≡ count_by (λ set. list_any (λ other. other == l.stage) set) (take l.set-index l.sets);
  few : l.times ≤ l.set-index;
}
