-- There is a mark for each chain, and what is marked, and stands in the rest of the groups, is what stands in some group.
use Rattle.std.proofs.Common.{◌≡◌, ℕ, ◌<◌, false, ◌||◌, length, drop, get_or}
use Rattle.dft_config_text.specs.Checks.{is_reached}
use Rattle.dft_config_text.proofs.checks.first_unreached.Given as goal

abbrev pub invariant-loop-group : goal.invariant-loop-group
invariant-loop-group l = record {
  marks : length l.reached.items ≡ l.draft.loading.chains;
  same : (k : ℕ) → k < length l.reached.items
      → is_reached l.draft.compactor.groups k ≡ (get_or l.reached.items k false || is_reached (drop l.group-index l.draft.compactor.groups) k);
}
