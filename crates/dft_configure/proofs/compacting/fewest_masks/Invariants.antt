-- The numbers of masks from here on give what all of them give.
use Rattle.std.proofs.Common.{◌≡◌, ◌+◌, ◌-◌}
use Rattle.std.specs.Prelude.{find}
use Rattle.std.specs.List.{range_with_len}
use Rattle.dft_configure.specs.Compacting.{are_enough}
use Rattle.dft_configure.proofs.compacting.fewest_masks.Given as goal

abbrev pub invariant-loop-masks : goal.invariant-loop-masks
invariant-loop-masks l = find (are_enough l.chains l.cycles) (range_with_len l.masks (l.most + 1 - l.masks)) ≡ find (are_enough l.chains l.cycles) (range_with_len 1 l.most)
