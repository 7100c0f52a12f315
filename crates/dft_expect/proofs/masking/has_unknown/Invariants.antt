-- The rest of the values gives what all of them give.
use Rattle.std.proofs.Common.{◌≡◌, drop}
use Rattle.std.specs.List.{list_any}
use Rattle.dft_expect.specs.Masks.{is_unknown}
use Rattle.dft_expect.proofs.masking.has_unknown.Given as goal

abbrev pub invariant-loop-value : goal.invariant-loop-value
invariant-loop-value l = list_any is_unknown l.values ≡ list_any is_unknown (drop l.value-index l.values)
