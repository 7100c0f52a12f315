-- The rest lists the chain where all do.
use Rattle.std.proofs.Common.{◌≡◌, drop}
use Rattle.dft_config.specs.Range.{has, same_number}
use Rattle.dft_encode.proofs.settings.is_listed.Given as goal

abbrev pub invariant-loop-other : goal.invariant-loop-other
invariant-loop-other l = has same_number (drop l.other-index l.chains) l.chain ≡ has same_number l.chains l.chain
