-- The rest of the names gives what all of them give.
use Rattle.std.proofs.Common.{◌≡◌, None, drop}
use Rattle.std.specs.Option.{option_copied}
use Rattle.dft_config_text.specs.Unknown.{least_of}
use Rattle.dft_config_text.proofs.unknown.least.Given as goal

abbrev pub invariant-loop-name : goal.invariant-loop-name
invariant-loop-name l = least_of None l.names ≡ least_of (option_copied l.least) (drop l.name-index l.names)
