-- The rest of the names gives what all of them give.
use Rattle.std.proofs.Common.{◌≡◌, drop}
use Rattle.std.specs.Str.{bytes_eq}
use Rattle.dft_config.specs.Range.{has}
use Rattle.dft_config_text.proofs.checks.has_name.Given as goal

abbrev pub invariant-loop-name : goal.invariant-loop-name
invariant-loop-name l = has bytes_eq l.names l.bytes ≡ has bytes_eq (drop l.name-index l.names) l.bytes
