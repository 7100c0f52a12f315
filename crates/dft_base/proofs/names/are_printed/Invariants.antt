-- The rest of the bytes gives what all of them give.
use Rattle.std.proofs.Common.{◌≡◌, drop}
use Rattle.dft_base.specs.Names.{all_printed}
use Rattle.dft_base.proofs.names.are_printed.Given as goal

abbrev pub invariant-loop-byte : goal.invariant-loop-byte
invariant-loop-byte l = all_printed l.bytes ≡ all_printed (drop l.byte-index l.bytes)
