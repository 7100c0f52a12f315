-- The bytes shown so far are those of the first bytes.
use Rattle.std.proofs.Common.{◌≡◌, map, take}
use Rattle.dft_base.specs.Names.{shown}
use Rattle.dft_base.proofs.names.printable.Given as goal

abbrev pub invariant-loop-byte : goal.invariant-loop-byte
invariant-loop-byte l = l.shown_bytes.items ≡ map shown (take l.byte-index l.bytes)
