-- What is written, with the bytes that are left, is the whole name.
use Rattle.std.proofs.Common.{◌≡◌, ◌++◌, drop}
use Rattle.dft_config_out.specs.Written.{bytes_text}
use Rattle.dft_config_out.proofs.names.add_bytes.Given as goal

abbrev pub invariant-loop-byte : goal.invariant-loop-byte
invariant-loop-byte l = l.out.items ++ bytes_text (drop l.byte-index l.bytes) ≡ l.fn.out.items ++ bytes_text l.bytes
