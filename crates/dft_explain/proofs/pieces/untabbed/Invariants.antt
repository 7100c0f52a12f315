use Rattle.std.proofs.Common.{◌≡◌, ◌++◌, drop}
use Rattle.std.specs.Prelude.{map}
use Rattle.dft_explain.specs.Explained as spec
use Rattle.dft_explain.proofs.pieces.untabbed.Given as goal

-- the bytes so far, and those of the bytes that are left
abbrev pub invariant-loop-byte : goal.invariant-loop-byte
invariant-loop-byte l = l.bytes.items ++ map spec.untabbed (drop l.byte-index l.text) ≡ map spec.untabbed l.text
