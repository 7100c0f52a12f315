use Rattle.std.proofs.Common.{◌≡◌, ◌++◌, drop}
use Rattle.std.specs.Prelude.{map}
use Rattle.dft_explain.proofs.pieces.blanks.Given as goal

-- the bytes so far, and those of the bytes that are left
abbrev pub invariant-loop-byte : goal.invariant-loop-byte
invariant-loop-byte l = l.bytes.items ++ map (λ b. 32) (drop l.byte-index l.text) ≡ map (λ b. 32) l.text
