use Rattle.std.proofs.Common.{◌≡◌, ◌+◌, ◌≤◌, drop}
use Rattle.dft_base.specs.Lexing.{place_after}
use Rattle.dft_verilog.proofs.places.place_behind.Given as goal

-- the bytes that are left lead to the place that is wanted
abbrev pub invariant-loop-byte : goal.invariant-loop-byte
invariant-loop-byte l = record {
  leads : place_after l.at (drop l.byte-index l.bytes) ≡ place_after l.initial.at l.bytes;
  line : l.at.line ≤ (l.passed + 1) + l.byte-index;
  column : l.at.column ≤ (l.passed + 1) + l.byte-index;
}
