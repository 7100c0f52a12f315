use Rattle.std.proofs.Common.{◌≡◌, ◌≤◌, length, Bool}
use Rattle.dft_base.specs.Lexing.{tokens_from}
use Rattle.dft_netlist_text.specs.Lexemes as spec
use Rattle.dft_verilog_tokens.proofs.cursor.skip_blanks.Given as goal

-- the rest has the tokens of the whole, and its blanks in front are measured
abbrev pub invariant-loop-blank : goal.invariant-loop-blank
invariant-loop-blank l = record {
  same : (mode : Bool) → tokens_from spec.front mode 0 l.rest ≡ tokens_from spec.front mode 0 l.text;
  blank : l.blank ≡ spec.blank_len l.rest;
  inside : l.blank ≤ length l.rest;
  within : length l.rest ≤ length l.text;
}

abbrev pub decreases-loop-blank : goal.decreases-loop-blank
decreases-loop-blank l = length l.rest
