use Rattle.std.proofs.Common.{◌≡◌, ◌≤◌, ◌+◌, ◌-◌, length}
use Rattle.dft_netlist_text.specs.Lexemes as spec
use Rattle.dft_verilog_tokens.proofs.lexeme.to_blank.Given as goal

-- the rest of the text gives what the whole gives
abbrev pub invariant-loop-rest : goal.invariant-loop-rest
invariant-loop-rest l = record {
  same : spec.to_blank l.text ≡ length l.text - length l.rest + spec.to_blank l.rest;
  within : length l.rest ≤ length l.text;
}

abbrev pub decreases-loop-rest : goal.decreases-loop-rest
decreases-loop-rest l = length l.rest
