use Rattle.std.proofs.Common.{false, ◌≡◌, ◌≤◌, ◌+◌, ◌-◌, length}
use Rattle.std.specs.Prelude.{option_map}
use Rattle.dft_netlist_text.specs.Lexemes as spec
use Rattle.dft_verilog_tokens.proofs.blanks.attribute_rest.Given as goal

-- the rest of the text gives what the whole gives
abbrev pub invariant-loop-rest : goal.invariant-loop-rest
invariant-loop-rest l = record {
  same : spec.attribute_rest false l.text ≡ option_map (λ len. length l.text - length l.rest + len) (spec.attribute_rest l.quoted l.rest);
  within : length l.rest ≤ length l.text;
}

abbrev pub decreases-loop-rest : goal.decreases-loop-rest
decreases-loop-rest l = length l.rest
