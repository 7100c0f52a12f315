use Rattle.std.proofs.Common.{◌≡◌, ◌+◌, ◌-◌, ◌≤◌, suc, length}
use Rattle.dft_netlist_text.specs.Steps.{left}
use Rattle.dft_netlist_text.specs.Expressions as spec
use Rattle.dft_verilog_tokens.specs.declared.blanks.TheConstants.{MAX_TEXT}
use Rattle.dft_verilog_draft.specs.Operands.{Grows, AreBits}
use Rattle.dft_verilog_module.proofs.concatenations.OpenConcatenations.read_on.Given as goal

-- each turn takes an operand, a comma or a brace
abbrev pub invariant-turns : goal.invariant-turns
invariant-turns l = record {
  same : spec.concatenations_from (suc (left l.fn.tokens)) l.site l.fn.draft l.fn.self l.fn.tokens ≡ spec.concatenations_from (l._turn-end - l._turn) l.site l.draft l.self l.tokens;
  depth : l.self.depth ≤ l._turn;
  few : l._turn-end ≤ MAX_TEXT + 1;
  grown : Grows l.fn.draft l.draft;
  bits : AreBits (length l.fn.draft.nets) (spec.drives l.site) l.fn.self.bits → AreBits (length l.draft.nets) (spec.drives l.site) l.self.bits;
}
