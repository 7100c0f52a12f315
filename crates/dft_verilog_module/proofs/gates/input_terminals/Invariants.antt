use Rattle.std.proofs.Common.{◌≡◌, ◌-◌, false, length}
use Rattle.dft_netlist_text.specs.Items as spec
use Rattle.dft_verilog_draft.specs.Operands.{Grows, AreBits}
use Rattle.dft_verilog_module.proofs.gates.input_terminals.Given as goal

-- each turn reads one
abbrev pub invariant-turns : goal.invariant-turns
invariant-turns l = record {
  same : spec.input_terminals l.fn.draft l.fn.tokens ≡ spec.input_terminals_from (l._turn-end - l._turn) l.draft l.inputs l.tokens;
  grown : Grows l.fn.draft l.draft;
  bits : AreBits (length l.draft.nets) false l.inputs;
}
