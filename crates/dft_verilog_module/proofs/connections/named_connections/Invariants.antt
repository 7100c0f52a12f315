use Rattle.std.proofs.Common.{◌≡◌, ◌-◌, length}
use Rattle.dft_netlist_text.specs.Items as spec
use Rattle.dft_verilog_module.specs.JoinedPins.{FitsCell}
use Rattle.dft_verilog_draft.specs.Operands.{Grows}
use Rattle.dft_verilog_module.proofs.connections.named_connections.Given as goal

-- each turn reads one
abbrev pub invariant-turns : goal.invariant-turns
invariant-turns l = record {
  same : spec.named_connections l.cell (l.fn.draft, l.fn.joined) l.fn.tokens ≡ spec.named_connections_from (l._turn-end - l._turn) l.cell (l.draft, l.joined) l.tokens;
  grown : Grows l.fn.draft l.draft;
  fits : FitsCell (length l.draft.nets) l.cell l.joined;
}
