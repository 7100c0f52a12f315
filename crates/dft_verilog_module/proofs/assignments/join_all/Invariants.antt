use Rattle.std.proofs.Common.{◌≡◌, true, false, length, drop}
use Rattle.dft_netlist_text.specs.Items.{with_joins}
use Rattle.dft_verilog_draft.specs.Operands.{AreBits}
use Rattle.dft_verilog_module.proofs.assignments.join_all.Given as goal

-- the rest of the joins gives what all give
abbrev pub invariant-loop-place : goal.invariant-loop-place
invariant-loop-place l = record {
  same : with_joins (drop l.place l.targets) (drop l.place l.sources) l.draft ≡ with_joins l.targets l.sources l.fn.draft;
  targets : AreBits (length l.draft.nets) true l.targets;
  sources : AreBits (length l.draft.nets) false l.sources;
  library : l.draft.library ≡ l.fn.draft.library;
}
