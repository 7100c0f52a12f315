use Rattle.std.proofs.Common.{◌≡◌, ◌++◌}
use Rattle.dft_netlist_text.specs.Expressions.{nets_of_shape}
use Rattle.dft_verilog_draft.proofs.selects.push_run.Given as goal

abbrev pub invariant-loop-place : goal.invariant-loop-place
invariant-loop-place l = l.bits ≡ l.initial.bits ++ nets_of_shape l.run.first l.place
