use Rattle.std.proofs.Common.{◌≡◌, ◌≤◌, ◌++◌, map}
use Rattle.dft_netlist_text.specs.Expressions as spec
use Rattle.dft_netlist.specs.declared.instance.Signal.TheVariants as signal
use Rattle.dft_verilog_tokens.proofs.numbers.push_value.Given as goal

abbrev pub invariant-loop-left : goal.invariant-loop-left
invariant-loop-left l = record {
  same : l.bits ++ map signal.Constant (spec.bits_of_value l.left l.value) ≡ l.fn.bits ++ map signal.Constant (spec.bits_of_value l.size l.value);
  few : l.left ≤ l.size;
}

abbrev pub decreases-loop-left : goal.decreases-loop-left
decreases-loop-left l = l.left
