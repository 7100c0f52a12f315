use Rattle.std.proofs.Common.{drop}
use Rattle.dft_verilog.specs.Passing.{HasPassed}
use Rattle.dft_verilog.specs.SaidParts.{net_or_first}
use Rattle.dft_verilog.proofs.SaidPartLemmas.{ItemsToAdd}
use Rattle.dft_verilog.proofs.module_items.add_items.Given as goal

abbrev pub invariant-loop-one : goal.invariant-loop-one
invariant-loop-one l = record {
  items : ItemsToAdd l.text (net_or_first l.finals) l.draft l.subs (drop l.one-index l.subs) l.next.join l.next.cell l.initial.made l.made;
  passed : HasPassed l.text l.passed;
}
