-- The cells so far.
use Rattle.std.proofs.Common.{List, ◌++◌, take}
use Rattle.dft_netlist.specs.declared.ids.InstanceId.{InstanceId}
use Rattle.dft_expect.specs.Reads.{AreReads}
use Rattle.dft_expect.proofs.reads.add_reads.Given as goal

abbrev pub invariant-loop-cell : goal.invariant-loop-cell
invariant-loop-cell l = (before : List InstanceId) → AreReads l.design before l.initial.reads.items → AreReads l.design (before ++ take l.cell-index l.cells) l.reads.items
