-- The nets that the instances so far take as data are marked.
use Rattle.std.proofs.Common.{take, length}
use Rattle.dft_rules.specs.Findings.{AreUsed}
use Rattle.dft_rules.proofs.clocks.data_nets.Given as goal

abbrev pub invariant-loop-instance : goal.invariant-loop-instance
invariant-loop-instance l = AreUsed l.design.library (take l.instance-index l.design.instances) (length l.design.nets) l.used.items
