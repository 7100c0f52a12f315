-- All stays as it is where no reset or set acts.
use Rattle.dft_fault_lanes.proofs.CellLemmas.{none_acted}
use Rattle.dft_fault_lanes.proofs.cells.act.Goals as goal

pub returns-else-not-free-clause-acted : goal.returns-else-not-free-clause-acted
returns-else-not-free-clause-acted c = none_acted c.args.flops.now c.args.ports.now c.args.cells.now.values c.requires.count (c.requires.free c.if-not-free.false)
