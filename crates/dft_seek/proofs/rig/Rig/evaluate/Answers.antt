-- One step after the other.
use Rattle.dft_seek.proofs.EvaluateLemmas.{evaluated, same_twice}
use Rattle.dft_seek.proofs.rig.Rig.evaluate.Goals as goal

pub returns-clause-same : goal.returns-clause-same
returns-clause-same c = same_twice c.args.v.now c.settle_first.new.v c.settle_second.new.v c.settle_first.ensures.same c.settle_second.ensures.same

pub returns-clause-evaluated : goal.returns-clause-evaluated
returns-clause-evaluated c = evaluated c.args.self.now c.args.fault c.args.cone.now.needed.items c.args.v.now c.settle_first.new.v c.settle_second.new.v c.settle_first.ensures c.settle_second.ensures
