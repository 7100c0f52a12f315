-- The sweep settles what the evaluator shows.
use Rattle.dft_evaluator.proofs.EvaluatorLemmas.{swept, for_new, settled_values}
use Rattle.dft_evaluator.proofs.evaluator.Evaluator.settle.Goals as goal

pub returns-clause-settled : goal.returns-clause-settled
returns-clause-settled c =
    rw (← c.self.view_is) (swept c.self.inside.circuit c.self.inside.values c.sweep.new.wides c.deref_mut.result.now c.sweep.auto.wides c.deref_mut.ensures.value c.sweep.ensures.settled)

pub returns-clause-design : goal.returns-clause-design
returns-clause-design c =
    rw (← c.self.view_is) (for_new _ _ (swept c.self.inside.circuit c.self.inside.values c.sweep.new.wides c.deref_mut.result.now c.sweep.auto.wides c.deref_mut.ensures.value c.sweep.ensures.settled))

pub returns-clause-values : goal.returns-clause-values
returns-clause-values c =
    rw (← c.self.view_is) (settled_values _ _ (swept c.self.inside.circuit c.self.inside.values c.sweep.new.wides c.deref_mut.result.now c.sweep.auto.wides c.deref_mut.ensures.value c.sweep.ensures.settled))
