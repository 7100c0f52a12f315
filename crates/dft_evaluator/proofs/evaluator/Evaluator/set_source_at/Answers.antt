-- One net's value in one pattern is written.
use Rattle.std.proofs.Common.{map}
use Rattle.dft_logic.specs.Circuit.{meaning}
use Rattle.dft_evaluator.proofs.EvaluatorLemmas.{value_set_at}
use Rattle.dft_evaluator.proofs.evaluator.Evaluator.set_source_at.Goals as goal

pub returns : goal.returns
returns c =
    let live = rw (← c.self.view_is) at c.requires.net in
    rw (← c.self.view_is) (value_set_at (map meaning c.self.inside.circuit.ops) c.self.inside.values.items c.args.net.0 c.args.pattern c.index.result.now c.with_value-wide.result c.args.value
    live c.index.ensures c.with_value-wide.ensures.each)
