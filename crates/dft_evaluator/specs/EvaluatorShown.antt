-- What an `Evaluator` shows, and what holds of it.
use Rattle.std.specs.Prelude.{◌≡◌, length, map}
use Rattle.dft_logic.specs.Circuit.{meaning}
use Rattle.dft_evaluator.specs.declared.evaluator.Evaluator.TheInside.{Inside}
use Rattle.dft_evaluator.specs.Wides.{AreWides}
use Rattle.dft_evaluator.specs.Evaluations.{Evaluation}

abbrev pub evaluation_of : Inside → Evaluation
evaluation_of d = record { meanings = map meaning d.circuit.ops; wides = d.values.items }

-- each net has a place, and can be something in each pattern
pub record IsEvaluator (d : Inside) : Type 0 where
  pub nets : length d.values.items ≡ length d.circuit.ops
  pub wides : AreWides d.values.items
