-- The circuit means what the design does, and every net can be either.
use Rattle.std.proofs.Common.{◌∙◌, sym, ap, subst, length, List}
use Rattle.std.proofs.lemmas.List.{length-replicate}
use Rattle.dft_lanes.specs.declared.wide.Wide.{Wide}
use Rattle.dft_evaluator.specs.Wides.{unknown_wide, AreWides}
use Rattle.dft_evaluator.proofs.EvaluatorLemmas.{prepared, blank_whole}
use Rattle.dft_evaluator.proofs.evaluator.Evaluator.prepare.Goals as goal

pub invariant_of-result : goal.invariant_of-result
invariant_of-result c = record {
  nets = ap length c.in_ok-values.ensures ∙ length-replicate _ unknown_wide ∙ c.net_count.ensures.count ∙ sym c.in_ok-circuit.ensures.nets;
  wides = subst (λ (ws : List Wide). AreWides ws) (sym c.in_ok-values.ensures) (blank_whole _);
}

pub returns-clause-design : goal.returns-clause-design
returns-clause-design c =
    prepared c.args.design.now c.in_ok-circuit.circuit c.in_ok-values.values.items c.in_ok-circuit.ensures (ap length c.in_ok-values.ensures ∙ length-replicate _ unknown_wide ∙ c.net_count.ensures.count)
