-- One net more has its driver's value.
use Rattle.std.proofs.Common.{◌∙◌}
use Rattle.dft_takings.specs.Views.{before_base, pulse_at}
use Rattle.dft_cycle.proofs.StepLemmas.{step_live, step_settled, step_within}
use Rattle.dft_cycle.proofs.steps.settle_steps.Goals as goal

pub bounds-values-step : goal.bounds-values-step
bounds-values-step c =
    step_live c.args.circuit.now (before_base (pulse_at c.args.pulse)) c.args.steps.now c.loop-step.values c.loop-step.step-index _ c.loop-step-test.true
    (c.loop-step.auto.values ∙ c.requires.values) c.loop-step.invariant

pub loop-step-preserved : goal.loop-step-preserved
loop-step-preserved c =
    step_settled c.args.circuit.now (before_base (pulse_at c.args.pulse)) c.args.steps.now c.loop-step.values c.loop-step.step-index _ c.value-value.result c.loop-step-test.true
    (c.loop-step.auto.values ∙ c.requires.values) c.requires.steps c.loop-step.invariant c.value-value.ensures

pub value-value-requires : goal.value-value-requires
value-value-requires c =
    record { within = step_within c.args.circuit.now c.args.steps.now c.loop-step.values c.loop-step.step-index _ c.loop-step-test.true (c.loop-step.auto.values ∙ c.requires.values) c.requires.steps }
