-- The nets of the steps before this one have their drivers' values.
use Rattle.dft_takings.specs.Views.{before_base, pulse_at}
use Rattle.dft_takings.proofs.Listings.{Listed}
use Rattle.dft_cycle.specs.Steps.{step_nets}
use Rattle.dft_cycle.proofs.steps.settle_steps.Given as goal

abbrev pub invariant-loop-step : goal.invariant-loop-step
invariant-loop-step l = Listed l.circuit.ops (before_base (pulse_at l.pulse)) (step_nets l.steps) l.values l.step-index
