-- One net more has its step.
use Rattle.std.proofs.Common.{◌≡◌, ◌∙◌, List, All, take, subst, sym, ◌+◌}
use Rattle.std.proofs.lemmas.List.Elements.{All-push}
use Rattle.dft_cycle.specs.declared.steps.Step.{Step}
use Rattle.dft_cycle.specs.Steps.{step_nets, IsStep}
use Rattle.dft_cycle.proofs.StepLemmas.{step_more}
use Rattle.dft_cycle.proofs.steps.list_steps.Goals as goal

pub loop-net-preserved : goal.loop-net-preserved
loop-net-preserved c =
    let s = c.loop-net.invariant in
    let P : List Step → Type 0 = λ l. (step_nets l ≡ take (c.loop-net.net-index + 1) c.args.nets.now) × All (IsStep c.args.circuit.now) l in
    let both = subst P (sym c.push_reserved.ensures.items) (
      step_more c.args.nets.now c.loop-net.steps.items c.loop-net.net-index (record { 0 = 0 }) c.step_at.result c.loop-net-test.true s.0 c.step_at.ensures.net,
      All-push (IsStep c.args.circuit.now) c.loop-net.steps.items c.step_at.result s.1 c.step_at.ensures.step,
    ) in
    (both.0, both.1, c.push_reserved.ensures.capacity ∙ s.2)
