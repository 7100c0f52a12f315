-- The nets before this one have their steps.
use Rattle.std.proofs.Common.{◌≡◌, All, take}
use Rattle.std.specs.Vec.{vec_capacity}
use Rattle.dft_cycle.specs.Steps.{step_nets, IsStep}
use Rattle.dft_cycle.proofs.steps.list_steps.Given as goal

abbrev pub invariant-loop-net : goal.invariant-loop-net
invariant-loop-net l = (step_nets l.steps.items ≡ take l.net-index l.nets) × All (IsStep l.circuit) l.steps.items × (vec_capacity l.steps ≡ vec_capacity l.initial.steps)
