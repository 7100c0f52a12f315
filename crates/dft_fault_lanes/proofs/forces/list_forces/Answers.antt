-- The port of one cell more is listed.
use Rattle.std.proofs.Common.{◌∙◌, arith, refl}
use Rattle.std.proofs.lemmas.List.{get_or_default}
use Rattle.dft_fault_lanes.proofs.PlanLemmas.{forcing_starts, forcing_more}
use Rattle.dft_fault_lanes.proofs.forces.list_forces.Goals as goal

pub loop-flop-init : goal.loop-flop-init
loop-flop-init c = (forcing_starts c.args.flops.now c.args.list.now.items c.requires.none, refl)

pub add_force-requires : goal.add_force-requires
add_force-requires c =
    let count = c.loop-flop.invariant.0.count in
    omega (arith, count, c.loop-flop-test.true, c.requires.room, c.loop-flop.invariant.1)

pub loop-flop-preserved : goal.loop-flop-preserved
loop-flop-preserved c = (
  forcing_more c.args.flops.now c.loop-flop.list.items c.add_force.new.list.items c.loop-flop.flop-index _ c.loop-flop-test.true (get_or_default c.args.flops.now c.loop-flop.flop-index _ _ c.loop-flop-test.true) c.add_force.ensures.size c.add_force.ensures.kept
      c.add_force.ensures.here c.loop-flop.invariant.0,
  c.add_force.ensures.room ∙ c.loop-flop.invariant.1,
)

pub returns : goal.returns
returns c = λ cell port less. c.loop-flop.invariant.0.has cell port (omega (arith, less, c.loop-flop-test.false))
