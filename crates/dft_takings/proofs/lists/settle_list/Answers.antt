-- One net more has its driver's value.
use Rattle.std.proofs.Common.{◌∙◌, refl}
use Rattle.dft_takings.specs.Views.{before_base, pulse_at}
use Rattle.dft_logic.specs.CircuitShown.{circuit_of}
use Rattle.dft_logic.proofs.CircuitReads.{op_read}
use Rattle.dft_takings.proofs.Listings.{step}
use Rattle.dft_takings.proofs.lists.settle_list.Goals as goal

pub loop-net-preserved : goal.loop-net-preserved
loop-net-preserved c =
    let x = c.args.circuit.now in
    step x.ops (before_base (pulse_at c.args.pulse)) c.args.nets.now c.args.nets.now c.loop-net.values c.loop-net.net-index _ _
    refl c.loop-net-test.true (c.loop-net.auto.values ∙ c.requires.values) c.loop-net.invariant (op_read (circuit_of c.circuit.inside) c.args.circuit.now _ _ c.circuit.view_is c.index.ensures) c.op_before-value.ensures
