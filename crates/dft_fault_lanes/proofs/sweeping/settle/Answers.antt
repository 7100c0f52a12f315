-- One net more is settled.
use Rattle.std.proofs.Common.{◌∙◌, refl}
use Rattle.dft_logic.specs.CircuitShown.{circuit_of}
use Rattle.dft_logic.proofs.CircuitReads.{op_read}
use Rattle.dft_fault_lanes.specs.Lanes.{situation_of}
use Rattle.dft_fault_lanes.proofs.Settling.{step, all_settled}
use Rattle.dft_fault_lanes.proofs.sweeping.settle.Goals as goal

pub loop-net-preserved : goal.loop-net-preserved
loop-net-preserved c =
    step c.args.circuit.now.ops (situation_of c.args.setting) c.args.nets.now c.args.nets.now c.loop-net.wides c.loop-net.net-index _ _ _
    refl c.loop-net-test.true (c.loop-net.auto.wides ∙ c.requires.nets) c.loop-net.invariant (op_read (circuit_of c.circuit.inside) c.args.circuit.now _ _ c.circuit.view_is c.index.ensures) c.given_wide-given.ensures c.within-wide.ensures

pub returns-clause-settled : goal.returns-clause-settled
returns-clause-settled c = all_settled c.args.circuit.now.ops (situation_of c.args.setting) c.args.nets.now c.loop-net.wides c.loop-net.net-index c.loop-net-test.false c.loop-net.invariant
