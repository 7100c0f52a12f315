use Rattle.std.proofs.Common.{◌<◌, length, subst}
use Rattle.dft_netlist.specs.Drivers.{shape_of}
use Rattle.dft_netlist.specs.declared.instance.CellRef.{CellRef}
use Rattle.dft_netlist.proofs.CellLemmas.{gate_input, gate_output}
use Rattle.dft_netlist.proofs.cells.known_role.Goals as goal

pub returns-then-pin-inputs : goal.returns-then-pin-inputs
returns-then-pin-inputs c = rw c.in-Gate.is (gate_input c.in-Gate.inputs c.args.pin c.if-pin-inputs.true)

pub returns-else-pin-inputs : goal.returns-else-pin-inputs
returns-else-pin-inputs c =
    rw c.in-Gate.is (gate_output c.in-Gate.inputs c.args.pin c.if-pin-inputs.false
    (subst (λ (x : CellRef). c.args.pin < length (shape_of c.args.cells.now x).roles) c.in-Gate.is c.requires))
