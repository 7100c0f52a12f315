-- A gate's inputs come first, then its output.
use Rattle.std.proofs.Common.{◌<◌, arith}
use Rattle.dft_netlist.proofs.PinLemmas.{input_role, output_role, no_role}
use Rattle.dft_netlist.proofs.cells.gate_role.Goals as goal

pub returns-then-pin-inputs : goal.returns-then-pin-inputs
returns-then-pin-inputs c = input_role c.args.inputs c.args.pin c.if-pin-inputs.true

pub returns-then-pin-inputs-2 : goal.returns-then-pin-inputs-2
returns-then-pin-inputs-2 c = output_role c.args.inputs c.args.pin (omega arith)

pub returns-else-pin-inputs-2 : goal.returns-else-pin-inputs-2
returns-else-pin-inputs-2 c = (let far : c.args.inputs < c.args.pin = omega arith in no_role c.args.inputs c.args.pin far)
