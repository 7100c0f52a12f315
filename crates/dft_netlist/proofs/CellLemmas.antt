-- The roles of a gate's pins.
use Rattle.std.proofs.Common.{◌≡◌, ℕ, zero, suc, ◌<◌, ◌≤◌, length, Some, slice_get, refl, arith}
use Rattle.dft_cells.specs.declared.kind.Role.TheVariants.{Input, Output}
use Rattle.dft_netlist.specs.Drivers.{gate_roles}

pub gate_input : (inputs pin : ℕ) → pin < inputs → slice_get (gate_roles inputs) pin ≡ Some Input
gate_input zero pin lt = absurd (omega arith)
gate_input (suc inputs) zero lt = refl
gate_input (suc inputs) (suc pin) lt = gate_input inputs pin (omega arith)

pub gate_output : (inputs pin : ℕ) → inputs ≤ pin → pin < length (gate_roles inputs) → slice_get (gate_roles inputs) pin ≡ Some Output
gate_output zero zero le lt = refl
gate_output zero (suc pin) le lt = absurd (omega arith)
gate_output (suc inputs) zero le lt = absurd (omega arith)
gate_output (suc inputs) (suc pin) le lt = gate_output inputs pin (omega arith) (omega arith)
