-- What an `AbstractMachine` shows, and what holds of it.
use Rattle.std.specs.Prelude.{ℕ, true, ◌≡◌, ◌<◌, Some, length, slice_get}
use Rattle.dft_netlist.specs.declared.ids.NetId.{NetId}
use Rattle.dft_cycle.specs.declared.machine.AbstractMachine.TheInside.{Inside}
use Rattle.dft_cycle.specs.Machine.{Machine, logic, is_one_of, value_at}
use Rattle.dft_logic.specs.Circuit.{logic_at, flag_at}
use Rattle.dft_cycle.specs.Views.{AreFalling, OwnsLatches, IsRoom}
use Rattle.dft_cycle.specs.Plans.{ArePlans, LooseAreUnknown}
use Rattle.dft_cycle.specs.Looks.{AreLooks}

abbrev pub machine_of : Inside → Machine
machine_of d = record { netlist = d.design.now; clocks = d.clocks.items; inputs = d.inputs.items; cells = d.cells.values; shown = d.shown.items }

-- the circuit is the design's, and each list has a place for each net or instance
pub record IsMachine (d : Inside) : Type 0 where
  pub compiled : logic (machine_of d) ≡ logic_at d.circuit
  pub falling : AreFalling d.circuit d.clocks.items d.falls.items
  pub owned : OwnsLatches d.circuit d.clocks.items
  pub live : (place : ℕ) (clock : NetId) → slice_get d.clocks.items place ≡ Some clock → clock.0 < length d.pulsed.items
  pub nets : length d.circuit.ops ≡ length d.design.now.nets
  pub pulsed : length d.pulsed.items ≡ length d.circuit.ops
  pub inputs : length d.inputs.items ≡ length d.circuit.ops
  pub shown : length d.shown.items ≡ length d.circuit.ops
  pub cells : length d.cells.values ≡ length d.circuit.flops
  pub room : IsRoom d.circuit d.room
  pub plans : ArePlans d.circuit d.clocks.items d.cells.layout d.plans
  pub looks : AreLooks d.circuit d.looks
  pub loose : LooseAreUnknown d.circuit (value_at d.cells.values)
  -- no net but clocks is flagged
  pub flags : (e : ℕ) → flag_at d.pulsed.items e ≡ true → is_one_of d.clocks.items e ≡ true
