-- The pins of flip-flops as the search keeps them: what the first pin of each role is joined to.
use Rattle.std.specs.Prelude.{ℕ, Bool, true, false, ◌≡◌, List, [], ◌∷◌, ◌++◌, Option, None, Some, length, slice_index_or}
use Rattle.dft_base.specs.declared.tri.Tri.{Tri}
use Rattle.dft_base.specs.declared.tri.Tri.TheVariants.{Unknown}
use Rattle.dft_cells.specs.declared.kind.Role.TheVariants as role
use Rattle.dft_cells.specs.FlipFlops.{tri_chosen, tri_forced}
use Rattle.dft_netlist.specs.declared.instance.Signal.{Signal}
use Rattle.dft_netlist.specs.Netlist.{Netlist}
use Rattle.dft_netlist.specs.Connections.{signal_of}
use Rattle.dft_netlist.specs.Drivers.{nets_of, pins_of, source_of}
use Rattle.dft_behavior.specs.Settled.{value_from}
use Rattle.dft_seek.specs.declared.pins.Pins.{Pins}

-- ---- values at pins

abbrev pub signal_value : (values : ℕ → Tri) → Signal → Tri
signal_value values signal = value_from values (source_of 0 0 signal)

abbrev pub pin_value : (values : ℕ → Tri) → Option Signal → Tri
pin_value values None = Unknown
pin_value values (Some signal) = signal_value values signal

abbrev pub forced_by : (value : Bool) → Option Signal → (values : ℕ → Tri) → (next : Tri) → Tri
forced_by value None values next = next
forced_by value (Some signal) values next = tri_forced value (signal_value values signal) next

abbrev pub taken : (enable scan : Option Signal) → (values : ℕ → Tri) → (data_in : Tri) → Tri
taken (Some enable) (Some scan) values data_in = tri_chosen (signal_value values enable) (signal_value values scan) data_in
taken (Some enable) None values data_in = data_in
taken None scan values data_in = data_in

-- the next value of a flip-flop with these pins
abbrev pub next_by : Pins → (values : ℕ → Tri) → Tri
next_by p values = forced_by false p.reset values (forced_by true p.preset values (taken p.enable p.scan values (pin_value values p.input)))

-- ---- the nets at pins

abbrev pub pin_nets : Option Signal → List ℕ
pin_nets None = []
pin_nets (Some signal) = nets_of (source_of 0 0 signal ∷ [])

-- those at the data, reset and set pins
abbrev pub taken_by : Pins → List ℕ
taken_by p = pin_nets p.input ++ (pin_nets p.reset ++ pin_nets p.preset)

-- ---- the pins of a design

pub record ArePinsOf (n : Netlist) (i : ℕ) (p : Pins) : Type 0 where
  pub reset : p.reset ≡ signal_of role.Reset (pins_of n i)
  pub preset : p.preset ≡ signal_of role.Preset (pins_of n i)
  pub enable : p.enable ≡ signal_of role.ScanEnable (pins_of n i)
  pub scan : p.scan ≡ signal_of role.ScanIn (pins_of n i)
  pub input : p.input ≡ signal_of role.Din (pins_of n i)

-- no pin is there
abbrev pub no_pins : Pins
no_pins = record { reset = None; preset = None; enable = None; scan = None; input = None }

abbrev pub pins_at : List Pins → (cell : ℕ) → Pins
pins_at pins c = slice_index_or pins c no_pins

-- those of all instances, in order
pub record ArePins (n : Netlist) (pins : List Pins) : Type 0 where
  pub count : length pins ≡ length n.instances
  pub each : (i : ℕ) → ArePinsOf n i (pins_at pins i)
