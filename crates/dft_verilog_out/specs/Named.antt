-- What a gate must have to be written.
use Rattle.std.specs.Prelude.{ℕ, ◌≡◌, Bool, true, List, Some, slice_get}
use Rattle.std.specs.List.{list_all}
use Rattle.dft_netlist.specs.declared.instance.Signal.{Signal}
use Rattle.dft_netlist.specs.declared.instance.CellRef.{CellRef}
use Rattle.dft_netlist.specs.declared.instance.CellRef.TheVariants.{Library, Gate}
use Rattle.dft_netlist.specs.declared.instance.Instance.{Instance}
use Rattle.dft_netlist.specs.Netlist.{Netlist}
use Rattle.dft_netlist.specs.Sound.{IsConnected}
use Rattle.dft_verilog_out.specs.Written.{is_joined}

-- every pin of a gate is joined
abbrev pub IsJoinedGate : Instance → Type 0
IsJoinedGate i = elim i.cell [ Library id ↦ Unit {0} | Gate kind inputs ↦ (pin : ℕ) (to : Signal) → slice_get i.pins pin ≡ Some to → IsConnected to ]

-- every pin of every gate is joined
abbrev pub GatesAreJoined : Netlist → Type 0
GatesAreJoined n = (place : ℕ) (i : Instance) → slice_get n.instances place ≡ Some i → IsJoinedGate i

-- ---- the same as a test

-- a cell of the library may have pins that are not joined, and a gate may not
abbrev pub joins_its_pins : CellRef → List Signal → Bool
joins_its_pins (Library id) pins = true
joins_its_pins (Gate kind inputs) pins = list_all is_joined pins

-- whether every pin of an instance is joined, where it is of a gate
abbrev pub is_joined_gate : Instance → Bool
is_joined_gate i = joins_its_pins i.cell i.pins
