-- What holds of every module that a text says.
use Rattle.std.specs.Prelude.{ℕ, ◌≡◌, ◌≤◌, List, length, Some, slice_get}
use Rattle.std.specs.List.{All}
use Rattle.dft_base.specs.Lexing.{Text}
use Rattle.dft_cells.specs.declared.cell.Cell.{Cell}
use Rattle.dft_netlist.specs.declared.port.Port.{Port}
use Rattle.dft_netlist.specs.declared.instance.Signal.{Signal}
use Rattle.dft_netlist.specs.declared.instance.Instance.{Instance}
use Rattle.dft_netlist.specs.declared.instance.Join.{Join}
use Rattle.dft_netlist.specs.declared.limits.TheConstants.{MAX_PORTS, MAX_NETS}
use Rattle.dft_netlist.specs.NetNumbers.{nets_from}
use Rattle.dft_netlist.specs.Names.{bit_names}
use Rattle.dft_netlist.specs.Sound.{IsInstance, IsAJoin, IsLive, IsConnected, Begins, bits_of, bit_names_of}
use Rattle.dft_modules.specs.declared.connections.Connection.{Connection}
use Rattle.dft_modules.specs.declared.module.Item.{Item}
use Rattle.dft_modules.specs.declared.module.Item.TheVariants as item
use Rattle.dft_modules.specs.Modules.{Module}

-- a bit that a port may be joined to: a constant, or one of the first `count` nets
abbrev pub IsOuterBit : (count : ℕ) → Signal → Type 0
IsOuterBit count s = IsLive count s × IsConnected s

-- each bit of a connection is such a one
abbrev pub IsConnectionOf : (count : ℕ) → Connection → Type 0
IsConnectionOf count c = All (λ (s : Signal). IsOuterBit count s) c.signals

-- an item can stand among so many nets, over the cells of a library
abbrev pub IsItem : List Cell → (count : ℕ) → Item → Type 0
IsItem library count (item.Join j) = IsAJoin count j.target j.source
IsItem library count (item.Cell i) = IsInstance library count i.name i.cell i.pins
IsItem library count (item.Sub s) = All (λ (c : Connection). IsConnectionOf count c) s.connections

-- what every module keeps
pub record IsModule (library : List Cell) (m : Module) : Type 0 where
  pub few_ports : length m.ports ≤ MAX_PORTS
  pub few_nets : length m.nets ≤ MAX_NETS
  -- a port has a bit for each name that its range gives
  pub widths : (place : ℕ) (port : Port) → slice_get m.ports place ≡ Some port → length port.bits ≡ length (bit_names port.name port.range)
  -- the bits of the ports, in order, are the first nets, and these have the bits' names
  pub numbered : bits_of m.ports ≡ nets_from 0 (length (bits_of m.ports))
  pub bits : Begins (bit_names_of m.ports) m.nets
  pub items : All (λ (i : Item). IsItem library (length m.nets) i) m.items

-- and each of these
abbrev pub AreModules : List Cell → List Module → Type 0
AreModules library ms = All (λ (m : Module). IsModule library m) ms
