-- What every netlist keeps that a builder holds.
use Rattle.std.specs.Prelude.{ℕ, ◌≡◌, ◌<◌, ◌≤◌, Bool, true, false, IsTrue, List, [], ◌∷◌, ◌++◌, length, Option, Some, IsSome, slice_get}
use Rattle.dft_cells.specs.declared.kind.Gate.{Gate as GateKind}
use Rattle.dft_cells.specs.declared.kind.Gate.TheVariants.{Buf, Inv, And, Nand, Or, Nor, Xor, Xnor}
use Rattle.dft_cells.specs.declared.kind.Role.{Role}
use Rattle.dft_cells.specs.declared.cell.Cell.{Cell}
pub use Rattle.dft_cells.specs.Pins.{is_output}
use Rattle.dft_cells.specs.WellFormed.{TakesInputs}
use Rattle.dft_netlist.specs.declared.ids.NetId.{NetId}
use Rattle.dft_netlist.specs.declared.port.Port.{Port}
use Rattle.dft_netlist.specs.declared.instance.Signal.{Signal}
use Rattle.dft_netlist.specs.declared.instance.Signal.TheVariants.{Net, Constant, Unconnected}
use Rattle.dft_netlist.specs.declared.instance.CellRef.{CellRef}
use Rattle.dft_netlist.specs.declared.instance.CellRef.TheVariants.{Library, Gate}
use Rattle.dft_netlist.specs.declared.instance.Instance.{Instance}
use Rattle.dft_netlist.specs.declared.instance.Join.{Join}
use Rattle.dft_netlist.specs.declared.limits.TheConstants.{MAX_PORTS, MAX_NETS, MAX_INSTANCES}
use Rattle.dft_netlist.specs.Netlist.{Netlist}
use Rattle.dft_netlist.specs.Drivers.{shape_of}
use Rattle.dft_netlist.specs.NetNumbers.{nets_from}
use Rattle.dft_netlist.specs.Names.{bit_names, HasNames, NamesDiffer}
use Rattle.dft_base.specs.Lexing.{Text}

-- the gate primitives that a netlist may use (IEEE 1364)
abbrev pub is_primitive : GateKind → Bool
is_primitive Buf = true
is_primitive Inv = true
is_primitive And = true
is_primitive Nand = true
is_primitive Or = true
is_primitive Nor = true
is_primitive Xor = true
is_primitive Xnor = true
is_primitive _ = false

-- an instance is of a cell of the library and has a name, or is of a gate primitive with a number of inputs that it takes
abbrev pub IsCellOf : List Cell → Option Text → CellRef → Type 0
IsCellOf library name (Library cell) = (cell.0 < length library) × IsSome name
IsCellOf library name (Gate gate inputs) = IsTrue (is_primitive gate) × TakesInputs gate inputs

-- a net of a signal is one of the first `count`
abbrev pub IsLive : (count : ℕ) → Signal → Type 0
IsLive count (Net net) = net.0 < count
IsLive count (Constant bit) = Unit {0}
IsLive count Unconnected = Unit {0}

-- each net of these signals is one of the first `count`
abbrev pub AreLive : (count : ℕ) → List Signal → Type 0
AreLive count signals = (place : ℕ) (signal : Signal) → slice_get signals place ≡ Some signal → IsLive count signal

-- no output pin is joined to a constant
abbrev pub NoConstantOutput : List Role → List Signal → Type 0
NoConstantOutput roles signals = (pin : ℕ) (role : Role) (bit : Bool) → slice_get roles pin ≡ Some role → is_output role ≡ true → slice_get signals pin ≡ Some (Constant bit) → ⊥

-- an instance of this cell with these pins can stand among so many nets
pub record IsInstance (library : List Cell) (nets : ℕ) (name : Option Text) (cell : CellRef) (pins : List Signal) : Type 0 where
  pub fits : IsCellOf library name cell
  -- as many pins as the cell has
  pub width : length pins ≡ length (shape_of library cell).roles
  pub live : AreLive nets pins
  pub outputs : NoConstantOutput (shape_of library cell).roles pins

-- an instance of this cell with these pins can stand in the netlist
abbrev pub IsInstanceOf : Netlist → (name : Option Text) → CellRef → (pins : List Signal) → Type 0
IsInstanceOf n name cell pins = IsInstance n.library (length n.nets) name cell pins

abbrev pub IsConnected : Signal → Type 0
IsConnected (Net net) = Unit {0}
IsConnected (Constant bit) = Unit {0}
IsConnected Unconnected = ⊥

-- a join of this target from this source can stand among so many nets
pub record IsAJoin (nets : ℕ) (target : NetId) (source : Signal) : Type 0 where
  pub target_live : target.0 < nets
  pub source_live : IsLive nets source
  pub connected : IsConnected source

-- a join of this target from this source can stand in the netlist
abbrev pub IsJoinOf : Netlist → (target : NetId) → (source : Signal) → Type 0
IsJoinOf n target source = IsAJoin (length n.nets) target source

-- the bits of these ports, one port after another
abbrev pub bits_of : List Port → List NetId
bits_of [] = []
bits_of (port ∷ ports) = port.bits ++ bits_of ports

-- the names of their nets
abbrev pub bit_names_of : List Port → List Text
bit_names_of [] = []
bit_names_of (port ∷ ports) = bit_names port.name port.range ++ bit_names_of ports

-- the second list begins with the first
pub record Begins (front whole : List Text) : Type 0 where
  pub rest : List Text
  pub same : whole ≡ front ++ rest

-- all nets are bits of ports
abbrev pub HasOnlyPorts : Netlist → Type 0
HasOnlyPorts n = length n.nets ≡ length (bits_of n.ports)

-- what every netlist keeps
pub record IsNetlist (n : Netlist) : Type 0 where
  pub few_ports : length n.ports ≤ MAX_PORTS
  pub few_nets : length n.nets ≤ MAX_NETS
  pub few_instances : length n.instances ≤ MAX_INSTANCES
  -- names of nets, ports and instances differ
  pub names : NamesDiffer n
  -- and are names
  pub named : HasNames n
  -- a port has a bit for each name that its range gives
  pub widths : (place : ℕ) (port : Port) → slice_get n.ports place ≡ Some port → length port.bits ≡ length (bit_names port.name port.range)
  -- the bits of the ports, in order, are the first nets
  pub numbered : bits_of n.ports ≡ nets_from 0 (length (bits_of n.ports))
  -- and these have the bits' names
  pub bits : Begins (bit_names_of n.ports) n.nets
  pub instances : (place : ℕ) (instance : Instance) → slice_get n.instances place ≡ Some instance → IsInstanceOf n instance.name instance.cell instance.pins
  pub joins : (place : ℕ) (join : Join) → slice_get n.joins place ≡ Some join → IsJoinOf n join.target join.source
