-- What it is for a written netlist to keep a design: its ports, nets, joins and instances, in order and under their names.
use Rattle.std.specs.Prelude.{ℕ, ◌≡◌, ◌⊎◌, Bool, true, false, List, ◌++◌, length, map, take, drop, Option, Some, option_map, slice_get}
use Rattle.dft_base.specs.Lexing.{Text}
use Rattle.dft_cells.specs.declared.kind.Role.{Role}
use Rattle.dft_cells.specs.declared.kind.Role.TheVariants.{Output}
use Rattle.dft_cells.specs.declared.cell.CellId.{CellId}
use Rattle.dft_cells.specs.WellFormed.{is_scan_role}
use Rattle.dft_netlist.specs.declared.port.Port.{Port}
use Rattle.dft_netlist.specs.declared.ids.NetId.{NetId}
use Rattle.dft_netlist.specs.declared.instance.CellRef.TheVariants.{Library}
use Rattle.dft_netlist.specs.declared.instance.Signal.{Signal}
use Rattle.dft_netlist.specs.declared.instance.Signal.TheVariants.{Net, Unconnected}
use Rattle.dft_netlist.specs.declared.instance.Instance.{Instance}
use Rattle.dft_netlist.specs.Netlist.{Netlist}
use Rattle.dft_netlist.specs.Drivers.{connections_of, source_of}
use Rattle.dft_netlist.specs.Connections.{signal_of}
use Rattle.dft_behavior.specs.Logic.{Ports, logic_of}
use Rattle.dft_behavior.specs.Settled.{bit_from}
use Rattle.dft_behavior.specs.Runs.{Now, IsNow, sources_of}
use Rattle.dft_rules.specs.Refusals.{takes_data}
use Rattle.dft_rules.specs.Rules.{scan_cell_in}
use Rattle.dft_scan_frame.specs.Moves.{Gap, moved_signal, moved_instance, moved_join}

-- an output pin that was joined to nothing has a net
pub record IsJoinedNow (role : Role) (old new : Option Signal) : Type 0 where
  pub net : NetId
  pub output : role ≡ Output
  pub before : old ≡ Some Unconnected
  pub now : new ≡ Some (Net net)

-- a pin is joined as before, or is an output that has a net now
abbrev pub IsPinKept : Gap → Role → (old new : Option Signal) → Type 0
IsPinKept gap role old new = (new ≡ option_map (moved_signal gap) old) ⊎ IsJoinedNow role old new

-- A pin that takes data reads a made net, which shows what the pin was joined to while scan_enable, the first of the added ports, is 0: at each
-- moment at which the written netlist has settled, for any clocks and resets.
pub record ReadsMade (gap : Gap) (written : Netlist) (role : Role) (old new : Option Signal) : Type 0 where
  pub was : Signal
  pub made : NetId
  pub takes : takes_data role ≡ true
  pub before : old ≡ Some was
  pub now : new ≡ Some (Net made)
  pub same : (ports : Ports) (at : Now) (i pin : ℕ) → IsNow (logic_of written ports) at → at.moment.seen gap.before ≡ false →
      at.moment.seen made.0 ≡ bit_from (sources_of at) at.moment.seen (source_of i pin (moved_signal gap was))

-- A scan cell in place of a flip-flop: under its name, with its clock and its outputs. Each of its other pins, besides the scan pins, is kept, or
-- reads what it read while scan_enable is 0.
pub record IsScanCellFor (n : Netlist) (gap : Gap) (written : Netlist) (old new : Instance) : Type 0 where
  pub cell : CellId
  pub name : new.name ≡ old.name
  pub scan : scan_cell_in n.library old.cell ≡ Some cell
  pub is : new.cell ≡ Library cell
  pub pins : (role : Role) → is_scan_role role ≡ false →
      let before = signal_of role (connections_of n.library old) in
      let now = signal_of role (connections_of n.library new) in
      IsPinKept gap role before now ⊎ ReadsMade gap written role before now

-- all pins besides the scan pins are kept
abbrev pub ArePinsKept : Netlist → Gap → (old new : Instance) → Type 0
ArePinsKept n gap old new = (role : Role) → is_scan_role role ≡ false → IsPinKept gap role (signal_of role (connections_of n.library old)) (signal_of role (connections_of n.library new))

-- the ports of the design, and then as many as the gap is wide
pub record AddsPorts (gap : Gap) (old new : List Port) : Type 0 where
  pub added : List Port
  pub count : length added ≡ gap.width
  pub same : new ≡ old ++ added

-- the nets of the design's ports, those of the added ports, the design's other nets, and then those that were made
pub record AddsNets (gap : Gap) (old new : List Text) : Type 0 where
  pub added : List Text
  pub made : List Text
  pub count : length added ≡ gap.width
  pub same : new ≡ take gap.before old ++ (added ++ (drop gap.before old ++ made))

-- the written netlist keeps the design, but that these instances are scan cells
pub record Keeps (n : Netlist) (gap : Gap) (is_scanned : ℕ → Bool) (written : Netlist) : Type 0 where
  pub name : written.name ≡ n.name
  pub library : written.library ≡ n.library
  pub ports : AddsPorts gap n.ports written.ports
  pub nets : AddsNets gap n.nets written.nets
  pub joins : written.joins ≡ map (moved_join gap) n.joins
  pub others : (i : ℕ) (instance : Instance) → slice_get n.instances i ≡ Some instance → is_scanned i ≡ false → slice_get written.instances i ≡ Some (moved_instance gap instance)
  pub scanned : (i : ℕ) (instance : Instance) → slice_get n.instances i ≡ Some instance → is_scanned i ≡ true →
      (new : Instance) × (slice_get written.instances i ≡ Some new) × IsScanCellFor n gap written instance new
