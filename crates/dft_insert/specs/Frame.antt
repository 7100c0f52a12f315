-- The frame: the design with the added ports, and with scan cells in place of the scanned flip-flops, whose scan inputs, and outputs
-- that were joined to nothing, are still open.
use Rattle.std.specs.Prelude.{ℕ, zero, Bool, true, false, List, [], ◌∷◌, ◌++◌, map, take, drop, Option, None, Some, slice_index_or}
use Rattle.dft_cells.specs.declared.kind.Role.{Role}
use Rattle.dft_cells.specs.declared.kind.Role.TheVariants.{ScanIn, ScanEnable}
use Rattle.dft_cells.specs.declared.cell.Cell.{Cell}
use Rattle.dft_cells.specs.declared.cell.CellId.{CellId}
use Rattle.dft_netlist.specs.declared.instance.CellRef.TheVariants.{Library}
use Rattle.dft_netlist.specs.declared.instance.Signal.{Signal}
use Rattle.dft_netlist.specs.declared.instance.Signal.TheVariants.{Unconnected}
use Rattle.dft_netlist.specs.declared.instance.Instance.{Instance}
use Rattle.dft_netlist.specs.Drivers.{shape_of}
use Rattle.dft_netlist.specs.Netlist.{Netlist}
use Rattle.dft_config.specs.Config.{Config}
use Rattle.dft_rules.specs.Refusals.{is_scanned}
use Rattle.dft_rules.specs.Rules.{judged, scan_cell_in}
use Rattle.dft_scan_frame.specs.AddedPorts.{port_name, ports_from}
use Rattle.dft_scan_frame.specs.Moves.{Gap, moved_signal, moved_instance, moved_join, at_net, map_from}
use Rattle.dft_insert.specs.declared.style.Style.{Style}
use Rattle.dft_insert.specs.Ports.{added_ports, gap_in}

-- ---- scan cells

-- a pin of a scan cell, by what it is for; `pin` is the flip-flop's
abbrev pub framed_pin : (enable : Signal) → Role → (pin : Signal) → Signal
framed_pin enable ScanIn pin = Unconnected
framed_pin enable ScanEnable pin = enable
framed_pin enable _ pin = pin

-- The pins of a scan cell: its scan input is open, its scan enable is joined to the port, and the others are as the flip-flop had
-- them, in order.
abbrev pub framed_pins : (enable : Signal) → List Role → (pins : List Signal) → List Signal
framed_pins enable [] pins = []
framed_pins enable (ScanIn ∷ roles) pins = Unconnected ∷ framed_pins enable roles pins
framed_pins enable (ScanEnable ∷ roles) pins = enable ∷ framed_pins enable roles pins
framed_pins enable (role ∷ roles) pins = slice_index_or pins zero Unconnected ∷ framed_pins enable roles (drop 1 pins)

-- the scan cell in place of a flip-flop that names one
abbrev pub as_scan_cell : List Cell → Gap → Instance → Option CellId → Instance
as_scan_cell library gap instance None = moved_instance gap instance
as_scan_cell library gap instance (Some cell) = record {
  name = instance.name;
  cell = Library cell;
  pins = framed_pins (at_net gap.before) (shape_of library (Library cell)).roles (map (moved_signal gap) instance.pins);
}

abbrev pub framed_instance : List Cell → Gap → (scanned : Bool) → Instance → Instance
framed_instance library gap false instance = moved_instance gap instance
framed_instance library gap true instance = as_scan_cell library gap instance (scan_cell_in library instance.cell)

-- an instance of the design in the frame
abbrev pub framed_at : Netlist → Config → Gap → (number : ℕ) → Instance → Instance
framed_at n config gap number instance = framed_instance n.library gap (is_scanned (judged n config number)) instance

-- ---- the frame

-- Added ports stand behind the design's ports, and their nets between its ports' nets and its others.
abbrev pub frame : Style → Netlist → Config → Netlist
frame style n config =
    let gap = gap_in style n config in record {
      name = n.name;
      library = n.library;
      ports = n.ports ++ ports_from gap.before (added_ports style config);
      nets = take gap.before n.nets ++ (map port_name (added_ports style config) ++ drop gap.before n.nets);
      instances = map_from (framed_at n config gap) 0 n.instances;
      joins = map (moved_join gap) n.joins;
    }
