use Rattle.std.proofs.Common.{◌≡◌, drop, map}
use Rattle.dft_cells.specs.WellFormed.{role_of}
use Rattle.dft_netlist.specs.Connections.{same_role}
use Rattle.dft_scan_frame.specs.Pins.{number_of}
use Rattle.dft_insert.proofs.pins.pin_of.Given as goal

abbrev pub invariant-loop-number : goal.invariant-loop-number
invariant-loop-number l = number_of (same_role l.role) 0 (map role_of l.pins) ≡ number_of (same_role l.role) l.number (map role_of (drop l.number l.pins))
