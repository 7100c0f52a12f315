use Rattle.std.proofs.Common.{drop}
use Rattle.dft_netlist.specs.Drivers.{shape_of}
use Rattle.dft_netlist.specs.Notes.{pins_drives}
use Rattle.dft_netlist.proofs.NotesLemmas.{Kept}
use Rattle.dft_netlist.proofs.drivers.note_instance.Given as goal

abbrev pub invariant-loop-pin : goal.invariant-loop-pin
invariant-loop-pin l = Kept l.initial.notes l.notes (pins_drives l.id.0 l.pin (drop l.pin (shape_of l.cells l.instance.cell).roles) (drop l.pin l.instance.pins)) (pins_drives l.id.0 0 (shape_of l.cells l.instance.cell).roles l.instance.pins)
