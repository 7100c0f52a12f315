use Rattle.std.proofs.Common.{drop}
use Rattle.dft_netlist.specs.Notes.{ports_drives}
use Rattle.dft_netlist.proofs.NotesLemmas.{Kept}
use Rattle.dft_netlist.proofs.drivers.note_ports.Given as goal

abbrev pub invariant-loop-port : goal.invariant-loop-port
invariant-loop-port l = Kept l.initial.notes l.notes (ports_drives (drop l.port-index l.ports)) (ports_drives l.ports)
