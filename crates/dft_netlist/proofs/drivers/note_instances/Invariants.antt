use Rattle.std.proofs.Common.{drop}
use Rattle.dft_netlist.specs.Notes.{instances_drives}
use Rattle.dft_netlist.proofs.NotesLemmas.{Kept}
use Rattle.dft_netlist.proofs.drivers.note_instances.Given as goal

abbrev pub invariant-loop-number : goal.invariant-loop-number
invariant-loop-number l = Kept l.initial.notes l.notes (instances_drives l.cells l.number (drop l.number l.instances)) (instances_drives l.cells 0 l.instances)
