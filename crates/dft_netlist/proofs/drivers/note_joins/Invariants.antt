use Rattle.std.proofs.Common.{drop}
use Rattle.dft_netlist.specs.Notes.{joins_drives}
use Rattle.dft_netlist.proofs.NotesLemmas.{Kept}
use Rattle.dft_netlist.proofs.drivers.note_joins.Given as goal

abbrev pub invariant-loop-number : goal.invariant-loop-number
invariant-loop-number l = Kept l.initial.notes l.notes (joins_drives l.number (drop l.number l.joins)) (joins_drives 0 l.joins)
