use Rattle.std.proofs.Common.{drop}
use Rattle.dft_netlist.specs.Notes.{bit_drives}
use Rattle.dft_netlist.proofs.NotesLemmas.{Kept}
use Rattle.dft_netlist.proofs.drivers.note_port.Given as goal

abbrev pub invariant-loop-bit : goal.invariant-loop-bit
invariant-loop-bit l = Kept l.initial.notes l.notes (bit_drives (drop l.bit-index l.bit-items)) (bit_drives l.bit-items)
