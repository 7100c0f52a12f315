-- What a `DriverNotes` shows.
use Rattle.dft_netlist.specs.declared.driver_notes.DriverNotes.TheInside.{Inside}
use Rattle.dft_netlist.specs.Notes.{Notes}

abbrev pub notes_of : Inside → Notes
notes_of d = record { found = d.found.items; clash = d.clash }
