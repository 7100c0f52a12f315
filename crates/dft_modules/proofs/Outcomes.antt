-- What comes of a text of several modules over the standard cells: its modules, or where it is refused and why.
use Rattle.std.proofs.Common.{ℕ, Option, Some, None, Result, Ok, Err, List}
use Rattle.dft_base.specs.declared.place.Place.{Place}
use Rattle.dft_base.specs.Lexing.{Text, place_of}
use Rattle.dft_cells.specs.Standard.{standard_cells}
use Rattle.dft_netlist_text.specs.declared.text.Cause.{Cause}
use Rattle.dft_modules.specs.declared.fault.ModulesFault.TheVariants as fault
use Rattle.dft_modules.specs.Modules.{Module}
use Rattle.dft_modules.specs.declared.fault.ModulesFault.{ModulesFault}
use Rattle.dft_modules.specs.ModuleTexts.{modules_of}

abbrev pub said_by : Result (List Module) ModulesFault → Option (List Module)
said_by (Ok ms) = Some ms
said_by (Err why) = None

-- the modules of a text that is accepted
abbrev pub modules : Text → Option (List Module)
modules text = said_by (modules_of standard_cells text)

abbrev pub says : List Module → Option (List Module)
says ms = Some ms

-- why a text is refused: a cause at a place, or a module's name
pub data Why : Type 0 where
  At : Cause → Place → Why
  Name : Text → Why

abbrev pub why_refused : Text → Result (List Module) ModulesFault → Option Why
why_refused text (Ok ms) = None
why_refused text (Err (fault.Module f)) = Some (At f.cause (place_of text f.left))
why_refused text (Err (fault.Repeated name)) = Some (Name name)

abbrev pub refused_at : Text → Option Why
refused_at text = why_refused text (modules_of standard_cells text)

abbrev pub refused : Cause → ℕ → ℕ → Option Why
refused why line column = Some (At why (record { line = line; column = column }))

abbrev pub repeated : Text → Option Why
repeated name = Some (Name name)
