-- Words that are a command have no fault, and words without a fault are a command.
use Rattle.std.specs.Prelude.{◌≡◌, ◌↔◌, List, None}
use Rattle.dft_command_line.specs.Words.{Text, Command, IsFor}
use Rattle.dft_explain.specs.Faults.{first_fault}

-- the words are some command
abbrev pub IsCommandLine : List Text → Type 0
IsCommandLine words = (command : Command) × IsFor words command

abbrev pub FaultsAreUsage : Type 0
FaultsAreUsage = (words : List Text) → first_fault words ≡ None ↔ IsCommandLine words
