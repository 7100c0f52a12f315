-- What a command saves of its outcome, and what its saves leave.
use Rattle.std.specs.Prelude.{ℕ, ◌≡◌, false, List, [], ◌∷◌, ◌++◌, Option, None, Some}
use Rattle.std.specs.List.{AllByRecursion}
use Rattle.std.specs.Str.{bytes_eq}
use Rattle.dft_files.specs.Outside.{Held, LeavesPart, Rose, ToldChange, file_at}
use Rattle.dft_command_line.specs.Words.{Command, Replay, Scan, Compile, Certify, Generate, Grade, Configure, Seek, OutputsDiffer}
use Rattle.dft_answers.specs.declared.outcome.Outcome.{Outcome}
use Rattle.dft_answers.specs.declared.outcome.Outcome.TheVariants.{Finished}
use Rattle.dft_answers.specs.declared.outcome.Work.TheVariants.{Scanned, Compiled, Graded, Configured, Sought}

-- a file that is to be saved: its name, and its bytes
pub record Saving : Type 0 where
  pub name : List ℕ
  pub bytes : List ℕ

-- what a command saves, in order: of a scan the scanned netlist and the report, of a compilation the scanned netlist, the patterns and the report, of
-- a grading the report, of a made configuration its text, of a search the cube file and the report; of all else nothing
abbrev pub savings : Option Command → Outcome → List Saving
savings (Some (Scan files)) (Finished (Scanned counts netlist report)) =
    record { name = files.out; bytes = netlist } ∷ record { name = files.report; bytes = report } ∷ []
savings (Some (Compile files)) (Finished (Compiled counts netlist patterns report)) =
    record { name = files.out_netlist; bytes = netlist } ∷ record { name = files.out_patterns; bytes = patterns } ∷ record { name = files.out_report; bytes = report } ∷ []
savings (Some (Grade files)) (Finished (Graded faults detected undetected report)) = record { name = files.out; bytes = report } ∷ []
savings (Some (Configure files)) (Finished (Configured counts text)) = record { name = files.out; bytes = text } ∷ []
savings (Some (Seek files)) (Finished (Sought counts cubes report)) = record { name = files.out_cubes; bytes = cubes } ∷ record { name = files.out_report; bytes = report } ∷ []
savings command o = []

-- the files that a command saves have different names
abbrev pub SavesApart : Option Command → Type 0
SavesApart None = Unit {0}
SavesApart (Some (Replay files)) = Unit {0}
SavesApart (Some (Scan files)) = files.out ≡ files.report → ⊥
SavesApart (Some (Compile files)) = OutputsDiffer files
SavesApart (Some (Certify files)) = Unit {0}
SavesApart (Some (Generate numbers)) = Unit {0}
SavesApart (Some (Grade files)) = Unit {0}
SavesApart (Some (Configure files)) = Unit {0}
SavesApart (Some (Seek files)) = files.out_cubes ≡ files.out_report → ⊥

-- these files have different names
abbrev pub AreApart : List Saving → Type 0
AreApart [] = Unit {0}
AreApart (s ∷ savings) = AllByRecursion (λ other. s.name ≡ other.name → ⊥) savings × AreApart savings

-- ---- files

-- each of these files stands whole
abbrev pub Stand : List Saving → Held → Type 0
Stand saved held = AllByRecursion (λ s. file_at s.name held ≡ Some s.bytes) saved

-- every file with another name is as before
abbrev pub KeepsOthers : List Saving → (old new : Held) → Type 0
KeepsOthers saved old new = (name : List ℕ) → AllByRecursion (λ s. bytes_eq s.name name ≡ false) saved → file_at name new ≡ file_at name old

-- these files were saved, and nothing else is changed
pub record AreSaved (saved : List Saving) (old new : Held) : Type 0 where
  pub whole : Stand saved new
  pub others : KeepsOthers saved old new

-- These files were saved, and then the save of another failed: its file is as it was, or has a prefix of the bytes. Nothing else is changed.
pub record AreSavedBut (saved : List Saving) (failing : Saving) (old new : Held) : Type 0 where
  pub whole : Stand saved new
  pub part : LeavesPart failing.bytes (file_at failing.name old) (file_at failing.name new)
  pub others : KeepsOthers (failing ∷ saved) old new

-- ---- how far saves come; where nothing is saved, no file is changed

abbrev pub HaveSaved : List Saving → (held held' : Option Held) → Type 0
HaveSaved [] held held' = held' ≡ held
HaveSaved (s ∷ saved) held held' = ToldChange (AreSaved (s ∷ saved)) held held'

-- the first of these were saved, and no more
pub record HaveSavedSome (savings : List Saving) (held held' : Option Held) : Type 0 where
  pub saved : List Saving
  pub rest : List Saving
  pub in_order : savings ≡ saved ++ rest
  pub files : HaveSaved saved held held'

-- the first of these were saved, and the save of the next failed
pub record SaveFailed (savings : List Saving) (held held' : Option Held) (failed : List ℕ) (faults faults' : ℕ) : Type 0 where
  pub saved : List Saving
  pub failing : Saving
  pub rest : List Saving
  pub in_order : savings ≡ saved ++ failing ∷ rest
  pub files : ToldChange (AreSavedBut saved failing) held held'
  pub failed_name : failed ≡ failing.name
  pub rose : Rose faults faults'

-- the count of failed saves grows only where there is something to save
abbrev pub CountsSaves : List Saving → (faults faults' : ℕ) → Type 0
CountsSaves [] faults faults' = faults' ≡ faults
CountsSaves (s ∷ savings) faults faults' = Unit {0}
