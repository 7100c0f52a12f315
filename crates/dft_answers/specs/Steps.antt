-- What a step of a command gives, where it may stop.
use Rattle.std.specs.Prelude.{ℕ, ◌≡◌, ◌≤◌, List, Option, Some, Result, Ok, Err}
use Rattle.dft_files.specs.Outside.{Held, Told, Rose}
use Rattle.dft_answers.specs.declared.answer.Refusal.{Refusal}
use Rattle.dft_answers.specs.declared.stop.Stop.{Stop}
use Rattle.dft_answers.specs.declared.stop.Stop.TheVariants.{Refused, ReadFault, OutOfMemory}

-- a refusal is such
abbrev pub OnRefused : {A : Type 0} → Result A Stop → (Refusal → Type 0) → Type 0
OnRefused (Ok value) P = Unit {0}
OnRefused (Err (Refused refusal)) P = P refusal
OnRefused (Err ReadFault) P = Unit {0}
OnRefused (Err OutOfMemory) P = Unit {0}

-- a value and a refusal are what checks give; nothing is loaded
abbrev pub IsGiven : {A : Type 0} → (Result A Refusal → Type 0) → Result A Stop → Type 0
IsGiven gives (Ok value) = gives (Ok value)
IsGiven gives (Err (Refused refusal)) = gives (Err refusal)
IsGiven gives (Err ReadFault) = ⊥
IsGiven gives (Err OutOfMemory) = Unit {0}

-- a value and a refusal are what checks give of the files that are told
abbrev pub IsGivenTold : {A : Type 0} → (Held → Result A Refusal → Type 0) → Option Held → Result A Stop → Type 0
IsGivenTold gives held (Ok value) = Told (λ h. gives h (Ok value)) held
IsGivenTold gives held (Err (Refused refusal)) = Told (λ h. gives h (Err refusal)) held
IsGivenTold gives held (Err ReadFault) = Unit {0}
IsGivenTold gives held (Err OutOfMemory) = Unit {0}

-- ---- with files

-- what is seen of files: those that are told, the name in the last call that failed, how many loads and saves have failed, and how many saves have ended
-- for want of memory
pub record SeenFiles : Type 0 where
  pub held : Option Held
  pub failed : List ℕ
  pub read_faults : ℕ
  pub write_faults : ℕ
  pub short_saves : ℕ

abbrev pub seen_files : (held : Option Held) → (failed : List ℕ) → (read_faults write_faults short_saves : ℕ) → SeenFiles
seen_files held failed read_faults write_faults short_saves = record {
  held = held;
  failed = failed;
  read_faults = read_faults;
  write_faults = write_faults;
  short_saves = short_saves;
}

-- a load of the file with this name failed
pub record LoadFails (name : Option (List ℕ)) (before after : SeenFiles) : Type 0 where
  pub rose : Rose before.read_faults after.read_faults
  pub named : name ≡ Some after.failed

-- A step takes the file with this name, or none: it gives what the checks give of the files that are told, and a fault is one of this file.
-- No file is changed, and no save has failed or ended for want of memory.
pub record Takes {A : Type 0} (name : Option (List ℕ)) (gives : Held → Result A Refusal → Type 0) (before after : SeenFiles) (result : Result A Stop) : Type 0 where
  pub given : IsGivenTold gives before.held result
  pub fault : result ≡ Err ReadFault → LoadFails name before after
  pub held : after.held ≡ before.held
  pub read_faults : before.read_faults ≤ after.read_faults
  pub write_faults : after.write_faults ≡ before.write_faults
  pub short_saves : after.short_saves ≡ before.short_saves
