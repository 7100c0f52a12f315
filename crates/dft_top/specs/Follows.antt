-- How a run follows the course of its command, up to the outcome.
use Rattle.std.specs.Prelude.{◌≡◌, [], Some, Result, Ok, Err}
use Rattle.dft_files.specs.Outside.{Held, Told, Rose}
use Rattle.dft_answers.specs.declared.outcome.Outcome.{Outcome}
use Rattle.dft_answers.specs.declared.outcome.Outcome.TheVariants as outcome
use Rattle.dft_answers.specs.declared.stop.Stop.{Stop}
use Rattle.dft_answers.specs.declared.stop.Stop.TheVariants.{Refused, ReadFault, OutOfMemory}
use Rattle.dft_answers.specs.Steps.{SeenFiles, seen_files}
use Rattle.dft_top.specs.Courses.{Course, Allows, Loads, Reaches, TurnComes}

-- an outcome, or a refusal, is one that this holds of
abbrev pub ComesTo : (Outcome → Type 0) → Result Outcome Stop → Type 0
ComesTo is (Ok o) = is o
ComesTo is (Err (Refused refusal)) = is (outcome.Refused refusal)
ComesTo is (Err ReadFault) = Unit {0}
ComesTo is (Err OutOfMemory) = Unit {0}

-- A load failed, of a file that the course loads and whose turn came.
pub record StopsAtLoad (course : Course) (before after : SeenFiles) : Type 0 where
  pub rose : Rose before.read_faults after.read_faults
  pub loaded : Loads course after.failed
  pub turn : Told (λ held. TurnComes course held after.failed) before.held

-- The outcome is one that the course allows, and the one that it reaches where the files are told; a fault is a failed load of the course. No file is
-- changed, and no save has failed or ended for want of memory.
pub record Follows (course : Course) (before after : SeenFiles) (result : Result Outcome Stop) : Type 0 where
  pub allowed : ComesTo (Allows course) result
  pub reached : ComesTo (λ o. Told (λ held. Reaches course held o) before.held) result
  pub fault : result ≡ Err ReadFault → StopsAtLoad course before after
  pub held : after.held ≡ before.held
  pub write_faults : after.write_faults ≡ before.write_faults
  pub short_saves : after.short_saves ≡ before.short_saves

-- these files are told, and no call was made
abbrev pub still : Held → SeenFiles
still held = seen_files (Some held) [] 0 0 0
