-- What is put of an outcome.
use Rattle.std.specs.Prelude.{ℕ, ◌≡◌, ◌⊎◌, List, Option}
use Rattle.dft_files.specs.Outside.{Rose}
use Rattle.dft_files.specs.Put.{Adds, AddsPrefix}
use Rattle.dft_answers.specs.declared.answer.Answer.{Answer}
use Rattle.dft_answers.specs.declared.answer.Status.TheVariants.{WriteFault, OutOfMemory}
use Rattle.dft_answers.specs.declared.outcome.Outcome.{Outcome}
use Rattle.dft_answers.specs.Answers.{answer_of, stopped}
use Rattle.dft_answers.specs.Lines.{line_of}

-- what is printed of an outcome: its line, or a prefix of it where the outside fails, or nothing where memory runs out in the put
abbrev pub Prints : Outcome → (faults faults' short short' : ℕ) → (old new : Option (List ℕ)) → Answer → Type 0
Prints o faults faults' short short' old new answer =
    ((answer ≡ answer_of o) × Adds (line_of o) old new)
    ⊎ (Rose faults faults' × AddsPrefix (line_of o) old new × (answer ≡ stopped WriteFault))
    ⊎ (Rose short short' × (new ≡ old) × (answer ≡ stopped OutOfMemory))
