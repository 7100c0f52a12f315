-- The texts of files, and their limits.
use Rattle.std.specs.Prelude.{ℕ, ◌<◌, ◌≤◌, ◌≡◌, ◌⊎◌, List, length, Option, None, Some, Result, Ok, Err, Vec}
use Rattle.std.specs.declared.alloc.Global.{Global}
use Rattle.dft_answers.specs.declared.answer.Code.TheVariants.{F1}
use Rattle.dft_answers.specs.declared.answer.Refusal.{Refusal}
use Rattle.dft_answers.specs.Refusals.{named}

-- a file is longer than its limit; the part is the name of the file's option
abbrev pub too_long : (option : List ℕ) → Refusal
too_long option = named F1 option

-- The length of a file is checked first, and then what its text gives. A file that is not held gives nothing.
abbrev pub FileGives : {A : Type 0} → (limit : ℕ) → (option : List ℕ) → (List ℕ → Result A Refusal → Type 0) → Option (List ℕ) → Result A Refusal → Type 0
FileGives limit option text_gives None r = ⊥
FileGives limit option text_gives (Some text) (Ok value) = (length text ≤ limit) × text_gives text (Ok value)
FileGives limit option text_gives (Some text) (Err refusal) =
    ((limit < length text) × (refusal ≡ too_long option)) ⊎ ((length text ≤ limit) × text_gives text (Err refusal))

-- a text gives its bytes, whatever they are
abbrev pub IsText : (text : List ℕ) → Result (Vec ℕ Global) Refusal → Type 0
IsText text (Ok bytes) = bytes.items ≡ text
IsText text (Err refusal) = ⊥
