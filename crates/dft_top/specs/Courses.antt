-- What a command does up to its outcome: it loads one file after another, each of which gives a value by its checks or is refused.
use Rattle.std.specs.Prelude.{ℕ, ◌≡◌, ◌⊎◌, List, Option, Some, Result, Ok, Err}
use Rattle.dft_files.specs.Outside.{Held}
use Rattle.dft_answers.specs.declared.answer.Refusal.{Refusal}
use Rattle.dft_answers.specs.declared.outcome.Outcome.{Outcome}
use Rattle.dft_answers.specs.declared.outcome.Outcome.TheVariants.{Refused}

-- ---- one file after another

-- Where a file gives a value, what comes behind gives the outcome; a refusal is the outcome.
abbrev pub Then : {A : Type 0} → (Result A Refusal → Type 0) → (A → Outcome → Type 0) → Outcome → Type 0
Then {A} gives next o =
    ((value : A) × (gives (Ok value) × next value o))
    ⊎ ((refusal : Refusal) × (gives (Err refusal) × (o ≡ Refused refusal)))

-- the file gives a value, of which this holds
abbrev pub After : {A : Type 0} → (Result A Refusal → Type 0) → (A → Type 0) → Type 0
After {A} gives next = (value : A) × (gives (Ok value) × next value)

-- ---- courses

-- A step gives a value or is refused, by what is held, and has the name of the file that it loads, where it loads one; what follows
-- depends on the value. At the end it comes to an outcome.
pub data Course : Type 1 where
  Step : {A : Type 0} → (name : Option (List ℕ)) → (gives : Held → Result A Refusal → Type 0) → (next : A → Course) → Course
  End : (Outcome → Type 0) → Course

-- the outcome of what is held: a refusal of the first step that gives no value, or what it comes to at the end
abbrev pub Reaches : Course → Held → Outcome → Type 0
Reaches (Step name gives next) held o = Then (gives held) (λ value. Reaches (next value) held) o
Reaches (End is) held o = is o

-- an outcome that it may come to, whatever its steps give
abbrev pub Allows : Course → Outcome → Type 0
Allows (Step {A} name gives next) o = ((value : A) × Allows (next value) o) ⊎ ((refusal : Refusal) × (o ≡ Refused refusal))
Allows (End is) o = is o

-- a step loads the file with this name
abbrev pub Loads : Course → (name : List ℕ) → Type 0
Loads (Step {A} loads gives next) name = (loads ≡ Some name) ⊎ ((value : A) × Loads (next value) name)
Loads (End is) name = ⊥

-- The turn of the file with this name comes: no step before its load is refused.
abbrev pub TurnComes : Course → Held → (name : List ℕ) → Type 0
TurnComes (Step loads gives next) held name = (loads ≡ Some name) ⊎ After (gives held) (λ value. TurnComes (next value) held name)
TurnComes (End is) held name = ⊥

-- All checks pass: every step gives a value, and its end is no refusal.
abbrev pub IsPassing : Course → Held → Type 0
IsPassing (Step name gives next) held = After (gives held) (λ value. IsPassing (next value) held)
IsPassing (End is) held = (refusal : Refusal) → is (Refused refusal) → ⊥
