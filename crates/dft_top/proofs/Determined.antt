-- Courses whose steps give one thing each.
use Rattle.std.proofs.Common.{◌≡◌, Result, Ok, subst}
use Rattle.dft_files.specs.Outside.{Held}
use Rattle.dft_answers.specs.declared.answer.Refusal.{Refusal}
use Rattle.dft_answers.specs.declared.outcome.Outcome.{Outcome}
use Rattle.dft_answers.specs.declared.outcome.Outcome.TheVariants.{Refused}
use Rattle.dft_top.specs.Courses.{Course, End, IsPassing, Reaches, Step}
use Rattle.dft_top.proofs.Readings.{given_next, then_one}

-- each step gives one value or one refusal at most, and its end comes to one outcome
abbrev pub IsDetermined : Course → Held → Type 0
IsDetermined (Step {A} name gives next) held = ((r s : Result A Refusal) → gives held r → gives held s → r ≡ s) × ((value : A) → gives held (Ok value) → IsDetermined (next value) held)
IsDetermined (End is) held = (a b : Outcome) → is a → is b → a ≡ b

pub reaches_one : (course : Course) (held : Held) (a b : Outcome) → IsDetermined course held → Reaches course held a → Reaches course held b → a ≡ b
reaches_one (Step name gives next) held a b one x y =
    then_one (gives held) (λ value. Reaches (next value) held) a b one.0 (λ value given p q. reaches_one (next value) held a b (one.1 value given) p q) x y
reaches_one (End is) held a b one x y = one a b x y

-- where it passes, no refusal is its outcome
pub passing_reaches : (course : Course) (held : Held) (o : Outcome) (refusal : Refusal) → IsDetermined course held → IsPassing course held → Reaches course held o → o ≡ Refused refusal → ⊥
passing_reaches (Step name gives next) held o refusal one passing x is =
    passing_reaches (next passing.0) held o refusal (one.1 passing.0 passing.1.0) passing.1.1 (given_next (gives held) (λ value. Reaches (next value) held) o passing.0 one.0 passing.1.0 x) is
passing_reaches (End outcome) held o refusal one passing x is = passing refusal (subst outcome is x)
