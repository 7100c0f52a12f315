-- Courses that are followed: what a step, and what a stop, makes of all that comes behind.
use Rattle.std.proofs.Common.{ℕ, ◌≡◌, ◌∙◌, inl, inr, arith, List, Option, None, Some, Result, Ok, Err, refl, sym, ap, subst}
use Rattle.dft_files.specs.Outside.{Held, Told, file_at}
use Rattle.dft_answers.specs.declared.answer.Refusal.{Refusal}
use Rattle.dft_answers.specs.declared.outcome.Outcome.{Outcome}
use Rattle.dft_answers.specs.declared.outcome.Outcome.TheVariants as outcome
use Rattle.dft_answers.specs.declared.stop.Stop.{Stop}
use Rattle.dft_answers.specs.declared.stop.Stop.TheVariants.{Refused, ReadFault, OutOfMemory}
use Rattle.dft_answers.specs.Texts.{FileGives}
use Rattle.dft_answers.specs.Steps.{IsGiven, IsGivenTold, LoadFails, SeenFiles, Takes}
use Rattle.dft_cells.specs.declared.cell.Cell.{Cell}
use Rattle.dft_cells.specs.Standard.{standard_cells}
use Rattle.dft_answers.proofs.TextSteps.{no_fault}
use Rattle.dft_top.specs.Checks.{LibraryGives}
use Rattle.dft_top.specs.Courses.{Allows, Course, End, Reaches, Step, TurnComes}
use Rattle.dft_top.specs.Follows.{ComesTo, Follows, still}

-- ---- what a value makes of what comes behind

value_allows : {A : Type 0} (name : Option (List ℕ)) (gives : Held → Result A Refusal → Type 0) (next : A → Course) (value : A) (r : Result Outcome Stop) → ComesTo (Allows (next value)) r → ComesTo (Allows (Step name gives next)) r
value_allows name gives next value (Ok o) comes = inl (value, comes)
value_allows name gives next value (Err (Refused refusal)) comes = inl (value, comes)
value_allows name gives next value (Err ReadFault) comes = tt
value_allows name gives next value (Err OutOfMemory) comes = tt

value_reaches : {A : Type 0} (name : Option (List ℕ)) (gives : Held → Result A Refusal → Type 0) (next : A → Course) (held : Option Held) (value : A) (r : Result Outcome Stop) → IsGivenTold gives held (Ok value) →
    ComesTo (λ o. Told (λ h. Reaches (next value) h o) held) r → ComesTo (λ o. Told (λ h. Reaches (Step name gives next) h o) held) r
value_reaches name gives next None value (Ok o) given comes = tt
value_reaches name gives next None value (Err (Refused refusal)) given comes = tt
value_reaches name gives next None value (Err ReadFault) given comes = tt
value_reaches name gives next None value (Err OutOfMemory) given comes = tt
value_reaches name gives next (Some h) value (Ok o) given comes = inl (value, (given, comes))
value_reaches name gives next (Some h) value (Err (Refused refusal)) given comes = inl (value, (given, comes))
value_reaches name gives next (Some h) value (Err ReadFault) given comes = tt
value_reaches name gives next (Some h) value (Err OutOfMemory) given comes = tt

value_turns : {A : Type 0} (name : Option (List ℕ)) (gives : Held → Result A Refusal → Type 0) (next : A → Course) (held : Option Held) (value : A) (failed : List ℕ) → IsGivenTold gives held (Ok value) →
    Told (λ h. TurnComes (next value) h failed) held → Told (λ h. TurnComes (Step name gives next) h failed) held
value_turns name gives next None value failed given turn = tt
value_turns name gives next (Some h) value failed given turn = inr (value, (given, turn))

-- a step gave a value, and what comes behind was followed
pub step_follows : {A : Type 0} (name : Option (List ℕ)) (gives : Held → Result A Refusal → Type 0) (next : A → Course) (before mid after : SeenFiles) (value : A) (r : Result Outcome Stop) →
    Takes name gives before mid (Ok value) → Follows (next value) mid after r → Follows (Step name gives next) before after r
step_follows name gives next before mid after value r taken behind = record {
  allowed = value_allows name gives next value r behind.allowed;
  reached = value_reaches name gives next before.held value r taken.given (subst (λ (held : Option Held). ComesTo (λ o. Told (λ h. Reaches (next value) h o) held) r) taken.held behind.reached);
  fault = λ is. record {
    rose = (let rose = (behind.fault is).rose in omega (arith, taken.read_faults, rose));
    loaded = inr (value, (behind.fault is).loaded);
    turn = value_turns name gives next before.held value after.failed taken.given (subst (λ (held : Option Held). Told (λ h. TurnComes (next value) h after.failed) held) taken.held (behind.fault is).turn);
  };
  held = behind.held ∙ taken.held;
  write_faults = behind.write_faults ∙ taken.write_faults;
  short_saves = behind.short_saves ∙ taken.short_saves;
}

-- ---- what a stop makes of all

stop_allows : {A : Type 0} (name : Option (List ℕ)) (gives : Held → Result A Refusal → Type 0) (next : A → Course) (stop : Stop) → ComesTo (Allows (Step name gives next)) (Err stop)
stop_allows name gives next (Refused refusal) = inr (refusal, refl)
stop_allows name gives next ReadFault = tt
stop_allows name gives next OutOfMemory = tt

stop_reaches : {A : Type 0} (name : Option (List ℕ)) (gives : Held → Result A Refusal → Type 0) (next : A → Course) (held : Option Held) (stop : Stop) → IsGivenTold gives held (Err stop) →
    ComesTo (λ o. Told (λ h. Reaches (Step name gives next) h o) held) (Err stop)
stop_reaches name gives next None (Refused refusal) given = tt
stop_reaches name gives next None ReadFault given = tt
stop_reaches name gives next None OutOfMemory given = tt
stop_reaches name gives next (Some h) (Refused refusal) given = inr (refusal, (given, refl))
stop_reaches name gives next (Some h) ReadFault given = tt
stop_reaches name gives next (Some h) OutOfMemory given = tt

named_turn : {A : Type 0} (name : Option (List ℕ)) (gives : Held → Result A Refusal → Type 0) (next : A → Course) (held : Option Held) (failed : List ℕ) → name ≡ Some failed → Told (λ h. TurnComes (Step name gives next) h failed) held
named_turn name gives next None failed named = tt
named_turn name gives next (Some h) failed named = inl named

fault_of : {A B : Type 0} (r : Result A Stop) (t : Result B Stop) (stop : Stop) → r ≡ Err stop → t ≡ Err stop → r ≡ Err ReadFault → t ≡ Err ReadFault
fault_of r t stop is same fault = let e : stop ≡ ReadFault = (let d = sym is ∙ fault in cc) in same ∙ ap Err e

-- a step stopped
pub stop_follows : {A : Type 0} (name : Option (List ℕ)) (gives : Held → Result A Refusal → Type 0) (next : A → Course) (before after : SeenFiles) (stop : Stop) (r : Result Outcome Stop) →
    r ≡ Err stop → Takes name gives before after (Err stop) → Follows (Step name gives next) before after r
stop_follows {A} name gives next before after stop r is taken =
    let end : Result A Stop = Err stop in record {
      allowed = subst (ComesTo (Allows (Step name gives next))) (sym is) (stop_allows name gives next stop);
      reached = subst (ComesTo (λ o. Told (λ h. Reaches (Step name gives next) h o) before.held)) (sym is) (stop_reaches name gives next before.held stop taken.given);
      fault = λ same.
          let fails : LoadFails name before after = taken.fault (fault_of r end stop is refl same) in record {
            rose = fails.rose;
            loaded = inl fails.named;
            turn = named_turn name gives next before.held after.failed fails.named;
          };
      held = taken.held;
      write_faults = taken.write_faults;
      short_saves = taken.short_saves;
    }

-- ---- the end

comes_told : (is : Outcome → Type 0) (held : Option Held) (r : Result Outcome Stop) → ComesTo is r → ComesTo (λ o. Told (λ h. is o) held) r
comes_told is None (Ok o) comes = tt
comes_told is None (Err (Refused refusal)) comes = tt
comes_told is None (Err ReadFault) comes = tt
comes_told is None (Err OutOfMemory) comes = tt
comes_told is (Some h) (Ok o) comes = comes
comes_told is (Some h) (Err (Refused refusal)) comes = comes
comes_told is (Some h) (Err ReadFault) comes = tt
comes_told is (Some h) (Err OutOfMemory) comes = tt

-- what comes of the last values, with no call
pub end_follows : (is : Outcome → Type 0) (seen : SeenFiles) (r : Result Outcome Stop) → (r ≡ Err ReadFault → ⊥) → ComesTo is r → Follows (End is) seen seen r
end_follows is seen r quiet comes = record {
  allowed = comes;
  reached = comes_told is seen.held r comes;
  fault = λ same. absurd (quiet same);
  held = refl;
  write_faults = refl;
  short_saves = refl;
}

-- a course that is made of the same value
pub same_follows : {X : Type 0} (course : X → Course) (a b : X) (before after : SeenFiles) (r : Result Outcome Stop) → a ≡ b → Follows (course a) before after r → Follows (course b) before after r
same_follows {X} course a b before after r same follows = subst (λ (x : X). Follows (course x) before after r) same follows

-- where memory runs out, with no call
pub short_follows : (course : Course) (seen : SeenFiles) (r : Result Outcome Stop) → r ≡ Err OutOfMemory → Follows course seen seen r
short_follows course seen r short =
    subst (Follows course seen seen) (sym short) (record { allowed = tt; reached = tt; fault = λ is. absurd (let e = is in cc); held = refl; write_faults = refl; short_saves = refl })

-- ---- steps that load nothing

given_told : {A : Type 0} (gives : Result A Refusal → Type 0) (held : Option Held) (r : Result A Stop) → IsGiven gives r → IsGivenTold (λ h. gives) held r
given_told gives None (Ok value) given = tt
given_told gives None (Err (Refused refusal)) given = tt
given_told gives None (Err ReadFault) given = tt
given_told gives None (Err OutOfMemory) given = tt
given_told gives (Some h) (Ok value) given = given
given_told gives (Some h) (Err (Refused refusal)) given = given
given_told gives (Some h) (Err ReadFault) given = tt
given_told gives (Some h) (Err OutOfMemory) given = tt

-- what is given whatever is held
pub given_takes : {A : Type 0} (gives : Result A Refusal → Type 0) (seen : SeenFiles) (r : Result A Stop) → IsGiven gives r → Takes None (λ h. gives) seen seen r
given_takes gives seen r given = record {
  given = given_told gives seen.held r given;
  fault = λ is. absurd (no_fault gives r given is);
  held = refl;
  read_faults = omega arith;
  write_faults = refl;
  short_saves = refl;
}

file_told : {A : Type 0} (limit : ℕ) (option : List ℕ) (gives : List ℕ → Result A Refusal → Type 0) (name text : List ℕ) (held : Held) (r : Result A Stop) →
    file_at name held ≡ Some text → IsGiven (FileGives limit option gives (Some text)) r → IsGivenTold (λ h. FileGives limit option gives (file_at name h)) (Some held) r
file_told limit option gives name text held (Ok value) at given = rw at given
file_told limit option gives name text held (Err (Refused refusal)) at given = rw at given
file_told limit option gives name text held (Err ReadFault) at given = tt
file_told limit option gives name text held (Err OutOfMemory) at given = tt

-- a text that is given as if it were a file
pub file_takes : {A : Type 0} (limit : ℕ) (option : List ℕ) (gives : List ℕ → Result A Refusal → Type 0) (name text : List ℕ) (held : Held) (r : Result A Stop) →
    file_at name held ≡ Some text → IsGiven (FileGives limit option gives (Some text)) r → Takes (Some name) (λ h. FileGives limit option gives (file_at name h)) (still held) (still held) r
file_takes limit option gives name text held r at given = record {
  given = file_told limit option gives name text held r at given;
  fault = λ is. absurd (no_fault (FileGives limit option gives (Some text)) r given is);
  held = refl;
  read_faults = omega arith;
  write_faults = refl;
  short_saves = refl;
}

-- the library where none is named
pub library_takes : (held : Held) (cells : List Cell) → cells ≡ standard_cells → Takes None (LibraryGives None) (still held) (still held) (Ok cells)
library_takes held cells is = record { given = is; fault = λ same. absurd cc; held = refl; read_faults = omega arith; write_faults = refl; short_saves = refl }

-- where no call was made, no load failed
pub still_quiet : (course : Course) (held : Held) (r : Result Outcome Stop) → Follows course (still held) (still held) r → r ≡ Err ReadFault → ⊥
still_quiet course held r follows is = let rose = (follows.fault is).rose in omega (arith, rose)

-- ---- outcomes that a course allows

-- what holds of each outcome at an end
abbrev pub EndsSo : (Outcome → Type 0) → Course → Type 0
EndsSo P (Step {A} name gives next) = (value : A) → EndsSo P (next value)
EndsSo P (End is) = (o : Outcome) → is o → P o

-- what holds of each refusal and of each outcome at an end, holds of all that the course allows
pub allowed_so : (P : Outcome → Type 0) (course : Course) (o : Outcome) → ((refusal : Refusal) → P (outcome.Refused refusal)) → EndsSo P course → Allows course o → P o
allowed_so P (Step name gives next) o refused ends (inl x) = allowed_so P (next x.0) o refused (ends x.0) x.1
allowed_so P (Step name gives next) o refused ends (inr x) = subst P (sym x.1) (refused x.0)
allowed_so P (End is) o refused ends x = ends o x

-- what it reaches it allows
pub reaches_allows : (course : Course) (held : Held) (o : Outcome) → Reaches course held o → Allows course o
reaches_allows (Step name gives next) held o (inl x) = inl (x.0, reaches_allows (next x.0) held o x.1.1)
reaches_allows (Step name gives next) held o (inr x) = inr (x.0, x.1.1)
reaches_allows (End is) held o x = x
