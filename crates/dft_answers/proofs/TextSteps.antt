-- What a text gives, its file gives.
use Rattle.std.proofs.Common.{ℕ, ◌≡◌, inl, inr, List, Option, None, Some, Result, Ok, Err, subst, sym}
use Rattle.std.specs.Prelude.{Vec}
use Rattle.std.specs.declared.alloc.Global.{Global}
use Rattle.dft_files.specs.Outside.{Held, file_at}
use Rattle.dft_answers.specs.declared.answer.Refusal.{Refusal}
use Rattle.dft_answers.specs.declared.stop.Stop.{Stop}
use Rattle.dft_answers.specs.declared.stop.Stop.TheVariants.{Refused, ReadFault, OutOfMemory}
use Rattle.dft_answers.specs.Texts.{FileGives, IsText}
use Rattle.dft_answers.specs.Steps.{IsGiven, IsGivenTold, SeenFiles, Takes}

-- ---- loaded

file_gives : {A : Type 0} (limit : ℕ) (option : List ℕ) (gives : List ℕ → Result A Refusal → Type 0) (file : Option (List ℕ)) (bytes : Vec ℕ Global) (r : Result A Refusal) →
    FileGives limit option IsText file (Ok bytes) → gives bytes.items r → FileGives limit option gives file r
file_gives limit option gives None bytes r loaded given = absurd loaded
file_gives limit option gives (Some text) bytes (Ok value) loaded given = (loaded.0, subst (λ (t : List ℕ). gives t (Ok value)) loaded.1 given)
file_gives limit option gives (Some text) bytes (Err refusal) loaded given = inr (loaded.0, subst (λ (t : List ℕ). gives t (Err refusal)) loaded.1 given)

given_of : {A : Type 0} (limit : ℕ) (option : List ℕ) (gives : List ℕ → Result A Refusal → Type 0) (name : List ℕ) (held : Option Held) (bytes : Vec ℕ Global) (r : Result A Stop) →
    IsGivenTold (λ h. FileGives limit option IsText (file_at name h)) held (Ok bytes) → IsGiven (gives bytes.items) r → IsGivenTold (λ h. FileGives limit option gives (file_at name h)) held r
given_of limit option gives name None bytes (Ok value) loaded given = tt
given_of limit option gives name None bytes (Err (Refused refusal)) loaded given = tt
given_of limit option gives name None bytes (Err ReadFault) loaded given = tt
given_of limit option gives name None bytes (Err OutOfMemory) loaded given = tt
given_of limit option gives name (Some h) bytes (Ok value) loaded given = file_gives limit option gives (file_at name h) bytes (Ok value) loaded given
given_of limit option gives name (Some h) bytes (Err (Refused refusal)) loaded given = file_gives limit option gives (file_at name h) bytes (Err refusal) loaded given
given_of limit option gives name (Some h) bytes (Err ReadFault) loaded given = tt
given_of limit option gives name (Some h) bytes (Err OutOfMemory) loaded given = tt

file_stops : {A : Type 0} (limit : ℕ) (option : List ℕ) (gives : List ℕ → Result A Refusal → Type 0) (file : Option (List ℕ)) (refusal : Refusal) →
    FileGives limit option IsText file (Err refusal) → FileGives limit option gives file (Err refusal)
file_stops limit option gives None refusal loaded = absurd loaded
file_stops limit option gives (Some text) refusal (inl x) = inl x
file_stops limit option gives (Some text) refusal (inr x) = absurd x.1

stopped_of : {A : Type 0} (limit : ℕ) (option : List ℕ) (gives : List ℕ → Result A Refusal → Type 0) (name : List ℕ) (held : Option Held) (stop : Stop) →
    IsGivenTold (λ h. FileGives limit option IsText (file_at name h)) held (Err stop) → IsGivenTold (λ h. FileGives limit option gives (file_at name h)) held (Err stop)
stopped_of limit option gives name None (Refused refusal) loaded = tt
stopped_of limit option gives name None ReadFault loaded = tt
stopped_of limit option gives name None OutOfMemory loaded = tt
stopped_of limit option gives name (Some h) (Refused refusal) loaded = file_stops limit option gives (file_at name h) refusal loaded
stopped_of limit option gives name (Some h) ReadFault loaded = tt
stopped_of limit option gives name (Some h) OutOfMemory loaded = tt

pub no_fault : {A : Type 0} (gives : Result A Refusal → Type 0) (r : Result A Stop) → IsGiven gives r → r ≡ Err ReadFault → ⊥
no_fault gives (Ok value) given is = cc
no_fault gives (Err (Refused refusal)) given is = cc
no_fault gives (Err ReadFault) given is = given
no_fault gives (Err OutOfMemory) given is = cc

-- a text was loaded, and this is what it gives
pub text_takes : {A : Type 0} (limit : ℕ) (option : List ℕ) (gives : List ℕ → Result A Refusal → Type 0) (name text : List ℕ) (before after : SeenFiles) (bytes : Vec ℕ Global) (r : Result A Stop) →
    Takes (Some name) (λ h. FileGives limit option IsText (file_at name h)) before after (Ok bytes) → text ≡ bytes.items → IsGiven (gives text) r → Takes (Some name) (λ h. FileGives limit option gives (file_at name h)) before after r
text_takes limit option gives name text before after bytes r taken same given = record {
  given = given_of limit option gives name before.held bytes r taken.given (subst (λ (t : List ℕ). IsGiven (gives t) r) same given);
  fault = λ is. absurd (no_fault (gives text) r given is);
  held = taken.held;
  read_faults = taken.read_faults;
  write_faults = taken.write_faults;
  short_saves = taken.short_saves;
}

-- no text was loaded
pub text_stops : {A : Type 0} (limit : ℕ) (option : List ℕ) (gives : List ℕ → Result A Refusal → Type 0) (name : List ℕ) (before after : SeenFiles) (stop : Stop) (r : Result A Stop) →
    Takes (Some name) (λ h. FileGives limit option IsText (file_at name h)) before after (Err stop) → r ≡ Err stop → Takes (Some name) (λ h. FileGives limit option gives (file_at name h)) before after r
text_stops {A} limit option gives name before after stop r taken is =
    subst (λ (end : Result A Stop). Takes (Some name) (λ h. FileGives limit option gives (file_at name h)) before after end) (sym is)
    (record {
      given = stopped_of limit option gives name before.held stop taken.given;
      fault = λ same. taken.fault (let e = same in cc);
      held = taken.held;
      read_faults = taken.read_faults;
      write_faults = taken.write_faults;
      short_saves = taken.short_saves;
    })
