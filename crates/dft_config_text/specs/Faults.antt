-- Steps of a reading that may end in a fault.
use Rattle.std.specs.Prelude.{ℤ, Bool, true, false, List, ◌∷◌, Option, Some, None, Result, Ok, Err}
use Rattle.dft_config_text.specs.declared.fault.Key.{Key}
use Rattle.dft_config_text.specs.declared.fault.Fault.{Fault}
use Rattle.dft_config_text.specs.declared.fault.Fault.TheVariants as fault

-- a fault that is no want of memory
abbrev pub IsFault : Fault → Type 0
IsFault (fault.Missing k) = Unit {0}
IsFault (fault.Outside k z) = Unit {0}
IsFault (fault.Empty k) = Unit {0}
IsFault (fault.Repeated k) = Unit {0}
IsFault (fault.Unreached z) = Unit {0}
IsFault (fault.Unknown name) = Unit {0}
IsFault (fault.Memory a) = ⊥

-- what follows where there is something; otherwise the key is missing or holds something else
abbrev pub needed : {A B : Type 0} → Key → Option A → (A → Result B Fault) → Result B Fault
needed k None next = Err (fault.Missing k)
needed k (Some a) next = next a

-- what follows on a value, where there is no fault
abbrev pub after : {A B : Type 0} → Result A Fault → (A → Result B Fault) → Result B Fault
after (Ok a) next = next a
after (Err e) next = Err e

-- what is there; otherwise the number is outside the range of the key
abbrev pub or_outside : {A : Type 0} → Key → ℤ → Option A → Result A Fault
or_outside k z None = Err (fault.Outside k z)
or_outside k z (Some a) = Ok a

-- what follows where a check holds
abbrev pub checked : {B : Type 0} → Bool → Fault → Result B Fault → Result B Fault
checked true e next = next
checked false e next = Err e

-- a first value before the others; the first fault stays
abbrev pub cons_ok : {A : Type 0} → Result A Fault → Result (List A) Fault → Result (List A) Fault
cons_ok (Err e) rest = Err e
cons_ok (Ok x) rest = after rest (λ xs. Ok (x ∷ xs))

-- what follows where nothing is found that is refused
abbrev pub unless : {A B : Type 0} → Option A → (A → Fault) → Result B Fault → Result B Fault
unless None refused next = next
unless (Some a) refused next = Err (refused a)
