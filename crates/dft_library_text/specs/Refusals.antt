-- Steps of a reading that may end in a flaw of a cell or in a refusal of the library.
use Rattle.std.specs.Prelude.{ℕ, Bool, true, false, List, ◌∷◌, Option, Some, None, Result, Ok, Err}
use Rattle.dft_base.specs.Names.{printable}
use Rattle.dft_library_text.specs.declared.refusal.Flaw.{Flaw}
use Rattle.dft_library_text.specs.declared.refusal.Flaw.TheVariants as flaw
use Rattle.dft_library_text.specs.declared.refusal.LibraryError.{LibraryError}
use Rattle.dft_library_text.specs.declared.refusal.LibraryError.TheVariants as error

-- the flaw, or the refusal, is no want of memory
abbrev pub IsFlaw : Flaw → Type 0
IsFlaw flaw.Keys = Unit {0}
IsFlaw flaw.Kind = Unit {0}
IsFlaw flaw.Pins = Unit {0}
IsFlaw flaw.Reserved = Unit {0}
IsFlaw (flaw.Memory a) = ⊥

abbrev pub IsRefusal : LibraryError → Type 0
IsRefusal error.NotToml = Unit {0}
IsRefusal (error.L1 name) = Unit {0}
IsRefusal (error.L2 name) = Unit {0}
IsRefusal (error.L3 name) = Unit {0}
IsRefusal (error.L4 name) = Unit {0}
IsRefusal (error.L5 name) = Unit {0}
IsRefusal (error.L7 name) = Unit {0}
IsRefusal (error.Memory a) = ⊥

-- the refusal, or want of memory, is one that a table may get
abbrev pub IsOfTable : LibraryError → Type 0
IsOfTable error.NotToml = ⊥
IsOfTable (error.L1 name) = Unit {0}
IsOfTable (error.L2 name) = Unit {0}
IsOfTable (error.L3 name) = Unit {0}
IsOfTable (error.L4 name) = Unit {0}
IsOfTable (error.L5 name) = Unit {0}
IsOfTable (error.L7 name) = Unit {0}
IsOfTable (error.Memory a) = Unit {0}

-- what follows where there is something; otherwise the error
abbrev pub needed : {E A B : Type 0} → E → Option A → (A → Result B E) → Result B E
needed e None next = Err e
needed e (Some a) next = next a

-- what follows where a check holds; otherwise the error
abbrev pub checked : {E B : Type 0} → Bool → E → Result B E → Result B E
checked true e next = next
checked false e next = Err e

-- what follows on a value, where there is no error
abbrev pub after : {E A B : Type 0} → Result A E → (A → Result B E) → Result B E
after (Ok a) next = next a
after (Err e) next = Err e

-- a first value before the others; the first error stays
abbrev pub cons_ok : {E A : Type 0} → Result A E → Result (List A) E → Result (List A) E
cons_ok (Err e) rest = Err e
cons_ok (Ok x) rest = after rest (λ xs. Ok (x ∷ xs))

-- the refusal of a cell with a flaw: its name is shown
abbrev pub refusal_of : List ℕ → Flaw → LibraryError
refusal_of name flaw.Keys = error.L7 (printable name)
refusal_of name flaw.Kind = error.L1 (printable name)
refusal_of name flaw.Pins = error.L2 (printable name)
refusal_of name flaw.Reserved = error.L3 (printable name)
refusal_of name (flaw.Memory a) = error.Memory a
