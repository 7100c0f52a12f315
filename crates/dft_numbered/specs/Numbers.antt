-- Names with numbers, and the number of the first of a list of names.
use Rattle.std.specs.Prelude.{ℕ, suc, ◌≡◌, List, [], ◌∷◌, ◌++◌, Option, None, Some, if◌then◌else◌}
use Rattle.std.specs.Str.{bytes_eq}
use Rattle.dft_base.specs.Lexing.{Text}

-- a name and a number
abbrev pub Entry : Type 0
Entry = Text × ℕ

-- the number that stands at a name
abbrev pub look_up : List Entry → (name : Text) → Option ℕ
look_up [] name = None
look_up (e ∷ entries) name = if bytes_eq e.0 name then Some e.1 else look_up entries name

-- a name more, unless something stands at it
abbrev pub noted_by : Option ℕ → List Entry → (name : Text) → (number : ℕ) → List Entry
noted_by None entries name number = entries ++ (name, number) ∷ []
noted_by (Some first) entries name number = entries

abbrev pub noted : List Entry → (name : Text) → (number : ℕ) → List Entry
noted entries name number = noted_by (look_up entries name) entries name number

-- the number of the first of these names that is this one, where the first of them all has this number
abbrev pub first_from : (number : ℕ) → List Text → (name : Text) → Option ℕ
first_from number [] name = None
first_from number (n ∷ names) name = if bytes_eq n name then Some number else first_from (suc number) names name

-- at each name stands the number of the first that has it
abbrev pub Finds : List Entry → List Text → Type 0
Finds entries names = (name : Text) → look_up entries name ≡ first_from 0 names name
