-- The table of printed names.
use Rattle.std.specs.Prelude.{ℕ, suc, ◌≡◌, List, [], ◌∷◌, Option, None, Some, slice_get, if◌then◌else◌}
use Rattle.std.specs.Str.{bytes_eq}
use Rattle.dft_netlist.specs.declared.named.Named.{Named}
use Rattle.dft_netlist.specs.declared.named.Named.TheVariants.{Net}
use Rattle.dft_netlist.specs.Netlist.{Netlist}
use Rattle.dft_netlist.specs.Names.{Names}
use Rattle.dft_base.specs.Lexing.{Text}

-- a name and what it stands for
abbrev pub Entry : Type 0
Entry = Text × Named

-- names and what they stand for, in order of adding, and how many more need no memory
pub record Store : Type 0 where
  pub entries : List Entry
  pub room : ℕ

-- the same, with the names of nets by their numbers
pub record Table : Type 0 where
  pub entries : List Entry
  pub nets : List Text
  pub room : ℕ

-- the name of an entry; past the end there is none
abbrev pub name_in : Option Entry → Text
name_in None = []
name_in (Some e) = e.0

abbrev pub name_at : List Entry → (place : ℕ) → Text
name_at entries place = name_in (slice_get entries place)

-- what a name stands for
abbrev pub look_up : List Entry → Text → Option Named
look_up [] name = None
look_up (e ∷ es) name = if bytes_eq name e.0 then Some e.1 else look_up es name

-- the table knows what each name stands for in the netlist
pub record Knows (entries : List Entry) (n : Netlist) : Type 0 where
  pub says : (name : Text) (named : Named) → look_up entries name ≡ Some named → Names n name named
  pub knows : (name : Text) (named : Named) → Names n name named → look_up entries name ≡ Some named

-- the entry of a name, if there is one
abbrev pub own_entries : Option Text → Named → List Entry
own_entries None named = []
own_entries (Some name) named = (name, named) ∷ []

-- the name, if there is one, is not in the table
abbrev pub IsFree : List Entry → Option Text → Type 0
IsFree entries None = Unit {0}
IsFree entries (Some name) = look_up entries name ≡ None

-- the entries of nets of these names, with numbers that go up from a number
abbrev pub net_entries : (from : ℕ) → List Text → List Entry
net_entries from [] = []
net_entries from (name ∷ names) = (name, Net (record { 0 = from })) ∷ net_entries (suc from) names

-- these names differ
abbrev pub AllDiffer : List Text → Type 0
AllDiffer names = (place other : ℕ) (name : Text) → slice_get names place ≡ Some name → slice_get names other ≡ Some name → place ≡ other

-- these names differ, and none is in the table
pub record AreNew (entries : List Entry) (names : List Text) : Type 0 where
  pub free : (place : ℕ) (name : Text) → slice_get names place ≡ Some name → look_up entries name ≡ None
  pub differ : AllDiffer names
