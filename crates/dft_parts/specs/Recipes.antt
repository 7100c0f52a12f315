-- Recipes: lists of parts that name the nets that they make, and what it is to make one.
use Rattle.std.specs.Prelude.{ℕ, suc, ◌+◌, ◌<◌, ◌≡◌, Bool, List, [], ◌∷◌, ◌++◌, length, map, Option, None, Some, Result, Ok, Err, slice_index_or}
use Rattle.std.specs.List.{All, range_with_len}
use Rattle.dft_cells.specs.declared.kind.Kind.{Kind}
use Rattle.dft_cells.specs.declared.kind.Gate.{Gate as GateKind}
use Rattle.dft_cells.specs.declared.cell.Cell.{Cell}
use Rattle.dft_netlist.specs.declared.ids.NetId.{NetId}
use Rattle.dft_netlist.specs.declared.ids.InstanceId.{InstanceId}
use Rattle.dft_netlist.specs.declared.instance.CellRef.{CellRef}
use Rattle.dft_netlist.specs.declared.instance.CellRef.TheVariants.{Library, Gate}
use Rattle.dft_netlist.specs.declared.instance.Signal.{Signal}
use Rattle.dft_netlist.specs.declared.instance.Signal.TheVariants.{Net}
use Rattle.dft_netlist.specs.declared.error.NetlistError.{NetlistError}
use Rattle.dft_netlist.specs.declared.error.NetlistError.TheVariants.{MultipleDrivers, Loop, DuplicateName, TooMany, Memory}
use Rattle.dft_netlist.specs.Netlist.{Netlist}
use Rattle.dft_parts.specs.Parts.{Part, ANet, AnInstance, APin, Making, with_parts, parts_refusal}
use Rattle.dft_parts.specs.Cells.{is_dff, is_lockup, first_cell, pins_between}

-- where a recipe begins: the cells at hand, and the number of the next net
pub record Start : Type 0 where
  pub library : List Cell
  pub next : ℕ

-- parts to be made, one after another, and a value: the nets that later parts refer to
pub record Given (A : Type 0) : Type 0 where
  pub parts : List Part
  pub value : A

abbrev pub Recipe : Type 0 → Type 0
Recipe A = Start → Given A

-- ---- one recipe behind another

-- how many nets are among parts
abbrev pub nets_in : List Part → ℕ
nets_in [] = 0
nets_in (ANet ∷ parts) = suc (nets_in parts)
nets_in (AnInstance cell pins ∷ parts) = nets_in parts
nets_in (APin instance pin net ∷ parts) = nets_in parts

-- where the recipe behind these parts begins
abbrev pub behind : Start → List Part → Start
behind at parts = record at { next = at.next + nets_in parts }

abbrev pub followed_by : {A B : Type 0} → Start → Given A → (A → Recipe B) → Given B
followed_by at first f = let later = f first.value (behind at first.parts) in record { parts = first.parts ++ later.parts; value = later.value }

infixl 10 ◌>>=◌
abbrev pub ◌>>=◌ : {A B : Type 0} → Recipe A → (A → Recipe B) → Recipe B
r >>= f = λ at. followed_by at (r at) f

infixl 10 ◌>>◌
abbrev pub ◌>>◌ : {A B : Type 0} → Recipe A → Recipe B → Recipe B
r >> q = r >>= (λ _. q)

-- the recipe of nothing
abbrev pub pure : {A : Type 0} → A → Recipe A
pure a = λ at. record { parts = []; value = a }

-- a recipe for each of these, one after another
unfoldable pub each : {X : Type 0} → (X → Recipe (Unit {0})) → List X → Recipe (Unit {0})
each f [] = pure tt
each f (x ∷ xs) = do
  f x
  each f xs

-- the same, with what they give
unfoldable pub collect : {X A : Type 0} → (X → Recipe A) → List X → Recipe (List A)
collect f [] = pure []
collect f (x ∷ xs) = do
  first ← f x
  more ← collect f xs
  pure (first ∷ more)

-- the net at a place of a list
abbrev pub net_at : List NetId → (place : ℕ) → NetId
net_at nets place = slice_index_or nets place (record { 0 = 0 })

-- ---- single parts

-- a net
abbrev pub a_net : Recipe NetId
a_net = λ at. record { parts = ANet ∷ []; value = record { 0 = at.next } }

-- so many nets
abbrev pub nets_made : (count : ℕ) → Recipe (List NetId)
nets_made count = collect (λ _. a_net) (range_with_len 0 count)

abbrev pub an_instance : CellRef → List Signal → Recipe (Unit {0})
an_instance cell pins = λ at. record { parts = AnInstance cell pins ∷ []; value = tt }

abbrev pub at_nets : List NetId → List Signal
at_nets nets = map (λ net. Net net) nets

-- a gate primitive (IEEE 1364) between nets that are there
abbrev pub a_gate : GateKind → (inputs : List NetId) → (output : NetId) → Recipe (Unit {0})
a_gate kind inputs output = an_instance (Gate kind (length inputs)) (at_nets inputs ++ Net output ∷ [])

-- the first cell of the library whose kind passes a test, between nets that are there
abbrev pub a_store : (Kind → Bool) → (clock input output : NetId) → Recipe (Unit {0})
a_store test clock input output = λ at. let cell = first_cell test at.library in an_instance (Library cell) (pins_between at.library cell clock input output) at

-- the library's first flip-flop without reset, its inverted output left open
abbrev pub a_flop : (clock input output : NetId) → Recipe (Unit {0})
a_flop clock input output = a_store is_dff clock input output

-- the library's first lock-up
abbrev pub a_lockup : (clock input output : NetId) → Recipe (Unit {0})
a_lockup clock input output = a_store is_lockup clock input output

-- an open pin is joined to a net
abbrev pub a_pin : InstanceId → (pin : ℕ) → NetId → Recipe (Unit {0})
a_pin instance pin net = λ at. record { parts = APin instance pin net ∷ []; value = tt }

-- ---- making

-- each of these nets is there
abbrev pub AreThere : Netlist → List NetId → Type 0
AreThere n nets = All (λ net. net.0 < length n.nets) nets

-- the next recipe begins behind a netlist
abbrev pub start_of : Making → Start
start_of s = record { library = s.netlist.library; next = length s.netlist.nets }

abbrev pub unless_refused : {A : Type 0} → Option NetlistError → A → Making → Result (A × Making) NetlistError
unless_refused None value new = Ok (value, new)
unless_refused (Some error) value new = Err error

-- what comes of making the parts of a recipe: its value and the netlist with all of them, or the refusal of the first part that is refused
unfoldable pub outcome : {A : Type 0} → Recipe A → Making → Result (A × Making) NetlistError
outcome r s = let given = r (start_of s) in unless_refused (parts_refusal s given.parts) given.value (with_parts s given.parts)

-- this refusal, unless memory runs out
abbrev pub IsRefusal : {T : Type 0} → Result T NetlistError → NetlistError → Type 0
IsRefusal made (MultipleDrivers name) = made ≡ Err (MultipleDrivers name)
IsRefusal made (Loop name) = made ≡ Err (Loop name)
IsRefusal made (DuplicateName name) = made ≡ Err (DuplicateName name)
IsRefusal made (TooMany what limit) = made ≡ Err (TooMany what limit)
IsRefusal made (Memory error) = Unit {0}

-- the outcome of a recipe, its value seen by view, or its refusal; nothing where memory runs out
abbrev pub Makes : {X A : Type 0} → (X → A) → Recipe A → (old : Making) → Result X NetlistError → (new : Making) → Type 0
Makes view r old (Ok x) new = outcome r old ≡ Ok (view x, new)
Makes view r old (Err error) new = IsRefusal (outcome r old) error
