-- How the views of a pulse are found: lock-ups by rounds, then next values.
use Rattle.std.specs.Prelude.{map, ℕ, Bool, true, false, ◌≡◌, ◌<◌, ◌==◌, List, Option, None, Some, get_or, length, slice_index_or, if◌then◌else◌}
use Rattle.dft_base.specs.declared.tri.Tri.{Tri}
use Rattle.dft_base.specs.Tri.{join, AboveTri}
use Rattle.dft_netlist.specs.declared.ids.NetId.{NetId}
use Rattle.dft_netlist.specs.Drivers.{Source}
use Rattle.dft_behavior.specs.Logic.{Logic, Lockup, Cell}
use Rattle.dft_behavior.specs.Settled.{value_from}
use Rattle.dft_cycle.specs.declared.phases.Search.{Search}
use Rattle.dft_cycle.specs.declared.phases.Room.{Room}
use Rattle.dft_abstract.specs.Cycle.{next_value, changes, IsClosed}
use Rattle.dft_abstract.specs.Cycle as Cycle
use Rattle.dft_logic.specs.Values.{value_at}
pub use Rattle.dft_takings.specs.Ranks.{rank_of}
pub use Rattle.dft_logic.specs.Circuit.{taken_at, next_at}
use Rattle.dft_logic.specs.Tables.{list_at}
use Rattle.dft_netlist.specs.Orders.{Has}
use Rattle.dft_logic.specs.Circuit.{Circuit, cell_of, cell_at, logic_at, latch_at, flag_at}
use Rattle.dft_takings.specs.Views.{IsReady}

-- ---- a flip-flop and a lock-up, from the values of a view

-- its value after the view of a domain: its next value where the domain is its own
abbrev pub next_by : Cell → (domain : ℕ) → (ports values : ℕ → Tri) → (old : Tri) → Tri
next_by cell d ports values old = if cell.domain == d then next_at cell ports values else old

-- what a lock-up is held at after the view of a domain: its input's value where the domain is its own
abbrev pub held_by : Option (ℕ × Source) → (domain : ℕ) → (values : ℕ → Tri) → (old : Tri) → Tri
held_by None d values old = old
held_by (Some latch) d values old = if latch.0 == d then value_from values latch.1 else old

-- ---- rounds over the domains

-- one of the first clocks is this net
pub record Among (clocks : List NetId) (count net : ℕ) : Type 0 where
  pub place : ℕ
  pub before : place < count
  pub here : (slice_index_or clocks place (record { 0 = 0 })).0 ≡ net

-- lock-ups whose nets have lower ranks are held at their inputs in the views of their domains
abbrev pub IsHeld : Circuit → (view : ℕ → ℕ → Tri) → (held : List Tri) → (rank : ℕ) → Type 0
IsHeld x view held r = (net c e : ℕ) (high : Bool) (source : Source) → (logic_at x).net net ≡ Lockup c e high source → rank_of x net < r → value_at held c ≡ value_from (view e) source

-- each lock-up's domain is one of these clocks
abbrev pub OwnsLatches : Circuit → List NetId → Type 0
OwnsLatches x clocks = (c e : ℕ) (high : Bool) (source : Source) → latch_at x.latches c ≡ Some (e, source) → Among clocks (length clocks) e

-- each flip-flop whose domain is pulsed and one of the first clocks has its next value
abbrev pub HasNext : Circuit → Cycle.Pulse → (view : ℕ → ℕ → Tri) → List NetId → (count : ℕ) → (next : List Tri) → Type 0
HasNext x p view clocks count next =
    (c : ℕ) → c < length x.flops → p.pulsed ((logic_at x).cell c).domain ≡ true → Among clocks count ((logic_at x).cell c).domain → value_at next c ≡ next_value (logic_at x) p view c

-- every domain that pulses is one of the clocks
abbrev pub PulsesAmong : List Bool → List NetId → Type 0
PulsesAmong pulsed clocks = (e : ℕ) → flag_at pulsed e ≡ true → Among clocks (length clocks) e

-- ---- the least map

-- the map, with the next value joined where the flip-flop takes one
abbrev pub raised_by : (up : Bool) → (next old : Tri) → Tri
raised_by up next old = if up then join old next else old

-- a map stays below all closed maps
abbrev pub StaysBelow : Logic → Cycle.Pulse → (poss raised : List Tri) → Type 0
StaysBelow l p poss raised =
    (other : ℕ → Tri) (its : ℕ → ℕ → Tri) → IsClosed l p other its → ((c : ℕ) → AboveTri (other c) (value_at poss c)) → (c : ℕ) → AboveTri (other c) (value_at raised c)

-- these are the next values of the flip-flops that take one, and the map is above them
abbrev pub AreNext : Logic → Cycle.Pulse → (view : ℕ → ℕ → Tri) → (poss next : List Tri) → Type 0
AreNext l p view poss next =
    (c : ℕ) → changes l p c ≡ true → (value_at next c ≡ next_value l p view c) × AboveTri (value_at poss c) (next_value l p view c)

-- the search has an entry for each flip-flop
pub record IsSearch (x : Circuit) (search : Search) : Type 0 where
  pub poss : length search.poss.items ≡ length x.flops
  pub held : length search.held.items ≡ length x.flops
  pub next : length search.next.items ≡ length x.flops

-- the room has a place for each net and each instance; no net is marked, and all have their values from some sources
pub record IsRoom (x : Circuit) (room : Room) : Type 0 where
  pub values : length room.values.items ≡ length x.ops
  pub search : IsSearch x room.search
  pub marked : length room.marked.items ≡ length x.ops
  pub clear : (k : ℕ) → flag_at room.marked.items k ≡ false
  pub ready : IsReady x room.values.items
  pub quick : length room.quick.items ≡ length x.ops

-- each cell of the domain takes its bit at a rise
abbrev pub Rises : Circuit → (domain : ℕ) → Type 0
Rises x e = (c : ℕ) → Has (list_at x.cells e) c → (cell_at (map cell_of x.flops) c).falling ≡ false

-- for each clock whether a cell of its domain may not
pub record AreFalling (x : Circuit) (clocks : List NetId) (falls : List Bool) : Type 0 where
  pub count : length falls ≡ length clocks
  pub rest : (place : ℕ) → place < length clocks → flag_at falls place ≡ false → Rises x (get_or clocks place (record { 0 = 0 })).0

-- one domain pulses at most, and there is no lock-up
pub record IsAlone (l : Logic) (pulsed : ℕ → Bool) : Type 0 where
  pub none : (net c e : ℕ) (high : Bool) (source : Source) → l.net net ≡ Lockup c e high source → ⊥
  pub one : (e f : ℕ) → pulsed e ≡ true → pulsed f ≡ true → e ≡ f
