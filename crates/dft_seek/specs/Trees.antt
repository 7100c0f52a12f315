-- The tree of a search: each node gives bits to the first variables, and a node that is neither found nor dead goes on with the next one, 0 first.
use Rattle.std.specs.Prelude.{ℕ, Bool, true, false, not, ◌&&◌, ◌||◌, ◌==◌, ◌+◌, ◌≡◌, List, [], ◌∷◌, ◌++◌, Option, None, Some, if◌then◌else◌}
use Rattle.std.specs.List.{list_all, list_any}
use Rattle.dft_base.specs.declared.tri.Tri.{Tri}
use Rattle.dft_base.specs.declared.tri.Tri.TheVariants.{Zero, One}
use Rattle.dft_expect.specs.Loaded.{or_unknown}
use Rattle.dft_seek.specs.Searches.{AreBoth, Both, Given, Point, Search, agree, detects_at, faulty_at, good_at, has_falling}
use Rattle.dft_seek.specs.Walks.{Cone, Variable, Cell, Port}

-- ---- nodes

abbrev pub same_variable : Variable → Variable → Bool
same_variable (Cell c) (Cell d) = c == d
same_variable (Cell c) (Port d) = false
same_variable (Port c) (Cell d) = false
same_variable (Port c) (Port d) = c == d

-- the bit that a node gives a variable
abbrev pub bit_for : List Variable → (bits : List Bool) → Variable → Option Bool
bit_for [] bits v = None
bit_for (w ∷ ws) [] v = None
bit_for (w ∷ ws) (bit ∷ bits) v = if same_variable w v then Some bit else bit_for ws bits v

-- the assignment of a node: the first variables have these bits, and no other cell or port has one
abbrev pub node_at : List Variable → (bits : List Bool) → Given
node_at vs bits = record { cells = λ c. or_unknown (bit_for vs bits (Cell c)); ports = λ net. or_unknown (bit_for vs bits (Port net)) }

-- every variable has a bit
abbrev pub is_whole : List Variable → (bits : List Bool) → Bool
is_whole [] bits = true
is_whole (v ∷ vs) [] = false
is_whole (v ∷ vs) (bit ∷ bits) = is_whole vs bits

-- ---- what a node is

-- a value is known to be this bit
abbrev pub is_bit : Bool → Tri → Bool
is_bit false Zero = true
is_bit true One = true
is_bit _ _ = false

-- In the good capture the stuck net is known to have the fault's value: before the clock rises and, where the domain has a falling scanned cell, also
-- before it falls.
abbrev pub site_stays : Search → Both → Bool
site_stays s b = is_bit s.fault.value (b.good.first s.fault.net.0) && (not (has_falling s) || is_bit s.fault.value (b.good.second s.fault.net.0))

-- the two values at a point are known and the same
abbrev pub agrees_at : Search → Given → Both → Point → Bool
agrees_at s g b point = agree (good_at s g b point) (faulty_at s g b point)

pub data Verdict : Type 0 where
  Found : Verdict
  Dead : Verdict
  Open : Verdict

abbrev pub verdict_of : (found dead : Bool) → Verdict
verdict_of true dead = Found
verdict_of false true = Dead
verdict_of false false = Open

-- some reached point detects the fault
abbrev pub is_found : Search → Cone → (bits : List Bool) → Both → Bool
is_found s cone bits b = list_any (detects_at s (node_at cone.variables bits) b) cone.points

-- the stuck net stays at the fault's value, or all reached points agree, or every variable has a bit
abbrev pub is_dead : Search → Cone → (bits : List Bool) → Both → Bool
is_dead s cone bits b = site_stays s b || (list_all (agrees_at s (node_at cone.variables bits) b) cone.points || is_whole cone.variables bits)

-- A node is found, or else dead, or else the search goes on from it.
pub record Looks (s : Search) (cone : Cone) (bits : List Bool) (v : Verdict) : Type 0 where
  pub both : Both
  pub are : AreBoth s (node_at cone.variables bits) both
  pub is : verdict_of (is_found s cone bits both) (is_dead s cone bits both) ≡ v

-- ---- the tree below a node

-- The dead nodes before the first found one, depth first, and that one; or all dead nodes, and None.
pub data Tree (s : Search) (cone : Cone) : (bits : List Bool) → (dead : ℕ) → (found : Option (List Bool)) → Type 0 where
  Hit : {bits : List Bool} → Looks s cone bits Found → Tree s cone bits 0 (Some bits)
  Miss : {bits : List Bool} → Looks s cone bits Dead → Tree s cone bits 1 None
  Left : {bits : List Bool} {dead : ℕ} {found : List Bool} → Looks s cone bits Open → Tree s cone (bits ++ false ∷ []) dead (Some found) → Tree s cone bits dead (Some found)
  Right : {bits : List Bool} {dead more : ℕ} {found : Option (List Bool)} → Looks s cone bits Open → Tree s cone (bits ++ false ∷ []) dead None → Tree s cone (bits ++ true ∷ []) more found → Tree s cone bits (dead + more) found
