-- A walk down through modules: how far each is, the way to the last that was met, and those that are finished.
use Rattle.std.specs.Prelude.{ℕ, ◌+◌, Bool, true, false, not, ◌||◌, List, [], ◌∷◌, ◌++◌, Option, None, Some, slice_get, slice_set, if◌then◌else◌}
use Rattle.std.specs.List.{list_all}
use Rattle.dft_hier.specs.declared.descent.State.{State}
use Rattle.dft_hier.specs.declared.descent.State.TheVariants.{New, Walked, Finished}
use Rattle.dft_hier.specs.declared.descent.Visit.{Visit}

-- the way has its last module last; whether a module was found that is below itself
pub record Stand : Type 0 where
  pub states : List State
  pub way : List Visit
  pub order : List ℕ
  pub circle : Bool

abbrev pub is_new : Option State → Bool
is_new (Some New) = true
is_new _ = false

abbrev pub is_finished : Option State → Bool
is_finished (Some Finished) = true
is_finished _ = false

-- the way goes on to this module
abbrev pub entered : Stand → (number : ℕ) → Stand
entered s number = record s { states = slice_set s.states number Walked; way = s.way ++ record { number = number; next = 0 } ∷ [] }

-- if it was not met
abbrev pub met : Stand → (number : ℕ) → Stand
met s number = if is_new (slice_get s.states number) then entered s number else s

-- these are finished
abbrev pub are_finished : List State → List ℕ → Bool
are_finished states numbers = list_all (λ number. is_finished (slice_get states number)) numbers

-- a module comes next in the order, behind those below it or not
abbrev pub left : Stand → (number : ℕ) → (behind : Bool) → Stand
left s number behind = record {
  states = slice_set s.states number Finished;
  way = s.way;
  order = s.order ++ number ∷ [];
  circle = s.circle || not behind;
}

-- one step from a module that was taken from the way: into its next instance, or back
abbrev pub stepped_to : Stand → Visit → (children : List ℕ) → Option ℕ → Stand
stepped_to s visit children None = left s visit.number (are_finished s.states children)
stepped_to s visit children (Some child) = met (record s { way = s.way ++ record { number = visit.number; next = visit.next + 1 } ∷ [] }) child

abbrev pub stepped : Stand → Visit → (children : List ℕ) → Stand
stepped s visit children = stepped_to s visit children (slice_get children visit.next)
