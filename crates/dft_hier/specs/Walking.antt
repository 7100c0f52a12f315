-- Where a walk down through modules stands.
use Rattle.std.specs.Prelude.{ℕ, ◌≡◌, ◌<◌, ◌⊎◌, true, false, List, [], ◌∷◌, length, take, reverse, Some, slice_get}
use Rattle.dft_hier.specs.declared.descent.State.{State}
use Rattle.dft_hier.specs.declared.descent.State.TheVariants.{New, Walked, Finished}
use Rattle.dft_hier.specs.declared.descent.Visit.{Visit}
use Rattle.dft_hier.specs.Reach.{Graph, StandsIn, HasCircle, children_at}
use Rattle.dft_hier.specs.Descents.{Stand}

-- the way stands here with its last module first

-- a module is on the way
abbrev pub IsOn : (back : List Visit) → (number : ℕ) → Type 0
IsOn [] number = ⊥
IsOn (v ∷ back) number = (v.number ≡ number) ⊎ IsOn back number

-- the last module of the way has an instance of this one
abbrev pub LeadsTo : Graph → (back : List Visit) → (number : ℕ) → Type 0
LeadsTo g [] number = Unit {0}
LeadsTo g (v ∷ back) number = StandsIn (children_at g v.number) number

-- the modules of the instances before the next one were met
abbrev pub SawBefore : Graph → List State → Visit → Type 0
SawBefore g states v = (place child : ℕ) → place < v.next → slice_get (children_at g v.number) place ≡ Some child → slice_get states child ≡ Some New → ⊥

-- each module of the way has an instance of the one behind it
abbrev pub IsWay : Graph → List State → (back : List Visit) → Type 0
IsWay g states [] = Unit {0}
IsWay g states (v ∷ back) = (v.number < length g) × SawBefore g states v × LeadsTo g back v.number × IsWay g states back

-- what is finished is in the order, and what is on the way is walked; each module stands behind those below it, or some module is below itself
pub record IsWalking (g : Graph) (s : Stand) : Type 0 where
  pub count : length s.states ≡ length g
  pub way : IsWay g s.states (reverse s.way)
  pub walked : (number : ℕ) → slice_get s.states number ≡ Some Walked → IsOn (reverse s.way) number
  pub finished : (number : ℕ) → slice_get s.states number ≡ Some Finished → StandsIn s.order number
  pub live : (place number : ℕ) → slice_get s.order place ≡ Some number → number < length g
  pub circle : s.circle ≡ true → HasCircle g
  pub after : s.circle ≡ false → (place number child : ℕ) → slice_get s.order place ≡ Some number → StandsIn (children_at g number) child → StandsIn (take place s.order) child

-- no module is on the way, and those before this one were met
pub record IsWalkedTo (g : Graph) (number : ℕ) (s : Stand) : Type 0 where
  pub walking : IsWalking g s
  pub none : s.way ≡ []
  pub before : (other : ℕ) → other < number → slice_get s.states other ≡ Some New → ⊥
