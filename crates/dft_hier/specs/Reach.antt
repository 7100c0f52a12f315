-- Which modules stand below which, by their numbers: a graph gives for each module the modules that it has instances of.
use Rattle.std.specs.Prelude.{ℕ, ◌≡◌, ◌<◌, ◌≤◌, List, [], length, take, Some, slice_get, slice_index_or}
use Rattle.std.specs.List.{All}

abbrev pub Graph : Type 0
Graph = List (List ℕ)

-- each is one of so many modules
abbrev pub AreBelow : (count : ℕ) → List ℕ → Type 0
AreBelow count numbers = All (λ (n : ℕ). n < count) numbers

abbrev pub AreWithin : (count : ℕ) → Graph → Type 0
AreWithin count g = All (λ (numbers : List ℕ). AreBelow count numbers) g

-- a number stands among others
pub record StandsIn (numbers : List ℕ) (number : ℕ) : Type 0 where
  pub place : ℕ
  pub at : slice_get numbers place ≡ Some number

-- the modules that a module has instances of
abbrev pub children_at : Graph → (number : ℕ) → List ℕ
children_at g number = slice_index_or g number []

-- a list of instances leads from a module down to another
pub data Leads (g : Graph) : (above below : ℕ) → Type 0 where
  Child : {above below : ℕ} → StandsIn (children_at g above) below → Leads g above below
  Deeper : {above between below : ℕ} → StandsIn (children_at g above) between → Leads g between below → Leads g above below

-- no module stands below itself
abbrev pub NoCircle : Graph → Type 0
NoCircle g = (number : ℕ) → Leads g number number → ⊥

-- some module does
pub record HasCircle (g : Graph) : Type 0 where
  pub number : ℕ
  pub leads : Leads g number number

-- this is the first that does
pub record IsFirstOnCircle (g : Graph) (first : ℕ) : Type 0 where
  pub live : first < length g
  pub leads : Leads g first first
  pub before : (number : ℕ) → number < first → Leads g number number → ⊥

-- every module stands in the order, behind all that it has instances of
pub record IsOrder (g : Graph) (order : List ℕ) : Type 0 where
  pub whole : (number : ℕ) → number < length g → StandsIn order number
  pub after : (place number child : ℕ) → slice_get order place ≡ Some number → StandsIn (children_at g number) child → StandsIn (take place order) child

-- ---- numbers that modules below each other share

-- no module has a higher number than those of its instances
abbrev pub NeverFalls : Graph → (numbers : List ℕ) → Type 0
NeverFalls g numbers = (number child : ℕ) → StandsIn (children_at g number) child → slice_index_or numbers number 0 ≤ slice_index_or numbers child 0

-- a module has an instance of a module of its own number
pub record HasOwn (g : Graph) (numbers : List ℕ) (number : ℕ) : Type 0 where
  pub child : ℕ
  pub below : StandsIn (children_at g number) child
  pub same : slice_index_or numbers number 0 ≡ slice_index_or numbers child 0
