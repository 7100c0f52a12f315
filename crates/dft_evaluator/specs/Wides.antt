-- What a net can be in each of 512 patterns, seen as three-valued bits.
use Rattle.std.specs.Prelude.{ℕ, Bool, true, false, not, ◌≡◌, ◌<◌, List, [], ◌∷◌, replicate, slice_index_or, if◌then◌else◌}
use Rattle.dft_base.specs.declared.tri.Tri.{Tri}
use Rattle.dft_base.specs.declared.tri.Tri.TheVariants.{Zero, One, Unknown}
use Rattle.dft_lanes.specs.declared.wide.Wide.{Wide}
pub use Rattle.dft_registers.specs.Values.{unknown_wide}
use Rattle.dft_lanes.specs.Choices.{can, is_same, some_choice_of_three}

-- whether a value can be this bit: Unknown can be both
abbrev pub may : Tri → Bool → Bool
may Zero bit = not bit
may One bit = bit
may Unknown bit = true

-- the value of what can be 0 and can be 1
abbrev pub value_of : (zero one : Bool) → Tri
value_of true false = Zero
value_of false true = One
value_of true true = Unknown
value_of false false = Unknown

-- a net's value in a pattern
abbrev pub value_in : Wide → (pattern : ℕ) → Tri
value_in wide pattern = value_of (can wide pattern false) (can wide pattern true)

-- the 512 patterns have these values
pub record IsWide (wide : Wide) (values : ℕ → Tri) : Type 0 where
  pub each : (pattern : ℕ) (bit : Bool) → pattern < 512 → can wide pattern bit ≡ may (values pattern) bit

-- what the net of a number can be, and past the end either
abbrev pub wide_at : List Wide → (net : ℕ) → Wide
wide_at wides net = slice_index_or wides net unknown_wide

-- the values of nets in a pattern
abbrev pub values_in : List Wide → (pattern net : ℕ) → Tri
values_in wides pattern net = value_in (wide_at wides net) pattern

-- each of these nets can be something in each of the 512 patterns
abbrev pub AreWides : List Wide → Type 0
AreWides wides = (net : ℕ) → IsWide (wide_at wides net) (λ pattern. values_in wides pattern net)

-- ---- a table

-- what a tree of choices gives: by the first input one of two trees over the others
abbrev pub tree : (List Bool → Bool) → List (Bool → Bool) → Bool → Bool
tree table [] value = is_same (table []) value
tree table (input ∷ inputs) value =
    some_choice_of_three (λ x y s. if s then y else x) (tree (λ bits. table (false ∷ bits)) inputs) (tree (λ bits. table (true ∷ bits)) inputs) input value
