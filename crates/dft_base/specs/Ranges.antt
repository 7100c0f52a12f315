-- The range of a vector, `[left:right]`, and the indices of its bits (IEEE 1364).
use Rattle.std.specs.Prelude.{ℕ, zero, suc, ◌-◌, Bool, ◌&&◌, List, [], ◌∷◌, if◌then◌else◌, nat_le}
use Rattle.dft_base.specs.declared.place.Range.{Range}

-- so many numbers from one on, each greater by one than the one before, or less by one
abbrev pub going_up : (from count : ℕ) → List ℕ
going_up from zero = []
going_up from (suc count) = from ∷ going_up (suc from) count

abbrev pub going_down : (from count : ℕ) → List ℕ
going_down from zero = []
going_down from (suc count) = from ∷ going_down (from - 1) count

-- whether the indices of a range fall
abbrev pub falls : Range → Bool
falls r = nat_le r.right r.left

-- how many bits a range has
abbrev pub width : Range → ℕ
width r = suc (if falls r then r.left - r.right else r.right - r.left)

-- the indices of a range, its left one first
abbrev pub indices_of : Range → List ℕ
indices_of range = if nat_le range.left range.right then going_up range.left (suc (range.right - range.left)) else going_down range.left (suc (range.left - range.right))

-- whether a range has a bit with this index
abbrev pub has_index : Range → ℕ → Bool
has_index r index = if falls r then nat_le r.right index && nat_le index r.left else nat_le r.left index && nat_le index r.right

-- the place of the bit with this index, counted from the left
abbrev pub place_in : Range → ℕ → ℕ
place_in r index = if falls r then r.left - index else index - r.left

-- whether a part lies in a range and goes its way
abbrev pub has_part : Range → Range → Bool
has_part r part = has_index r part.left && has_index r part.right && nat_le (place_in r part.left) (place_in r part.right)
