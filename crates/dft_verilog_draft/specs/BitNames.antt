-- The indices of a vector's bits, by their places from the left.
use Rattle.std.specs.Prelude.{ℕ, ◌+◌, ◌-◌, nat_le, if◌then◌else◌}
use Rattle.dft_base.specs.declared.place.Range.{Range}

-- the index of the bit at this place from the left
abbrev pub index_at : Range → (place : ℕ) → ℕ
index_at r place = if nat_le r.left r.right then r.left + place else r.left - place
