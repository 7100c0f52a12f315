-- Stamps of bits: the same bits have the same stamp.
use Rattle.std.specs.Prelude.{ℕ, ◌+◌, ◌*◌, ◌%◌, ◌^◌, Bool, List, [], ◌∷◌, if◌then◌else◌}

-- a stamp that is carried on by one more bit
abbrev pub carried : (stamp : ℕ) → (bit : Bool) → ℕ
carried stamp bit = if bit then (stamp * 3 % 2 ^ 64 + 1) % 2 ^ 64 else stamp * 3 % 2 ^ 64

abbrev pub stamp_from : (stamp : ℕ) → (set : List Bool) → ℕ
stamp_from stamp [] = stamp
stamp_from stamp (bit ∷ rest) = stamp_from (carried stamp bit) rest

-- the stamp of a set
abbrev pub stamp_of : (set : List Bool) → ℕ
stamp_of set = stamp_from 0 set
