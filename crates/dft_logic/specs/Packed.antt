-- Lists of numbers, packed one behind the other.
use Rattle.std.specs.Prelude.{ℕ, ◌≡◌, ◌≤◌, List, [], ◌∷◌, length, slice_range}
use Rattle.dft_logic.specs.declared.packed.Table.TheInside.{Inside}

-- the lists that end at these places, the first of which starts here
abbrev pub lists_from : (start : ℕ) → (ends numbers : List ℕ) → List (List ℕ)
lists_from start [] numbers = []
lists_from start (end ∷ ends) numbers = slice_range numbers start end ∷ lists_from end ends numbers

-- no list ends before it starts, and the last ends where all numbers do
abbrev pub AreEnds : (start : ℕ) → (ends : List ℕ) → (count : ℕ) → Type 0
AreEnds start [] count = start ≡ count
AreEnds start (end ∷ ends) count = (start ≤ end) × AreEnds end ends count

abbrev pub lists_of : Inside → List (List ℕ)
lists_of t = lists_from 0 t.ends.items t.numbers.items

abbrev pub IsPacked : Inside → Type 0
IsPacked t = AreEnds 0 t.ends.items (length t.numbers.items)
