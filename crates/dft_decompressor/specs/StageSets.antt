-- Sets of stages of a ring, and what they become from cycle to cycle.
use Rattle.std.specs.Prelude.{ℕ, zero, suc, ◌+◌, ◌-◌, ◌%◌, ◌==◌, Bool, true, false, not, ◌&&◌, List, [], ◌∷◌, length, map, flat_map, get_or}
use Rattle.std.specs.List.{list_any, range_with_len}
use Rattle.dft_base.specs.Solutions.{bit_at, xor}
use Rattle.dft_config.specs.declared.config.Tap.{Tap}
use Rattle.dft_config.specs.Range.{has}
use Rattle.dft_config.specs.Ring.{sum_of}

-- the set of these stages, as a bit for each stage
abbrev pub bits_of : (stages : ℕ) → (set : List ℕ) → List Bool
bits_of stages set = map (λ stage. list_any (λ other. other == stage) set) (range_with_len 0 stages)

-- Without channel bits, the sum over a set after a step is the sum over the moved set before it. The moved set is the sum of the
-- stages after those of the set, and of the stages where the taps leave that enter the set.
abbrev pub moved_bit : List Tap → (set : List Bool) → (stage : ℕ) → Bool
moved_bit taps set stage = xor (bit_at set ((stage + (length set - 1)) % length set)) (sum_of (λ tap. (tap.from == stage) && bit_at set tap.to) taps)

abbrev pub moved : List Tap → (set : List Bool) → List Bool
moved taps set = map (moved_bit taps set) (range_with_len 0 (length set))

-- a set, and the sets that it becomes when it is moved so many times
abbrev pub moves_from : List Tap → (times : ℕ) → (set : List Bool) → List (List Bool)
moves_from taps zero set = set ∷ []
moves_from taps (suc times) set = set ∷ moves_from taps times (moved taps set)

-- a set, and what it becomes in as many cycles as there are stages
abbrev pub moves_of : (stages : ℕ) → List Tap → (set : List ℕ) → List (List Bool)
moves_of stages taps set = moves_from taps stages (bits_of stages set)

-- whether two sets are the same
abbrev pub same_set : List Bool → List Bool → Bool
same_set [] [] = true
same_set [] (b ∷ more) = false
same_set (a ∷ rest) [] = false
same_set (a ∷ rest) (b ∷ more) = not (xor a b) && same_set rest more

-- the first of some moves, which is the set itself
abbrev pub set_itself : List (List Bool) → List Bool
set_itself moves = get_or moves 0 []

-- two sets are apart where neither becomes the other in as many cycles as there are stages
abbrev pub are_apart : (moves others : List (List Bool)) → Bool
are_apart moves others = not (has same_set moves (set_itself others)) && not (has same_set others (set_itself moves))

-- ---- sets of three stages

-- those with these first two stages, in rising order
abbrev pub threes_with : (stages first second : ℕ) → List (List ℕ)
threes_with stages first second = map (λ third. first ∷ second ∷ third ∷ []) (range_with_len (second + 1) (stages - (second + 1)))

-- those with this first stage
abbrev pub threes_after : (stages first : ℕ) → List (List ℕ)
threes_after stages first = flat_map (threes_with stages first) (range_with_len (first + 1) (stages - (first + 1)))

-- all sets of three stages, each written in rising order, in lexicographic order
unfoldable pub threes : (stages : ℕ) → List (List ℕ)
threes stages = flat_map (threes_after stages) (range_with_len 0 stages)
