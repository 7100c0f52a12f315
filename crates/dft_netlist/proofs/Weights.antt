-- How much of an order is to be made.
use Rattle.std.proofs.Common.{◌≡◌, ℕ, zero, suc, ◌+◌, ◌<◌, List, [], ◌∷◌, Some, refl, arith, slice_get, slice_set}
use Rattle.std.proofs.Common.{length, cond, replicate}
use Rattle.dft_netlist.specs.Progress.{is_placed, placed_count}
use Rattle.dft_netlist.specs.declared.progress.State.{State}
use Rattle.dft_netlist.specs.declared.progress.State.TheVariants.{New, Walked, Placed}

-- a net is met, and then placed
abbrev pub steps_of : State → ℕ
steps_of New = 2
steps_of Walked = 1
steps_of Placed = 0

abbrev pub weight : List State → ℕ
weight [] = 0
weight (s ∷ states) = steps_of s + weight states

pub weight_set : (states : List State) (k : ℕ) (a b : State) → slice_get states k ≡ Some a → weight (slice_set states k b) + steps_of a ≡ weight states + steps_of b
weight_set [] k a b h = absurd (let f : ⊥ = cc in f)
weight_set (s ∷ states) zero a b h = let e : s ≡ a = cc in rw e (omega arith)
weight_set (s ∷ states) (suc k) a b h = let r = weight_set states k a b h in omega arith

pub weight_met : (states : List State) (k : ℕ) → slice_get states k ≡ Some New → weight (slice_set states k Walked) < weight states
weight_met states k h = let r = weight_set states k New Walked h in omega arith

pub weight_placed : (states : List State) (k : ℕ) → slice_get states k ≡ Some Walked → weight (slice_set states k Placed) < weight states
weight_placed states k h = let r = weight_set states k Walked Placed h in omega arith

-- ---- how many are placed

abbrev pub one_placed : State → ℕ
one_placed s = cond (is_placed (Some s)) 1 0

pub count_set : (states : List State) (k : ℕ) (a b : State) → slice_get states k ≡ Some a → placed_count (slice_set states k b) + one_placed a ≡ placed_count states + one_placed b
count_set [] k a b h = absurd (let f : ⊥ = cc in f)
count_set (s ∷ states) zero a b h = let e : s ≡ a = cc in rw e (omega arith)
count_set (s ∷ states) (suc k) a b h = let r = count_set states k a b h in omega arith

pub count_met : (states : List State) (k : ℕ) → slice_get states k ≡ Some New → placed_count (slice_set states k Walked) ≡ placed_count states
count_met states k h = let r = count_set states k New Walked h in omega arith

pub count_placed : (states : List State) (k : ℕ) → slice_get states k ≡ Some Walked → placed_count (slice_set states k Placed) ≡ placed_count states + 1
count_placed states k h = let r = count_set states k Walked Placed h in omega arith

pub count_none : (count : ℕ) → placed_count (replicate count New) ≡ 0
count_none zero = refl
count_none (suc count) = let r = count_none count in omega arith

pub count_all : (states : List State) → ((k : ℕ) → k < length states → slice_get states k ≡ Some Placed) → placed_count states ≡ length states
count_all [] h = refl
count_all (s ∷ states) h =
    let e : Some s ≡ Some Placed = h 0 (omega arith) in
    let same : s ≡ Placed = cc in
    let r = count_all states (λ k lt. h (suc k) (omega arith)) in
    rw same (omega arith)

pub all_new : (count k : ℕ) (s : State) → slice_get (replicate count New) k ≡ Some s → s ≡ New
all_new zero k s h = absurd (let f : ⊥ = cc in f)
all_new (suc count) zero s h = cc
all_new (suc count) (suc k) s h = all_new count k s h
