-- How many cells groups have: each scanned cell counts in one group.
use Rattle.std.proofs.Common.{◌≡◌, ℕ, zero, suc, ◌+◌, ◌<◌, ◌≤◌, ◌==◌, Bool, true, false, List, [], ◌∷◌, length, flat_map, Option, None, Some, refl, arith}
use Rattle.std.specs.Prelude.{if◌then◌else◌}
use Rattle.std.specs.List.{filter_map, cons_option, range_with_len}
use Rattle.std.proofs.lemmas.Bool.Decides.{nat_tests}
use Rattle.std.proofs.lemmas.List.{length-append}
use Rattle.dft_netlist.specs.declared.ids.InstanceId.{InstanceId}
use Rattle.dft_rules.specs.declared.judged.Judged.{Judged}
use Rattle.dft_stitch.specs.declared.places.CellClock.{CellClock}
use Rattle.dft_stitch.specs.Chains.{cell_in, clock_of, group_of, if_group}

-- how often a clock is in a group, and in groups
pub in_one : (domains : ℕ) → Option CellClock → (group : ℕ) → ℕ
in_one domains None g = 0
in_one domains (Some clock) g = if group_of domains clock == g then 1 else 0

pub hits : (domains : ℕ) → Option CellClock → (groups : List ℕ) → ℕ
hits domains o [] = 0
hits domains o (g ∷ gs) = in_one domains o g + hits domains o gs

length_option : (domains : ℕ) (o : Option CellClock) (x : InstanceId) (g : ℕ) (rest : List InstanceId) → length (cons_option (if_group domains g o x) rest) ≡ in_one domains o g + length rest
unfolding in_one
length_option domains None x g rest = omega arith
length_option domains (Some clock) x g rest = by (group_of domains clock == g)
  where
    by : (b : Bool) → length (cons_option (if b then Some x else None) rest) ≡ (if b then 1 else 0) + length rest
    by true = omega arith
    by false = omega arith

-- the cells of these groups, of so many instances from one on
abbrev pub all_from : List (Option Judged) → (domains : ℕ) → (groups : List ℕ) → (from count : ℕ) → List InstanceId
all_from v domains gs from count = flat_map (λ g. filter_map (cell_in v domains g) (range_with_len from count)) gs

pub all_none : (v : List (Option Judged)) (domains : ℕ) (gs : List ℕ) (k : ℕ) → length (all_from v domains gs k 0) ≡ 0
all_none v domains [] k = refl
all_none v domains (g ∷ gs) k = all_none v domains gs k

pub all_more : (v : List (Option Judged)) (domains : ℕ) (gs : List ℕ) (k m : ℕ) → length (all_from v domains gs k (suc m)) ≡ hits domains (clock_of v (record { 0 = k })) gs + length (all_from v domains gs (k + 1) m)
unfolding hits
all_more v domains [] k m = omega arith
all_more v domains (g ∷ gs) k m =
    let o = clock_of v (record { 0 = k }) in
    let rest : List InstanceId = filter_map (cell_in v domains g) (range_with_len (k + 1) m) in
    let one = length_option domains o (record { 0 = k }) g rest in
    let left = length-append (filter_map (cell_in v domains g) (range_with_len k (suc m))) (all_from v domains gs k (suc m)) in
    let right = length-append rest (all_from v domains gs (k + 1) m) in
    omega (arith, one, left, right, all_more v domains gs k m)

-- ---- groups in their order

above : (e from : ℕ) → (e == from) ≡ false → from ≤ e → from + 1 ≤ e
above e from is le = grind (arith, nat_tests, is, le)

hits_by : (e from : ℕ) (rest : ℕ) (b : Bool) → (e == from) ≡ b → (from + 1 ≤ e → 1 ≤ rest) → from ≤ e → 1 ≤ (if b then 1 else 0) + rest
hits_by e from rest true is more low = omega arith
hits_by e from rest false is more low = (let h = more (above e from is low) in omega (arith, h))

pub hits_some : (domains : ℕ) (clock : CellClock) (from count : ℕ) → from ≤ group_of domains clock → group_of domains clock < from + count → 1 ≤ hits domains (Some clock) (range_with_len from count)
unfolding hits in_one
hits_some domains clock from zero low high = absurd (omega (arith, low, high))
hits_some domains clock from (suc count) low high =
    hits_by (group_of domains clock) from (hits domains (Some clock) (range_with_len (from + 1) count)) (group_of domains clock == from) refl
    (λ above_it. hits_some domains clock (from + 1) count above_it (omega (arith, high))) low

none_by : (e from rest : ℕ) (b : Bool) → (e == from) ≡ b → e < from → rest ≡ 0 → (if b then 1 else 0) + rest ≡ 0
none_by e from rest true is less none = absurd (let same : e ≡ from = grind (arith, nat_tests, is) in omega (arith, same, less))
none_by e from rest false is less none = omega (arith, none)

hits_none : (domains : ℕ) (clock : CellClock) (from count : ℕ) → group_of domains clock < from → hits domains (Some clock) (range_with_len from count) ≡ 0
unfolding hits in_one
hits_none domains clock from zero less = refl
hits_none domains clock from (suc count) less =
    none_by (group_of domains clock) from (hits domains (Some clock) (range_with_len (from + 1) count)) (group_of domains clock == from) refl less (hits_none domains clock (from + 1) count (omega (arith, less)))

most_by : (e from rest : ℕ) (b : Bool) → (e == from) ≡ b → (e ≡ from → rest ≡ 0) → rest ≤ 1 → (if b then 1 else 0) + rest ≤ 1
most_by e from rest true is none most = (let same : e ≡ from = grind (arith, nat_tests, is) in omega (arith, none same))
most_by e from rest false is none most = omega (arith, most)

pub hits_most : (domains : ℕ) (o : Option CellClock) (from count : ℕ) → hits domains o (range_with_len from count) ≤ 1
unfolding hits in_one
hits_most domains o from zero = omega arith
hits_most domains None from (suc count) = omega (arith, hits_most domains None (from + 1) count)
hits_most domains (Some clock) from (suc count) =
    most_by (group_of domains clock) from (hits domains (Some clock) (range_with_len (from + 1) count)) (group_of domains clock == from) refl
    (λ same. hits_none domains clock (from + 1) count (omega (arith, same))) (hits_most domains (Some clock) (from + 1) count)

pub hits_nothing : (domains : ℕ) (gs : List ℕ) → hits domains None gs ≡ 0
unfolding hits in_one
hits_nothing domains [] = refl
hits_nothing domains (g ∷ gs) = omega (arith, hits_nothing domains gs)
