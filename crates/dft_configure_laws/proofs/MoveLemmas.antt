-- Sums over sets of stages from cycle to cycle.
use Rattle.std.proofs.Common.{ℕ, zero, suc, ◌≡◌, ◌<◌, ◌≤◌, ◌+◌, ◌-◌, ◌%◌, ◌==◌, Bool, true, false, true≢false, not, inl, inr, ◌&&◌, ◌||◌, List, [], ◌∷◌, length, get_or, refl, sym, ◌∙◌, ap, subst, arith}
use Rattle.std.specs.Prelude.{nat_lt}
use Rattle.std.specs.List.{All, list_any}
use Rattle.std.proofs.Math.Nat.{add-mod_right, mod-eq_of_lt}
use Rattle.std.proofs.lemmas.Bool.{and_parts, cases_Bool, eqb-true, or_from, or_parts}
use Rattle.std.proofs.lemmas.Bool.Decides.{nat_tests}
use Rattle.std.proofs.lemmas.List.{ext_get_or}
use Rattle.std.proofs.lemmas.List.FromFn.{get_or-map-range_with_len, length-map-range_with_len}
use Rattle.dft_base.specs.Solutions.{bit_at, sum_over, sum_to, xor}
use Rattle.dft_base.proofs.NumberLemmas.{same_number as number_same}
use Rattle.dft_base.proofs.SumLemmas.{sum_add, sum_one, sum_same, weighed, weighed_add, weighed_zero, xor_false}
use Rattle.dft_base.proofs.BitLemmas.{not_true}
use Rattle.dft_config.specs.declared.config.Tap.{Tap}
use Rattle.dft_config.specs.declared.config.RingConfig.{RingConfig}
use Rattle.dft_config.specs.Range.{IsSet, all_differ, has, same_number}
use Rattle.dft_config.specs.Ring.{step, sum_of, tapped}
use Rattle.dft_equations.proofs.ImpulseLemmas.{injected_none}
use Rattle.dft_decompressor.specs.StageSets.{bits_of, moved, moved_bit, moves_from, moves_of, same_set, set_itself}
use Rattle.dft_decompressor.proofs.SetLemmas.{same_is}
use Rattle.dft_configure_laws.specs.Moves.{ApartIsPlain, Foretells, HasItsTaps, MovesAreSums, move_of, quiet, quiet_after}

-- taps between the stages of a ring
abbrev AreWithin : (stages : ℕ) → List Tap → Type 0
AreWithin stages taps = All (λ (tap : Tap). (tap.from < stages) × (tap.to < stages)) taps

-- ---- around the ring

xor_past : (a b c : Bool) → xor a (xor b c) ≡ xor b (xor a c)
xor_past = grind arith

-- a sum from its first bit on
from_first : (n : ℕ) (f : ℕ → Bool) → sum_to (suc n) f ≡ xor (f 0) (sum_to n (λ k. f (suc k)))
from_first zero f = refl
from_first (suc n) f = ap (xor (f (suc n))) (from_first n f) ∙ xor_past (f (suc n)) (f 0) (sum_to n (λ k. f (suc k)))

next_mod : (n k : ℕ) → k < n → (k + 1) % suc n ≡ suc k
next_mod n k less = mod-eq_of_lt (omega arith) ∙ omega arith

last_mod : (n : ℕ) → (n + 1) % suc n ≡ 0
last_mod n = let whole : n + 1 ≡ 0 + suc n = omega arith in ap (λ (k : ℕ). k % suc n) whole ∙ add-mod_right 0 (suc n) ∙ mod-eq_of_lt (omega arith)

first_before : (n : ℕ) → (0 + (suc n - 1)) % suc n ≡ n
first_before n = let is : 0 + (suc n - 1) ≡ n = omega arith in ap (λ (k : ℕ). k % suc n) is ∙ mod-eq_of_lt (omega arith)

before_mod : (n k : ℕ) → k < n → (suc k + (suc n - 1)) % suc n ≡ k
before_mod n k less = let is : suc k + (suc n - 1) ≡ k + suc n = omega arith in ap (λ (m : ℕ). m % suc n) is ∙ add-mod_right k (suc n) ∙ mod-eq_of_lt (omega arith)

-- The sum over a set of what the next stages have is the sum over the next stages.
turned : (n : ℕ) (bits state : ℕ → Bool) → sum_to n (λ k. bits k && state ((k + 1) % n)) ≡ sum_to n (λ k. bits ((k + (n - 1)) % n) && state k)
turned zero bits state = refl
turned (suc n) bits state =
    (λ i. xor (bits n && state (last_mod n i)) (sum_same n (λ k. bits k && state ((k + 1) % suc n)) (λ k. bits k && state (suc k)) (λ k less. ap (λ (s : ℕ). bits k && state s) (next_mod n k less)) i))
    ∙ sym (from_first n (λ k. bits ((k + (suc n - 1)) % suc n) && state k)
    ∙ (λ i. xor (bits (first_before n i) && state 0)
    (sum_same n (λ k. bits ((suc k + (suc n - 1)) % suc n) && state (suc k)) (λ k. bits k && state (suc k)) (λ k less. ap (λ (s : ℕ). bits s && state (suc k)) (before_mod n k less)) i)))

-- ---- taps

and_swap : (a b c : Bool) → ((a && b) && c) ≡ (a && (c && b))
and_swap = grind arith

at_same : (b : Bool) (n : ℕ) → ((n == n) && b) ≡ b
at_same b n = ap (λ (e : Bool). e && b) (number_same n)

not_at : (b c : Bool) (m n : ℕ) → (n ≡ m → ⊥) → ((m == n) && b) && c ≡ false
not_at b c m n other = grind (arith, nat_tests)

-- a sum with one place
at_place : (n place : ℕ) (b : Bool) (state : ℕ → Bool) → place < n → weighed n state (λ k. (place == k) && b) ≡ b && state place
at_place n place b state less =
    sum_one n place (λ k. ((place == k) && b) && state k) less (λ c other. not_at b (state c) place c other) ∙ ap (λ (e : Bool). e && state place) (at_same b place)

and_comm : (a b : Bool) → (a && b) ≡ (b && a)
and_comm = grind arith

-- What the taps bring to a set is what they bring from the moved one.
tapped_same : (n : ℕ) (taps : List Tap) (bits state : ℕ → Bool) → AreWithin n taps → weighed n bits (tapped taps state) ≡ weighed n state (λ k. sum_of (λ (tap : Tap). (tap.from == k) && bits tap.to) taps)
tapped_same n [] bits state within = weighed_zero n bits ∙ sym (weighed_zero n state)
tapped_same n (tap ∷ taps) bits state within =
    let ends = within 0 tap (omega arith) in
    weighed_add n bits (λ k. (tap.to == k) && state tap.from) (tapped taps state)
    ∙ (λ i. xor
    ((at_place n tap.to (state tap.from) bits ends.1 ∙ and_comm (state tap.from) (bits tap.to) ∙ sym (at_place n tap.from (bits tap.to) state ends.0)) i)
    (tapped_same n taps bits state (λ k d less. within (suc k) d (omega arith)) i))
    ∙ sym (weighed_add n state (λ k. (tap.from == k) && bits tap.to) (λ k. sum_of (λ (other : Tap). (other.from == k) && bits other.to) taps))

-- ---- a cycle

parted : (a b c : Bool) → (a && xor b c) ≡ xor (a && b) (c && a)
parted = grind arith

-- what a stage takes
taken_by : (ring : RingConfig) (state : ℕ → Bool) (k : ℕ) → k < ring.stages → quiet ring state k ≡ xor (state ((k + 1) % ring.stages)) (tapped ring.taps state k)
unfolding step
taken_by ring state k less =
    let inside : nat_lt k ring.stages ≡ true = grind (arith, nat_tests) in
    (λ i. inside i && xor (state ((k + 1) % ring.stages)) (xor (tapped ring.taps state k) (injected_none ring.injectors k i)))
    ∙ ap (xor (state ((k + 1) % ring.stages))) (xor_false (tapped ring.taps state k))

-- a bit of the moved set
moved_at : (n : ℕ) (taps : List Tap) (set : List Bool) (k : ℕ) → length set ≡ n → k < n →
    bit_at (moved taps set) k ≡ xor (bit_at set ((k + (n - 1)) % n)) (sum_of (λ (tap : Tap). (tap.from == k) && bit_at set tap.to) taps)
moved_at n taps set k long less =
    get_or-map-range_with_len (moved_bit taps set) 0 (length set) k k false (omega arith) (omega arith)
    ∙ ap (λ (m : ℕ). xor (bit_at set ((k + (m - 1)) % m)) (sum_of (λ (tap : Tap). (tap.from == k) && bit_at set tap.to) taps)) long

sums_move : (ring : RingConfig) (set : List Bool) (state : ℕ → Bool) → AreWithin ring.stages ring.taps → length set ≡ ring.stages → sum_over ring.stages set (quiet ring state) ≡ sum_over ring.stages (moved ring.taps set) state
sums_move ring set state within long =
    let n = ring.stages in
    let next = λ (k : ℕ). bit_at set k && state ((k + 1) % n) in
    let before = λ (k : ℕ). bit_at set ((k + (n - 1)) % n) in
    let brought = λ (k : ℕ). sum_of (λ (tap : Tap). (tap.from == k) && bit_at set tap.to) ring.taps in
    sum_same n (λ k. bit_at set k && quiet ring state k) (λ k. xor (next k) (tapped ring.taps state k && bit_at set k))
    (λ k less. ap (λ (b : Bool). bit_at set k && b) (taken_by ring state k less) ∙ parted (bit_at set k) (state ((k + 1) % n)) (tapped ring.taps state k))
    ∙ sum_add n next (λ k. tapped ring.taps state k && bit_at set k)
    ∙ (λ i. xor (turned n (bit_at set) state i) (tapped_same n ring.taps (bit_at set) state within i))
    ∙ sym (weighed_add n state before brought)
    ∙ sum_same n (λ k. xor (before k) (brought k) && state k) (λ k. bit_at (moved ring.taps set) k && state k) (λ k less. ap (λ (b : Bool). b && state k) (sym (moved_at n ring.taps set k long less)))

-- ---- more cycles

moved_length : (taps : List Tap) (set : List Bool) → length (moved taps set) ≡ length set
moved_length taps set = length-map-range_with_len (moved_bit taps set) 0 (length set)

moves_sum_from : (ring : RingConfig) (state : ℕ → Bool) (cycles times : ℕ) (set : List Bool) → AreWithin ring.stages ring.taps → length set ≡ ring.stages → cycles ≤ times →
    sum_over ring.stages set (quiet_after ring state cycles) ≡ sum_over ring.stages (get_or (moves_from ring.taps times set) cycles []) state
moves_sum_from ring state zero zero set within long most = refl
moves_sum_from ring state zero (suc times) set within long most = refl
moves_sum_from ring state (suc cycles) zero set within long most = absurd (omega (arith, most))
moves_sum_from ring state (suc cycles) (suc times) set within long most =
    sums_move ring set (quiet_after ring state cycles) within long
    ∙ moves_sum_from ring state cycles times (moved ring.taps set) within (moved_length ring.taps set ∙ long) (omega (arith, most))

-- ---- the set itself

apart_sum : (a b : Bool) → (a ≡ true → b ≡ false) → (a || b) ≡ xor a b
apart_sum true b is = sym (ap not (is refl))
apart_sum false b is = refl

among_is : (set : List ℕ) (stage : ℕ) → list_any (λ other. other == stage) set ≡ has same_number set stage
among_is [] stage = refl
among_is (x ∷ set) stage = ap (λ (b : Bool). (x == stage) || b) (among_is set stage)

-- The sum over listed stages, each of them once, is that over their set.
listed_sum : (n : ℕ) (set : List ℕ) (state : ℕ → Bool) → All (λ (stage : ℕ). stage < n) set → all_differ same_number set ≡ true → sum_of state set ≡ weighed n state (λ k. list_any (λ other. other == k) set)
listed_sum n [] state below differ = sym (weighed_zero n state)
listed_sum n (x ∷ set) state below differ =
    let parts = and_parts (not (has same_number set x)) (all_differ same_number set) differ in
    let others = λ (k : ℕ). list_any (λ other. other == k) set in
    let alone : (k : ℕ) → (x == k) ≡ true → others k ≡ false = λ k is. subst (λ (m : ℕ). others m ≡ false) (eqb-true x k is) (among_is set x ∙ not_true (has same_number set x) parts.0) in
    let here : weighed n state (λ k. x == k) ≡ state x =
    sum_one n x (λ k. (x == k) && state k) (below 0 x (omega arith)) (λ c other. grind (arith, nat_tests)) ∙ ap (λ (b : Bool). b && state x) (number_same x) in
    (λ i. xor (sym here i) (listed_sum n set state (λ k d less. below (suc k) d (omega arith)) parts.1 i))
    ∙ sym (weighed_add n state (λ k. x == k) others)
    ∙ sum_same n (λ k. xor (x == k) (others k) && state k) (λ k. ((x == k) || others k) && state k) (λ k less. ap (λ (b : Bool). b && state k) (sym (apart_sum (x == k) (others k) (alone k))))

set_sum : (n : ℕ) (set : List ℕ) (state : ℕ → Bool) → IsSet n set → sum_of state set ≡ sum_over n (bits_of n set) state
set_sum n set state is =
    listed_sum n set state is.below is.differ
    ∙ sum_same n (λ k. list_any (λ other. other == k) set && state k) (λ k. bit_at (bits_of n set) k && state k)
    (λ k less. ap (λ (b : Bool). b && state k) (sym (get_or-map-range_with_len (λ stage. list_any (λ other. other == stage) set) 0 n k k false less (omega arith))))

pub moves_sum : MovesAreSums
moves_sum ring set state cycles within is most =
    set_sum ring.stages set (quiet_after ring state cycles) is
    ∙ moves_sum_from ring state cycles ring.stages (bits_of ring.stages set) within (length-map-range_with_len (λ stage. list_any (λ other. other == stage) set) 0 ring.stages) most

-- ---- sets that are apart

same_self : (a : List Bool) → same_set a a ≡ true
same_self [] = refl
same_self (true ∷ rest) = same_self rest
same_self (false ∷ rest) = same_self rest

-- one of some moves is a set, or none is
found : (taps : List Tap) (times : ℕ) (set other : List Bool) → has same_set (moves_from taps times set) other ≡ true → (k : ℕ) × ((k ≤ times) × (get_or (moves_from taps times set) k [] ≡ other))
found taps zero set other is = elim (cases_Bool (same_set set other)) [
  | inl here ↦ (0, (omega arith, same_is set other here))
  | inr not_here ↦ absurd (true≢false (sym is ∙ or_from (same_set set other) false not_here refl))
]
found taps (suc times) set other is = elim (cases_Bool (same_set set other)) [
  | inl here ↦ (0, (omega arith, same_is set other here))
  | inr not_here ↦ (
      let later = found taps times (moved taps set) other (ap (λ (b : Bool). b || has same_set (moves_from taps times (moved taps set)) other) (sym not_here) ∙ is) in
      (suc later.0, (omega (arith, later.1.0), later.1.1)))
]

missed : (taps : List Tap) (times : ℕ) (set other : List Bool) → has same_set (moves_from taps times set) other ≡ false → (k : ℕ) → k ≤ times → get_or (moves_from taps times set) k [] ≡ other → ⊥
missed taps zero set other none zero most is =
    true≢false (sym (subst (λ (l : List Bool). same_set set l ≡ true) is (same_self set)) ∙ (or_parts (same_set set other) false none).0)
missed taps zero set other none (suc k) most is = absurd (omega (arith, most))
missed taps (suc times) set other none zero most is =
    true≢false (sym (subst (λ (l : List Bool). same_set set l ≡ true) is (same_self set)) ∙ (or_parts (same_set set other) (has same_set (moves_from taps times (moved taps set)) other) none).0)
missed taps (suc times) set other none (suc k) most is =
    missed taps times (moved taps set) other (or_parts (same_set set other) (has same_set (moves_from taps times (moved taps set)) other) none).1 k (omega (arith, most)) is

first_move : (taps : List Tap) (times : ℕ) (set : List Bool) → get_or (moves_from taps times set) 0 [] ≡ set
first_move taps zero set = refl
first_move taps (suc times) set = refl

moves_length : (taps : List Tap) (times : ℕ) (set : List Bool) (k : ℕ) → k ≤ times → length (get_or (moves_from taps times set) k []) ≡ length set
moves_length taps zero set zero most = refl
moves_length taps (suc times) set zero most = refl
moves_length taps zero set (suc k) most = absurd (omega (arith, most))
moves_length taps (suc times) set (suc k) most = moves_length taps times (moved taps set) k (omega (arith, most)) ∙ moved_length taps set

-- sets with the same sums in all states
bit_of_sum : (n stage : ℕ) (bits : List Bool) → stage < n → sum_over n bits (λ k. stage == k) ≡ bit_at bits stage
bit_of_sum n stage bits less =
    sum_one n stage (λ k. bit_at bits k && (stage == k)) less (λ c other. not_here (bit_at bits c) stage c other) ∙ here (bit_at bits stage) (stage == stage) (number_same stage)
  where
    not_here : (b : Bool) (m n : ℕ) → (n ≡ m → ⊥) → b && (m == n) ≡ false
    not_here b m n other = grind (arith, nat_tests)

    here : (b e : Bool) → e ≡ true → b && e ≡ b
    here b e is = grind (arith, is)

sums_tell : (n : ℕ) (a b : List Bool) → length a ≡ n → length b ≡ n → ((state : ℕ → Bool) → sum_over n a state ≡ sum_over n b state) → a ≡ b
sums_tell n a b long too same = ext_get_or false a b (long ∙ sym too) (λ k less.
    (let within : k < n = omega (arith, less, long) in sym (bit_of_sum n k a within) ∙ same (λ j. k == j) ∙ bit_of_sum n k b within))

bits_length : (n : ℕ) (set : List ℕ) → length (bits_of n set) ≡ n
bits_length n set = length-map-range_with_len (λ stage. list_any (λ other. other == stage) set) 0 n

foretold : (ring : RingConfig) (set other : List ℕ) (cycles : ℕ) → HasItsTaps ring → IsSet ring.stages set → IsSet ring.stages other → cycles ≤ ring.stages → Foretells ring set other cycles → move_of ring set cycles ≡ bits_of ring.stages other
foretold ring set other cycles within is too most fore =
    let n = ring.stages in
    sums_tell n (move_of ring set cycles) (bits_of n other) (moves_length ring.taps n (bits_of n set) cycles most ∙ bits_length n set) (bits_length n other)
    (λ state. sym (moves_sum ring set state cycles within is most) ∙ fore state ∙ set_sum n other state too)

foretells : (ring : RingConfig) (set other : List ℕ) (cycles : ℕ) → HasItsTaps ring → IsSet ring.stages set → IsSet ring.stages other → cycles ≤ ring.stages → move_of ring set cycles ≡ bits_of ring.stages other → Foretells ring set other cycles
foretells ring set other cycles within is too most same state =
    moves_sum ring set state cycles within is most ∙ ap (λ (l : List Bool). sum_over ring.stages l state) same ∙ sym (set_sum ring.stages other state too)

none_meets : (ring : RingConfig) (set other : List ℕ) → HasItsTaps ring → IsSet ring.stages set → IsSet ring.stages other → has same_set (moves_of ring.stages ring.taps set) (set_itself (moves_of ring.stages ring.taps other)) ≡ false →
    (cycles : ℕ) → cycles ≤ ring.stages → Foretells ring set other cycles → ⊥
none_meets ring set other within is too none cycles most fore =
    let n = ring.stages in
    missed ring.taps n (bits_of n set) (bits_of n other) (ap (has same_set (moves_of n ring.taps set)) (sym (first_move ring.taps n (bits_of n other))) ∙ none) cycles most (foretold ring set other cycles within is too most fore)

none_met : (ring : RingConfig) (set other : List ℕ) → HasItsTaps ring → IsSet ring.stages set → IsSet ring.stages other → ((cycles : ℕ) → cycles ≤ ring.stages → Foretells ring set other cycles → ⊥) →
    has same_set (moves_of ring.stages ring.taps set) (set_itself (moves_of ring.stages ring.taps other)) ≡ false
none_met ring set other within is too none =
    let n = ring.stages in
    let itself = first_move ring.taps n (bits_of n other) in
    elim (cases_Bool (has same_set (moves_of n ring.taps set) (set_itself (moves_of n ring.taps other)))) [
      | inl yes_it ↦ (
          let at = found ring.taps n (bits_of n set) (bits_of n other) (ap (has same_set (moves_of n ring.taps set)) (sym itself) ∙ yes_it) in
          absurd (none at.0 at.1.0 (foretells ring set other at.0 within is too at.1.0 at.1.1)))
      | inr no_it ↦ no_it
    ]

neither : (a b : Bool) → a ≡ false → b ≡ false → (not a && not b) ≡ true
neither a b x y = λ i. not (x i) && not (y i)

pub apart_is_plain : ApartIsPlain
apart_is_plain ring set other within is too =
    let n = ring.stages in
    let mine = has same_set (moves_of n ring.taps set) (set_itself (moves_of n ring.taps other)) in
    let theirs = has same_set (moves_of n ring.taps other) (set_itself (moves_of n ring.taps set)) in (
      λ apart cycles most.
          (let parts = and_parts (not mine) (not theirs) apart in
          (none_meets ring set other within is too (not_true mine parts.0) cycles most, none_meets ring other set within too is (not_true theirs parts.1) cycles most)),
      λ none. neither mine theirs (none_met ring set other within is too (λ cycles most. (none cycles most).0)) (none_met ring other set within too is (λ cycles most. (none cycles most).1)),
    )
