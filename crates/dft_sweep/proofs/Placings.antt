-- Nets are told their places in an order, and places that are not busy are passed over.
use Rattle.std.proofs.Common.{ℕ, zero, suc, Bool, true, false, List, [], ◌∷◌, ◌≡◌, ◌<◌, ◌≤◌, ◌+◌, ◌-◌, ◌*◌, ◌/◌, ◌%◌, ◌^◌, ◌||◌, ◌⊎◌, inl, inr, length, drop, drop-cons, add-one, refl, sym, ap, ◌∙◌, subst, get_or, slice_set, get_or-set_same, get_or-set_other, true≢false, arith}
use Rattle.std.proofs.lemmas.Bool.Decides.{eqb_tells, leb_tells}
use Rattle.std.proofs.lemmas.Bool.{and_from, eq-eqb, le-leb, lt-leb, leb-true, or_cases, or_right}
use Rattle.std.proofs.lemmas.List.{drop_all, get_or-replicate, length-replicate}
use Rattle.std.proofs.lemmas.Nat.{and_le_l}
use Rattle.std.proofs.lemmas.Nat.Bits.{bit_at-lt, bit_at-trailing_zeros, bit_at-zero, bit_at_and, bit_at_mask_below, bit_at_mask_inside, bit_at_ones, ones_shl}
use Rattle.std.specs.Int.{bit_at, trailing_zeros, w64}
use Rattle.std.specs.Prelude.{bit_and, min, nat_le, replicate, ◌&&◌, ◌==◌, if◌then◌else◌}
use Rattle.dft_base.specs.Packed.{packed_bit}
use Rattle.dft_netlist.specs.declared.ids.NetId.{NetId}
use Rattle.dft_netlist.specs.Orders.{Has, numbers_of}
use Rattle.dft_logic.specs.declared.circuit.Op.{Op}
use Rattle.dft_logic.specs.Circuit.{Circuit, AreOrdered, IsCircuit, flag_at}
use Rattle.dft_logic.specs.Sweepings.{Sweeping}
use Rattle.dft_logic.proofs.FlagLemmas.{down_all}
use Rattle.dft_logic.proofs.Sweeps.{sweeping_more}
use Rattle.dft_sweep.specs.Places.{ArePlaces, is_busy, net_at, place_at}

-- ---- the places of nets

-- the nets before a place of the order are told their places
pub record Placing (ops : List Op) (order : List NetId) (places : List ℕ) (j : ℕ) : Type 0 where
  pub before : List ℕ
  pub rest : AreOrdered ops before (numbers_of (drop j order))
  pub placed : (i : ℕ) → i < j → i < length order → (place_at places (net_at order i).0 ≡ i) × Has before (net_at order i).0

pub placing_starts : (x : Circuit) (places : List ℕ) → IsCircuit x → Placing x.ops x.order places 0
placing_starts x places is = record { before = []; rest = is.after; placed = λ i less. absurd (omega arith) }

front : (ops : List Op) (order : List NetId) (places : List ℕ) (j : ℕ) → j < length order → (p : Placing ops order places j) →
    (Has p.before (net_at order j).0 → ⊥) × ((net_at order j).0 < length ops) × AreOrdered ops ((net_at order j).0 ∷ p.before) (numbers_of (drop (j + 1) order))
front ops order places j less p =
    let e : drop j order ≡ net_at order j ∷ drop (j + 1) order = rw (add-one) (drop-cons order j (record { 0 = 0 }) less) in
    let P : List NetId → Type 0 = λ l. AreOrdered ops p.before (numbers_of l) in
    let here = subst P e p.rest in
    (here.0, here.1, here.3)

pub placing_live : (ops : List Op) (order : List NetId) (places : List ℕ) (j : ℕ) → j < length order → Placing ops order places j → (net_at order j).0 < length ops
placing_live ops order places j less p = (front ops order places j less p).1

pub placing_more : (ops : List Op) (order : List NetId) (places : List ℕ) (j : ℕ) → j < length order → length places ≡ length ops → Placing ops order places j →
    Placing ops order (slice_set places (net_at order j).0 j) (j + 1)
placing_more ops order places j less size p =
    let f = front ops order places j less p in
    let net : ℕ = (net_at order j).0 in
    let live : net < length places = (let h = f.1 in omega arith) in
    record {
      before = net ∷ p.before;
      rest = f.2;
      placed = λ i low here. elim (eqb_tells i j) [
        | inl q ↦ (let P : ℕ → Type 0 = λ n. (place_at (slice_set places net j) (net_at order n).0 ≡ n) × Has (net ∷ p.before) (net_at order n).0 in
            subst P (sym q.1) (get_or-set_same places net j 0 live, inl refl))
        | inr q ↦ (let was = p.placed i (let ne = q.1 in omega arith) here in
            (get_or-set_other places net (net_at order i).0 j 0 (λ e. (let H : ℕ → Type 0 = λ n. Has p.before n in f.0 (subst H e was.1))) ∙ was.0, inr was.1))
      ];
    }

pub placing_ends : (x : Circuit) (places : List ℕ) (j : ℕ) → length x.order ≤ j → Placing x.ops x.order places j → ArePlaces x places
placing_ends x places j past p = λ i less. (p.placed i (omega arith) less).0

-- ---- words that are all ones or all zeros

-- a place is busy whose bit is 1, and so is one past the last word
busy_here : (busy : List ℕ) (p : ℕ) → packed_bit busy p ≡ true → is_busy busy p ≡ true
busy_here busy p up = or_right (nat_le (length busy) (p / 64)) (packed_bit busy p) up

pub busy_past : (busy : List ℕ) (p : ℕ) → length busy ≤ p / 64 → is_busy busy p ≡ true
busy_past busy p past = ap (λ (b : Bool). b || packed_bit busy p) (le-leb (length busy) (p / 64) past)

-- no other is
idle_here : (busy : List ℕ) (p : ℕ) → p / 64 < length busy → packed_bit busy p ≡ false → is_busy busy p ≡ false
idle_here busy p there down = ap (λ (b : Bool). b || packed_bit busy p) (lt-leb (length busy) (p / 64) there) ∙ down

all_ones : (m p : ℕ) → is_busy (replicate m (2 ^ 64 - 1)) p ≡ true
unfolding packed_bit
all_ones m p = elim (leb_tells m (p / 64)) [
  | inl out ↦ busy_past (replicate m (2 ^ 64 - 1)) p (let past = out.1 in let e = length-replicate m (2 ^ 64 - 1) in omega (arith, past, e))
  | inr less ↦ busy_here (replicate m (2 ^ 64 - 1)) p (ap (λ (w : ℕ). bit_at w (p % 64) == 1) (get_or-replicate m (p / 64) (2 ^ 64 - 1) 0 less.1) ∙ ap (λ (v : ℕ). v == 1) (bit_at_ones 64 (p % 64) (omega arith)))
]

-- where a net is marked all are, and all places are busy
pub all_busy : (n m : ℕ) (up : Bool) (marked : List Bool) (busy : List ℕ) (k p : ℕ) → marked ≡ replicate n up → busy ≡ replicate m (if up then 2 ^ 64 - 1 else 0) → flag_at marked k ≡ true → is_busy busy p ≡ true
all_busy n m true marked busy k p e f is = ap (λ (l : List ℕ). is_busy l p) f ∙ all_ones m p
all_busy n m false marked busy k p e f is = absurd (true≢false (sym is ∙ ap (λ (l : List Bool). flag_at l k) e ∙ down_all n k))

-- ---- a place is noted

-- the bit of the place is 1
pub noted_here : (busy now : List ℕ) (place : ℕ) → ((k : ℕ) → packed_bit now k ≡ packed_bit busy k || ((k == place) && true)) → is_busy now place ≡ true
noted_here busy now place each = busy_here now place (each place ∙ or_right (packed_bit busy place) ((place == place) && true) (and_from (place == place) true (eq-eqb place place refl) refl))

-- what was busy is busy
pub noted_other : (busy now : List ℕ) (place p : ℕ) → length now ≡ length busy → ((k : ℕ) → packed_bit now k ≡ packed_bit busy k || ((k == place) && true)) → is_busy busy p ≡ true → is_busy now p ≡ true
noted_other busy now place p size each was = elim (or_cases (nat_le (length busy) (p / 64)) (packed_bit busy p) was) [
  | inl past ↦ busy_past now p (let out = leb-true (length busy) (p / 64) past in omega (arith, out, size))
  | inr up ↦ busy_here now p (each p ∙ ap (λ (b : Bool). b || ((p == place) && true)) up)
]

-- ---- the next place of a word

-- the bits of a word from a place on
abbrev pub rest_of : (word from : ℕ) → ℕ
rest_of word from = bit_and word ((2 ^ 64 - 1) * 2 ^ from % 2 ^ 64)

min_one : (b : ℕ) → b < 2 → min b 1 ≡ b
min_one zero small = refl
min_one (suc zero) small = refl
min_one (suc (suc b)) small = absurd (omega (arith, small))

min_zero : (b : ℕ) → min b 0 ≡ 0
min_zero b = omega arith

kept : (word from i : ℕ) → from ≤ 64 → from ≤ i → i < 64 → bit_at (rest_of word from) i ≡ bit_at word i
kept word from i within low high =
    ap (λ (m : ℕ). bit_at (bit_and word m) i) (ones_shl 64 from within) ∙ bit_at_and word (2 ^ 64 - 2 ^ from) i ∙ ap (min (bit_at word i)) (bit_at_mask_inside from 64 i low high) ∙ min_one (bit_at word i) (bit_at-lt word i)

cut : (word from i : ℕ) → from ≤ 64 → i < from → bit_at (rest_of word from) i ≡ 0
cut word from i within low =
    ap (λ (m : ℕ). bit_at (bit_and word m) i) (ones_shl 64 from within) ∙ bit_at_and word (2 ^ 64 - 2 ^ from) i ∙ ap (min (bit_at word i)) (bit_at_mask_below from 64 i low) ∙ min_zero (bit_at word i)

-- what is left is no more than the word
pub rest_fits : (word from : ℕ) → word < 2 ^ 64 → rest_of word from < 2 ^ 64
rest_fits word from fits = (let h = and_le_l word ((2 ^ 64 - 1) * 2 ^ from % 2 ^ 64) in omega (arith, h, fits))

-- where nothing is left, no bit from here on is 1
pub none_ahead : (word from i : ℕ) → from ≤ 64 → rest_of word from ≡ 0 → from ≤ i → i < 64 → bit_at word i ≡ 0
none_ahead word from i within none low high = sym (kept word from i within low high) ∙ ap (λ (w : ℕ). bit_at w i) none ∙ bit_at-zero i

-- the lowest bit that is left is here or further on, and none is 1 in between
pub next_ahead : (word from : ℕ) → from ≤ 64 → 0 < rest_of word from → rest_of word from < 2 ^ 64 →
    (from ≤ trailing_zeros w64 (rest_of word from)) × (trailing_zeros w64 (rest_of word from) < 64) × ((k : ℕ) → from ≤ k → k < trailing_zeros w64 (rest_of word from) → bit_at word k ≡ 0)
next_ahead word from within some fits =
    let lowest = bit_at-trailing_zeros w64 (rest_of word from) some fits in
    let at : ℕ = trailing_zeros w64 (rest_of word from) in (
      elim (leb_tells from at) [
        | inl here ↦ here.1
        | inr before ↦ absurd (let e : 0 ≡ 1 = sym (cut word from at within before.1) ∙ lowest.1 in let f : ⊥ = cc in f)
      ],
      lowest.0,
      λ k low before. sym (kept word from k within low (let h = lowest.0 in omega (arith, before, h))) ∙ lowest.2 k before,
    )

-- ---- the next place of all

-- the places of a word of which these are no bits are idle
pub word_idle : (busy : List ℕ) (word from end p : ℕ) → word < length busy → ((k : ℕ) → from ≤ k → k < end → bit_at (get_or busy word 0) k ≡ 0) → end ≤ 64 → word * 64 + from ≤ p → p < word * 64 + end → is_busy busy p ≡ false
unfolding packed_bit
word_idle busy word from end p there zeros few low high =
    let at : p / 64 ≡ word = omega arith in
    let rest : p % 64 ≡ p - word * 64 = omega arith in
    idle_here busy p (omega arith) (ap (λ (j : ℕ). bit_at (get_or busy j 0) (p % 64) == 1) at ∙ ap (λ (v : ℕ). v == 1) (zeros (p % 64) (omega arith) (omega arith)))

-- ---- nets that are passed over

-- past the end of the order nothing is left to be swept
pub sweeping_past : (ops : List Op) (Given : ℕ → Type 0) (order : List NetId) (marked : List Bool) (j m : ℕ) → length order ≤ j → j ≤ m →
    Sweeping ops Given order marked j → Sweeping ops Given order marked m
sweeping_past ops Given order marked j m past up s =
    let e : drop j order ≡ drop m order = drop_all j order past ∙ sym (drop_all m order (omega arith)) in
    let P : List NetId → Type 0 = λ l. AreOrdered ops s.before (numbers_of l) in
    let Q : List NetId → Type 0 = λ l. (k : ℕ) → k < length ops → Has s.before k ⊎ Has (numbers_of l) k in
    record { before = s.before; rest = subst P e s.rest; closed = s.closed; clean = s.clean; given = s.given; either = subst Q e s.either }

-- nets that are not marked are passed over
pub sweeping_skips : (ops : List Op) (Given : ℕ → Type 0) (order : List NetId) (marked : List Bool) (j d : ℕ) →
    ((i : ℕ) → j ≤ i → i < j + d → i < length order → flag_at marked (net_at order i).0 ≡ false) →
    Sweeping ops Given order marked j → Sweeping ops Given order marked (j + d)
sweeping_skips ops Given order marked j zero down s = (let P : ℕ → Type 0 = λ n. Sweeping ops Given order marked n in subst P (omega arith) s)
sweeping_skips ops Given order marked j (suc d) down s =
    let so : Sweeping ops Given order marked (j + d) = sweeping_skips ops Given order marked j d (λ i low high. down i low (omega arith)) s in
    elim (leb_tells (length order) (j + d)) [
      | inl past ↦ sweeping_past ops Given order marked (j + d) (j + suc d) past.1 (omega arith) so
      | inr less ↦ (let P : ℕ → Type 0 = λ n. Sweeping ops Given order marked n in
          let low : flag_at marked (net_at order (j + d)).0 ≡ false = down (j + d) (omega arith) (omega arith) less.1 in
          subst P (omega arith) (sweeping_more ops Given Given order marked marked (j + d) (net_at order (j + d)) (record { 0 = 0 }) less.1 refl so so.given
          (λ k up. inl (up, λ e. (let F : ℕ → Bool = flag_at marked in true≢false (sym up ∙ ap F e ∙ low))))))
    ]

-- at a place that is not busy no marked net stands
pub idle : (x : Circuit) (places : List ℕ) (marked : List Bool) (busy : List ℕ) (i : ℕ) → ArePlaces x places → ((k : ℕ) → flag_at marked k ≡ true → is_busy busy (place_at places k) ≡ true) →
    is_busy busy i ≡ false → i < length x.order → flag_at marked (net_at x.order i).0 ≡ false
idle x places marked busy i are all down less = down_or (flag_at marked (net_at x.order i).0) refl where
  down_or : (b : Bool) → flag_at marked (net_at x.order i).0 ≡ b → flag_at marked (net_at x.order i).0 ≡ false
  down_or false is = is
  down_or true is = absurd (true≢false (sym (all (net_at x.order i).0 is) ∙ ap (is_busy busy) (are i less) ∙ down))

-- the places up to the next busy one are passed over
pub sweeping_goes : (x : Circuit) (places : List ℕ) (Given : ℕ → Type 0) (marked : List Bool) (busy : List ℕ) (j m : ℕ) → ArePlaces x places →
    ((k : ℕ) → flag_at marked k ≡ true → is_busy busy (place_at places k) ≡ true) → j ≤ m → ((p : ℕ) → j ≤ p → p < m → is_busy busy p ≡ false) →
    Sweeping x.ops Given x.order marked j → Sweeping x.ops Given x.order marked m
sweeping_goes x places Given marked busy j m are all up none s =
    let P : ℕ → Type 0 = λ n. Sweeping x.ops Given x.order marked n in
    let e : j + (m - j) ≡ m = omega arith in
    subst P e (sweeping_skips x.ops Given x.order marked j (m - j) (λ i low high less. idle x places marked busy i are all (none i low (omega arith)) less) s)
