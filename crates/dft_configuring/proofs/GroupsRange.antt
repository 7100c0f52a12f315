-- The groups of a made compactor are in range: each is a set of chains, and each chain stands in one.
use Rattle.std.proofs.Common.{◌≡◌, ℕ, zero, suc, ◌+◌, ◌%◌, ◌<◌, ◌≤◌, ◌==◌, ◌⊎◌, inl, inr, Bool, true, false, cond, not, ◌&&◌, ◌||◌, List, [], ◌∷◌, length, map, filter, refl, sym, ◌∙◌, ap, arith}
use Rattle.std.specs.List.{AllByRecursion, list_any, range_with_len}
use Rattle.std.proofs.Math.Nat.{mod-eq_of_lt, mod-lt}
use Rattle.std.proofs.lemmas.Bool.{eq-eqb, or_right}
use Rattle.std.proofs.lemmas.List.Elements.{All-from_recursion}
use Rattle.std.proofs.lemmas.List.FromFn.{length-map-range_with_len}
use Rattle.dft_base.proofs.NumberLemmas.{same_or_past, more_apart}
use Rattle.dft_config.specs.Range.{IsCompactorInRange, IsSet, all_differ, has, same_number}
use Rattle.dft_configure.specs.Compacting.{group_of, groups_of, is_of}

-- ---- chosen numbers of a range

none_by : (p : ℕ → Bool) (a n k : ℕ) (b : Bool) → k < a → has same_number (filter p (range_with_len (a + 1) n)) k ≡ false →
    has same_number (cond b (a ∷ filter p (range_with_len (a + 1) n)) (filter p (range_with_len (a + 1) n))) k ≡ false
none_by p a n k true less rest = ap (λ (c : Bool). c || has same_number (filter p (range_with_len (a + 1) n)) k) (more_apart k a less) ∙ rest
none_by p a n k false less rest = rest

none_before : (p : ℕ → Bool) (a n k : ℕ) → k < a → has same_number (filter p (range_with_len a n)) k ≡ false
none_before p a zero k less = refl
none_before p a (suc n) k less = none_by p a n k (p a) less (none_before p (a + 1) n k (omega (arith, less)))

differ_by : (p : ℕ → Bool) (a n : ℕ) (b : Bool) → all_differ same_number (filter p (range_with_len (a + 1) n)) ≡ true →
    all_differ same_number (cond b (a ∷ filter p (range_with_len (a + 1) n)) (filter p (range_with_len (a + 1) n))) ≡ true
differ_by p a n true rest = (λ i. not (none_before p (a + 1) n a (omega arith) i) && rest i)
differ_by p a n false rest = rest

pub chosen_differ : (p : ℕ → Bool) (a n : ℕ) → all_differ same_number (filter p (range_with_len a n)) ≡ true
chosen_differ p a zero = refl
chosen_differ p a (suc n) = differ_by p a n (p a) (chosen_differ p (a + 1) n)

below_by : (p : ℕ → Bool) (a n top : ℕ) (b : Bool) → a < top → AllByRecursion (λ x. x < top) (filter p (range_with_len (a + 1) n)) →
    AllByRecursion (λ x. x < top) (cond b (a ∷ filter p (range_with_len (a + 1) n)) (filter p (range_with_len (a + 1) n)))
below_by p a n top true less rest = (less, rest)
below_by p a n top false less rest = rest

pub chosen_below : (p : ℕ → Bool) (a n top : ℕ) → a + n ≤ top → AllByRecursion (λ x. x < top) (filter p (range_with_len a n))
chosen_below p a zero top most = tt
chosen_below p a (suc n) top most = below_by p a n top (p a) (omega (arith, most)) (chosen_below p (a + 1) n top (omega (arith, most)))

has_by : (p : ℕ → Bool) (a n k : ℕ) (b : Bool) → p a ≡ b → p k ≡ true → (a ≡ k) ⊎ (has same_number (filter p (range_with_len (a + 1) n)) k ≡ true) →
    has same_number (cond b (a ∷ filter p (range_with_len (a + 1) n)) (filter p (range_with_len (a + 1) n))) k ≡ true
has_by p a n k true here is (inl same) = ap (λ (c : Bool). c || has same_number (filter p (range_with_len (a + 1) n)) k) (eq-eqb a k same)
has_by p a n k true here is (inr rest) = or_right (a == k) (has same_number (filter p (range_with_len (a + 1) n)) k) rest
has_by p a n k false here is (inl same) = absurd (let e : false ≡ true = sym here ∙ ap p same ∙ is in cc)
has_by p a n k false here is (inr rest) = rest

chosen_has : (p : ℕ → Bool) (a n k : ℕ) → a ≤ k → k < a + n → p k ≡ true → has same_number (filter p (range_with_len a n)) k ≡ true
chosen_has p a zero k low high is = absurd (omega (arith, low, high))
chosen_has p a (suc n) k low high is = has_by p a n k (p a) refl is (elim (same_or_past a k low) [
  | inl same ↦ inl same
  | inr past ↦ inr (chosen_has p (a + 1) n k past (omega (arith, high)) is)
])

some_if : (numbers : List ℕ) (k : ℕ) → has same_number numbers k ≡ true → 0 < length numbers
some_if [] k is = absurd cc
some_if (x ∷ numbers) k is = omega arith

-- ---- something for each number of a range

pub each_on : {X : Type 0} (P : X → Type 0) (f : ℕ → X) (a n : ℕ) → ((k : ℕ) → a ≤ k → k < a + n → P (f k)) → AllByRecursion P (map f (range_with_len a n))
each_on P f a zero each = tt
each_on P f a (suc n) each = (each a (omega arith) (omega arith), each_on P f (a + 1) n (λ k low high. each k (omega (arith, low)) (omega (arith, high))))

any_by : {X : Type 0} (p : X → Bool) (f : ℕ → X) (a n k : ℕ) → p (f k) ≡ true → (a ≡ k) ⊎ (list_any p (map f (range_with_len (a + 1) n)) ≡ true) → list_any p (map f (range_with_len a (suc n))) ≡ true
any_by p f a n k is (inl same) = ap (λ (c : Bool). c || list_any p (map f (range_with_len (a + 1) n))) (ap (λ (m : ℕ). p (f m)) same ∙ is)
any_by p f a n k is (inr rest) = or_right (p (f a)) (list_any p (map f (range_with_len (a + 1) n))) rest

any_on : {X : Type 0} (p : X → Bool) (f : ℕ → X) (a n k : ℕ) → a ≤ k → k < a + n → p (f k) ≡ true → list_any p (map f (range_with_len a n)) ≡ true
any_on p f a zero k low high is = absurd (omega (arith, low, high))
any_on p f a (suc n) k low high is = any_by p f a n k is (elim (same_or_past a k low) [
  | inl same ↦ inl same
  | inr past ↦ inr (any_on p f (a + 1) n k past (omega (arith, high)) is)
])

-- ---- groups

group_has : (chains outputs output chain : ℕ) → chain < chains → chain % outputs ≡ output → has same_number (group_of chains outputs output) chain ≡ true
group_has chains outputs output chain less is = chosen_has (is_of outputs output) 0 chains chain (omega arith) (omega (arith, less)) (eq-eqb (chain % outputs) output is)

group_set : (chains outputs output : ℕ) → output < outputs → outputs ≤ chains → IsSet chains (group_of chains outputs output)
group_set chains outputs output less few = record {
  some = some_if (group_of chains outputs output) output (group_has chains outputs output output (omega (arith, less, few)) (mod-eq_of_lt less));
  below = All-from_recursion (λ n. n < chains) (group_of chains outputs output) (chosen_below (is_of outputs output) 0 chains chains (omega arith));
  differ = chosen_differ (is_of outputs output) 0 chains;
}

pub groups_range : (chains outputs masks : ℕ) → 1 ≤ outputs → outputs ≤ 32 → outputs ≤ chains → 1 ≤ masks → masks ≤ 32 → masks ≤ chains → IsCompactorInRange chains (record { groups = groups_of chains outputs; mask_inputs = masks })
unfolding groups_of
groups_range chains outputs masks some most few one many masked =
    let count = length-map-range_with_len (group_of chains outputs) 0 outputs in
    let least : 0 < outputs = omega (arith, some) in
    let lower_is : (chain : ℕ) → chain % outputs < 0 + outputs = λ chain. (let lower : chain % outputs < outputs = mod-lt chain least in omega (arith, lower)) in
    record {
      outputs = (omega (arith, count, some), omega (arith, count, most));
      groups = All-from_recursion (IsSet chains) (map (group_of chains outputs) (range_with_len 0 outputs)) (each_on (IsSet chains) (group_of chains outputs) 0 outputs (λ output low less. group_set chains outputs output (omega (arith, less)) few));
      reached = λ chain less.
          any_on (λ group. has same_number group chain) (group_of chains outputs) 0 outputs (chain % outputs) (omega arith) (lower_is chain) (group_has chains outputs (chain % outputs) chain less refl);
      mask_inputs = (one, many, masked);
    }
