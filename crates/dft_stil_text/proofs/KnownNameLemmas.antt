-- Names that are found by their bytes.
use Rattle.std.proofs.Common.{◌≡◌, ℕ, suc, ◌≤◌, ◌+◌, Bool, true, false, cond, not, ◌||◌, true≢false, List, [], ◌∷◌, map, length, None, Some, is_some, refl, sym, ap, ap₂, ◌∙◌, arith}
use Rattle.std.specs.Prelude.{position, nat_lt}
use Rattle.std.specs.List.{list_any, prefix_len, position_or_len}
use Rattle.std.specs.Str.{bytes_eq}
use Rattle.std.proofs.lemmas.List.{length-map}
use Rattle.std.proofs.lemmas.Bool.Decides.{nat_tests}
use Rattle.dft_base.proofs.TextLemmas.{bytes_eq-comm}
use Rattle.dft_stil_text.specs.SignalGroups.{number_of}

prefix_map : {A B : Type 0} (p : B → Bool) (f : A → B) (xs : List A) → prefix_len p (map f xs) ≡ prefix_len (λ x. p (f x)) xs
prefix_map p f [] = refl
prefix_map p f (x ∷ xs) = ap (λ n. cond (p (f x)) (1 + n) 0) (prefix_map p f xs)

-- the place of a test among what is seen of a list
pub position_map : {A B : Type 0} (p : B → Bool) (f : A → B) (xs : List A) → position p (map f xs) ≡ position (λ x. p (f x)) xs
position_map p f xs = ap₂ (λ n m. cond (nat_lt n m) (Some n) None) (prefix_map (λ y. not (p y)) f xs) (length-map xs f)

-- the number of a name among keys that show their bytes
pub number_of-map : {K : Type 0} (shown : K → List ℕ) (word : List ℕ) (ks : List K) → position (λ k. bytes_eq word (shown k)) ks ≡ number_of (map shown ks) word
number_of-map shown word ks =
    ap (λ p. position p ks) (λ i k. bytes_eq-comm word (shown k) i) ∙ sym (position_map (λ known. bytes_eq known word) shown ks)

none_here : (t : Bool) (n m : ℕ) (u : Bool) → (m ≤ n → u ≡ false) → suc m ≤ cond (not t) (1 + n) 0 → (t || u) ≡ false
none_here true n m u h le = absurd (omega arith)
none_here false n m u h le = h (omega arith)

none_any : {K : Type 0} (p : K → Bool) (ks : List K) → length ks ≤ position_or_len p ks → list_any p ks ≡ false
none_any p [] le = refl
none_any p (k ∷ ks) le = none_here (p k) _ (length ks) _ (none_any p ks) le

no_place : (t : Bool) (n : ℕ) → cond t (Some n) None ≡ None → t ≡ false
no_place true n e = absurd (true≢false (ap is_some e))
no_place false n e = refl

-- a test without a place passes nowhere
pub position_none : {K : Type 0} (p : K → Bool) (ks : List K) → position p ks ≡ None → list_any p ks ≡ false
position_none p ks e =
    let past : nat_lt (position_or_len p ks) (length ks) ≡ false = no_place _ _ e in
    let far : length ks ≤ position_or_len p ks = grind (arith, nat_tests) in
    none_any p ks far

-- a name without a number equals no key
pub number_of-none : {K : Type 0} (shown : K → List ℕ) (word : List ℕ) (ks : List K) → number_of (map shown ks) word ≡ None → list_any (λ k. bytes_eq word (shown k)) ks ≡ false
number_of-none shown word ks e = position_none (λ k. bytes_eq word (shown k)) ks (number_of-map shown word ks ∙ e)
