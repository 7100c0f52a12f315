-- What numbers up to a bound give, one after another.
use Rattle.std.proofs.Common.{◌≡◌, ℕ, ◌+◌, ◌-◌, ◌<◌, ◌≤◌, List, [], ◌++◌, flat_map, Option, None, Some, refl, sym, ◌∙◌, ap, arith, append_assoc}
use Rattle.std.proofs.lemmas.List.{append-nil}
use Rattle.std.specs.List.{filter_map, cons_option, range_with_len}
use Rattle.dft_base.proofs.NumberLemmas.{one_left}
use Rattle.dft_base.proofs.ListLemmas.{range_over}
use Rattle.dft_stitch.specs.Chains.{listed}

cons_listed : {T : Type 0} (o : Option T) (xs : List T) → cons_option o xs ≡ listed o ++ xs
cons_listed None xs = refl
cons_listed (Some x) xs = refl

pub filter_on : {T : Type 0} (h : ℕ → Option T) (k total : ℕ) → k < total → filter_map h (range_with_len k (total - k)) ≡ listed (h k) ++ filter_map h (range_with_len (k + 1) (total - (k + 1)))
filter_on h k total less = ap (λ (m : ℕ). filter_map h (range_with_len k m)) (one_left k total less) ∙ cons_listed (h k) (filter_map h (range_with_len (k + 1) (total - (k + 1))))

pub filter_over : {T : Type 0} (h : ℕ → Option T) (k total : ℕ) → total ≤ k → filter_map h (range_with_len k (total - k)) ≡ []
filter_over h k total past = ap (filter_map h) (range_over k total past)

pub filter_start : {T : Type 0} (h : ℕ → Option T) (total : ℕ) → filter_map h (range_with_len 0 (total - 0)) ≡ filter_map h (range_with_len 0 total)
filter_start h total = let all : total - 0 ≡ total = omega arith in ap (λ (m : ℕ). filter_map h (range_with_len 0 m)) all

pub flat_start : {T : Type 0} (f : ℕ → List T) (total : ℕ) → flat_map f (range_with_len 0 (total - 0)) ≡ flat_map f (range_with_len 0 total)
flat_start f total = let all : total - 0 ≡ total = omega arith in ap (λ (m : ℕ). flat_map f (range_with_len 0 m)) all

-- nothing is there yet
pub begun : {T : Type 0} (now rest whole : List T) → now ≡ [] → rest ≡ whole → now ++ rest ≡ whole
begun {T = T} now rest whole none h = ap (λ (xs : List T). xs ++ rest) none ∙ h

-- what is there grows by what the rest begins with
pub grown : {T : Type 0} (old new more rest after whole : List T) → new ≡ old ++ more → rest ≡ more ++ after → old ++ rest ≡ whole → new ++ after ≡ whole
grown {T = T} old new more rest after whole e r h = ap (λ (xs : List T). xs ++ after) e ∙ append_assoc old more after ∙ sym (ap (λ (xs : List T). old ++ xs) r) ∙ h

-- nothing is left
pub ended : {T : Type 0} (now rest whole : List T) → rest ≡ [] → now ++ rest ≡ whole → now ≡ whole
ended {T = T} now rest whole none h = sym (append-nil now) ∙ ap (λ (xs : List T). now ++ xs) (sym none) ∙ h
