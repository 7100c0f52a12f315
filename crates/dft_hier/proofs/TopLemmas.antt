-- Marks of modules that some module has an instance of, and the modules without one.
use Rattle.std.proofs.Common.{ℕ, zero, suc, ◌+◌, ◌<◌, ◌≤◌, ◌≡◌, ◌==◌, Bool, true, false, not, ◌||◌, cond, List, [], ◌∷◌, length, take, get_or, set, replicate, filter, refl, sym, ap, arith, ◌∙◌, true≢false}
use Rattle.std.specs.List.{list_any, range_with_len, count_by}
use Rattle.std.proofs.lemmas.List.{take_all, length-replicate}
use Rattle.std.proofs.lemmas.List.Sums.{sum_by-cons}
use Rattle.std.proofs.lemmas.List.Folds.{list_any_more}
use Rattle.dft_base.proofs.ListLemmas.{none_marked, marked}
use Rattle.dft_base.proofs.BitLemmas.{or_assoc}
use Rattle.dft_hier.specs.Reach.{Graph}
use Rattle.dft_hier.specs.TopNumbers.{AreInstantiated, IsTop, is_instantiated, top_numbers}

-- the marks of the instances so far
pub mark_more : (old now : List Bool) (children : List ℕ) (k i : ℕ) (child : ℕ) → k < length children → child ≡ get_or children k child → child < length now →
    get_or now i false ≡ (get_or old i false || list_any (λ c. c == i) (take k children)) → get_or (set now child true) i false ≡ (get_or old i false || list_any (λ c. c == i) (take (k + 1) children))
mark_more old now children k i child less is live h =
    marked now child i live ∙ ap (λ (b : Bool). b || (child == i)) h ∙ or_assoc (get_or old i false) (list_any (λ c. c == i) (take k children)) (child == i)
    ∙ ap (λ (b : Bool). get_or old i false || b) (ap (λ (c : ℕ). list_any (λ x. x == i) (take k children) || (c == i)) is ∙ sym (list_any_more (λ c. c == i) children k child less))

pub mark_all : (old now : List Bool) (children : List ℕ) (k i : ℕ) → length children ≤ k → get_or now i false ≡ (get_or old i false || list_any (λ c. c == i) (take k children)) → get_or now i false ≡ (get_or old i false || list_any (λ c. c == i) children)
mark_all old now children k i past h = h ∙ ap (λ (xs : List ℕ). get_or old i false || list_any (λ c. c == i) xs) (take_all k children past)

-- the marks of the modules so far
pub record AreMarked (g : Graph) (k : ℕ) (marks : List Bool) : Type 0 where
  pub count : length marks ≡ length g
  pub each : (number : ℕ) → number < length g → get_or marks number false ≡ is_instantiated (take k g) number

pub none_are_marked : (g : Graph) (count : ℕ) → count ≡ length g → AreMarked g 0 (replicate count false)
none_are_marked g count is = record { count = length-replicate count false ∙ is; each = λ number less. none_marked count number }

pub marks_more : (g : Graph) (k : ℕ) (children : List ℕ) (old new : List Bool) → k < length g → children ≡ get_or g k children → length new ≡ length old →
    ((i : ℕ) → i < length old → get_or new i false ≡ (get_or old i false || list_any (λ c. c == i) children)) → AreMarked g k old → AreMarked g (k + 1) new
marks_more g k children old new less is same marks h = record {
  count = same ∙ h.count;
  each = λ i live. (
      let c = h.count in
      marks i (omega arith) ∙ ap (λ (b : Bool). b || list_any (λ x. x == i) children) (h.each i live)
      ∙ ap (λ (xs : List ℕ). is_instantiated (take k g) i || list_any (λ x. x == i) xs) is ∙ sym (list_any_more (λ (xs : List ℕ). list_any (λ x. x == i) xs) g k children less));
}

pub marks_all : (g : Graph) (k : ℕ) (marks : List Bool) → length g ≤ k → AreMarked g k marks → AreInstantiated g marks
marks_all g k marks past h = record { count = h.count; each = λ i live. h.each i live ∙ ap (λ (xs : Graph). is_instantiated xs i) (take_all k g past) }

-- ---- the modules that are not marked

-- those that pass a test, by their numbers
abbrev unmarked_from : (from : ℕ) (marks : List Bool) → List ℕ
unmarked_from from [] = []
unmarked_from from (true ∷ marks) = unmarked_from (from + 1) marks
unmarked_from from (false ∷ marks) = from ∷ unmarked_from (from + 1) marks

unmarked_same : (p : ℕ → Bool) (from : ℕ) (marks : List Bool) → ((k : ℕ) → k < length marks → get_or marks k false ≡ p (from + k)) → filter (λ k. not (p k)) (range_with_len from (length marks)) ≡ unmarked_from from marks
unmarked_same p from [] same = refl
unmarked_same p from (m ∷ marks) same =
    let start : from + 0 ≡ from = omega arith in
    let here : m ≡ p from = same 0 (omega arith) ∙ ap p start in
    let more = unmarked_same p (from + 1) marks (λ k less. (let next : from + suc k ≡ from + 1 + k = omega arith in same (suc k) (omega (arith, less)) ∙ ap p next)) in
    by m here more
  where
    by : (t : Bool) → t ≡ p from → filter (λ k. not (p k)) (range_with_len (from + 1) (length marks)) ≡ unmarked_from (from + 1) marks → cond (not (p from)) (from ∷ filter (λ k. not (p k)) (range_with_len (from + 1) (length marks))) (filter (λ k. not (p k)) (range_with_len (from + 1) (length marks))) ≡ unmarked_from from (t ∷ marks)
    by true is more = rw (← is) more
    by false is more = rw (← is) (ap (λ (xs : List ℕ). from ∷ xs) more)

tops_unmarked : (g : Graph) (marks : List Bool) → AreInstantiated g marks → top_numbers g ≡ unmarked_from 0 marks
tops_unmarked g marks h =
    let c = h.count in
    ap (λ (n : ℕ). filter (λ k. not (is_instantiated g k)) (range_with_len 0 n)) (sym h.count)
    ∙ unmarked_same (is_instantiated g) 0 marks (λ k less. (let at : k ≡ 0 + k = omega arith in h.each k (omega arith) ∙ ap (is_instantiated g) at))

count_false : (marks : List Bool) → count_by not (false ∷ marks) ≡ 1 + count_by not marks
count_false marks = sum_by-cons (λ (m : Bool). cond (not m) 1 0) false marks

count_true : (marks : List Bool) → count_by not (true ∷ marks) ≡ 0 + count_by not marks
count_true marks = sum_by-cons (λ (m : Bool). cond (not m) 1 0) true marks

unmarked_count : (from : ℕ) (marks : List Bool) → length (unmarked_from from marks) ≡ count_by not marks
unmarked_count from [] = refl
unmarked_count from (true ∷ marks) = let r = unmarked_count (from + 1) marks in let c = count_true marks in omega arith
unmarked_count from (false ∷ marks) = let r = unmarked_count (from + 1) marks in let c = count_false marks in omega arith

pub tops_count : (g : Graph) (marks : List Bool) → AreInstantiated g marks → count_by not marks ≡ length (top_numbers g)
tops_count g marks h = sym (ap (λ (xs : List ℕ). length xs) (tops_unmarked g marks h) ∙ unmarked_count 0 marks)

first_unmarked : (from : ℕ) (marks : List Bool) (k : ℕ) → k < length marks → get_or marks k true ≡ false → count_by not marks ≡ 1 → unmarked_from from marks ≡ (from + k) ∷ []
first_unmarked from [] k less is one = absurd (omega (arith, less))
first_unmarked from (true ∷ marks) zero less is one = absurd (true≢false is)
first_unmarked from (true ∷ marks) (suc k) less is one = first_unmarked (from + 1) marks k (omega (arith, less)) is (let c = count_true marks in omega (arith, one)) ∙ (let next : from + 1 + k ≡ from + suc k = omega arith in ap (λ (n : ℕ). n ∷ []) next)
first_unmarked from (false ∷ marks) zero less is one =
    let none = unmarked_count (from + 1) marks in
    let c = count_false marks in
    let empty : unmarked_from (from + 1) marks ≡ [] = no_length (unmarked_from (from + 1) marks) (omega arith) in
    let e : from ≡ from + 0 = omega arith in
    ap (λ (xs : List ℕ). from ∷ xs) empty ∙ ap (λ (n : ℕ). n ∷ []) e
  where
    no_length : (xs : List ℕ) → length xs ≡ 0 → xs ≡ []
    no_length [] e = refl
    no_length (x ∷ xs) e = absurd (omega (arith, e))
first_unmarked from (false ∷ marks) (suc k) less is one = absurd (let n = some_unmarked marks k (omega (arith, less)) is in let c = count_false marks in omega (arith, n, one))
  where
    some_unmarked : (marks : List Bool) (k : ℕ) → k < length marks → get_or marks k true ≡ false → 0 < count_by not marks
    some_unmarked [] k less is = absurd (omega (arith, less))
    some_unmarked (true ∷ marks) zero less is = absurd (true≢false is)
    some_unmarked (false ∷ marks) zero less is = let c = count_false marks in omega arith
    some_unmarked (true ∷ marks) (suc k) less is = let r = some_unmarked marks k (omega (arith, less)) is in let c = count_true marks in omega arith
    some_unmarked (false ∷ marks) (suc k) less is = let c = count_false marks in omega arith

pub one_top : (g : Graph) (marks : List Bool) (k : ℕ) → AreInstantiated g marks → k < length marks → get_or marks k true ≡ false → count_by not marks ≡ 1 → IsTop g k
one_top g marks k h less is one = tops_unmarked g marks h ∙ first_unmarked 0 marks k less is one ∙ (let at : 0 + k ≡ k = omega arith in ap (λ (n : ℕ). n ∷ []) at)
