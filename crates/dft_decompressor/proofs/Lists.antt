-- Lists that are made and looked through one after the other.
use Rattle.std.proofs.Common.{◌≡◌, ℕ, zero, suc, ◌+◌, ◌-◌, ◌<◌, ◌≤◌, Bool, true, false, cond, List, [], ◌∷◌, ◌++◌, length, map, get_or, drop, take, count_by, flat_map, Option, None, Some, refl, sym, ◌∙◌, ap, arith}
use Rattle.std.specs.Prelude.{find, slice_get}
use Rattle.std.specs.List.{range_with_len}
use Rattle.std.proofs.lemmas.List.{at_drop_more, at_drop_all}
use Rattle.std.proofs.lemmas.List.FromFn.{map-range_with_len_more}
use Rattle.std.proofs.lemmas.List.Sums.{count_by_more_no, count_by_more_yes}
use Rattle.std.proofs.lemmas.Grind.{flat_map-append}
use Rattle.dft_base.proofs.ListLemmas.{range_split, flat_on, flat_over}

-- one value of a function more
pub pushed : {X : Type 0} (f : ℕ → X) (k : ℕ) (before after : List X) (x : X) → after ≡ before ++ x ∷ [] → before ≡ map f (range_with_len 0 k) → x ≡ f k → after ≡ map f (range_with_len 0 (k + 1))
pushed f k before after x a b e = a ∙ (λ i. b i ++ e i ∷ []) ∙ sym (map-range_with_len_more f 0 k k (omega arith))

-- ---- the first item that passes

pub find_here : (p : ℕ → Bool) (xs : List ℕ) (k x : ℕ) → k < length xs → get_or xs k 0 ≡ x → p x ≡ true → find p (drop k xs) ≡ find p xs → find p xs ≡ Some x
find_here p xs k x less at is rest =
    sym rest ∙ at_drop_more (find p) xs k 0 less ∙ ap (λ (y : ℕ). cond (p y) (Some y) (find p (drop (k + 1) xs))) at ∙ ap (λ (b : Bool). cond b (Some x) (find p (drop (k + 1) xs))) is

pub find_on : (p : ℕ → Bool) (xs : List ℕ) (k x : ℕ) → k < length xs → get_or xs k 0 ≡ x → p x ≡ false → find p (drop k xs) ≡ find p xs → find p (drop (k + 1) xs) ≡ find p xs
find_on p xs k x less at is rest =
    sym (at_drop_more (find p) xs k 0 less ∙ ap (λ (y : ℕ). cond (p y) (Some y) (find p (drop (k + 1) xs))) at ∙ ap (λ (b : Bool). cond b (Some x) (find p (drop (k + 1) xs))) is) ∙ rest

pub find_over : (p : ℕ → Bool) (xs : List ℕ) (k : ℕ) → length xs ≤ k → find p (drop k xs) ≡ find p xs → None ≡ find p xs
find_over p xs k past rest = sym (at_drop_all (find p) xs k past) ∙ rest

passes_not : (b : Bool) (x : ℕ) (rest : Option ℕ) → cond b (Some x) rest ≡ None → b ≡ false
passes_not false x rest is = refl
passes_not true x rest is = cc

rest_is : (b : Bool) (x : ℕ) (rest : Option ℕ) → cond b (Some x) rest ≡ None → rest ≡ None
rest_is false x rest is = is
rest_is true x rest is = cc

-- where none is found, none passes
pub none_passes : (p : ℕ → Bool) (xs : List ℕ) → find p xs ≡ None → (k : ℕ) → k < length xs → p (get_or xs k 0) ≡ false
none_passes p [] none k less = absurd (omega arith)
none_passes p (x ∷ xs) none zero less = passes_not (p x) x (find p xs) none
none_passes p (x ∷ xs) none (suc k) less = none_passes p xs (rest_is (p x) x (find p xs) none) k (omega arith)

-- ---- items by their places

pub slice_get_front : {X : Type 0} (xs ys : List X) (i : ℕ) → i < length xs → slice_get (xs ++ ys) i ≡ slice_get xs i
slice_get_front [] ys i less = absurd (omega arith)
slice_get_front (x ∷ xs) ys zero less = refl
slice_get_front (x ∷ xs) ys (suc i) less = slice_get_front xs ys i (omega arith)

pub slice_get_back : {X : Type 0} (xs ys : List X) (i : ℕ) → length xs ≤ i → slice_get (xs ++ ys) i ≡ slice_get ys (i - length xs)
slice_get_back [] ys i most = ap (λ (k : ℕ). slice_get ys k) (omega arith)
slice_get_back (x ∷ xs) ys zero most = absurd (omega arith)
slice_get_back (x ∷ xs) ys (suc i) most = let less : i - length xs ≡ suc i - suc (length xs) = omega arith in slice_get_back xs ys i (omega arith) ∙ ap (λ (k : ℕ). slice_get ys k) less

-- ---- lists that are made of parts, one for each number from one on

pub range_more : (a n : ℕ) → range_with_len a (n + 1) ≡ range_with_len a n ++ (a + n) ∷ []
range_more a n = range_split a n 1

-- the parts of one number more
pub parts_more : {X : Type 0} (f : ℕ → List X) (a n : ℕ) → flat_map f (range_with_len a (n + 1)) ≡ flat_map f (range_with_len a n) ++ (f (a + n) ++ [])
parts_more f a n = ap (flat_map f) (range_more a n) ∙ flat_map-append f (range_with_len a n) ((a + n) ∷ [])

-- the item of a rank stands in the first part that is left, or behind it, or there is none
pub rank_here : {X : Type 0} (f : ℕ → List X) (k total left : ℕ) (found : Option X) → k < total → left < length (f k) → slice_get (flat_map f (range_with_len k (total - k))) left ≡ found → slice_get (f k) left ≡ found
rank_here f k total left found less within rest =
    sym (slice_get_front (f k) (flat_map f (range_with_len (k + 1) (total - (k + 1)))) left within) ∙ sym (ap (λ l. slice_get l left) (flat_on f k total less)) ∙ rest

pub rank_on : {X : Type 0} (f : ℕ → List X) (k total left : ℕ) (found : Option X) → k < total → length (f k) ≤ left → slice_get (flat_map f (range_with_len k (total - k))) left ≡ found →
    slice_get (flat_map f (range_with_len (k + 1) (total - (k + 1)))) (left - length (f k)) ≡ found
rank_on f k total left found less past rest =
    sym (slice_get_back (f k) (flat_map f (range_with_len (k + 1) (total - (k + 1)))) left past) ∙ sym (ap (λ l. slice_get l left) (flat_on f k total less)) ∙ rest

pub rank_over : {X : Type 0} (f : ℕ → List X) (k total left : ℕ) (found : Option X) → total ≤ k → slice_get (flat_map f (range_with_len k (total - k))) left ≡ found → None ≡ found
rank_over f k total left found past rest = sym (ap (λ l. slice_get l left) (flat_over f k total past)) ∙ rest

-- ---- items that are counted

pub counted_item : {X : Type 0} (p : X → Bool) (xs : List X) (k : ℕ) (x : X) (here : Bool) (times more : ℕ) → k < length xs → x ≡ get_or xs k x → here ≡ p x → more ≡ cond here 1 0 → times ≡ count_by p (take k xs) → times + more ≡ count_by p (take (k + 1) xs)
counted_item p xs k x true times more less at here is so = so_far times more 1 so is ∙ sym (count_by_more_yes p xs k x less (ap p (sym at) ∙ sym here))
  where
    so_far : (a b n : ℕ) {c : ℕ} → a ≡ c → b ≡ n → a + b ≡ c + n
    so_far a b n e f = λ i. e i + f i
counted_item p xs k x false times more less at here is so = so_far times more so is ∙ sym (count_by_more_no p xs k x less (ap p (sym at) ∙ sym here))
  where
    so_far : (a b : ℕ) {c : ℕ} → a ≡ c → b ≡ 0 → a + b ≡ c
    so_far a b {c} e f = omega arith
