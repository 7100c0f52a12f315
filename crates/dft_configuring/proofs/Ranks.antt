-- At most 16 ports are the most used: no two have the same rank.
use Rattle.std.proofs.Common.{◌≡◌, ℕ, zero, suc, ◌+◌, ◌<◌, ◌≤◌, ◌==◌, ◌⊎◌, inl, inr, Bool, true, false, cond, ◌&&◌, ◌||◌, [], ◌∷◌, length, count_by, refl, sym, ◌∙◌, ap, arith, subst, zero-add}
use Rattle.std.specs.Prelude.{nat_lt}
use Rattle.std.specs.List.{range_with_len}
use Rattle.std.proofs.lemmas.Bool.Decides.{nat_tests}
use Rattle.std.proofs.lemmas.List.Sums.{length-filter, sum_by-append}
use Rattle.dft_configure.specs.Roots.{comes_before, is_most_used, most_used, rank}

-- ---- counts

one_or_none : (a b : Bool) → (a ≡ true → b ≡ true) → cond a 1 0 ≤ cond b 1 0
one_or_none false b into = omega arith
one_or_none true b into = let is : b ≡ true = into refl in subst (λ (c : Bool). 1 ≤ cond c 1 0) (sym is) (omega arith)

abbrev one_of : Bool → ℕ
one_of b = cond b 1 0

none_of : (b : Bool) → b ≡ false → one_of b ≡ 0
none_of b is = ap one_of is

some_of : (b : Bool) → b ≡ true → one_of b ≡ 1
some_of b is = ap one_of is

-- the first number of a range, and the others
count_cons : (p : ℕ → Bool) (from n : ℕ) → count_by p (range_with_len from (suc n)) ≡ cond (p from) 1 0 + count_by p (range_with_len (from + 1) n)
count_cons p from n = sum_by-append (λ x. cond (p x) 1 0) (from ∷ []) (range_with_len (from + 1) n) ∙ (λ i. zero-add (cond (p from) 1 0) i + count_by p (range_with_len (from + 1) n))

-- what passes the first test passes the second
count_less : (p q : ℕ → Bool) (from n : ℕ) → ((k : ℕ) → p k ≡ true → q k ≡ true) → count_by p (range_with_len from n) ≤ count_by q (range_with_len from n)
count_less p q from zero into = omega arith
count_less p q from (suc n) into =
    let one = one_or_none (p from) (q from) (into from) in
    let rest = count_less p q (from + 1) n into in
    omega (arith, one, rest, count_cons p from n, count_cons q from n)

-- and one more passes the second
count_fewer : (p q : ℕ → Bool) (from n x : ℕ) → ((k : ℕ) → p k ≡ true → q k ≡ true) → from ≤ x → x < from + n → p x ≡ false → q x ≡ true → count_by p (range_with_len from n) + 1 ≤ count_by q (range_with_len from n)
count_fewer p q from zero x into low high not is = absurd (omega (arith, low, high))
count_fewer p q from (suc n) x into low high not is = by (from == x) refl (λ past. count_fewer p q (from + 1) n x into past (omega (arith, high)) not is)
  where
    by : (b : Bool) → (from == x) ≡ b → (from + 1 ≤ x → count_by p (range_with_len (from + 1) n) + 1 ≤ count_by q (range_with_len (from + 1) n)) → count_by p (range_with_len from (suc n)) + 1 ≤ count_by q (range_with_len from (suc n))
    by true here later =
        let same : from ≡ x = grind (arith, nat_tests) in
        let none = none_of (p from) (ap p same ∙ not) in
        let one = some_of (q from) (ap q same ∙ is) in
        let rest = count_less p q (from + 1) n into in
        omega (arith, none, one, rest, count_cons p from n, count_cons q from n)
    by false here later =
        let past : from + 1 ≤ x = grind (arith, nat_tests, low) in
        let one = one_or_none (p from) (q from) (into from) in
        let rest = later past in
        omega (arith, one, rest, count_cons p from n, count_cons q from n)

-- ---- the order

abbrev IsBefore : (u : ℕ → ℕ) (a b : ℕ) → Type 0
IsBefore u a b = (u b < u a) ⊎ ((u a ≡ u b) × (a < b))

before_is : (u : ℕ → ℕ) (a b : ℕ) → comes_before u a b ≡ true → IsBefore u a b
before_is u a b is = by (nat_lt (u b) (u a)) (u a == u b) (nat_lt a b) refl refl refl is
  where
    by : (x y z : Bool) → nat_lt (u b) (u a) ≡ x → (u a == u b) ≡ y → nat_lt a b ≡ z → (x || (y && z)) ≡ true → IsBefore u a b
    by true y z is_x is_y is_z any = inl (grind (arith, nat_tests))
    by false true true is_x is_y is_z any = inr (grind (arith, nat_tests), grind (arith, nat_tests))
    by false true false is_x is_y is_z any = absurd cc
    by false false z is_x is_y is_z any = absurd cc

is_before : (u : ℕ → ℕ) (a b : ℕ) → IsBefore u a b → comes_before u a b ≡ true
is_before u a b (inl less) =
    let first : nat_lt (u b) (u a) ≡ true = grind (arith, nat_tests) in
    ap (λ (c : Bool). c || ((u a == u b) && nat_lt a b)) first
is_before u a b (inr same) =
    let second : (u a == u b) ≡ true = grind (arith, nat_tests, same.0) in
    let third : nat_lt a b ≡ true = grind (arith, nat_tests, same.1) in
    by (nat_lt (u b) (u a)) (λ i. second i && third i)
  where
    by : (c : Bool) → ((u a == u b) && nat_lt a b) ≡ true → (c || ((u a == u b) && nat_lt a b)) ≡ true
    by true e = refl
    by false e = e

passes_on : (u : ℕ → ℕ) (a b c : ℕ) → IsBefore u a b → IsBefore u b c → IsBefore u a c
passes_on u a b c (inl x) (inl y) = inl (omega (arith, x, y))
passes_on u a b c (inl x) (inr y) = let e = y.0 in inl (omega (arith, x, e))
passes_on u a b c (inr x) (inl y) = let e = x.0 in inl (omega (arith, y, e))
passes_on u a b c (inr x) (inr y) = inr (x.0 ∙ y.0, let l = x.1 in let m = y.1 in omega (arith, l, m))

never_itself : (u : ℕ → ℕ) (a : ℕ) → comes_before u a a ≡ false
never_itself u a = by (comes_before u a a) refl
  where
    no : IsBefore u a a → ⊥
    no (inl less) = absurd (omega (arith, less))
    no (inr same) = let less = same.1 in absurd (omega (arith, less))

    by : (b : Bool) → comes_before u a a ≡ b → comes_before u a a ≡ false
    by true is = absurd (no (before_is u a a is))
    by false is = is

-- ---- ranks

rank_less : (u : ℕ → ℕ) (nets x y : ℕ) → x < nets → IsBefore u x y → rank u nets x + 1 ≤ rank u nets y
rank_less u nets x y live before =
    count_fewer (λ other. comes_before u other x) (λ other. comes_before u other y) 0 nets x
    (λ k is. is_before u k y (passes_on u k x y (before_is u k x is) before)) (omega arith) (omega (arith, live)) (never_itself u x) (is_before u x y before)

three_ways : (a b : ℕ) → (a < b) ⊎ ((a ≡ b) ⊎ (b < a))
three_ways zero zero = inr (inl refl)
three_ways zero (suc b) = inl (omega arith)
three_ways (suc a) zero = inr (inr (omega arith))
three_ways (suc a) (suc b) = by (three_ways a b)
  where
    by : (a < b) ⊎ ((a ≡ b) ⊎ (b < a)) → (suc a < suc b) ⊎ ((suc a ≡ suc b) ⊎ (suc b < suc a))
    by (inl less) = inl (omega (arith, less))
    by (inr (inl same)) = inr (inl (ap suc same))
    by (inr (inr more)) = inr (inr (omega (arith, more)))

rank_apart : (u : ℕ → ℕ) (nets x y : ℕ) → x < y → y < nets → rank u nets x ≡ rank u nets y → ⊥
rank_apart u nets x y less live same = by (three_ways (u x) (u y))
  where
    by : (u x < u y) ⊎ ((u x ≡ u y) ⊎ (u y < u x)) → ⊥
    by (inl more) = let one = rank_less u nets y x live (inl more) in absurd (omega (arith, one, same))
    by (inr (inl even)) = let one = rank_less u nets x y (omega (arith, less, live)) (inr (even, less)) in absurd (omega (arith, one, same))
    by (inr (inr more)) = let one = rank_less u nets x y (omega (arith, less, live)) (inl more) in absurd (omega (arith, one, same))

-- ---- at most one has a rank

none_counted : (r : ℕ → ℕ) (k from n : ℕ) → ((y : ℕ) → from ≤ y → y < from + n → r y ≡ k → ⊥) → count_by (λ x. r x == k) (range_with_len from n) ≡ 0
none_counted r k from zero none = refl
none_counted r k from (suc n) none = by (r from == k) refl (none_counted r k (from + 1) n (λ y low high. none y (omega (arith, low)) (omega (arith, high))))
  where
    by : (b : Bool) → (r from == k) ≡ b → count_by (λ x. r x == k) (range_with_len (from + 1) n) ≡ 0 → count_by (λ x. r x == k) (range_with_len from (suc n)) ≡ 0
    by true is rest = let same : r from ≡ k = grind (arith, nat_tests) in absurd (none from (omega arith) (omega arith) same)
    by false is rest = let no = none_of (r from == k) is in omega (arith, no, rest, count_cons (λ x. r x == k) from n)

one_has : (r : ℕ → ℕ) (k from n top : ℕ) → from + n ≤ top → ((x y : ℕ) → x < y → y < top → r x ≡ r y → ⊥) → count_by (λ x. r x == k) (range_with_len from n) ≤ 1
one_has r k from zero top most apart = omega arith
one_has r k from (suc n) top most apart = by (r from == k) refl (one_has r k (from + 1) n top (omega (arith, most)) apart)
  where
    by : (b : Bool) → (r from == k) ≡ b → count_by (λ x. r x == k) (range_with_len (from + 1) n) ≤ 1 → count_by (λ x. r x == k) (range_with_len from (suc n)) ≤ 1
    by true is rest =
        let same : r from ≡ k = grind (arith, nat_tests) in
        let none = none_counted r k (from + 1) n (λ y low high at. apart from y (omega (arith, low)) (omega (arith, high, most)) (same ∙ sym at)) in
        let one = some_of (r from == k) is in
        omega (arith, none, one, count_cons (λ x. r x == k) from n)
    by false is rest =
        let no = none_of (r from == k) is in
        omega (arith, rest, no, count_cons (λ x. r x == k) from n)

-- ---- so few have a low one

step_one : (a : Bool) (r k : ℕ) → cond (a && nat_lt r (k + 1)) 1 0 ≤ cond (a && nat_lt r k) 1 0 + cond (r == k) 1 0
step_one false r k = omega arith
step_one true r k = by (nat_lt r (k + 1)) (nat_lt r k) (r == k) refl refl refl
  where
    by : (x y z : Bool) → nat_lt r (k + 1) ≡ x → nat_lt r k ≡ y → (r == k) ≡ z → cond x 1 0 ≤ cond y 1 0 + cond z 1 0
    by false y z is_x is_y is_z = omega arith
    by true true z is_x is_y is_z = omega arith
    by true false true is_x is_y is_z = omega arith
    by true false false is_x is_y is_z = absurd (grind (arith, nat_tests))

step_all : (a : ℕ → Bool) (r : ℕ → ℕ) (k from n : ℕ) →
    count_by (λ x. a x && nat_lt (r x) (k + 1)) (range_with_len from n) ≤ count_by (λ x. a x && nat_lt (r x) k) (range_with_len from n) + count_by (λ x. r x == k) (range_with_len from n)
step_all a r k from zero = omega arith
step_all a r k from (suc n) =
    let one = step_one (a from) (r from) k in
    let rest = step_all a r k (from + 1) n in
    omega (arith, one, rest, count_cons (λ x. a x && nat_lt (r x) (k + 1)) from n, count_cons (λ x. a x && nat_lt (r x) k) from n, count_cons (λ x. r x == k) from n)

none_low : (a : ℕ → Bool) (r : ℕ → ℕ) (from n : ℕ) → count_by (λ x. a x && nat_lt (r x) 0) (range_with_len from n) ≡ 0
none_low a r from zero = refl
none_low a r from (suc n) =
    let no = none_of (a from && nat_lt (r from) 0) (never (a from)) in
    let rest = none_low a r (from + 1) n in
    omega (arith, no, rest, count_cons (λ x. a x && nat_lt (r x) 0) from n)
  where
    never : (b : Bool) → (b && nat_lt (r from) 0) ≡ false
    never true = grind (arith, nat_tests)
    never false = refl

low_few : (a : ℕ → Bool) (r : ℕ → ℕ) (nets k : ℕ) → ((x y : ℕ) → x < y → y < nets → r x ≡ r y → ⊥) → count_by (λ x. a x && nat_lt (r x) k) (range_with_len 0 nets) ≤ k
low_few a r nets zero apart = let none = none_low a r 0 nets in omega (arith, none)
low_few a r nets (suc k) apart =
    let before = low_few a r nets k apart in
    let one = one_has r k 0 nets nets (omega arith) apart in
    let step = step_all a r k 0 nets in
    let next : suc k ≡ k + 1 = omega arith in
    subst (λ (j : ℕ). count_by (λ x. a x && nat_lt (r x) j) (range_with_len 0 nets) ≤ j) (sym next) (omega (arith, before, one, step))

pub most_used_few : (u : ℕ → ℕ) (nets : ℕ) → length (most_used u nets) ≤ 16
unfolding most_used
most_used_few u nets =
    let count = length-filter (is_most_used u nets) (range_with_len 0 nets) in
    let few = low_few (λ x. nat_lt 0 (u x)) (rank u nets) nets 16 (rank_apart u nets) in
    omega (arith, count, few)
