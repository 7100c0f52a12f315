-- Items that differ, met one after the other beside those that were seen before.
use Rattle.std.proofs.Common.{ℕ, ◌≡◌, ◌+◌, ◌<◌, Bool, true, false, not, ◌&&◌, ◌||◌, cond, nat_eq, Bor, Result, Ok, Err, IfOk, List, [], ◌∷◌, length, drop, get_or, map, refl, sym, ap, ◌∙◌}
use Rattle.std.proofs.lemmas.List.{drop_more}
use Rattle.std.specs.declared.cmp.Ordering.{Ordering}
use Rattle.std.specs.declared.cmp.Ordering.TheVariants.{Less, Equal, Greater}
use Rattle.std.specs.Ordering.{is_eq, nat_cmp, ordering_then}
use Rattle.std.specs.Cmp.{unsigned_tied}
use Rattle.std.specs.Cmp.Lexicographic.{slice_cmp}
use Rattle.std.specs.Str.{bytes_eq}
use Rattle.std.proofs.lemmas.Map.Text.{is_eq-slice_cmp}
use Rattle.dft_base.proofs.BitLemmas.{and_true}
use Rattle.dft_config.specs.Range.{has, all_differ}

-- none of the items was seen
abbrev pub unseen : {T : Type 0} → (T → Bool) → List T → Bool
unseen seen [] = true
unseen seen (x ∷ xs) = not (seen x) && unseen seen xs

pub unseen_none : {T : Type 0} (seen : T → Bool) → ((q : T) → seen q ≡ false) → (xs : List T) → unseen seen xs ≡ true
unseen_none seen none [] = refl
unseen_none seen none (x ∷ xs) = ap (λ (b : Bool). not b && unseen seen xs) (none x) ∙ unseen_none seen none xs

one_more : (same seen among rest : Bool) → (not (cond same true seen) && (not among && rest)) ≡ (not (same || among) && (not seen && rest))
one_more true seen among rest = refl
one_more false true true rest = refl
one_more false true false rest = refl
one_more false false true rest = refl
one_more false false false rest = refl

pub unseen_more : {T : Type 0} (same : T → T → Bool) (flips : (a b : T) → same a b ≡ same b a) (seen next : T → Bool) (x : T)
    → ((q : T) → next q ≡ cond (same x q) true (seen q)) → (xs : List T)
    → unseen next xs ≡ (not (has same xs x) && unseen seen xs)
unseen_more same flips seen next x step [] = refl
unseen_more same flips seen next x step (y ∷ ys) =
    ap (λ (b : Bool). not b && unseen next ys) (step y ∙ ap (λ (b : Bool). cond b true (seen y)) (flips x y))
    ∙ ap (λ (b : Bool). not (cond (same y x) true (seen y)) && b) (unseen_more same flips seen next x step ys)
    ∙ one_more (same y x) (seen y) (has same ys x) (unseen seen ys)

regroup : (a b c : Bool) → ((a && b) && c) ≡ (b && (a && c))
regroup true true c = refl
regroup true false c = refl
regroup false true c = refl
regroup false false c = refl

first_new : (seen : Bool) (a b c : Bool) → seen ≡ false → ((a && b) && (not seen && c)) ≡ (b && (a && c))
first_new seen a b c e = ap (λ (s : Bool). (a && b) && (not s && c)) e ∙ regroup a b c

pub differ_more : {T : Type 0} (same : T → T → Bool) (flips : (a b : T) → same a b ≡ same b a) (seen next : T → Bool) (xs : List T) (i : ℕ) (d : T) → i < length xs
    → seen (get_or xs i d) ≡ false → ((q : T) → next q ≡ cond (same (get_or xs i d) q) true (seen q))
    → (all_differ same (drop i xs) && unseen seen (drop i xs)) ≡ (all_differ same (drop (i + 1) xs) && unseen next (drop (i + 1) xs))
differ_more {T} same flips seen next xs i d less new step =
    ap (λ (l : List T). all_differ same l && unseen seen l) (drop_more xs i d less)
    ∙ first_new (seen (get_or xs i d)) (not (has same (drop (i + 1) xs) (get_or xs i d))) (all_differ same (drop (i + 1) xs)) (unseen seen (drop (i + 1) xs)) new
    ∙ ap (λ (b : Bool). all_differ same (drop (i + 1) xs) && b) (sym (unseen_more same flips seen next (get_or xs i d) step (drop (i + 1) xs)))

none_left : (seen a b : Bool) → seen ≡ true → (a && (not seen && b)) ≡ false
none_left seen true b e = ap (λ (s : Bool). not s && b) e
none_left seen false b e = refl

pub differ_not : {T : Type 0} (same : T → T → Bool) (seen : T → Bool) (xs : List T) (i : ℕ) (d : T) → i < length xs
    → seen (get_or xs i d) ≡ true → (all_differ same (drop i xs) && unseen seen (drop i xs)) ≡ false
differ_not {T} same seen xs i d less old =
    ap (λ (l : List T). all_differ same l && unseen seen l) (drop_more xs i d less)
    ∙ none_left (seen (get_or xs i d)) (all_differ same (get_or xs i d ∷ drop (i + 1) xs)) (unseen seen (drop (i + 1) xs)) old

-- two tests that agree find the same
has_same : {T : Type 0} (p q : T → T → Bool) → ((a b : T) → p a b ≡ q a b) → (xs : List T) (x : T) → has p xs x ≡ has q xs x
has_same p q e [] x = refl
has_same p q e (y ∷ ys) x = ap (λ (b : Bool). b || has p ys x) (e y x) ∙ ap (λ (b : Bool). q y x || b) (has_same p q e ys x)

pub differ_same : {T : Type 0} (p q : T → T → Bool) → ((a b : T) → p a b ≡ q a b) → (xs : List T) → all_differ p xs ≡ all_differ q xs
differ_same p q e [] = refl
differ_same p q e (x ∷ xs) =
    ap (λ (b : Bool). not b && all_differ p xs) (has_same p q e xs x) ∙ ap (λ (b : Bool). not (has q xs x) && b) (differ_same p q e xs)

has_map : {S T : Type 0} (f : S → T) (p : T → T → Bool) (xs : List S) (x : S) → has (λ a b. p (f a) (f b)) xs x ≡ has p (map f xs) (f x)
has_map f p [] x = refl
has_map f p (y ∷ ys) x = ap (λ (b : Bool). p (f y) (f x) || b) (has_map f p ys x)

pub differ_map : {S T : Type 0} (f : S → T) (p : T → T → Bool) (xs : List S) → all_differ (λ a b. p (f a) (f b)) xs ≡ all_differ p (map f xs)
differ_map f p [] = refl
differ_map f p (x ∷ xs) =
    ap (λ (b : Bool). not b && all_differ (λ a b. p (f a) (f b)) xs) (has_map f p xs x)
    ∙ ap (λ (b : Bool). not (has p (map f xs) (f x)) && b) (differ_map f p xs)

-- at first nothing was seen
pub differ_start : {T : Type 0} (same : T → T → Bool) (seen : T → Bool) → ((q : T) → seen q ≡ false) → (xs : List T)
    → all_differ same xs ≡ (all_differ same xs && unseen seen xs)
differ_start same seen none xs = and_true (all_differ same xs) (unseen seen xs) (unseen_none seen none xs)

-- an answer for one test is an answer for a test that agrees with it
ok_along : {E : Type 0} (r : Result Bool E) (a b : Bool) → IfOk r (λ d. d ≡ a) → a ≡ b → IfOk r (λ d. d ≡ b)
ok_along (Ok d) a b h e = h ∙ e
ok_along (Err x) a b h e = tt

pub differ_along : {T E : Type 0} (p q : T → T → Bool) (xs : List T) (r : Result Bool E)
    → IfOk r (λ d. d ≡ all_differ p xs) → ((a b : T) → p a b ≡ q a b) → IfOk r (λ d. d ≡ all_differ q xs)
differ_along p q xs r h e = ok_along r (all_differ p xs) (all_differ q xs) h (differ_same p q e xs)

then_tied : (x y : Ordering) → is_eq (ordering_then x y) ≡ (is_eq x && is_eq y)
then_tied Less y = refl
then_tied Equal y = refl
then_tied Greater y = refl

-- two numbers compared one after the other
pub two_tied : (a b c d : ℕ) → is_eq (ordering_then (nat_cmp a b) (nat_cmp c d)) ≡ (nat_eq a b && nat_eq c d)
two_tied a b c d =
    then_tied (nat_cmp a b) (nat_cmp c d) ∙ ap (λ (t : Bool). t && is_eq (nat_cmp c d)) (unsigned_tied a b) ∙ ap (λ (t : Bool). nat_eq a b && t) (unsigned_tied c d)

-- texts that are lent differ where the texts do
pub texts_differ : {E : Type 0} (texts : List (Bor (List ℕ))) (names : List (List ℕ)) (r : Result Bool E)
    → IfOk r (λ d. d ≡ all_differ (λ a b. is_eq (slice_cmp nat_cmp a.now b.now)) texts) → map (λ t. t.now) texts ≡ names
    → IfOk r (λ d. d ≡ all_differ bytes_eq names)
texts_differ texts names r h e =
    ok_along r (all_differ (λ a b. is_eq (slice_cmp nat_cmp a.now b.now)) texts) (all_differ bytes_eq names) h
    (differ_same (λ (a b : Bor (List ℕ)). is_eq (slice_cmp nat_cmp a.now b.now)) (λ a b. bytes_eq a.now b.now) (λ a b. is_eq-slice_cmp a.now b.now) texts
    ∙ differ_map (λ (t : Bor (List ℕ)). t.now) bytes_eq texts ∙ ap (all_differ bytes_eq) e)
