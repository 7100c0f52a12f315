-- The nets that are no port's bits, as nets and ports come.
use Rattle.std.proofs.Common.{◌≡◌, ℕ, zero, suc, ◌+◌, ◌<◌, ◌≤◌, Bool, true, false, not, ◌||◌, cond, eqb, List, [], ◌∷◌, ◌++◌, length, map, filter, get_or, refl, sym, ap, ap₂, ◌∙◌, arith, length-append}
use Rattle.std.specs.List.{list_any}
use Rattle.std.proofs.lemmas.Bool.{ne_eqb, or_right}
use Rattle.std.proofs.lemmas.Bool.Decides.{nat_tests}
use Rattle.std.proofs.lemmas.List.{append-nil, append_assoc, get_or_append_left}
use Rattle.std.proofs.lemmas.List.Elements.{filter-append}
use Rattle.std.proofs.Math.Seq.{get_or-append_seam}
use Rattle.dft_base.specs.Lexing.{Text}
use Rattle.dft_base.specs.Ranges.{going_up}
use Rattle.dft_base.proofs.BitLemmas.{or_not}
use Rattle.dft_base.proofs.ListLemmas.{going_up-append}
use Rattle.dft_verilog.proofs.NumberingLemmas.{AreBelow}

-- whether a net is one of these
abbrev pub is_among : ℕ → List ℕ → Bool
is_among net nets = list_any (λ bit. eqb bit net) nets

-- the nets from one on that are none of these
abbrev pub others_from : List ℕ → (from count : ℕ) → List ℕ
others_from used from count = filter (λ net. not (is_among net used)) (going_up from count)

-- ---- tests of nets in a row

keep : (b c : Bool) (x : ℕ) (xs ys : List ℕ) → b ≡ c → xs ≡ ys → cond b (x ∷ xs) xs ≡ cond c (x ∷ ys) ys
keep true true x xs ys e r = ap (λ t. x ∷ t) r
keep false false x xs ys e r = r
keep true false x xs ys e r = absurd (cc)
keep false true x xs ys e r = absurd (cc)

filter_same : (p q : ℕ → Bool) (from n : ℕ) → ((y : ℕ) → from ≤ y → y < from + n → p y ≡ q y) → filter p (going_up from n) ≡ filter q (going_up from n)
filter_same p q from zero same = refl
filter_same p q from (suc n) same = keep (p from) (q from) from _ _ (same from (omega arith) (omega arith)) (filter_same p q (suc from) n (λ y lo hi. same y (omega arith) (omega arith)))

filter_all : (p : ℕ → Bool) (from n : ℕ) → ((y : ℕ) → from ≤ y → p y ≡ true) → filter p (going_up from n) ≡ going_up from n
filter_all p from zero all = refl
filter_all p from (suc n) all = keep (p from) true from _ _ (all from (omega arith)) (filter_all p (suc from) n (λ y lo. all y (omega arith)))

filter_none : (p : ℕ → Bool) (from n : ℕ) → ((y : ℕ) → from ≤ y → y < from + n → p y ≡ false) → filter p (going_up from n) ≡ []
filter_none p from zero none = refl
filter_none p from (suc n) none = keep (p from) false from _ [] (none from (omega arith) (omega arith)) (filter_none p (suc from) n (λ y lo hi. none y (omega arith) (omega arith)))

or_by : (a b c : Bool) → a ≡ false → b ≡ c → (a || b) ≡ c
or_by true b c h e = absurd (cc)
or_by false b c h e = e

among_less : (y from n : ℕ) → y < from → is_among y (going_up from n) ≡ false
among_less y from zero lt = refl
among_less y from (suc n) lt = or_by (eqb from y) _ false (ne_eqb from y (λ e. omega arith)) (among_less y (suc from) n (omega arith))

row_by : (b : Bool) (from y : ℕ) (more : Bool) → eqb from y ≡ b → from ≤ y → (suc from ≤ y → more ≡ true) → (b || more) ≡ true
row_by true from y more e lo next = refl
row_by false from y more e lo next = next (after from y e lo) where
  after : (from y : ℕ) → eqb from y ≡ false → from ≤ y → suc from ≤ y
  after from y e lo = grind (arith, nat_tests)

among_row : (y from n : ℕ) → from ≤ y → y < from + n → is_among y (going_up from n) ≡ true
among_row y from zero lo hi = absurd (omega arith)
among_row y from (suc n) lo hi = row_by (eqb from y) from y (is_among y (going_up (suc from) n)) refl lo (λ le. among_row y (suc from) n le (omega arith))

among_below : (y n : ℕ) (used : List ℕ) → AreBelow n used → n ≤ y → is_among y used ≡ false
among_below y n [] h le = refl
among_below y n (x ∷ xs) h le = or_by (eqb x y) _ false (ne_eqb x y (λ e. omega (arith, h.0))) (among_below y n xs h.1 le)

-- ---- more nets

rows : (n m : ℕ) → going_up 0 (n + m) ≡ going_up 0 n ++ going_up n m
rows n m = let e : 0 + n ≡ n = omega arith in going_up-append 0 n m ∙ ap (λ k. going_up 0 n ++ going_up k m) e

-- new nets that are no port's
pub others_more : (used : List ℕ) (n m : ℕ) → AreBelow n used → others_from used 0 (n + m) ≡ others_from used 0 n ++ going_up n m
others_more used n m below =
    let test = λ (net : ℕ). not (is_among net used) in
    ap (filter test) (rows n m)
    ∙ filter-append test (going_up 0 n) (going_up n m)
    ∙ ap (λ xs. others_from used 0 n ++ xs) (filter_all test n m (λ y lo. ap not (among_below y n used below lo)))

-- new nets that are all a port's
pub others_kept : (used with : List ℕ) (n m : ℕ) → ((y : ℕ) → is_among y with ≡ (is_among y used || is_among y (going_up n m))) → others_from with 0 (n + m) ≡ others_from used 0 n
others_kept used with n m any =
    let test = λ (net : ℕ). not (is_among net with) in
    ap (filter test) (rows n m)
    ∙ filter-append test (going_up 0 n) (going_up n m)
    ∙ ap₂ (λ xs ys. xs ++ ys)
    (filter_same test (λ net. not (is_among net used)) 0 n (λ y lo hi. ap not (any y ∙ or_not (is_among y used) _ (among_less y n m (omega arith)))))
    (filter_none test n m (λ y lo hi. ap not (any y ∙ or_right (is_among y used) _ (among_row y n m lo hi))))
    ∙ append-nil (others_from used 0 n)

-- ---- their names

-- the name of a net
abbrev pub name_at : List Text → ℕ → Text
name_at nets net = get_or nets net []

same_by : (b : Bool) (f g : ℕ → Text) (x : ℕ) (xs : List ℕ) → f x ≡ g x → map f xs ≡ map g xs → map f (cond b (x ∷ xs) xs) ≡ map g (cond b (x ∷ xs) xs)
same_by true f g x xs e r = ap₂ (λ w ws. w ∷ ws) e r
same_by false f g x xs e r = r

map_same : (p : ℕ → Bool) (f g : ℕ → Text) (from n : ℕ) → ((y : ℕ) → y < from + n → f y ≡ g y) → map f (filter p (going_up from n)) ≡ map g (filter p (going_up from n))
map_same p f g from zero same = refl
map_same p f g from (suc n) same = same_by (p from) f g from (filter p (going_up (suc from) n)) (same from (omega arith)) (map_same p f g (suc from) n (λ y lt. same y (omega arith)))

-- the nets that were there have their names
pub names_kept : (used : List ℕ) (nets more : List Text) → map (name_at (nets ++ more)) (others_from used 0 (length nets)) ≡ map (name_at nets) (others_from used 0 (length nets))
names_kept used nets more = map_same (λ net. not (is_among net used)) (name_at (nets ++ more)) (name_at nets) 0 (length nets) (λ y lt. get_or_append_left nets more [] y (omega arith))

names_new_from : (before nets more : List Text) (n : ℕ) → before ≡ nets ++ more → n ≡ length nets → map (name_at before) (going_up n (length more)) ≡ more
names_new_from before nets [] n e at = refl
names_new_from before nets (x ∷ xs) n e at =
    let one : length (nets ++ x ∷ []) ≡ length nets + 1 = length-append nets (x ∷ []) in
    ap₂ (λ w ws. w ∷ ws)
    (ap₂ name_at e at ∙ get_or-append_seam nets x xs [])
    (names_new_from before (nets ++ x ∷ []) xs (suc n) (e ∙ sym (append_assoc nets (x ∷ []) xs)) (omega (arith, at, one)))

-- and the new ones theirs
pub names_new : (nets more : List Text) → map (name_at (nets ++ more)) (going_up (length nets) (length more)) ≡ more
names_new nets more = names_new_from (nets ++ more) nets more (length nets) refl refl
