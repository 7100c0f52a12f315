-- A netlist is finished or refused, and for one reason.
use Rattle.std.proofs.Common.{ℕ, ◌<◌, ◌≤◌, ◌≡◌, List, [], ◌∷◌, ◌++◌, length, Some, sym, ap, ◌∙◌, subst, arith, slice_get, ⊎_elim}
use Rattle.std.specs.List.{AllByRecursion}
use Rattle.std.proofs.lemmas.Bool.{cases_lt}
use Rattle.dft_netlist.specs.declared.error.NetlistError.{NetlistError}
use Rattle.dft_netlist.specs.declared.error.NetlistError.TheVariants.{MultipleDrivers, Loop, DuplicateName, TooMany, Memory}
use Rattle.dft_netlist.specs.Netlist.{Netlist}
use Rattle.dft_netlist.specs.NetDrivers.{IsSingle, IsFirstMultiple}
use Rattle.dft_netlist.specs.Orders.{Has, IsOrderable, IsStuck, IsFirstStuck, IsNextStuck, IsWalk, AreOnce, IsLoopNet, Starts, Goes}
use Rattle.dft_netlist.specs.Finishing.{IsFinished, CannotFinish}

-- ---- the first of its kind is one

-- two numbers are one where neither is below the other
neither_below : (a b : ℕ) → (a < b → ⊥) → (b < a → ⊥) → a ≡ b
neither_below a b p q = ⊎_elim (λ lt. absurd (p lt)) (λ le. ⊎_elim (λ lt. absurd (q lt)) (λ le'. omega (arith, le, le')) (cases_lt b a)) (cases_lt a b)

first_multiple_one : (n : Netlist) (a b : ℕ) → IsFirstMultiple n a → IsFirstMultiple n b → a ≡ b
first_multiple_one n a b x y = neither_below a b (λ lt. omega (arith, x.twice, y.first a lt)) (λ lt. omega (arith, y.twice, x.first b lt))

not_single : (n : Netlist) (net : ℕ) → IsSingle n → IsFirstMultiple n net → ⊥
not_single n net single x = omega (arith, x.twice, single net)

first_stuck_one : (n : Netlist) (a b : ℕ) → IsFirstStuck n a → IsFirstStuck n b → a ≡ b
first_stuck_one n a b x y = neither_below a b (λ lt. x.stuck (y.before a lt)) (λ lt. y.stuck (x.before b lt))

head_same : (a b : ℕ) (cs ds : List ℕ) → a ∷ cs ≡ b ∷ ds → a ≡ b
head_same a b cs ds e = cc

tail_same : (a b : ℕ) (cs ds : List ℕ) → a ∷ cs ≡ b ∷ ds → cs ≡ ds
tail_same a b cs ds e = cc

split_one : (n : Netlist) (a b : ℕ) (xs ys cs ds : List ℕ) → xs ++ a ∷ cs ≡ ys ++ b ∷ ds → AllByRecursion (IsOrderable n) xs → AllByRecursion (IsOrderable n) ys → IsStuck n a → IsStuck n b → a ≡ b
split_one n a b [] [] cs ds e ox oy sa sb = head_same a b cs ds e
split_one n a b [] (y ∷ ys) cs ds e ox oy sa sb = absurd (sa (subst (IsOrderable n) (sym (head_same a y cs _ e)) oy.0))
split_one n a b (x ∷ xs) [] cs ds e ox oy sa sb = absurd (sb (subst (IsOrderable n) (head_same x b _ ds e) ox.0))
split_one n a b (x ∷ xs) (y ∷ ys) cs ds e ox oy sa sb = split_one n a b xs ys cs ds (tail_same x y _ _ e) ox.1 oy.1 sa sb

next_one : (n : Netlist) (net a b : ℕ) → IsNextStuck n net a → IsNextStuck n net b → a ≡ b
next_one n net a b x y = split_one n a b x.front y.front x.back y.back (sym x.reads ∙ y.reads) x.orderable y.orderable x.stuck y.stuck

-- ---- walks

abbrev Walked : Netlist → List ℕ → Type 0
Walked n [] = ⊥
Walked n (net ∷ []) = IsFirstStuck n net
Walked n (next ∷ net ∷ walk) = IsWalk n (net ∷ walk) × IsNextStuck n net next

walked : (n : Netlist) (walk : List ℕ) → IsWalk n walk → Walked n walk
walked n _ (Starts first) = first
walked n _ (Goes walk next) = (walk, next)

walks_one : (n : Netlist) (u w : List ℕ) → IsWalk n u → IsWalk n w → length u ≡ length w → u ≡ w
walks_one n [] w x y e = absurd (walked n [] x)
walks_one n (a ∷ u) [] x y e = absurd (walked n [] y)
walks_one n (a ∷ []) (b ∷ []) x y e = ap (λ (net : ℕ). net ∷ []) (first_stuck_one n a b (walked n (a ∷ []) x) (walked n (b ∷ []) y))
walks_one n (a ∷ []) (b ∷ d ∷ w) x y e = absurd (omega (arith, e))
walks_one n (a ∷ c ∷ u) (b ∷ []) x y e = absurd (omega (arith, e))
walks_one n (a ∷ c ∷ u) (b ∷ d ∷ w) x y e =
    let p = walked n (a ∷ c ∷ u) x in
    let q = walked n (b ∷ d ∷ w) y in
    let rest : c ∷ u ≡ d ∷ w = walks_one n (c ∷ u) (d ∷ w) p.0 q.0 (omega (arith, e)) in
    let next : a ≡ b = next_one n d a b (subst (λ (net : ℕ). IsNextStuck n net a) (head_same c d u w rest) p.1) q.1 in
    ap (λ (net : ℕ). net ∷ c ∷ u) next ∙ ap (λ (l : List ℕ). b ∷ l) rest

walk_start : (n : Netlist) (w : List ℕ) → IsWalk n w → (net : ℕ) × IsFirstStuck n net
walk_start n [] x = absurd (walked n [] x)
walk_start n (a ∷ []) x = (a, walked n (a ∷ []) x)
walk_start n (a ∷ c ∷ w) x = walk_start n (c ∷ w) (walked n (a ∷ c ∷ w) x).0

-- no walk without repetition is as long as one that has come again
no_longer : (n : Netlist) (a : ℕ) (u w : List ℕ) → IsWalk n (a ∷ u) → Has u a → IsWalk n w → AreOnce w → length (a ∷ u) ≤ length w → ⊥
no_longer n a u [] x again y once long = walked n [] y
no_longer n a u (b ∷ []) x again y once long =
    let same : a ∷ u ≡ b ∷ [] = walks_one n (a ∷ u) (b ∷ []) x y (omega (arith, long)) in
    (subst AreOnce (sym same) once).0 again
no_longer n a u (b ∷ d ∷ w) x again y once long = ⊎_elim
    (λ shorter. no_longer n a u (d ∷ w) x again (walked n (b ∷ d ∷ w) y).0 once.1 (omega (arith, shorter)))
    (λ not_shorter. let same : a ∷ u ≡ b ∷ d ∷ w = walks_one n (a ∷ u) (b ∷ d ∷ w) x y (omega (arith, long, not_shorter)) in (subst AreOnce (sym same) once).0 again)
    (cases_lt (length (a ∷ u)) (length (b ∷ d ∷ w)))

loop_net_one : (n : Netlist) (a b : ℕ) → IsLoopNet n a → IsLoopNet n b → a ≡ b
loop_net_one n a b x y = ⊎_elim
    (λ lt. absurd (no_longer n a (x.last ∷ x.walk) (y.last ∷ y.walk) (Goes x.walked x.next) x.again y.walked y.once (omega (arith, lt))))
    (λ le. ⊎_elim
    (λ lt. absurd (no_longer n b (y.last ∷ y.walk) (x.last ∷ x.walk) (Goes y.walked y.next) y.again x.walked x.once (omega (arith, lt))))
    (λ le'. let same : x.last ∷ x.walk ≡ y.last ∷ y.walk = walks_one n (x.last ∷ x.walk) (y.last ∷ y.walk) x.walked y.walked (omega (arith, le, le')) in
    next_one n y.last a b (subst (λ (net : ℕ). IsNextStuck n net a) (head_same x.last y.last x.walk y.walk same) x.next) y.next)
    (cases_lt (length (y.last ∷ y.walk)) (length (x.last ∷ x.walk))))
    (cases_lt (length (x.last ∷ x.walk)) (length (y.last ∷ y.walk)))

-- ---- refusals

-- it is no want of memory
abbrev pub IsReason : NetlistError → Type 0
IsReason (MultipleDrivers net) = Unit {0}
IsReason (Loop net) = Unit {0}
IsReason (DuplicateName name) = Unit {0}
IsReason (TooMany what limit) = Unit {0}
IsReason (Memory error) = ⊥

named_one : (nets : List (List ℕ)) (a b : ℕ) (x y : List ℕ) → a ≡ b → slice_get nets a ≡ Some x → slice_get nets b ≡ Some y → x ≡ y
named_one nets a b x y same p q = let e : Some x ≡ Some y = sym p ∙ ap (slice_get nets) same ∙ q in cc

-- a netlist is refused for one reason
pub reason_one : (n : Netlist) (a b : NetlistError) → IsReason a → IsReason b → CannotFinish n a → CannotFinish n b → a ≡ b
reason_one n (MultipleDrivers x) (MultipleDrivers y) ra rb p q = ap MultipleDrivers (named_one n.nets p.net q.net x y (first_multiple_one n p.net q.net p.first q.first) p.named q.named)
reason_one n (MultipleDrivers x) (Loop y) ra rb p q = absurd (not_single n p.net q.single p.first)
reason_one n (Loop x) (MultipleDrivers y) ra rb p q = absurd (not_single n q.net p.single q.first)
reason_one n (Loop x) (Loop y) ra rb p q = ap Loop (named_one n.nets p.net q.net x y (loop_net_one n p.net q.net p.again q.again) p.named q.named)
reason_one n (MultipleDrivers x) (DuplicateName y) ra rb p q = absurd q
reason_one n (MultipleDrivers x) (TooMany what limit) ra rb p q = absurd q
reason_one n (MultipleDrivers x) (Memory e) ra rb p q = absurd rb
reason_one n (Loop x) (DuplicateName y) ra rb p q = absurd q
reason_one n (Loop x) (TooMany what limit) ra rb p q = absurd q
reason_one n (Loop x) (Memory e) ra rb p q = absurd rb
reason_one n (DuplicateName x) b ra rb p q = absurd p
reason_one n (TooMany what limit) b ra rb p q = absurd p
reason_one n (Memory e) b ra rb p q = absurd ra

-- a netlist that is finished is not refused
pub finished_or_refused : (n design : Netlist) (why : NetlistError) → IsReason why → IsFinished n design → CannotFinish n why → ⊥
finished_or_refused n design (MultipleDrivers x) reason finished refused = not_single n refused.net finished.single refused.first
finished_or_refused n design (Loop x) reason finished refused =
    let start = walk_start n (refused.again.last ∷ refused.again.walk) refused.again.walked in
    start.1.stuck (finished.orderable start.0 start.1.live)
finished_or_refused n design (DuplicateName x) reason finished refused = refused
finished_or_refused n design (TooMany what limit) reason finished refused = refused
finished_or_refused n design (Memory e) reason finished refused = reason
