-- The parts of recipes that follow one another in a list.
use Rattle.std.proofs.Common.{ℕ, zero, suc, ◌+◌, ◌-◌, ◌<◌, ◌≡◌, List, [], ◌∷◌, ◌++◌, refl, sym, subst, ap, arith, ◌∙◌, append_assoc}
use Rattle.std.specs.List.{range_with_len}
use Rattle.std.proofs.lemmas.List.{append-nil}
use Rattle.dft_base.proofs.ListLemmas.{range_split}
use Rattle.dft_netlist.specs.Netlist.{Netlist}
use Rattle.dft_netlist.specs.declared.ids.NetId.{NetId}
use Rattle.dft_parts.specs.Parts.{Part, ANet, AnInstance, APin}
use Rattle.dft_parts.specs.Growth.{HasParts, instances_in}
use Rattle.dft_parts.specs.Recipes.{Start, Recipe, nets_in, behind, each, collect, net_at}
use Rattle.dft_parts.proofs.Trees.{front, back}

pub nets_in-append : (xs ys : List Part) → nets_in (xs ++ ys) ≡ nets_in xs + nets_in ys
nets_in-append [] ys = omega arith
nets_in-append (ANet ∷ xs) ys = omega (arith, nets_in-append xs ys)
nets_in-append (AnInstance cell pins ∷ xs) ys = nets_in-append xs ys
nets_in-append (APin instance pin net ∷ xs) ys = nets_in-append xs ys

pub instances_in-append : (xs ys : List Part) → instances_in (xs ++ ys) ≡ instances_in xs + instances_in ys
instances_in-append [] ys = omega arith
instances_in-append (ANet ∷ xs) ys = instances_in-append xs ys
instances_in-append (AnInstance cell pins ∷ xs) ys = omega (arith, instances_in-append xs ys)
instances_in-append (APin instance pin net ∷ xs) ys = instances_in-append xs ys

pub behind-append : (at : Start) (xs ys : List Part) → behind (behind at xs) ys ≡ behind at (xs ++ ys)
behind-append at xs ys = λ i. record { library = at.library; next = (let e : at.next + nets_in xs + nets_in ys ≡ at.next + nets_in (xs ++ ys) = omega (arith, nets_in-append xs ys) in e) i }

-- behind nothing a recipe begins where it began
pub behind-nil : (at : Start) → behind at [] ≡ at
behind-nil at = λ i. record { library = at.library; next = (let e : at.next + 0 ≡ at.next = omega arith in e) i }

-- ---- for each of a list

pub each_parts : {X : Type 0} (f : X → Recipe (Unit {0})) (xs ys : List X) (at : Start) → (each f (xs ++ ys) at).parts ≡ (each f xs at).parts ++ (each f ys (behind at (each f xs at).parts)).parts
unfolding each
each_parts f [] ys at = ap (λ (a : Start). (each f ys a).parts) (sym (behind-nil at))
each_parts f (x ∷ xs) ys at =
    let first = (f x at).parts in
    let next = behind at first in
    let later = (each f xs next).parts in
    ap (λ (ps : List Part). first ++ ps) (each_parts f xs ys next)
    ∙ ap (λ (a : Start). first ++ (later ++ (each f ys a).parts)) (behind-append at first later)
    ∙ sym (append_assoc first later (each f ys (behind at (first ++ later))).parts)

-- the parts of one of the list stand behind those of the ones before
pub each_there : {X : Type 0} (f : X → Recipe (Unit {0})) (n : Netlist) (i : ℕ) (at : Start) (before after : List X) (x : X) → HasParts n i (each f (before ++ x ∷ after) at).parts →
    HasParts n (i + instances_in (each f before at).parts) (f x (behind at (each f before at).parts)).parts
unfolding each
each_there f n i at before after x h =
    let first = (each f before at).parts in
    let next = behind at first in
    let own = (f x next).parts in
    front n (i + instances_in first) own (each f after (behind next own)).parts (back n i first (own ++ (each f after (behind next own)).parts) (subst (HasParts n i) (each_parts f before (x ∷ after) at) h))

-- the parts of one more
pub each_more : {X : Type 0} (f : X → Recipe (Unit {0})) (before : List X) (x : X) (at : Start) → instances_in (each f (before ++ x ∷ []) at).parts ≡ instances_in (each f before at).parts + instances_in (f x (behind at (each f before at).parts)).parts
unfolding each
each_more f before x at =
    let first = (each f before at).parts in
    let own = (f x (behind at first)).parts in
    ap instances_in (each_parts f before (x ∷ []) at) ∙ instances_in-append first (own ++ []) ∙ ap (λ (ps : List Part). instances_in first + instances_in ps) (append-nil own)

-- ---- what is collected

-- a fact about each item and what was collected for it
abbrev pub Both : {X V : Type 0} → (X → V → Type 0) → List X → List V → Type 0
Both P [] [] = Unit {0}
Both P [] (v ∷ vs) = ⊥
Both P (x ∷ xs) [] = ⊥
Both P (x ∷ xs) (v ∷ vs) = P x v × Both P xs vs

pub collect_there : {X V : Type 0} (f : X → Recipe V) (n : Netlist) (P : X → V → Type 0) (i : ℕ) (at : Start) (xs : List X) → ((x : X) (k : ℕ) (a : Start) → a.library ≡ at.library → HasParts n k (f x a).parts → P x (f x a).value) →
    HasParts n i (collect f xs at).parts → Both P xs (collect f xs at).value
unfolding collect
collect_there f n P i at [] fact h = tt
collect_there f n P i at (x ∷ xs) fact h =
    let first = (f x at).parts in
    let later = (collect f xs (behind at first)).parts in
    (fact x i at refl (front n i first (later ++ []) h), collect_there f n P (i + instances_in first) (behind at first) xs fact (front n (i + instances_in first) later [] (back n i first (later ++ []) h)))

-- ---- numbers

-- a number below the bound stands behind those below it
pub range_at : (n k : ℕ) → k < n → range_with_len 0 n ≡ range_with_len 0 k ++ k ∷ range_with_len (k + 1) (n - (k + 1))
range_at n k less =
    let e : n ≡ k + suc (n - (k + 1)) = omega (arith, less) in
    let at : 0 + k ≡ k = omega arith in
    ap (range_with_len 0) e ∙ range_split 0 k (suc (n - (k + 1))) ∙ ap (λ (a : ℕ). range_with_len 0 k ++ range_with_len a (suc (n - (k + 1)))) at

-- what holds of each number and what was collected for it
both_from : (P : ℕ → NetId → Type 0) (from count k : ℕ) (vs : List NetId) → k < count → Both P (range_with_len from count) vs → P (from + k) (net_at vs k)
both_from P from zero k vs less h = absurd (omega (arith, less))
both_from P from (suc count) k [] less h = absurd h
both_from P from (suc count) zero (v ∷ vs) less h = let e : from ≡ from + 0 = omega arith in subst (λ (a : ℕ). P a v) e h.0
both_from P from (suc count) (suc k) (v ∷ vs) less h =
    let e : from + 1 + k ≡ from + suc k = omega arith in subst (λ (a : ℕ). P a (net_at vs k)) e (both_from P (from + 1) count k vs (omega (arith, less)) h.1)

pub both_at : (P : ℕ → NetId → Type 0) (count k : ℕ) (vs : List NetId) → k < count → Both P (range_with_len 0 count) vs → P k (net_at vs k)
both_at P count k vs less h = let e : 0 + k ≡ k = omega arith in subst (λ (a : ℕ). P a (net_at vs k)) e (both_from P 0 count k vs less h)
