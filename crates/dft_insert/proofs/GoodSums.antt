-- Sums, and what is made for each of a list: their parts are good.
use Rattle.std.proofs.Common.{ℕ, zero, suc, ◌+◌, ◌≡◌, ◌<◌, ◌≤◌, List, [], ◌∷◌, ◌++◌, length, refl, ap, arith, ◌∙◌, cond, ◌==◌}
use Rattle.std.proofs.lemmas.List.Sums.{sum_by-cons}
use Rattle.std.specs.List.{AllByRecursion, range_with_len}
use Rattle.dft_edt.proofs.PartLists.{nets_in-append}
use Rattle.dft_cells.specs.declared.kind.Gate.{Gate}
use Rattle.dft_cells.specs.declared.kind.Gate.TheVariants.{Xor}
use Rattle.dft_netlist.specs.declared.ids.NetId.{NetId}
use Rattle.dft_netlist.specs.Netlist.{Netlist}
use Rattle.dft_netlist.specs.Orders.{numbers_of}
use Rattle.dft_parts.specs.Parts.{Part}
use Rattle.dft_parts.specs.Recipes.{Start, Recipe, nets_in, behind, each, collect, net_at, a_net, a_gate}
use Rattle.dft_parts.specs.Single.{times_in}
use Rattle.dft_parts.specs.Sums.{a_driving_gate, pairs, levels, first_net, a_sum}
use Rattle.dft_insert.proofs.Goods.{Setting, IsBelow, AreBelow, made_below, none_below, below_more, ranks_less, none, one, IsGood, good_nil, good_both, good_as, good_net, good_gate}

pub front_less : (next : ℕ) (xs ys : List Part) → next + nets_in xs ≤ next + nets_in (xs ++ ys)
front_less next xs ys = omega (arith, nets_in-append xs ys)

pub back_less : (next : ℕ) (xs ys : List Part) → next + nets_in xs + nets_in ys ≤ next + nets_in (xs ++ ys)
back_less next xs ys = omega (arith, nets_in-append xs ys)

-- ---- parts that give nets

-- they are good, drive what they make, and give nets that stand below what comes behind
pub record Gives (n : Netlist) (rank : ℕ → ℕ) (at : Start) (parts : List Part) (nets : List NetId) : Type 0 where
  pub good : IsGood n rank at parts none none
  pub below : AreBelow rank (at.next + nets_in parts) nets

pub below_append : (rank : ℕ → ℕ) (next : ℕ) (xs ys : List NetId) → AreBelow rank next xs → AreBelow rank next ys → AreBelow rank next (xs ++ ys)
below_append rank next [] ys h k = k
below_append rank next (x ∷ xs) ys h k = (h.0, below_append rank next xs ys h.1 k)

pub gives_then : (n : Netlist) (rank : ℕ → ℕ) (at : Start) (xs ys : List Part) (first more : List NetId) → Gives n rank at xs first → Gives n rank (behind at xs) ys more → Gives n rank at (xs ++ ys) (first ++ more)
gives_then n rank at xs ys first more h g = record {
  good = good_both n rank at xs ys none none none none h.good g.good;
  below = below_append rank (at.next + nets_in (xs ++ ys)) first more (below_more rank (at.next + nets_in xs) (at.next + nets_in (xs ++ ys)) first (front_less at.next xs ys) h.below)
      (below_more rank (at.next + nets_in xs + nets_in ys) (at.next + nets_in (xs ++ ys)) more (back_less at.next xs ys) g.below);
}

pub gives_last : (n : Netlist) (rank : ℕ → ℕ) (at : Start) (xs ys : List Part) (first more : List NetId) → Gives n rank at xs first → Gives n rank (behind at xs) ys more → Gives n rank at (xs ++ ys) more
gives_last n rank at xs ys first more h g = record {
  good = good_both n rank at xs ys none none none none h.good g.good;
  below = below_more rank (at.next + nets_in xs + nets_in ys) (at.next + nets_in (xs ++ ys)) more (back_less at.next xs ys) g.below;
}

pub gives_end : (n : Netlist) (rank : ℕ → ℕ) (at : Start) (xs : List Part) (nets : List NetId) → Gives n rank at xs nets → Gives n rank at (xs ++ []) nets
gives_end n rank at xs nets h = record {
  good = good_both n rank at xs [] none none none none h.good (good_nil n rank (behind at xs));
  below = below_more rank (at.next + nets_in xs) (at.next + nets_in (xs ++ [])) nets (front_less at.next xs []) h.below;
}

-- ---- sums

pub gate_gives : (n : Netlist) (rank : ℕ → ℕ) (base : ℕ) (at : Start) (k : Gate) (inputs : List NetId) → Setting n.library rank base → base ≤ at.next → AreBelow rank at.next inputs →
    Gives n rank at (a_driving_gate k inputs at).parts ((a_driving_gate k inputs at).value ∷ [])
unfolding a_driving_gate
gate_gives n rank base at k inputs s from below =
    let net : NetId = record { 0 = at.next } in
    let gate = (a_gate k inputs net (behind at (a_net at).parts)).parts in record {
      good = good_as n rank at ((a_net at).parts ++ (gate ++ [])) (λ j. one at.next j + (none j + none j)) none (λ j. none j + (one at.next j + none j)) none (λ j. omega arith)
          (good_both n rank at (a_net at).parts (gate ++ []) (one at.next) none none (λ j. one at.next j + none j) (good_net n rank at)
          (good_both n rank (behind at (a_net at).parts) gate [] none none (one at.next) none
          (good_gate n rank (behind at (a_net at).parts) k inputs net (ranks_less rank at.next inputs (rank at.next) (omega arith) below))
          (good_nil n rank (behind (behind at (a_net at).parts) gate))));
      below = (made_below n.library rank base at.next (at.next + 1) s from (omega arith), tt);
    }

pairs_give : (n : Netlist) (rank : ℕ → ℕ) (base : ℕ) (at : Start) (nets : List NetId) → Setting n.library rank base → base ≤ at.next → AreBelow rank at.next nets → Gives n rank at (pairs nets at).parts (pairs nets at).value
unfolding pairs
pairs_give n rank base at [] s from below = record { good = good_nil n rank at; below = tt }
pairs_give n rank base at (a ∷ []) s from below = record { good = good_nil n rank at; below = below_more rank at.next (at.next + 0) (a ∷ []) (omega arith) below }
pairs_give n rank base at (a ∷ b ∷ nets) s from below =
    let gate = a_driving_gate Xor (a ∷ b ∷ []) at in
    let next = behind at gate.parts in
    let later = pairs nets next in
    gives_then n rank at gate.parts (later.parts ++ []) (gate.value ∷ []) later.value (gate_gives n rank base at Xor (a ∷ b ∷ []) s from (below.0, (below.1.0, tt)))
    (gives_end n rank next later.parts later.value (pairs_give n rank base next nets s (omega (arith, from)) (below_more rank at.next next.next nets (omega arith) below.1.1)))

levels_give : (n : Netlist) (rank : ℕ → ℕ) (base : ℕ) (at : Start) (count : ℕ) (nets : List NetId) → Setting n.library rank base → base ≤ at.next → AreBelow rank at.next nets → Gives n rank at (levels count nets at).parts (levels count nets at).value
unfolding levels
levels_give n rank base at zero nets s from below = record { good = good_nil n rank at; below = below_more rank at.next (at.next + 0) nets (omega arith) below }
levels_give n rank base at (suc count) nets s from below =
    let first = pairs nets at in
    let next = behind at first.parts in
    let rest = levels count first.value next in
    let h = pairs_give n rank base at nets s from below in
    gives_last n rank at first.parts rest.parts first.value rest.value h (levels_give n rank base next count first.value s (omega (arith, from)) h.below)

first_below : (rank : ℕ → ℕ) (next : ℕ) (nets : List NetId) → IsBelow rank next (record { 0 = 0 }) → AreBelow rank next nets → IsBelow rank next (first_net nets)
first_below rank next [] zeroth below = zeroth
first_below rank next (net ∷ nets) zeroth below = below.0

-- a sum whose terms stand below what is made
pub sum_gives : (n : Netlist) (rank : ℕ → ℕ) (base : ℕ) (at : Start) (terms : List NetId) → Setting n.library rank base → base ≤ at.next → AreBelow rank at.next terms → Gives n rank at (a_sum terms at).parts ((a_sum terms at).value ∷ [])
unfolding a_sum
sum_gives n rank base at terms s from below =
    let all = levels (length terms) terms at in
    let h = gives_end n rank at all.parts all.value (levels_give n rank base at (length terms) terms s from below) in
    record { good = h.good; below = (first_below rank (at.next + nets_in (all.parts ++ [])) all.value (none_below n.library rank base (at.next + nets_in (all.parts ++ [])) s (omega (arith, from))) h.below, tt) }

-- ---- for each of a list

-- how often a net is counted for all of a list
abbrev pub all_of : {X : Type 0} → (X → ℕ → ℕ) → List X → ℕ → ℕ
all_of e [] k = 0
all_of e (x ∷ xs) k = e x k + all_of e xs k

pub each_good : {X : Type 0} (f : X → Recipe (Unit {0})) (n : Netlist) (rank : ℕ → ℕ) (limit : ℕ) (P : X → Type 0) (e : X → ℕ → ℕ) (at : Start) (xs : List X) → AllByRecursion P xs → at.next + nets_in (each f xs at).parts ≤ limit →
    ((x : X) (a : Start) → P x → a.library ≡ at.library → at.next ≤ a.next → a.next + nets_in (f x a).parts ≤ limit → IsGood n rank a (f x a).parts none (e x)) → IsGood n rank at (each f xs at).parts none (all_of e xs)
unfolding each
each_good f n rank limit P e at [] h fits fact = good_nil n rank at
each_good f n rank limit P e at (x ∷ xs) h fits fact =
    let first = (f x at).parts in
    let next = behind at first in
    let later = (each f xs next).parts in
    good_both n rank at first later none none (e x) (all_of e xs) (fact x at h.0 refl (omega arith) (omega (arith, fits, front_less at.next first later)))
    (each_good f n rank limit P e next xs h.1 (omega (arith, fits, back_less at.next first later)) (λ y a p same past less. fact y a p same (omega (arith, past)) less))

-- what is collected has a fact that stays where more nets are made
pub record Collected {A : Type 0} (n : Netlist) (rank : ℕ → ℕ) (at : Start) (Q : ℕ → A → Type 0) (parts : List Part) (values : List A) : Type 0 where
  pub good : IsGood n rank at parts none none
  pub all : AllByRecursion (Q (at.next + nets_in parts)) values

pub all_more : {A : Type 0} (Q : ℕ → A → Type 0) (next later : ℕ) (values : List A) → ((a b : ℕ) (v : A) → a ≤ b → Q a v → Q b v) → next ≤ later → AllByRecursion (Q next) values → AllByRecursion (Q later) values
all_more Q next later [] more le h = tt
all_more Q next later (v ∷ values) more le h = (more next later v le h.0, all_more Q next later values more le h.1)

pub collect_good : {X A : Type 0} (f : X → Recipe A) (n : Netlist) (rank : ℕ → ℕ) (P : X → Type 0) (Q : ℕ → A → Type 0) (at : Start) (xs : List X) → ((a b : ℕ) (v : A) → a ≤ b → Q a v → Q b v) → AllByRecursion P xs →
    ((x : X) (a : Start) → P x → a.library ≡ at.library → at.next ≤ a.next → IsGood n rank a (f x a).parts none none × Q (a.next + nets_in (f x a).parts) (f x a).value) →
    Collected n rank at Q (collect f xs at).parts (collect f xs at).value
unfolding collect
collect_good f n rank P Q at [] more h fact = record { good = good_nil n rank at; all = tt }
collect_good f n rank P Q at (x ∷ xs) more h fact =
    let first = f x at in
    let next = behind at first.parts in
    let later = collect f xs next in
    let own = fact x at h.0 refl (omega arith) in
    let rest = collect_good f n rank P Q next xs more h.1 (λ y a p same past. fact y a p same (omega (arith, past))) in
    let whole = first.parts ++ (later.parts ++ []) in record {
      good = good_both n rank at first.parts (later.parts ++ []) none none none none own.0 (good_both n rank next later.parts [] none none none none rest.good (good_nil n rank (behind next later.parts)));
      all = (
        more (at.next + nets_in first.parts) (at.next + nets_in whole) first.value (front_less at.next first.parts (later.parts ++ [])) own.1,
        all_more Q (next.next + nets_in later.parts) (at.next + nets_in whole) later.value more (omega (arith, nets_in-append first.parts (later.parts ++ []), nets_in-append later.parts [])) rest.all,
      );
    }

-- ---- nets that are made first and driven later

-- they are owed
pub record Owes (n : Netlist) (rank : ℕ → ℕ) (at : Start) (parts : List Part) (nets : List NetId) : Type 0 where
  pub good : IsGood n rank at parts (λ k. times_in (numbers_of nets) k) none
  pub below : AreBelow rank (at.next + nets_in parts) nets

pub nets_owe : {X : Type 0} (n : Netlist) (rank : ℕ → ℕ) (base : ℕ) (at : Start) (xs : List X) → Setting n.library rank base → base ≤ at.next → Owes n rank at (collect (λ _. a_net) xs at).parts (collect (λ _. a_net) xs at).value
unfolding collect
nets_owe n rank base at [] s from = record { good = good_nil n rank at; below = tt }
nets_owe n rank base at (x ∷ xs) s from =
    let first = (a_net at).parts in
    let next = behind at first in
    let later = collect (λ _. a_net) xs next in
    let rest = nets_owe n rank base next xs s (omega (arith, from)) in
    let whole = first ++ (later.parts ++ []) in record {
      good = good_as n rank at whole (λ k. one at.next k + (times_in (numbers_of later.value) k + none k)) (λ k. times_in (at.next ∷ numbers_of later.value) k) none none
          (λ k. (
          let split = sum_by-cons (λ (j : ℕ). cond (j == k) 1 0) at.next (numbers_of later.value) in
          let alone = sum_by-cons (λ (j : ℕ). cond (j == k) 1 0) at.next [] in
          omega (arith, split, alone)
          ))
          (good_both n rank at first (later.parts ++ []) (one at.next) (λ k. times_in (numbers_of later.value) k + none k) none none (good_net n rank at)
          (good_both n rank next later.parts [] (λ k. times_in (numbers_of later.value) k) none none none rest.good (good_nil n rank (behind next later.parts))));
      below = (
        made_below n.library rank base at.next (at.next + nets_in whole) s from (omega (arith, nets_in-append first (later.parts ++ []))),
        below_more rank (next.next + nets_in later.parts) (at.next + nets_in whole) later.value (omega (arith, nets_in-append first (later.parts ++ []), nets_in-append later.parts [])) rest.below,
      );
    }

-- each net of a list by its place, from a place on
pub places_count : (g : ℕ → NetId) (from : ℕ) (nets : List NetId) (k : ℕ) → ((j : ℕ) → j < length nets → g (from + j) ≡ net_at nets j) → all_of (λ j. one (g j).0) (range_with_len from (length nets)) k ≡ times_in (numbers_of nets) k
places_count g from [] k at = refl
places_count g from (net ∷ nets) k at =
    let here : g from ≡ net = ap g (let e : from ≡ from + 0 = omega arith in e) ∙ at 0 (omega arith) in
    let split = sum_by-cons (λ (j : ℕ). cond (j == k) 1 0) net.0 (numbers_of nets) in
    let alone = sum_by-cons (λ (j : ℕ). cond (j == k) 1 0) net.0 [] in
    let first : one (g from).0 k ≡ one net.0 k = ap (λ (m : NetId). one m.0 k) here in
    let rest = places_count g (from + 1) nets k (λ j less. ap g (let e : from + 1 + j ≡ from + suc j = omega arith in e) ∙ at (suc j) (omega (arith, less))) in
    omega (arith, split, alone, first, rest)
