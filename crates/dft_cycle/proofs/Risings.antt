-- Each turn joins the next values to the map: it loses known values, and stays below all closed maps.
use Rattle.std.proofs.Common.{ℕ, zero, suc, Bool, true, false, List, [], ◌∷◌, ◌≡◌, ◌<◌, ◌≤◌, ◌||◌, ◌&&◌, inl, inr, length, refl, sym, ap, ◌∙◌, subst, get_or, slice_set, count_by, arith}
use Rattle.std.proofs.lemmas.Grind.{common_steps}
use Rattle.std.proofs.lemmas.Bool.Decides.{leb_tells}
use Rattle.std.proofs.lemmas.List.{get_or_past}
use Rattle.std.proofs.lemmas.Bool.{or_parts}
use Rattle.dft_base.proofs.BitLemmas.{and_first}
use Rattle.dft_base.specs.declared.tri.Tri.{Tri}
use Rattle.dft_base.specs.declared.tri.Tri.TheVariants.{Zero, One, Unknown}
use Rattle.dft_base.specs.Tri.{AboveTri, join, is_known}
use Rattle.dft_cells.proofs.Completions.{above_self, trans}
use Rattle.dft_netlist.specs.declared.ids.NetId.{NetId}
use Rattle.dft_behavior.specs.Logic.{Logic, Cell}
use Rattle.dft_behavior.specs.Runs.{takes}
use Rattle.dft_abstract.specs.Cycle.{Pulse, changes, next_value, AreViews, IsClosed, IsLeast}
use Rattle.dft_cycle.specs.Machine.{value_at}
use Rattle.dft_logic.specs.Circuit.{Circuit, logic_at, IsCircuit}
use Rattle.dft_cycle.specs.Views.{raised_by, rank_of, Among, HasNext, StaysBelow, AreNext}
use Rattle.dft_abstract.proofs.Views.{views_exist}
use Rattle.dft_abstract.proofs.Least.{step_below}
use Rattle.dft_takings.proofs.CircuitRanks.{circuit_ranked}
use Rattle.dft_logic.proofs.Writings.{write_same, cell_past}

-- ---- known values are lost

pub record Raised (start poss : List Tri) (changed : Bool) : Type 0 where
  pub less : count_by is_known poss ≤ count_by is_known start
  pub same : changed ≡ false → poss ≡ start
  pub fewer : changed ≡ true → count_by is_known poss < count_by is_known start

fewer_known : (xs : List Tri) (i : ℕ) (y d : Tri) → i < length xs → is_known (get_or xs i d) ≡ true → is_known y ≡ false → count_by is_known (slice_set xs i y) < count_by is_known xs
fewer_known [] i y d less k n = absurd (omega arith)
fewer_known (x ∷ xs) zero y d less k n = grind (arith, common_steps)
fewer_known (x ∷ xs) (suc i) y d less k n = let ih = fewer_known xs i y d (omega arith) k n in grind (arith, common_steps, ih)

lost : (up : Bool) (next old : Tri) → (raised_by up next old ≡ old → ⊥) → (is_known old ≡ true) × (is_known (raised_by up next old) ≡ false)
lost false next old h = absurd (h refl)
lost true next Unknown h = absurd (h refl)
lost true Zero Zero h = absurd (h refl)
lost true One Zero h = (refl, refl)
lost true Unknown Zero h = (refl, refl)
lost true One One h = absurd (h refl)
lost true Zero One h = (refl, refl)
lost true Unknown One h = (refl, refl)

raise_moved : (start poss : List Tri) (place : ℕ) (up : Bool) (next t : Tri) (changed moved : Bool) → place < length poss → Raised start poss changed → t ≡ raised_by up next (get_or poss place Zero) →
    (moved ≡ false → t ≡ get_or poss place Zero) → (moved ≡ true → t ≡ get_or poss place Zero → ⊥) → (b : Bool) → moved ≡ b → Raised start (slice_set poss place t) (changed || moved)
raise_moved start poss place up next t changed moved less r is same other false m =
    let kept = write_same poss place t less (same m) in
    let P : List Tri → Type 0 = λ l. Raised start l (changed || moved) in
    subst P (sym kept) (record { less = r.less; same = λ h. r.same (or_parts changed moved h).0; fewer = λ h. r.fewer (left changed moved h m) }) where
      left : (a b : Bool) → (a || b) ≡ true → b ≡ false → a ≡ true
      left true b h q = refl
      left false b h q = absurd cc
raise_moved start poss place up next t changed moved less r is same other true m =
    let gone = lost up next (get_or poss place Zero) (λ e. other m (is ∙ e)) in
    let known : Tri → Type 0 = λ u. is_known u ≡ false in
    let fall = fewer_known poss place t Zero less gone.0 (subst known (sym is) gone.1) in
    let below = r.less in
    record { less = omega arith; same = λ h. absurd (no changed moved h m); fewer = λ h. omega arith } where
      no : (a b : Bool) → (a || b) ≡ false → b ≡ true → ⊥
      no true b h q = cc
      no false b h q = cc

pub raise_step : (start poss : List Tri) (place : ℕ) (up : Bool) (next t : Tri) (changed moved : Bool) → place < length poss → Raised start poss changed → t ≡ raised_by up next (get_or poss place Zero) →
    (moved ≡ false → t ≡ get_or poss place Zero) → (moved ≡ true → t ≡ get_or poss place Zero → ⊥) → Raised start (slice_set poss place t) (changed || moved)
raise_step start poss place up next t changed moved less r is same other = raise_moved start poss place up next t changed moved less r is same other moved refl

pub or_true : (a b : Bool) → a ≡ true → (a || b) ≡ a
or_true true b h = refl
or_true false b h = absurd cc

pub or_false : (a b : Bool) → a ≡ false → (a || b) ≡ b
or_false false b h = refl
or_false true b h = absurd cc

-- ---- a turn

join_over : (a b : Tri) → AboveTri (join a b) a
join_over Zero Zero = tt
join_over Zero One = tt
join_over Zero Unknown = tt
join_over One Zero = tt
join_over One One = tt
join_over One Unknown = tt
join_over Unknown b = tt

raised_over : (up : Bool) (next old : Tri) → AboveTri (raised_by up next old) old
raised_over true next old = join_over old next
raised_over false next old = above_self old

raised_next : (up : Bool) (next old : Tri) → up ≡ true → raised_by up next old ≡ old → AboveTri old next
raised_next false next old h e = absurd cc
raised_next true Zero Zero h e = tt
raised_next true One Zero h e = absurd cc
raised_next true Unknown Zero h e = absurd cc
raised_next true One One h e = tt
raised_next true Zero One h e = absurd cc
raised_next true Unknown One h e = absurd cc
raised_next true next Unknown h e = tt

-- what takes a value has a clock that pulses
pub pulses : (l : Logic) (p : Pulse) (c : ℕ) → changes l p c ≡ true → p.pulsed (l.cell c).domain ≡ true
pulses l p c up = and_first (p.pulsed (l.cell c).domain) (takes p.rising (l.cell c).falling) up

-- what `raise` does to each flip-flop
abbrev pub IsRaised : Circuit → Pulse → (next old new : List Tri) → Type 0
IsRaised x p next old new = (c : ℕ) → c < length x.flops → value_at new c ≡ raised_by (changes (logic_at x) p c) (value_at next c) (value_at old c)

pub turn_above : (x : Circuit) (p : Pulse) (next old new : List Tri) → length old ≡ length x.flops → length new ≡ length old → IsRaised x p next old new → (c : ℕ) → AboveTri (value_at new c) (value_at old c)
turn_above x p next old new a b each c = elim (leb_tells (length x.flops) c) [
  | inl out ↦ (let far : length new ≤ c = omega (arith, out.1) in let P : Tri → Type 0 = λ t. AboveTri t (value_at old c) in subst P (sym (get_or_past new c Unknown far)) tt)
  | inr live ↦ (let P : Tri → Type 0 = λ t. AboveTri t (value_at old c) in subst P (sym (each c live.1)) (raised_over (changes (logic_at x) p c) (value_at next c) (value_at old c)))
]

below_case : (l : Logic) (rank : ℕ → ℕ) (p : Pulse) (poss other : ℕ → Tri) (view its : ℕ → ℕ → Tri) (c : ℕ) (next : Tri) (up : Bool) → changes l p c ≡ up → (up ≡ true → next ≡ next_value l p view c) →
    (changes l p c ≡ true → AboveTri (other c) (join (poss c) (next_value l p view c))) → AboveTri (other c) (poss c) → AboveTri (other c) (raised_by up next (poss c))
below_case l rank p poss other view its c next true e is joined over = let P : Tri → Type 0 = λ t. AboveTri (other c) (join (poss c) t) in subst P (sym (is refl)) (joined e)
below_case l rank p poss other view its c next false e is joined over = over

pub turn_below : (x : Circuit) (p : Pulse) (clocks : List NetId) (next old new : List Tri) → IsCircuit x → length old ≡ length x.flops → length new ≡ length old → IsRaised x p next old new →
    ((e : ℕ) → p.pulsed e ≡ true → Among clocks (length clocks) e) →
    ((view : ℕ → ℕ → Tri) → AreViews (logic_at x) p (value_at old) view → HasNext x p view clocks (length clocks) next) → StaysBelow (logic_at x) p old new
turn_below x p clocks next old new is a b each among has other its closed over c =
    let found = views_exist (logic_at x) (rank_of x) p (value_at old) (circuit_ranked x is) in
    let P : Tri → Type 0 = λ t. AboveTri (other c) t in
    elim (leb_tells (length x.flops) c) [
      | inl out ↦ (let far : length new ≤ c = omega (arith, out.1) in let there : length old ≤ c = omega (arith, out.1) in
          subst P (get_or_past old c Unknown there ∙ sym (get_or_past new c Unknown far)) (over c))
      | inr live ↦ subst P (sym (each c live.1))
          (below_case (logic_at x) (rank_of x) p (value_at old) other found.0 its c (value_at next c) (changes (logic_at x) p c) refl
          (λ up. (let own = pulses (logic_at x) p c up in has found.0 found.1 c live.1 own (among ((logic_at x).cell c).domain own)))
          (step_below (logic_at x) (rank_of x) p (value_at old) other found.0 its (circuit_ranked x is) found.1 closed over c) (over c))
    ]

-- past the end no flip-flop takes anything
pub past_next : (x : Circuit) (p : Pulse) (view : ℕ → ℕ → Tri) (c : ℕ) → length x.flops ≤ c → next_value (logic_at x) p view c ≡ Unknown
unfolding logic_at
past_next x p view c far = ap (λ (k : Cell). next_value (record { net = (logic_at x).net; cell = λ n. k }) p view c) (cell_past x.flops c far)

pub turn_done : (x : Circuit) (p : Pulse) (clocks : List NetId) (next old new : List Tri) (view : ℕ → ℕ → Tri) → length old ≡ length x.flops → length next ≡ length x.flops → IsRaised x p next old new →
    ((e : ℕ) → p.pulsed e ≡ true → Among clocks (length clocks) e) → new ≡ old → HasNext x p view clocks (length clocks) next → AreNext (logic_at x) p view new next
turn_done x p clocks next old new view a b each among same has c up =
    let P : Tri → Type 0 = λ t. AboveTri t (next_value (logic_at x) p view c) in
    elim (leb_tells (length x.flops) c) [
      | inl out ↦ (
        (let far : length next ≤ c = omega (arith, out.1) in get_or_past next c Unknown far ∙ sym (past_next x p view c out.1)),
        (let far : length new ≤ c = (let e = ap length same in omega (arith, out.1)) in subst P (sym (get_or_past new c Unknown far)) tt),
      )
      | inr live ↦ (let own = pulses (logic_at x) p c up in let is = has c live.1 own (among ((logic_at x).cell c).domain own) in
          let kept : value_at new c ≡ value_at old c = ap (λ (l : List Tri). value_at l c) same in
          let Q : Tri → Type 0 = λ t. AboveTri (value_at old c) t in
          (is, subst P (sym kept) (subst Q is (raised_next (changes (logic_at x) p c) (value_at next c) (value_at old c) up (sym (each c live.1) ∙ kept)))))
    ]

-- ---- the least map

pub record Reached (l : Logic) (p : Pulse) (poss : List Tri) : Type 0 where
  pub above : (c : ℕ) → AboveTri (value_at poss c) (p.old c)
  pub below : (other : ℕ → Tri) (its : ℕ → ℕ → Tri) → IsClosed l p other its → (c : ℕ) → AboveTri (other c) (value_at poss c)

pub reach_start : (l : Logic) (p : Pulse) (poss old : List Tri) → poss ≡ old → p.old ≡ value_at old → Reached l p poss
reach_start l p poss old same is =
    let e : value_at poss ≡ value_at old = λ i. value_at (same i) in
    let f : value_at poss ≡ p.old = e ∙ sym is in
    record {
      above = λ c. (let P : (ℕ → Tri) → Type 0 = λ g. AboveTri (g c) (p.old c) in subst P (sym f) (above_self (p.old c)));
      below = λ other its closed c. (let P : (ℕ → Tri) → Type 0 = λ g. AboveTri (other c) (g c) in subst P (sym f) (closed.old c));
    }

pub reach_more : (l : Logic) (p : Pulse) (poss new : List Tri) → Reached l p poss → ((c : ℕ) → AboveTri (value_at new c) (value_at poss c)) → StaysBelow l p poss new → Reached l p new
reach_more l p poss new r over stays = record {
  above = λ c. trans (value_at new c) (value_at poss c) (p.old c) (over c) (r.above c);
  below = λ other its closed. stays other its closed (r.below other its closed);
}

pub reach_least : (l : Logic) (p : Pulse) (poss next : List Tri) (view : ℕ → ℕ → Tri) → Reached l p poss → AreViews l p (value_at poss) view → AreNext l p view poss next → IsLeast l p (value_at poss) view
reach_least l p poss next view r views are = record {
  closed = record { views = views; old = r.above; next = λ c up. (are c up).1 };
  least = λ other its closed. r.below other its closed;
}
