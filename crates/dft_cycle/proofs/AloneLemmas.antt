-- Where one domain pulses and there is no lock-up, its next values do not depend on the map.
use Rattle.std.proofs.Common.{ℕ, zero, suc, Bool, true, false, List, [], ◌∷◌, ◌≡◌, ◌<◌, ◌≤◌, ◌+◌, ◌==◌, ◌&&◌, inl, inr, length, refl, sym, ap, ◌∙◌, subst, get_or, count_by, arith}
use Rattle.std.specs.Prelude.{if◌then◌else◌, is_some}
use Rattle.std.specs.List.{list_any}
use Rattle.std.proofs.lemmas.Bool.Decides.{eqb_tells, leb_tells}
use Rattle.std.proofs.lemmas.List.{get_or_past}
use Rattle.std.proofs.lemmas.List.Sums.{sum_by-cons}
use Rattle.std.proofs.lemmas.Bool.{eq-eqb}
use Rattle.dft_base.specs.declared.tri.Tri.{Tri}
use Rattle.dft_base.specs.declared.tri.Tri.TheVariants.{Zero, One, Unknown}
use Rattle.dft_base.specs.Tri.{AboveTri}
use Rattle.dft_cells.specs.FlipFlops.{tri_taken_by, tri_forced_by}
use Rattle.dft_netlist.specs.declared.ids.NetId.{NetId}
use Rattle.dft_behavior.specs.Logic.{Logic, IsRanked}
use Rattle.dft_behavior.specs.Settled.{value_from}
use Rattle.dft_behavior.specs.Runs.{takes}
use Rattle.dft_abstract.specs.Cycle.{Pulse, changes, next_value, view_sources, AreViews}
use Rattle.dft_cycle.specs.Machine.{value_at}
use Rattle.dft_logic.specs.Circuit.{Circuit, logic_at, flag_at, IsCircuit}
use Rattle.dft_cycle.specs.Views.{raised_by, rank_of, Among, PulsesAmong, HasNext, AreNext, IsAlone}
use Rattle.dft_abstract.proofs.Views.{settled_same, views_exist}
use Rattle.dft_takings.proofs.CircuitRanks.{circuit_ranked}
use Rattle.dft_cycle.proofs.RoundLemmas.{no_latch}
use Rattle.dft_cycle.proofs.Risings.{IsRaised, past_next, pulses}

-- ---- the view of the domain that pulses

same_flop : (up edge hit : Bool) (old a b : Tri) → (up ≡ true → hit ≡ true) → (if up && edge then (if hit then old else a) else old) ≡ (if up && edge then (if hit then old else b) else old)
same_flop false edge hit old a b h = refl
same_flop true false hit old a b h = refl
same_flop true true true old a b h = refl
same_flop true true false old a b h = absurd (let f : false ≡ true = h refl in let g : ⊥ = cc in g)

own_view : (l : Logic) (rank : ℕ → ℕ) (p : Pulse) (d : ℕ) (poss other : ℕ → Tri) (view its : ℕ → ℕ → Tri) → IsRanked l rank → IsAlone l p.pulsed → p.pulsed d ≡ true → AreViews l p poss view → AreViews l p other its → (net : ℕ) → view d net ≡ its d net
own_view l rank p d poss other view its ranked alone up views others net =
    settled_same l rank (view_sources l p poss view d) (view_sources l p other its d) (view d) (its d) ranked (views d) (others d) (λ k. refl) (λ e. refl)
    (λ c. same_flop (p.pulsed (l.cell c).domain) (takes p.rising (l.cell c).falling) ((l.cell c).domain == d) (p.old c) (poss c) (other c) (λ h. eq-eqb (l.cell c).domain d (alone.one (l.cell c).domain d h up)))
    (λ k c e high source is same below. absurd (alone.none k c e high source is)) net

own_next : (l : Logic) (rank : ℕ → ℕ) (p : Pulse) (poss other : ℕ → Tri) (view its : ℕ → ℕ → Tri) → IsRanked l rank → IsAlone l p.pulsed → AreViews l p poss view → AreViews l p other its → (c : ℕ) → p.pulsed (l.cell c).domain ≡ true → next_value l p view c ≡ next_value l p its c
own_next l rank p poss other view its ranked alone views others c up =
    let same : view (l.cell c).domain ≡ its (l.cell c).domain = λ t net. own_view l rank p (l.cell c).domain poss other view its ranked alone up views others net t in
    ap (λ (w : ℕ → Tri). tri_forced_by (l.cell c).forces p.ports (tri_taken_by (l.cell c).takes (p.old c) (value_from w))) same

-- ---- a turn

raised_above : (up : Bool) (next old : Tri) → up ≡ true → AboveTri (raised_by up next old) next
raised_above false next old h = absurd cc
raised_above true Zero Zero h = tt
raised_above true One Zero h = tt
raised_above true Unknown Zero h = tt
raised_above true Zero One h = tt
raised_above true One One h = tt
raised_above true Unknown One h = tt
raised_above true Zero Unknown h = tt
raised_above true One Unknown h = tt
raised_above true Unknown Unknown h = tt

pub turn_alone : (x : Circuit) (p : Pulse) (clocks : List NetId) (next old new : List Tri) (view : ℕ → ℕ → Tri) → (is : IsCircuit x) → length old ≡ length x.flops → length new ≡ length old → length next ≡ length x.flops → (each : IsRaised x p next old new) →
    (among : ((e : ℕ) → p.pulsed e ≡ true → Among clocks (length clocks) e)) → (alone : IsAlone (logic_at x) p.pulsed) →
    (has : ((w : ℕ → ℕ → Tri) → AreViews (logic_at x) p (value_at old) w → HasNext x p w clocks (length clocks) next)) → (views : AreViews (logic_at x) p (value_at new) view) → AreNext (logic_at x) p view new next
turn_alone x p clocks next old new view is a b n each among alone has views c up =
    let found = views_exist (logic_at x) (rank_of x) p (value_at old) (circuit_ranked x is) in
    let P : Tri → Type 0 = λ t. AboveTri t (next_value (logic_at x) p view c) in
    elim (leb_tells (length x.flops) c) [
      | inl out ↦ (
        (let far : length next ≤ c = omega (arith, out.1) in get_or_past next c Unknown far ∙ sym (past_next x p view c out.1)),
        (let far : length new ≤ c = omega (arith, out.1) in subst P (sym (get_or_past new c Unknown far)) tt),
      )
      | inr live ↦ (let taken : value_at next c ≡ next_value (logic_at x) p view c =
          (let own = pulses (logic_at x) p c up in
          has found.0 found.1 c live.1 own (among ((logic_at x).cell c).domain own) ∙ own_next (logic_at x) (rank_of x) p (value_at old) (value_at new) found.0 view (circuit_ranked x is) alone found.1 views c own) in
          let Q : Tri → Type 0 = λ t. AboveTri (value_at new c) t in
          let R : Tri → Type 0 = λ t. AboveTri t (value_at next c) in
          (taken, subst Q taken (subst R (sym (each c live.1)) (raised_above (changes (logic_at x) p c) (value_at next c) (value_at old c) up))))
    ]

-- ---- at most one clock pulses

module _ {X : Type 0} (test : X → Bool) where
  counted : (x : X) (xs : List X) (t : Bool) → test x ≡ t → count_by test (x ∷ xs) ≡ (if t then 1 else 0) + count_by test xs
  counted x xs t is = sum_by-cons _ x xs ∙ ap (λ b. (if b then 1 else 0) + count_by test xs) is

  one_counted : (xs : List X) (i : ℕ) (d : X) → i < length xs → test (get_or xs i d) ≡ true → 1 ≤ count_by test xs
  one_counted [] i d less up = absurd (omega arith)
  one_counted (x ∷ xs) zero d less up = (let e = counted x xs true up in omega arith)
  one_counted (x ∷ xs) (suc i) d less up = (let e = counted x xs (test x) refl in let r = one_counted xs i d (omega arith) up in omega arith)

  two_counted : (xs : List X) (i j : ℕ) (d : X) → i < j → j < length xs → test (get_or xs i d) ≡ true → test (get_or xs j d) ≡ true → 2 ≤ count_by test xs
  two_counted [] i j d less within first second = absurd (omega arith)
  two_counted (x ∷ xs) i zero d less within first second = absurd (omega arith)
  two_counted (x ∷ xs) zero (suc j) d less within first second = (let e = counted x xs true first in let r = one_counted xs j d (omega arith) second in omega arith)
  two_counted (x ∷ xs) (suc i) (suc j) d less within first second = (let e = counted x xs (test x) refl in let r = two_counted xs i j d (omega arith) (omega arith) first second in omega arith)

pub alone_of : (x : Circuit) (pulsed : List Bool) (clocks : List NetId) → IsCircuit x → list_any (λ latch. is_some latch) x.latches ≡ false → PulsesAmong pulsed clocks → count_by (λ clock. flag_at pulsed clock.0) clocks < 2 → IsAlone (logic_at x) (flag_at pulsed)
alone_of x pulsed clocks is none among few = record {
  none = λ net c e high source here. no_latch x is none net c e high source here;
  one = λ e f up also.
      (let d : NetId = record { 0 = 0 } in
      let a = among e up in
      let b = among f also in
      let test : NetId → Bool = λ clock. flag_at pulsed clock.0 in
      let first : test (get_or clocks a.place d) ≡ true = ap (flag_at pulsed) a.here ∙ up in
      let second : test (get_or clocks b.place d) ≡ true = ap (flag_at pulsed) b.here ∙ also in
      elim (leb_tells a.place b.place) [
        | inl low ↦ elim (eqb_tells a.place b.place) [
          | inl same ↦ sym a.here ∙ ap (λ (k : ℕ). (get_or clocks k d).0) same.1 ∙ b.here
          | inr other ↦ absurd (let l = low.1 in let n = other.1 in let w = b.before in let two = two_counted test clocks a.place b.place d (omega arith) w first second in omega arith)
        ]
        | inr high ↦ absurd (let h = high.1 in let w = a.before in let two = two_counted test clocks b.place a.place d (omega arith) w second first in omega arith)
      ]);
}
