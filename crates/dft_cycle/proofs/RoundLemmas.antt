-- A round over the domains holds more lock-ups at the values that their views give them.
use Rattle.std.proofs.Common.{ℕ, zero, suc, Bool, true, false, List, [], ◌∷◌, ◌≡◌, ◌<◌, ◌≤◌, ◌+◌, ◌==◌, Option, None, Some, inl, inr, length, refl, sym, ap, ◌∙◌, subst, get_or, true≢false, arith}
use Rattle.std.specs.Prelude.{if◌then◌else◌, is_some}
use Rattle.std.specs.List.{list_any}
use Rattle.std.proofs.lemmas.Bool.Decides.{eqb_tells}
use Rattle.dft_base.specs.declared.tri.Tri.{Tri}
use Rattle.dft_netlist.specs.declared.ids.NetId.{NetId}
use Rattle.dft_netlist.specs.Drivers.{Source, nets_of, AreBelow}
use Rattle.dft_behavior.specs.Logic.{Meaning, Lockup, reads}
use Rattle.dft_behavior.specs.Settled.{TriSources, value_from, IsTriSettled}
use Rattle.dft_behavior.proofs.Meanings.{source_same}
use Rattle.dft_logic.specs.declared.circuit.Latch.{Latch}
use Rattle.dft_abstract.specs.Cycle.{Pulse, lockup_shown, view_sources, AreViews}
use Rattle.dft_cycle.specs.Machine.{value_at}
use Rattle.dft_logic.specs.Circuit.{Circuit, logic_at, latch_at, IsCircuit}
use Rattle.dft_cycle.specs.Views.{held_by, Among, rank_of, IsHeld, OwnsLatches}
use Rattle.dft_abstract.proofs.Views.{given_same}
use Rattle.dft_takings.proofs.CircuitRanks.{circuit_ranked}
use Rattle.dft_logic.proofs.Compiled.{latch_live}

-- sources of a view whose lock-ups show held values
pub record IsHeldView (x : Circuit) (p : Pulse) (poss : ℕ → Tri) (view : ℕ → ℕ → Tri) (d : ℕ) (held : List Tri) (t : TriSources) (values : ℕ → Tri) : Type 0 where
  pub ports : (k : ℕ) → t.ports k ≡ p.ports k
  pub clocks : (e : ℕ) → t.clocks e ≡ (view_sources (logic_at x) p poss view d).clocks e
  pub flops : (c : ℕ) → t.flops c ≡ (view_sources (logic_at x) p poss view d).flops c
  pub lockups : (c e : ℕ) (high : Bool) (source : Source) → t.lockups c e high source ≡ lockup_shown p.rising (p.pulsed e) (e == d) high (p.old c) (value_from values source) (value_at held c)

-- nets of lower ranks have the view's values
pub agree : (x : Circuit) (p : Pulse) (poss : ℕ → Tri) (view : ℕ → ℕ → Tri) (d : ℕ) (held : List Tri) (t : TriSources) (values : ℕ → Tri) (r : ℕ) → (is : IsCircuit x) → (views : AreViews (logic_at x) p poss view) →
    (same : IsHeldView x p poss view d held t values) → (settled : IsTriSettled (logic_at x) t values) → (right : IsHeld x view held r) → (fuel k : ℕ) → (less : rank_of x k < fuel) → (low : rank_of x k < r) → values k ≡ view d k
agree x p poss view d held t values r is views same settled right zero k less low = absurd (omega arith)
agree x p poss view d held t values r is views same settled right (suc fuel) k less low =
    settled k
    ∙ given_same (rank_of x) t (view_sources (logic_at x) p poss view d) values (view d) k ((logic_at x).net k) same.ports same.clocks same.flops ((circuit_ranked x is).order k)
    (λ n below. agree x p poss view d held t values r is views same settled right fuel n (omega arith) (omega arith))
    (λ c e high source h below.
    (let here = source_same (rank_of x) (rank_of x k) values (view d) source below (λ n lower. agree x p poss view d held t values r is views same settled right fuel n (omega arith) (omega arith)) in
    let there = right k c e high source h low in
    same.lockups c e high source ∙ λ i. lockup_shown p.rising (p.pulsed e) (e == d) high (p.old c) (here i) (there i)))
    ∙ sym (views d k)

-- ---- one lock-up

pub latch_hits : (latch : Option (ℕ × Source)) (d e : ℕ) (source : Source) (values : ℕ → Tri) (old : Tri) → latch ≡ Some (e, source) → (e == d) ≡ true → held_by latch d values old ≡ value_from values source
latch_hits latch d e source values old is hit = ap (λ (l : Option (ℕ × Source)). held_by l d values old) is ∙ ap (λ (b : Bool). if b then value_from values source else old) hit

pub latch_misses : (latch : Option (ℕ × Source)) (d e : ℕ) (source : Source) (values : ℕ → Tri) (old : Tri) → latch ≡ Some (e, source) → (e == d) ≡ false → held_by latch d values old ≡ old
latch_misses latch d e source values old is miss = ap (λ (l : Option (ℕ × Source)). held_by l d values old) is ∙ ap (λ (b : Bool). if b then value_from values source else old) miss

-- where there is no lock-up, nothing is held
latch_found : (latches : List (Option Latch)) (c : ℕ) (found : ℕ × Source) → latch_at latches c ≡ Some found → list_any (λ latch. is_some latch) latches ≡ true
latch_found [] c found is = absurd (let f : ⊥ = cc in f)
latch_found (None ∷ latches) zero found is = absurd (let f : ⊥ = cc in f)
latch_found (Some latch ∷ latches) zero found is = refl
latch_found (None ∷ latches) (suc c) found is = latch_found latches c found is
latch_found (Some latch ∷ latches) (suc c) found is = refl

pub no_latch : (x : Circuit) → IsCircuit x → list_any (λ latch. is_some latch) x.latches ≡ false → (net c e : ℕ) (high : Bool) (source : Source) → (logic_at x).net net ≡ Lockup c e high source → ⊥
unfolding logic_at
no_latch x is none net c e high source here = (let found = latch_found x.latches c (e, source) (is.latched net c e high source here) in true≢false (sym found ∙ none))

pub no_latch_held : (x : Circuit) (view : ℕ → ℕ → Tri) (held : List Tri) (r : ℕ) → IsCircuit x → list_any (λ latch. is_some latch) x.latches ≡ false → IsHeld x view held r
no_latch_held x view held r is none net c e high source here low = absurd (no_latch x is none net c e high source here)

source_in : (x : Circuit) → IsCircuit x → (net c e : ℕ) (high : Bool) (source : Source) → (m : Meaning) → (logic_at x).net net ≡ m → m ≡ Lockup c e high source → AreBelow (rank_of x) (rank_of x net) (nets_of (source ∷ []))
source_in x is net c e high source m here lockup =
    let R : Meaning → Type 0 = λ n. AreBelow (rank_of x) (rank_of x net) (reads n) in
    subst R (here ∙ lockup) ((circuit_ranked x is).order net)

-- one domain more, or one that was there
pub among_before : (clocks : List NetId) (j d e : ℕ) → (get_or clocks j (record { 0 = 0 })).0 ≡ d → (e ≡ d → ⊥) → Among clocks (j + 1) e → Among clocks j e
among_before clocks j d e here other among = record {
  place = among.place;
  here = among.here;
  before = elim (eqb_tells among.place j) [
    | inl at ↦ (let f : ℕ → ℕ = λ n. (get_or clocks n (record { 0 = 0 })).0 in let bad : e ≡ d = sym among.here ∙ ap f at.1 ∙ here in absurd (other bad))
    | inr not ↦ (let less = among.before in let ne = not.1 in omega arith)
  ];
}

-- ---- a round

-- after the first domains of a round
pub record Rises (x : Circuit) (p : Pulse) (poss : ℕ → Tri) (clocks : List NetId) (start held : List Tri) (j : ℕ) : Type 0 where
  pub at : (view : ℕ → ℕ → Tri) (r : ℕ) → AreViews (logic_at x) p poss view → IsHeld x view start r →
      IsHeld x view held r × ((net c e : ℕ) (high : Bool) (source : Source) → (logic_at x).net net ≡ Lockup c e high source → rank_of x net < suc r → Among clocks j e → value_at held c ≡ value_from (view e) source)

pub rises_start : (x : Circuit) (p : Pulse) (poss : ℕ → Tri) (clocks : List NetId) (start : List Tri) → Rises x p poss clocks start start 0
rises_start x p poss clocks start = record { at = λ view r views right. (right, λ net c e high source here low among. (let less = among.before in absurd (omega arith))) }

pub rises_more : (x : Circuit) (p : Pulse) (poss : ℕ → Tri) (clocks : List NetId) (start held new values : List Tri) (j d : ℕ) (t : TriSources) → (is : IsCircuit x) →
    (same : ((view : ℕ → ℕ → Tri) → IsHeldView x p poss view d held t (value_at values))) → (settled : IsTriSettled (logic_at x) t (value_at values)) →
    (each : ((c : ℕ) → c < length x.latches → value_at new c ≡ held_by (latch_at x.latches c) d (value_at values) (value_at held c))) →
    (here : (get_or clocks j (record { 0 = 0 })).0 ≡ d) → Rises x p poss clocks start held j → Rises x p poss clocks start new (j + 1)
unfolding logic_at
rises_more x p poss clocks start held new values j d t is same settled each here s = record {
  at = λ view r views right.
      (let before = s.at view r views right in
      let hit : (net c e : ℕ) (high : Bool) (source : Source) → (logic_at x).net net ≡ Lockup c e high source → rank_of x net < suc r → (e == d) ≡ true → e ≡ d → value_at new c ≡ value_from (view e) source =
      λ net c e high source lockup low test eq.
      (let latch = is.latched net c e high source lockup in
      let V : ℕ → Type 0 = λ n. value_at new c ≡ value_from (view n) source in
      subst V (sym eq) (each c (latch_live x.latches c (e, source) latch) ∙ latch_hits (latch_at x.latches c) d e source (value_at values) (value_at held c) latch test
      ∙ source_same (rank_of x) (rank_of x net) (value_at values) (view d) source (source_in x is net c e high source _ refl lockup)
      (λ k below. agree x p poss view d held t (value_at values) r is views (same view) settled before.0 (suc (rank_of x k)) k (omega arith) (omega arith)))) in
      let miss : (net c e : ℕ) (high : Bool) (source : Source) → (logic_at x).net net ≡ Lockup c e high source → (e == d) ≡ false → value_at new c ≡ value_at held c =
      λ net c e high source lockup test.
      (let latch = is.latched net c e high source lockup in
      each c (latch_live x.latches c (e, source) latch) ∙ latch_misses (latch_at x.latches c) d e source (value_at values) (value_at held c) latch test) in (
        (λ net c e high source lockup low. elim (eqb_tells e d) [
          | inl q ↦ hit net c e high source lockup (omega arith) q.0 q.1
          | inr q ↦ miss net c e high source lockup q.0 ∙ before.0 net c e high source lockup low
        ]),
        (λ net c e high source lockup low among. elim (eqb_tells e d) [
          | inl q ↦ hit net c e high source lockup low q.0 q.1
          | inr q ↦ miss net c e high source lockup q.0 ∙ before.1 net c e high source lockup low (among_before clocks j d e here q.1 among)
        ]),
      ));
}

-- no lock-up has a rank below 0, and where a round changes nothing all are held
pub none_held : (x : Circuit) (view : ℕ → ℕ → Tri) (held : List Tri) → IsHeld x view held 0
none_held x view held net c e high source h low = absurd (omega arith)

pub all_held : (x : Circuit) (view : ℕ → ℕ → Tri) (start held : List Tri) → held ≡ start → ((r : ℕ) → IsHeld x view start r → IsHeld x view held (suc r)) → (r : ℕ) → IsHeld x view held r
all_held x view start held same more zero = none_held x view held
all_held x view start held same more (suc r) = (let P : List Tri → Type 0 = λ l. IsHeld x view l r in more r (subst P same (all_held x view start held same more r)))

pub round_rises : (x : Circuit) (p : Pulse) (poss : ℕ → Tri) (clocks : List NetId) (start held : List Tri) (j : ℕ) → length clocks ≤ j → IsCircuit x → OwnsLatches x clocks → Rises x p poss clocks start held j →
    (view : ℕ → ℕ → Tri) (r : ℕ) → AreViews (logic_at x) p poss view → IsHeld x view start r → IsHeld x view held (suc r)
unfolding logic_at
round_rises x p poss clocks start held j past is owned s view r views right net c e high source lockup low =
    (s.at view r views right).1 net c e high source lockup low
    (let among = owned c e high source (is.latched net c e high source lockup) in record { place = among.place; before = (let less = among.before in omega arith); here = among.here })
