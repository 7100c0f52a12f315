-- The values of a phase stand above the bits after every order of its edges.
use Rattle.std.proofs.Common.{ℕ, Bool, true, false, not, ◌&&◌, List, [], ◌∷◌, ◌≡◌, ◌<◌, ◌+◌, ◌==◌, inl, inr, zero, suc, refl, sym, subst, arith, ◌∙◌, map}
use Rattle.std.specs.Prelude.{if◌then◌else◌}
use Rattle.std.proofs.lemmas.Bool.{eqb-true, cases_Bool, and_from, and_left, and_parts}
use Rattle.dft_base.specs.declared.tri.Tri.{Tri}
use Rattle.dft_base.specs.declared.tri.Tri.TheVariants.{Zero, Unknown}
use Rattle.dft_base.specs.Tri.{known, Above}
use Rattle.dft_base.proofs.BitLemmas.{same_or_not, other_bit, first_false}
use Rattle.dft_cells.proofs.Completions.{above_trans, join_left, join_right}
use Rattle.dft_cells.specs.FlipFlops.{tri_taken_by, tri_forced_by}
use Rattle.dft_cells.proofs.TakesLemmas.{taken_above, left_above, left_again}
use Rattle.dft_netlist.specs.Drivers.{Source}
use Rattle.dft_behavior.specs.Logic.{Logic, Lockup, Cell, IsRanked}
use Rattle.dft_behavior.specs.Settled.{bit_from, is_wire, value_from}
use Rattle.dft_behavior.specs.Runs.{State, Moment, Now, port_bits, sources_of, IsNow, takes, edge, after_event, event_of, at_moment, next_now, after, AreSteps, Edge, edge_step, times}
use Rattle.dft_behavior.proofs.Meanings.{completed_above, source_above, source_all, meaning_above, at_net}
use Rattle.dft_abstract.specs.Cycle.{Pulse, changes, level_before, lockup_shown, view_sources, next_value, IsClosed, after_pulse}
use Rattle.dft_abstract.specs.Laws.{IsForced, StandsAt, PhaseIsAbove}

-- ---- choices

pub tri_choice : (b : Bool) (x y : Tri) (u : Bool) → (b ≡ true → Above x u) → (b ≡ false → Above y u) → Above (if b then x else y) u
tri_choice true x y u p q = p refl
tri_choice false x y u p q = q refl

pub bit_choice : (b : Bool) (x y : Bool) (t : Tri) → (b ≡ true → Above t x) → (b ≡ false → Above t y) → Above t (if b then x else y)
bit_choice true x y t p q = p refl
bit_choice false x y t p q = q refl

pub only_second : (a b : Bool) → a ≡ true → (a && b) ≡ b
only_second true b h = refl
only_second false b h = absurd cc

-- ---- what holds after some of the edges of a phase

pub record Holds (l : Logic) (p : Pulse) (view : ℕ → ℕ → Tri) (s : State) : Type 0 where
  pub ports : (k : ℕ) → s.ports k ≡ p.ports k
  pub quiet : (e : ℕ) → p.pulsed e ≡ false → s.high e ≡ false
  -- a cell whose edge came has its next value
  pub moved : (c : ℕ) → changes l p c ≡ true → s.high (l.cell c).domain ≡ p.rising → Above (next_value l p view c) (s.flops c)
  -- another one its old value
  pub others : (c : ℕ) → (changes l p c ≡ true → s.high (l.cell c).domain ≡ not p.rising) → Above (p.old c) (s.flops c)

ports_above : (p : ℕ → Tri) (s : State) (m : Moment) → ((k : ℕ) → s.ports k ≡ p k) → (k : ℕ) → Above (p k) (port_bits s m k)
ports_above p s m same k = rw (same k) (completed_above (p k) (m.free k))

-- ---- a view stands above the bits while its clock is as before its edge

clock_cases : (pulsed own rising level : Bool) → (pulsed ≡ false → level ≡ false) → (own ≡ true → level ≡ (pulsed && not rising)) → Above (if pulsed then (if own then known (not rising) else Unknown) else Zero) level
clock_cases true true true true quiet at = absurd (let q = at refl in cc)
clock_cases true true true false quiet at = tt
clock_cases true true false true quiet at = tt
clock_cases true true false false quiet at = absurd (let q = at refl in cc)
clock_cases true false rising level quiet at = tt
clock_cases false own rising true quiet at = absurd (let q = quiet refl in cc)
clock_cases false own rising false quiet at = tt

-- a lock-up, by cases on the bits alone
lockup_cases : (pulsed high rising own level : Bool) (held here there : Tri) (wire holding : Bool) →
    (pulsed ≡ false → level ≡ false) → (own ≡ true → level ≡ (pulsed && not rising)) → Above here wire → (level ≡ (pulsed && not rising) → Above there wire) →
    ((pulsed && takes rising high) ≡ true → level ≡ rising → Above there holding) →
    (((pulsed && takes rising high) ≡ true → level ≡ not rising) → Above held holding) →
    Above (lockup_shown rising pulsed own high held here there) (if is_wire high level then wire else holding)
lockup_cases false high rising own true held here there wire holding quiet at h t closed kept = absurd (let q = quiet refl in cc)
lockup_cases false false true own false held here there wire holding quiet at h t closed kept = t refl
lockup_cases false false false own false held here there wire holding quiet at h t closed kept = h
lockup_cases false true true own false held here there wire holding quiet at h t closed kept = kept (λ q. absurd cc)
lockup_cases false true false own false held here there wire holding quiet at h t closed kept = kept (λ q. absurd cc)
lockup_cases true false true own true held here there wire holding quiet at h t closed kept = closed refl refl
lockup_cases true false true own false held here there wire holding quiet at h t closed kept = t refl
lockup_cases true true false own false held here there wire holding quiet at h t closed kept = closed refl refl
lockup_cases true true false own true held here there wire holding quiet at h t closed kept = t refl
lockup_cases true false false true true held here there wire holding quiet at h t closed kept = kept (λ q. absurd cc)
lockup_cases true false false true false held here there wire holding quiet at h t closed kept = absurd (let q = at refl in cc)
lockup_cases true false false false true held here there wire holding quiet at h t closed kept = join_left held here holding (kept (λ q. absurd cc))
lockup_cases true false false false false held here there wire holding quiet at h t closed kept = join_right held here wire h
lockup_cases true true true true true held here there wire holding quiet at h t closed kept = absurd (let q = at refl in cc)
lockup_cases true true true true false held here there wire holding quiet at h t closed kept = kept (λ q. absurd cc)
lockup_cases true true true false true held here there wire holding quiet at h t closed kept = join_right held here wire h
lockup_cases true true true false false held here there wire holding quiet at h t closed kept = join_left held here holding (kept (λ q. absurd cc))

there : (p : Pulse) (s : State) (e d : ℕ) → s.high d ≡ level_before p d → (e == d) ≡ true → s.high e ≡ level_before p e
there p s e d h is = subst (λ (x : ℕ). s.high x ≡ level_before p x) (sym (eqb-true e d is)) h

-- the level before an edge that comes
coming : (l : Logic) (p : Pulse) (c : ℕ) → changes l p c ≡ true → level_before p (l.cell c).domain ≡ not p.rising
coming l p c ch = only_second (p.pulsed (l.cell c).domain) (not p.rising) (and_parts (p.pulsed (l.cell c).domain) (takes p.rising (l.cell c).falling) ch).0

flop_above : (l : Logic) (p : Pulse) (poss : ℕ → Tri) (view : ℕ → ℕ → Tri) (s : State) → IsClosed l p poss view → Holds l p view s → (d : ℕ) → s.high d ≡ level_before p d → (c : ℕ) → Above ((view_sources l p poss view d).flops c) (s.flops c)
flop_above l p poss view s closed holds d before c =
    let e : ℕ = (l.cell c).domain in
    tri_choice (changes l p c) _ _ _
    (λ ch. tri_choice (e == d) _ _ _
    (λ is. holds.others c (λ again. there p s e d before is ∙ coming l p c again))
    (λ is_not. elim (same_or_not (s.high e) p.rising) [
      | inl came ↦ above_trans _ _ _ (closed.next c ch) (holds.moved c ch came)
      | inr comes ↦ above_trans _ _ _ (closed.old c) (holds.others c (λ again. comes))
    ]))
    (λ no. holds.others c (λ ch. absurd (let q : true ≡ false = sym ch ∙ no in cc)))

-- a lock-up's cell, once its edge came, and before
lock_moved : (l : Logic) (rank : ℕ → ℕ) (p : Pulse) (view : ℕ → ℕ → Tri) (s : State) → IsRanked l rank → Holds l p view s → (net c e : ℕ) (high : Bool) (source : Source) → l.net net ≡ Lockup c e high source →
    (p.pulsed e && takes p.rising high) ≡ true → s.high e ≡ p.rising → Above (value_from (view e) source) (s.flops c)
lock_moved l rank p view s ranked holds net c e high source is =
    let P : Cell → Type 0 = λ k. (p.pulsed k.domain && takes p.rising k.falling) ≡ true → s.high k.domain ≡ p.rising →
    Above (tri_forced_by k.forces p.ports (tri_taken_by k.takes (p.old c) (value_from (view k.domain)))) (s.flops c) in
    subst P (ranked.lockups net c e high source is) (holds.moved c)

lock_others : (l : Logic) (rank : ℕ → ℕ) (p : Pulse) (view : ℕ → ℕ → Tri) (s : State) → IsRanked l rank → Holds l p view s → (net c e : ℕ) (high : Bool) (source : Source) → l.net net ≡ Lockup c e high source →
    ((p.pulsed e && takes p.rising high) ≡ true → s.high e ≡ not p.rising) → Above (p.old c) (s.flops c)
lock_others l rank p view s ranked holds net c e high source is =
    let P : Cell → Type 0 = λ k. ((p.pulsed k.domain && takes p.rising k.falling) ≡ true → s.high k.domain ≡ not p.rising) → Above (p.old c) (s.flops c) in
    subst P (ranked.lockups net c e high source is) (holds.others c)

view_above : (l : Logic) (rank : ℕ → ℕ) (p : Pulse) (poss : ℕ → Tri) (view : ℕ → ℕ → Tri) (now : Now) →
    IsRanked l rank → IsClosed l p poss view → Holds l p view now.state → IsNow l now →
    (fuel net : ℕ) → rank net < fuel → (d : ℕ) → now.state.high d ≡ level_before p d → Above (view d net) (now.moment.seen net)
view_above l rank p poss view now ranked closed holds settled zero net less d before = absurd (omega arith)
view_above l rank p poss view now ranked closed holds settled (suc fuel) net less d before =
    let s : State = now.state in
    let ih : (k : ℕ) → rank k < rank net → (e : ℕ) → s.high e ≡ level_before p e → Above (view e k) (now.moment.seen k) = λ k below. view_above l rank p poss view now ranked closed holds settled fuel k (omega arith) in
    at_net _ _ _ _ (closed.views d net) (settled net)
    (meaning_above rank (sources_of now) (view_sources l p poss view d) now.moment.seen (view d) net (ports_above p.ports s now.moment holds.ports)
    (λ e. clock_cases (p.pulsed e) (e == d) p.rising (s.high e) (holds.quiet e) (there p s e d before))
    (flop_above l p poss view s closed holds d before)
    (l.net net) (ranked.order net) (λ k below. ih k below d before)
    (λ c e high source is below. lockup_cases (p.pulsed e) high p.rising (e == d) (s.high e) (p.old c) (value_from (view d) source) (value_from (view e) source)
    (bit_from (sources_of now) now.moment.seen source) (s.flops c) (holds.quiet e) (there p s e d before)
    (source_above rank (rank net) (sources_of now) now.moment.seen (view d) source below (λ k k_below. ih k k_below d before))
    (λ at. source_above rank (rank net) (sources_of now) now.moment.seen (view e) source below (λ k k_below. ih k k_below e at))
    (lock_moved l rank p view s ranked holds net c e high source is) (lock_others l rank p view s ranked holds net c e high source is)))

-- ---- one edge

moment_keeps : (l : Logic) (p : Pulse) (view : ℕ → ℕ → Tri) (m : Moment) (s : State) → IsForced l p → Holds l p view s → Holds l p view (at_moment l m s)
moment_keeps l p view m s old holds = record {
  ports = holds.ports;
  quiet = holds.quiet;
  moved = λ c ch came. above_trans _ _ _ (left_again (l.cell c).forces p.ports _) (left_above (l.cell c).forces _ _ p.ports (port_bits s m) (holds.moved c ch came) (ports_above p.ports s m holds.ports));
  others = λ c comes. above_trans _ _ _ (old c) (left_above (l.cell c).forces _ _ p.ports (port_bits s m) (holds.others c comes) (ports_above p.ports s m holds.ports));
}

edge_keeps : (l : Logic) (p : Pulse) (view : ℕ → ℕ → Tri) (now : Now) (domains : ℕ → Bool) →
    ((d k : ℕ) → now.state.high d ≡ level_before p d → Above (view d k) (now.moment.seen k)) → ((d : ℕ) → domains d ≡ true → (p.pulsed d ≡ true) × (now.state.high d ≡ not p.rising)) →
    Holds l p view now.state → Holds l p view (edge l now domains p.rising)
edge_keeps l p view now domains seen before holds =
    let s : State = now.state in
    let at : (d : ℕ) → domains d ≡ true → s.high d ≡ level_before p d = λ d is. (before d is).1 ∙ sym (only_second (p.pulsed d) (not p.rising) (before d is).0) in
    let from : (d : ℕ) (source : Source) → domains d ≡ true → Above (value_from (view d) source) (bit_from (sources_of now) now.moment.seen source) =
    λ d source is. source_all (sources_of now) now.moment.seen (view d) source (λ k. seen d k (at d is)) in
    let turn : ℕ → Bool = λ c. domains (l.cell c).domain && takes p.rising (l.cell c).falling in
    let takes_it : (c : ℕ) → changes l p c ≡ true → takes p.rising (l.cell c).falling ≡ true = λ c ch. (and_parts (p.pulsed (l.cell c).domain) (takes p.rising (l.cell c).falling) ch).1 in
    let elsewhere : (c : ℕ) → turn c ≡ false → changes l p c ≡ true → domains (l.cell c).domain ≡ false = λ c no ch. first_false (domains (l.cell c).domain) (takes p.rising (l.cell c).falling) no (takes_it c ch) in
    record {
      ports = holds.ports;
      quiet = λ e rests. elim (cases_Bool (domains e)) [
        | inl is ↦ absurd (let q : true ≡ false = sym (before e is).0 ∙ rests in cc)
        | inr is_not ↦ rw is_not (holds.quiet e rests)
      ];
      moved = λ c ch came. bit_choice (turn c) _ _ _
          (λ now_it. (let is = (and_parts (domains (l.cell c).domain) (takes p.rising (l.cell c).falling) now_it).0 in
          left_above (l.cell c).forces _ _ p.ports (port_bits s now.moment)
          (taken_above (l.cell c).takes (p.old c) (s.flops c) (value_from (view (l.cell c).domain)) (bit_from (sources_of now) now.moment.seen)
          (holds.others c (λ again. at (l.cell c).domain is ∙ coming l p c again)) (λ source. from (l.cell c).domain source is))
          (ports_above p.ports s now.moment holds.ports)))
          (λ no. holds.moved c ch (rw (elsewhere c no ch) at came));
      others = λ c comes. bit_choice (turn c) _ _ _
          (λ now_it. (let two = and_parts (domains (l.cell c).domain) (takes p.rising (l.cell c).falling) now_it in
          absurd (other_bit p.rising (rw two.0 at (comes (and_from (p.pulsed (l.cell c).domain) (takes p.rising (l.cell c).falling) (before (l.cell c).domain two.0).0 two.1))))))
          (λ no. holds.others c (λ ch. rw (elsewhere c no ch) at (comes ch)));
    }

-- ---- one edge after another

at_first : (b pulsed rising level : Bool) (m : ℕ) → b ≡ true → (if b then 1 else 0) + m ≡ (if pulsed then (if is_wire rising level then 0 else 1) else 0) → (pulsed ≡ true) × (level ≡ not rising) × (m ≡ 0)
at_first false pulsed rising level m is h = absurd cc
at_first true false rising level m is h = absurd (omega arith)
at_first true true true true m is h = absurd (omega arith)
at_first true true true false m is h = (refl, refl, omega arith)
at_first true true false false m is h = absurd (omega arith)
at_first true true false true m is h = (refl, refl, omega arith)

at_rest : (b pulsed rising level : Bool) (m : ℕ) → (b ≡ true → m ≡ 0) → (if b then 1 else 0) + m ≡ (if pulsed then (if is_wire rising level then 0 else 1) else 0) →
    m ≡ (if pulsed then (if is_wire rising (if b then rising else level) then 0 else 1) else 0)
at_rest true false rising level m none h = none refl
at_rest true true true level m none h = none refl
at_rest true true false level m none h = none refl
at_rest false pulsed rising level m none h = omega arith

at_end : (pulsed rising level : Bool) → zero ≡ (if pulsed then (if is_wire rising level then 0 else 1) else 0) → pulsed ≡ true → level ≡ rising
at_end false rising level h is = absurd cc
at_end true true true h is = refl
at_end true true false h is = absurd (omega arith)
at_end true false false h is = refl
at_end true false true h is = absurd (omega arith)

edge_is : (l : Logic) (now : Now) (domains : ℕ → Bool) (rising : Bool) → edge l now domains rising ≡ after_event l now (event_of rising domains)
edge_is l now domains true = refl
edge_is l now domains false = refl

pub edges_above : (l : Logic) (rank : ℕ → ℕ) (p : Pulse) (poss : ℕ → Tri) (view : ℕ → ℕ → Tri) (now : Now) (es : List Edge) →
    IsRanked l rank → IsClosed l p poss view → IsForced l p → Holds l p view now.state → IsNow l now →
    ((d : ℕ) → times d es ≡ (if p.pulsed d then (if is_wire p.rising (now.state.high d) then 0 else 1) else 0)) → AreSteps l now (map (edge_step p.rising) es) →
    Holds l p view (after l now (map (edge_step p.rising) es)).state × ((d : ℕ) → p.pulsed d ≡ true → (after l now (map (edge_step p.rising) es)).state.high d ≡ p.rising)
edges_above l rank p poss view now [] ranked closed old holds settled once steps = (holds, λ d pulsed. at_end (p.pulsed d) p.rising (now.state.high d) (once d) pulsed)
edges_above l rank p poss view now (e ∷ es) ranked closed old holds settled once steps =
    let first : (d : ℕ) → e.domains d ≡ true → (p.pulsed d ≡ true) × (now.state.high d ≡ not p.rising) × (times d es ≡ 0) =
    λ d is. at_first (e.domains d) (p.pulsed d) p.rising (now.state.high d) (times d es) is (once d) in
    let seen : (d k : ℕ) → now.state.high d ≡ level_before p d → Above (view d k) (now.moment.seen k) =
    λ d k. view_above l rank p poss view now ranked closed holds settled (suc (rank k)) k (omega arith) d in
    let kept : Holds l p view (edge l now e.domains p.rising) = edge_keeps l p view now e.domains seen (λ d is. ((first d is).0, (first d is).1)) holds in
    let same : edge l now e.domains p.rising ≡ after_event l now (event_of p.rising e.domains) = edge_is l now e.domains p.rising in
    let after_it : Holds l p view (at_moment l e.moment (after_event l now (event_of p.rising e.domains))) =
    subst (λ (s : State). Holds l p view (at_moment l e.moment s)) same (moment_keeps l p view e.moment (edge l now e.domains p.rising) old kept) in
    edges_above l rank p poss view (next_now l now (edge_step p.rising e)) es ranked closed old after_it steps.0
    (λ x. subst (λ (s : State). times x es ≡ (if p.pulsed x then (if is_wire p.rising (s.high x) then 0 else 1) else 0)) same
    (at_rest (e.domains x) (p.pulsed x) p.rising (now.state.high x) (times x es) (λ is. (first x is).2) (once x))) steps.1

-- ---- the whole phase

pub start_holds : (l : Logic) (p : Pulse) (view : ℕ → ℕ → Tri) (s : State) → ((k : ℕ) → s.ports k ≡ p.ports k) → StandsAt (level_before p) p.old s → Holds l p view s
start_holds l p view s ports stands = record {
  ports = ports;
  quiet = λ e rests. stands.levels e ∙ and_left (p.pulsed e) (not p.rising) rests;
  moved = λ c ch came. absurd (other_bit p.rising (sym came ∙ stands.levels (l.cell c).domain ∙ coming l p c ch));
  others = λ c comes. stands.above c;
}

start_once : (pulsed rising level : Bool) → level ≡ (pulsed && not rising) → (if pulsed then suc zero else zero) ≡ (if pulsed then (if is_wire rising level then 0 else 1) else 0)
start_once false rising level h = refl
start_once true true true h = absurd cc
start_once true true false h = refl
start_once true false false h = absurd cc
start_once true false true h = refl

level_by : (pulsed rising level : Bool) → (pulsed ≡ true → level ≡ rising) → (pulsed ≡ false → level ≡ false) → level ≡ (pulsed && rising)
level_by true rising level up quiet = up refl
level_by false rising level up quiet = quiet refl

pub end_stands : (l : Logic) (p : Pulse) (view : ℕ → ℕ → Tri) (s : State) → Holds l p view s → ((d : ℕ) → p.pulsed d ≡ true → s.high d ≡ p.rising) → StandsAt (λ e. p.pulsed e && p.rising) (after_pulse l p view) s
end_stands l p view s holds all = record {
  above = λ c. tri_choice (changes l p c) _ _ _
      (λ ch. holds.moved c ch (all (l.cell c).domain (and_parts (p.pulsed (l.cell c).domain) (takes p.rising (l.cell c).falling) ch).0))
      (λ no. holds.others c (λ ch. absurd (let q : true ≡ false = sym ch ∙ no in cc)));
  levels = λ e. level_by (p.pulsed e) p.rising (s.high e) (all e) (holds.quiet e);
}

pub phase_above : PhaseIsAbove
phase_above l rank p poss view now es ranked closed old ports stands settled order steps =
    let r = edges_above l rank p poss view now es ranked closed old (start_holds l p view now.state ports stands) settled
    (λ d. order.once d ∙ start_once (p.pulsed d) p.rising (now.state.high d) (stands.levels d)) steps in
    end_stands l p view _ r.0 r.1

-- input ports stay as they are set
pub ports_stay : (l : Logic) (now : Now) (rising : Bool) (es : List Edge) (k : ℕ) → (after l now (map (edge_step rising) es)).state.ports k ≡ now.state.ports k
ports_stay l now rising [] k = refl
ports_stay l now true (e ∷ es) k = ports_stay l (next_now l now (edge_step true e)) true es k
ports_stay l now false (e ∷ es) k = ports_stay l (next_now l now (edge_step false e)) false es k

-- the last moment is settled
pub last_settled : (l : Logic) (now : Now) (rising : Bool) (es : List Edge) → IsNow l now → AreSteps l now (map (edge_step rising) es) → IsNow l (after l now (map (edge_step rising) es))
last_settled l now rising [] settled steps = settled
last_settled l now rising (e ∷ es) settled steps = last_settled l (next_now l now (edge_step rising e)) rising es steps.0 steps.1
