-- Views and next values grow with the map, so the least map is one, and joins stay below all closed maps.
use Rattle.std.proofs.Common.{ℕ, Bool, true, false, [], ◌∷◌, ◌≡◌, ◌<◌, ◌==◌, ◌||◌, zero, suc, refl, sym, subst, arith, ◌∙◌, Option, None, Some}
use Rattle.std.specs.Prelude.{if◌then◌else◌}
use Rattle.dft_base.specs.declared.tri.Tri.{Tri}
use Rattle.dft_base.specs.declared.tri.Tri.TheVariants.{Zero, One, Unknown}
use Rattle.dft_base.specs.Tri.{AboveTri, join}
use Rattle.dft_cells.proofs.Completions.{above_self, trans, join_least, join_over_left, join_over_right}
use Rattle.dft_cells.proofs.TakesLemmas.{taken_monotone, left_monotone}
use Rattle.dft_netlist.specs.Drivers.{Source, nets_of, AreBelow}
use Rattle.dft_behavior.specs.Logic.{Logic, IsRanked}
use Rattle.dft_behavior.specs.Settled.{TriSources, value_from, IsTriSettled}
use Rattle.dft_behavior.specs.Runs.{Vector, takes}
use Rattle.dft_behavior.proofs.Meanings.{source_monotone, source_over, meaning_monotone, at_nets}
use Rattle.dft_abstract.specs.Cycle.{Pulse, changes, lockup_shown, view_sources, AreViews, next_value, IsLeast, after_pulse, rise_of, fall_of, strobe_sources, Halves, AreLeast, after_halves, Round, IsRound}
use Rattle.dft_abstract.specs.Laws.{StepIsBelow, NoneChanges, RoundIsOne}
use Rattle.dft_abstract.proofs.Views.{views_exist}

pub both_above : (t u : Tri) → AboveTri t u → AboveTri u t → t ≡ u
both_above Unknown Unknown p q = refl
both_above Unknown Zero p q = absurd q
both_above Unknown One p q = absurd q
both_above Zero Zero p q = refl
both_above Zero One p q = absurd p
both_above Zero Unknown p q = absurd p
both_above One One p q = refl
both_above One Zero p q = absurd p
both_above One Unknown p q = absurd p

-- a family of settled assignments grows with its sources
pub settled_monotone : (l : Logic) (rank : ℕ → ℕ) (t s : ℕ → TriSources) (w u : ℕ → ℕ → Tri) → (ranked : IsRanked l rank) → (tw : ((d : ℕ) → IsTriSettled l (t d) (w d))) → (su : ((d : ℕ) → IsTriSettled l (s d) (u d))) →
    (ports : ((d k : ℕ) → AboveTri ((t d).ports k) ((s d).ports k))) → (clocks : ((d e : ℕ) → AboveTri ((t d).clocks e) ((s d).clocks e))) → (flops : ((d c : ℕ) → AboveTri ((t d).flops c) ((s d).flops c))) →
    (lockups : ((r : ℕ) → ((k : ℕ) → rank k < r → (d : ℕ) → AboveTri (w d k) (u d k)) → (d c e : ℕ) (high : Bool) (source : Source) → AreBelow rank r (nets_of (source ∷ [])) → AboveTri ((t d).lockups c e high source) ((s d).lockups c e high source))) →
    (fuel net : ℕ) → (less : rank net < fuel) → (d : ℕ) → AboveTri (w d net) (u d net)
settled_monotone l rank t s w u ranked tw su ports clocks flops lockups zero net less d = absurd (omega arith)
settled_monotone l rank t s w u ranked tw su ports clocks flops lockups (suc fuel) net less d =
    let ih : (k : ℕ) → rank k < rank net → (e : ℕ) → AboveTri (w e k) (u e k) = λ k below. settled_monotone l rank t s w u ranked tw su ports clocks flops lockups fuel k (omega arith) in
    at_nets _ _ _ _ (tw d net) (su d net) (meaning_monotone rank (t d) (s d) (w d) (u d) net (ports d) (clocks d) (flops d) (l.net net) (ranked.order net) (λ k below. ih k below d) (lockups (rank net) ih d))

pub choices : (b : Bool) (x y a c : Tri) → AboveTri x a → AboveTri y c → AboveTri (if b then x else y) (if b then a else c)
choices true x y a c p q = p
choices false x y a c p q = q

join_monotone : (h x y : Tri) → AboveTri x y → AboveTri (join h x) (join h y)
join_monotone h x y le = join_least (join h x) h y (join_over_left h x h (above_self h)) (join_over_right h x y le)

shown_monotone : (rising pulsed own high : Bool) (held x y u v : Tri) → AboveTri x u → AboveTri y v → AboveTri (lockup_shown rising pulsed own high held x y) (lockup_shown rising pulsed own high held u v)
shown_monotone rising pulsed own high held x y u v here there =
    choices (takes rising high) _ _ _ _ (choices (rising || pulsed) _ _ _ _ there (above_self held))
    (choices pulsed _ _ _ _ (choices own _ _ _ _ (above_self held) (join_monotone held x u here)) (choices high _ _ _ _ (above_self held) here))

pub views_monotone : (l : Logic) (rank : ℕ → ℕ) (p : Pulse) (high low : ℕ → Tri) (w u : ℕ → ℕ → Tri) → IsRanked l rank → AreViews l p high w → AreViews l p low u → ((c : ℕ) → AboveTri (high c) (low c)) → (d net : ℕ) → AboveTri (w d net) (u d net)
views_monotone l rank p high low w u ranked hw lu over d net =
    settled_monotone l rank (view_sources l p high w) (view_sources l p low u) w u ranked hw lu
    (λ d k. above_self (p.ports k)) (λ d e. above_self ((view_sources l p high w d).clocks e))
    (λ d c. choices (changes l p c) _ _ _ _ (choices ((l.cell c).domain == d) _ _ _ _ (above_self (p.old c)) (over c)) (above_self (p.old c)))
    (λ r ih d c e high source below. shown_monotone p.rising (p.pulsed e) (e == d) high (p.old c) _ _ _ _
    (source_monotone rank r (w d) (u d) source below (λ k less. ih k less d)) (source_monotone rank r (w e) (u e) source below (λ k less. ih k less e))) (suc (rank net)) net (omega arith) d

next_monotone : (l : Logic) (rank : ℕ → ℕ) (p : Pulse) (high low : ℕ → Tri) (w u : ℕ → ℕ → Tri) → IsRanked l rank → AreViews l p high w → AreViews l p low u → ((c : ℕ) → AboveTri (high c) (low c)) → (c : ℕ) → AboveTri (next_value l p w c) (next_value l p u c)
next_monotone l rank p high low w u ranked hw lu over c =
    let d : ℕ = (l.cell c).domain in
    let at : (source : Source) → AboveTri (value_from (w d) source) (value_from (u d) source) = λ source. source_over (w d) (u d) source (views_monotone l rank p high low w u ranked hw lu over d) in
    left_monotone (l.cell c).forces p.ports p.ports _ _ (λ k. above_self (p.ports k)) (taken_monotone (l.cell c).takes (p.old c) (p.old c) (value_from (w d)) (value_from (u d)) (above_self (p.old c)) at)

pub step_below : StepIsBelow
step_below l rank p poss other view its ranked views closed over c pulsed =
    join_least (other c) (poss c) (next_value l p view c) (over c)
    (trans (other c) (next_value l p its c) (next_value l p view c) (closed.next c pulsed) (next_monotone l rank p other poss its view ranked closed.views views over c))

strobe_over : (l : Logic) (rank : ℕ → ℕ) (x : Vector) (old : ℕ → Tri) (r q : Round) → IsRanked l rank → IsRound l x old r → IsRound l x old q → (net : ℕ) → AboveTri (r.strobe net) (q.strobe net)
strobe_over l rank x old r q ranked rr qq net =
    settled_monotone l rank (λ d. strobe_sources l x old r.strobe) (λ d. strobe_sources l x old q.strobe) (λ d. r.strobe) (λ d. q.strobe) ranked (λ d. rr.strobe) (λ d. qq.strobe)
    (λ d k. above_self (x.ports k)) (λ d e. tt) (λ d c. above_self ((rise_of l x old).old c))
    (λ n ih d c e high source below. choices high _ _ _ _ (above_self ((rise_of l x old).old c)) (source_monotone rank n r.strobe q.strobe source below (λ k less. ih k less d))) (suc (rank net)) net (omega arith) 0

after_over : (l : Logic) (rank : ℕ → ℕ) (p : Pulse) (poss other : ℕ → Tri) (view its : ℕ → ℕ → Tri) → IsRanked l rank → IsLeast l p poss view → IsLeast l p other its → (c : ℕ) → AboveTri (after_pulse l p view c) (after_pulse l p its c)
after_over l rank p poss other view its ranked this that c =
    choices (changes l p c) _ _ _ _
    (next_monotone l rank p poss other view its ranked this.closed.views that.closed.views (that.least poss view this.closed) c)
    (above_self (p.old c))

-- the values after the rises are one, so the falls are
rises_one : (l : Logic) (rank : ℕ → ℕ) (x : Vector) (old : ℕ → Tri) (h k : Halves) → IsRanked l rank → AreLeast l x old h → AreLeast l x old k → after_pulse l (rise_of l x old) h.rise.view ≡ after_pulse l (rise_of l x old) k.rise.view
rises_one l rank x old h k ranked hh kk i c =
    both_above _ _ (after_over l rank (rise_of l x old) h.rise.poss k.rise.poss h.rise.view k.rise.view ranked hh.rise kk.rise c)
    (after_over l rank (rise_of l x old) k.rise.poss h.rise.poss k.rise.view h.rise.view ranked kk.rise hh.rise c) i

halves_over : (l : Logic) (rank : ℕ → ℕ) (x : Vector) (old : ℕ → Tri) (h k : Halves) → IsRanked l rank → AreLeast l x old h → AreLeast l x old k → (c : ℕ) → AboveTri (after_halves l x old h c) (after_halves l x old k c)
halves_over l rank x old h k ranked hh kk c =
    let fall : (ℕ → Tri) → Pulse = λ old. record { rising = false; ports = x.ports; pulsed = x.pulsed; old = old } in
    let P : (ℕ → Tri) → Type 0 = λ f. IsLeast l (fall f) k.fall.poss k.fall.view → AboveTri (after_halves l x old h c) (after_pulse l (fall f) k.fall.view c) in
    let same : (after_pulse l (rise_of l x old) h.rise.view) ≡ (after_pulse l (rise_of l x old) k.rise.view) = rises_one l rank x old h k ranked hh kk in
    subst P same (λ least. after_over l rank (fall_of l x old h.rise.view) h.fall.poss k.fall.poss h.fall.view k.fall.view ranked hh.fall least c) kk.fall

-- where no cell takes a value
either_old : (b : Bool) (t u : Tri) → b ≡ false → (if b then t else u) ≡ u
either_old false t u h = refl
either_old true t u h = absurd cc

pub none_changes : NoneChanges
none_changes l rank p ranked none =
    let found = views_exist l rank p p.old ranked in (
      found.0,
      (
        record {
          closed = record { views = found.1; old = λ c. above_self (p.old c); next = λ c ch. absurd (let q : true ≡ false = sym ch ∙ none c in cc) };
          least = λ other its closed c. closed.old c;
        },
        λ c. either_old (changes l p c) (next_value l p found.0 c) (p.old c) (none c),
      ),
    )

pub round_one : RoundIsOne
round_one l rank x old r q ranked rr qq = (
  (λ net. both_above _ _ (strobe_over l rank x old r q ranked rr qq net) (strobe_over l rank x old q r ranked qq rr net)),
  (λ c. both_above _ _ (halves_over l rank x old r.halves q.halves ranked rr.least qq.least c) (halves_over l rank x old q.halves r.halves ranked qq.least rr.least c)),
)
