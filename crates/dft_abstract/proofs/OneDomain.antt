-- Without lock-ups, where one domain pulses at most, its view in the rises is the strobe.
use Rattle.std.proofs.Common.{ℕ, Bool, true, false, not, ◌≡◌, ◌==◌, refl, sym, ap, ◌∙◌, Option, None, Some}
use Rattle.std.specs.Prelude.{if◌then◌else◌}
use Rattle.std.proofs.lemmas.Bool.{eq-eqb, and_parts}
use Rattle.dft_base.specs.declared.tri.Tri.{Tri}
use Rattle.dft_base.specs.declared.tri.Tri.TheVariants.{Zero, Unknown}
use Rattle.dft_base.specs.Tri.{AboveTri, join}
use Rattle.dft_cells.proofs.Completions.{above_self, join_least, join_over_left, join_over_right}
use Rattle.dft_cells.specs.FlipFlops.{Takes, tri_taken_by, tri_forced_by}
use Rattle.dft_netlist.specs.Drivers.{Source, Net, Tied, Loose}
use Rattle.dft_behavior.specs.Logic.{Logic, IsRanked}
use Rattle.dft_behavior.specs.Settled.{value_from, IsTriSettled}
use Rattle.dft_behavior.specs.Runs.{Vector, takes}
use Rattle.dft_abstract.specs.Cycle.{Pulse, changes, view_sources, AreViews, next_value, IsLeast, rise_of, fall_of, strobe_sources, Round}
use Rattle.dft_abstract.specs.Laws.{HasNoLockup, next_from, OneDomain}
use Rattle.dft_abstract.proofs.Views.{views_exist, settled_same}
use Rattle.dft_abstract.proofs.Halves.{rises_change, rising_after}

source_equal : (v w : ℕ → Tri) (source : Source) → ((net : ℕ) → v net ≡ w net) → value_from v source ≡ value_from w source
source_equal v w (Net net) same = same net
source_equal v w (Tied bit) same = refl
source_equal v w (Loose i pin) same = refl

taken_equal : (takes : Takes Source) (own : Tri) (at to : Source → Tri) → ((source : Source) → at source ≡ to source) → tri_taken_by takes own at ≡ tri_taken_by takes own to
taken_equal takes own at to same i = tri_taken_by takes own (λ source. same source i)

clock_low : (pulsed e_is_d : Bool) → (pulsed ≡ true → e_is_d ≡ true) → (if pulsed then (if e_is_d then Zero else Unknown) else Zero) ≡ Zero
clock_low false e_is_d h = refl
clock_low true true h = refl
clock_low true false h = let q : false ≡ true = h refl in absurd cc

pub flop_old : (pulsed e_is_d : Bool) (old poss : Tri) → (pulsed ≡ true → e_is_d ≡ true) → (if pulsed then (if e_is_d then old else poss) else old) ≡ old
flop_old false e_is_d old poss h = refl
flop_old true true old poss h = refl
flop_old true false old poss h = let q : false ≡ true = h refl in absurd cc

-- at any map the view of a domain is the strobe, where no other domain pulses
view_is_strobe : (l : Logic) (rank : ℕ → ℕ) (x : Vector) (d : ℕ) (old values poss : ℕ → Tri) (view : ℕ → ℕ → Tri) → IsRanked l rank → HasNoLockup l → ((e : ℕ) → x.pulsed e ≡ true → (e == d) ≡ true) →
    IsTriSettled l (strobe_sources l x old values) values → AreViews l (rise_of l x old) poss view → (net : ℕ) → view d net ≡ values net
view_is_strobe l rank x d old values poss view ranked none one settled views net =
    settled_same l rank (view_sources l (rise_of l x old) poss view d) (strobe_sources l x old values) (view d) values ranked (views d) settled
    (λ k. refl) (λ e. clock_low (x.pulsed e) (e == d) (one e)) (λ c. flop_old (changes l (rise_of l x old) c) ((l.cell c).domain == d) _ _ (λ ch. one (l.cell c).domain (and_parts (x.pulsed (l.cell c).domain) (not (l.cell c).falling) ch).0))
    (λ k c e high source is ih below. absurd (none k c e high source is)) net

next_is : (l : Logic) (x : Vector) (old values : ℕ → Tri) (view : ℕ → ℕ → Tri) (c : ℕ) → ((net : ℕ) → view (l.cell c).domain net ≡ values net) → next_value l (rise_of l x old) view c ≡ next_from l x values ((rise_of l x old).old c) c
next_is l x old values view c same =
    let at : (source : Source) → value_from (view (l.cell c).domain) source ≡ value_from values source = λ source. source_equal (view (l.cell c).domain) values source same in
    ap (tri_forced_by (l.cell c).forces x.ports) (taken_equal (l.cell c).takes ((rise_of l x old).old c) (value_from (view (l.cell c).domain)) (value_from values) at)

-- the least map: the old value, joined with the next one where the cell takes one
abbrev pub raised : (pulsed : Bool) (old next : Tri) → Tri
raised pulsed old next = if pulsed then join old next else old

pub raised_old : (pulsed : Bool) (old next : Tri) → AboveTri (raised pulsed old next) old
raised_old true old next = join_over_left old next old (above_self old)
raised_old false old next = above_self old

raised_next : (pulsed : Bool) (old next : Tri) → pulsed ≡ true → AboveTri (raised pulsed old next) next
raised_next true old next is = join_over_right old next next (above_self next)
raised_next false old next is = absurd cc

raised_least : (pulsed : Bool) (other old next : Tri) → AboveTri other old → (pulsed ≡ true → AboveTri other next) → AboveTri other (raised pulsed old next)
raised_least true other old next a b = join_least other old next a (b refl)
raised_least false other old next a b = a

pub above_equal : (t u v : Tri) → u ≡ v → AboveTri t u → AboveTri t v
above_equal t u v e h = rw e at h

chosen_equal : (b : Bool) (x y z : Tri) → (b ≡ true → x ≡ z) → (if b then x else y) ≡ (if b then z else y)
chosen_equal true x y z h = h refl
chosen_equal false x y z h = refl

-- ---- the least map of a phase of one domain

-- where one domain pulses at most, its view is the same at any map
alone_view : (l : Logic) (rank : ℕ → ℕ) (p : Pulse) (d : ℕ) (poss other : ℕ → Tri) (view its : ℕ → ℕ → Tri) → IsRanked l rank → HasNoLockup l → ((e : ℕ) → p.pulsed e ≡ true → (e == d) ≡ true) →
    AreViews l p poss view → AreViews l p other its → (net : ℕ) → its d net ≡ view d net
alone_view l rank p d poss other view its ranked none one views at net =
    let own : (map : ℕ → Tri) (c : ℕ) → (if changes l p c then (if (l.cell c).domain == d then p.old c else map c) else p.old c) ≡ p.old c =
    λ map c. flop_old (changes l p c) ((l.cell c).domain == d) (p.old c) (map c) (λ ch. one (l.cell c).domain (and_parts (p.pulsed (l.cell c).domain) (takes p.rising (l.cell c).falling) ch).0) in
    settled_same l rank (view_sources l p other its d) (view_sources l p poss view d) (its d) (view d) ranked (at d) (views d)
    (λ k. refl) (λ e. refl) (λ c. own other c ∙ sym (own poss c))
    (λ k c e high source is ih below. absurd (none k c e high source is)) net

next_same : (l : Logic) (p : Pulse) (view its : ℕ → ℕ → Tri) (c : ℕ) → ((net : ℕ) → its (l.cell c).domain net ≡ view (l.cell c).domain net) → next_value l p its c ≡ next_value l p view c
next_same l p view its c same =
    let at : (source : Source) → value_from (its (l.cell c).domain) source ≡ value_from (view (l.cell c).domain) source = λ source. source_equal (its (l.cell c).domain) (view (l.cell c).domain) source same in
    ap (tri_forced_by (l.cell c).forces p.ports) (taken_equal (l.cell c).takes (p.old c) (value_from (its (l.cell c).domain)) (value_from (view (l.cell c).domain)) at)

alone_least : (l : Logic) (rank : ℕ → ℕ) (p : Pulse) (d : ℕ) → IsRanked l rank → HasNoLockup l → ((e : ℕ) → p.pulsed e ≡ true → e ≡ d) → (poss : ℕ → Tri) × (view : ℕ → ℕ → Tri) × IsLeast l p poss view
alone_least l rank p d ranked none one =
    let first : ℕ → ℕ → Tri = (views_exist l rank p p.old ranked).0 in
    let firsts : AreViews l p p.old first = (views_exist l rank p p.old ranked).1 in
    let poss : ℕ → Tri = λ c. raised (changes l p c) (p.old c) (next_value l p first c) in
    let view : ℕ → ℕ → Tri = (views_exist l rank p poss ranked).0 in
    let views : AreViews l p poss view = (views_exist l rank p poss ranked).1 in
    let next_at : (other : ℕ → Tri) (its : ℕ → ℕ → Tri) → AreViews l p other its → (c : ℕ) → changes l p c ≡ true → next_value l p its c ≡ next_value l p first c =
    λ other its at c ch. (let own = one (l.cell c).domain (and_parts (p.pulsed (l.cell c).domain) (takes p.rising (l.cell c).falling) ch).0 in
    next_same l p first its c
    (λ net. ap (λ (e : ℕ). its e net) own ∙ alone_view l rank p d p.old other first its ranked none (λ e up. eq-eqb e d (one e up)) firsts at net ∙ sym (ap (λ (e : ℕ). first e net) own))) in (
      poss,
      view,
      record {
        closed = record {
          views = views;
          old = λ c. raised_old (changes l p c) (p.old c) (next_value l p first c);
          next = λ c ch. above_equal _ _ _ (sym (next_at poss view views c ch)) (raised_next (changes l p c) (p.old c) (next_value l p first c) ch);
        };
        least = λ other its closed c. raised_least (changes l p c) (other c) (p.old c) (next_value l p first c) (closed.old c)
            (λ ch. above_equal _ _ _ (next_at other its closed.views c ch) (closed.next c ch));
      },
    )

pub one_domain : OneDomain
one_domain l rank x d old values ranked none one settled =
    let p : Pulse = rise_of l x old in
    let up = alone_least l rank p d ranked none one in
    let view : ℕ → ℕ → Tri = up.1 in
    let down = alone_least l rank (fall_of l x old view) d ranked none one in
    let r : Round = record { strobe = values; halves = record { rise = record { poss = up.0; view = view }; fall = record { poss = down.0; view = down.1 } } } in
    let next_at : (c : ℕ) → x.pulsed (l.cell c).domain ≡ true → next_value l p view c ≡ next_from l x values (p.old c) c =
    λ c pulsed. next_is l x old values view c
    (λ net. ap (λ (e : ℕ). view e net) (one (l.cell c).domain pulsed) ∙ view_is_strobe l rank x d old values up.0 view ranked none (λ e h. eq-eqb e d (one e h)) settled up.2.closed.views net) in (
      r,
      (
        refl,
        record { strobe = settled; least = record { rise = up.2; fall = down.2 } },
        λ c rises. rising_after l x old r.halves c rises ∙ ap (λ (b : Bool). if b then next_value l p view c else p.old c) (rises_change l p c rises refl)
            ∙ chosen_equal (x.pulsed (l.cell c).domain) _ _ _ (next_at c),
      ),
    )
