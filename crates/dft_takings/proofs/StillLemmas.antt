-- What does not move has one pass.
use Rattle.std.proofs.Common.{ℕ, Bool, true, false, not, ◌&&◌, ◌≡◌, ◌==◌, refl, sym, ap, ◌∙◌}
use Rattle.std.specs.Prelude.{if◌then◌else◌}
use Rattle.dft_base.specs.declared.tri.Tri.{Tri}
use Rattle.dft_base.specs.declared.tri.Tri.TheVariants.{Zero, Unknown}
use Rattle.dft_base.specs.Tri.{known, AboveTri}
use Rattle.dft_cells.proofs.Completions.{above_self, join_least, join_over_right}
use Rattle.dft_netlist.specs.Drivers.{nets_of}
use Rattle.dft_behavior.specs.Logic.{Logic, Meaning, Clock, Flop}
use Rattle.dft_behavior.specs.Settled.{value_from}
use Rattle.dft_abstract.specs.Cycle.{Pulse, changes, level_before, next_value, view_sources, AreViews, IsClosed, IsLeast}
use Rattle.dft_abstract.proofs.Views.{views_exist}
use Rattle.dft_abstract.proofs.OneDomain.{raised, raised_old, above_equal}
use Rattle.dft_takings.specs.Needs.{before_from, next_reads}
use Rattle.dft_takings.specs.Moves.{moves, is_other_clock}
use Rattle.dft_takings.specs.Laws.{StillIsOne, StillHasOneNext, StillIsStrobe, StillNextIsStrobe, OnePass}
use Rattle.dft_takings.proofs.ReadLemmas.{needed_agrees, next_agrees, set_agrees}
use Rattle.dft_takings.proofs.LockupLemmas.{shown_agrees, shown_before}

-- ---- what moves and what does not

-- a flip-flop that is not of another pulsed domain has its old value in the view
still_old : (up own : Bool) (old poss : Tri) → (if up then (if own then false else true) else false) ≡ false → (if up then (if own then old else poss) else old) ≡ old
still_old false own old poss h = refl
still_old true true old poss h = refl
still_old true false old poss h = absurd cc

-- a clock that is not another pulsed one is as before its edge in the view
still_low : (up own rising : Bool) → (if up then (if own then false else true) else false) ≡ false → (if up then (if own then known (not rising) else Unknown) else Zero) ≡ known (up && not rising)
still_low false own rising h = refl
still_low true true rising h = refl
still_low true false rising h = absurd cc

still_flop : (l : Logic) (p : Pulse) (poss : ℕ → Tri) (view : ℕ → ℕ → Tri) (d c : ℕ) (inverted : Bool) (m : Meaning) → moves l p d m ≡ false → m ≡ Flop c inverted → (view_sources l p poss view d).flops c ≡ p.old c
still_flop l p poss view d c inverted m still is =
    still_old (changes l p c) ((l.cell c).domain == d) (p.old c) (poss c) (sym (ap (moves l p d) is) ∙ still)

still_clock : (l : Logic) (p : Pulse) (poss : ℕ → Tri) (view : ℕ → ℕ → Tri) (d net : ℕ) (m : Meaning) → is_other_clock p d net m ≡ false → m ≡ Clock → (view_sources l p poss view d).clocks net ≡ known (level_before p net)
still_clock l p poss view d net m none is = still_low (p.pulsed net) (net == d) p.rising (sym (ap (is_other_clock p d net) is) ∙ none)

pub still_is_one : StillIsOne
still_is_one l rank p poss other needs view its ranked closed still views others =
    needed_agrees l rank p (view_sources l p poss view) (view_sources l p other its) needs view its ranked closed (λ d net need. views d net) (λ d net need. others d net)
    (λ d k. refl) (λ d net need is. refl)
    (λ d net need c inverted is. still_flop l p poss view d c inverted (l.net net) (still d net need) is ∙ sym (still_flop l p other its d c inverted (l.net net) (still d net need) is))
    (λ d net need c e high source is same. shown_agrees p.rising (p.pulsed e) (e == d) high (p.old c) view its d e source same)

pub still_has_one_next : StillHasOneNext
still_has_one_next l rank p poss other needs view its ranked closed still views others c has =
    let d : ℕ = (l.cell c).domain in
    next_agrees l p c view its
    (set_agrees (needs d) (view d) (its d) (nets_of (next_reads (l.cell c) p.ports (value_from (view d)))) has (still_is_one l rank p poss other needs view its ranked closed still views others d))

pub still_is_strobe : StillIsStrobe
still_is_strobe l rank p poss needs view settled ranked closed still unclocked views strobe =
    needed_agrees l rank p (view_sources l p poss view) (λ d. before_from p settled) needs view (λ d. settled) ranked closed (λ d net need. views d net) (λ d net need. strobe net)
    (λ d k. refl) (λ d net need is. still_clock l p poss view d net (l.net net) (unclocked d net need) is)
    (λ d net need c inverted is. still_flop l p poss view d c inverted (l.net net) (still d net need) is)
    (λ d net need c e high source is same. shown_before p.rising (p.pulsed e) (e == d) high (p.old c) view settled d e source (sym (ap (is_other_clock p d net) is) ∙ unclocked d net need) same)

pub still_next_is_strobe : StillNextIsStrobe
still_next_is_strobe l rank p poss needs view settled ranked closed still unclocked views strobe c has =
    let d : ℕ = (l.cell c).domain in
    sym (next_agrees l p c (λ d. settled) view
    (set_agrees (needs d) settled (view d) (nets_of (next_reads (l.cell c) p.ports (value_from settled))) has
    (λ k need. sym (still_is_strobe l rank p poss needs view settled ranked closed still unclocked views strobe d k need))))

-- ---- the map of one pass

raised_next : (up : Bool) (old next its : Tri) → up ≡ true → its ≡ next → AboveTri (raised up old next) its
raised_next true old next its is same = rw same (join_over_right old next next (above_self next))
raised_next false old next its is same = absurd cc

raised_least : (up : Bool) (other old next its : Tri) → AboveTri other old → (up ≡ true → AboveTri other its) → (up ≡ true → its ≡ next) → AboveTri other (raised up old next)
raised_least true other old next its a b same = join_least other old next a (above_equal other its next (same refl) (b refl))
raised_least false other old next its a b same = a

pub chosen_same : (up : Bool) (next its old : Tri) → (up ≡ true → next ≡ its) → (if up then next else old) ≡ (if up then its else old)
chosen_same true next its old same = same refl
chosen_same false next its old same = refl

pub one_pass : OnePass
one_pass l rank p needs settled ranked closed still unclocked strobe reads =
    let next : ℕ → Tri = next_value l p (λ d. settled) in
    let poss : ℕ → Tri = λ c. raised (changes l p c) (p.old c) (next c) in
    let found = views_exist l rank p poss ranked in
    let same : (other : ℕ → Tri) (its : ℕ → ℕ → Tri) → AreViews l p other its → (c : ℕ) → changes l p c ≡ true → next_value l p its c ≡ next c =
    λ other its views c up. still_next_is_strobe l rank p other needs its settled ranked closed still unclocked views strobe c (reads c up) in
    let is_closed : IsClosed l p poss found.0 = record {
      views = found.1;
      old = λ c. raised_old (changes l p c) (p.old c) (next c);
      next = λ c up. raised_next (changes l p c) (p.old c) (next c) (next_value l p found.0 c) up (same poss found.0 found.1 c up);
    } in
    let is_least : IsLeast l p poss found.0 = record {
      closed = is_closed;
      least = λ other its its_closed c. raised_least (changes l p c) (other c) (p.old c) (next c) (next_value l p its c) (its_closed.old c) (its_closed.next c) (same other its its_closed.views c);
    } in
    (poss, (found.0, (is_least, λ c. chosen_same (changes l p c) _ _ (p.old c) (same poss found.0 found.1 c))))
