-- The round of a vector from one assignment for its rises and one for its falls.
use Rattle.std.proofs.Common.{ℕ, Bool, true, false, ◌&&◌, ◌≡◌, List, [], ◌∷◌, refl, sym, subst, ap, ◌∙◌}
use Rattle.std.specs.Prelude.{if◌then◌else◌}
use Rattle.dft_base.specs.declared.tri.Tri.{Tri}
use Rattle.dft_base.specs.declared.tri.Tri.TheVariants.{Zero}
use Rattle.dft_base.specs.Tri.{known}
use Rattle.dft_base.proofs.SumLemmas.{and_false}
use Rattle.dft_netlist.specs.Drivers.{Source, nets_of}
use Rattle.dft_behavior.specs.Logic.{Logic}
use Rattle.dft_behavior.specs.Settled.{TriSources, is_wire, value_from, IsTriSettled}
use Rattle.dft_behavior.specs.Runs.{Vector}
use Rattle.dft_abstract.specs.Cycle.{Pulse, after_pulse, rise_of, fall_of, strobe_sources, IsLeast, Round}
use Rattle.dft_abstract.proofs.Least.{none_changes}
use Rattle.dft_takings.specs.Needs.{HasAll, before_from, next_reads}
use Rattle.dft_takings.specs.Shows.{Shown, is_still, still_needs}
use Rattle.dft_takings.proofs.ShownLemmas.{pass_of_shown}
use Rattle.dft_fault_laws.specs.Rounds.{every, IsPass, IsRise, falls_of}
use Rattle.dft_fault_laws.specs.Laws.{PassOfBound, RoundOfPasses, RoundOfRises}
use Rattle.dft_fault_laws.proofs.Bounds.{shown_there}

-- ---- one phase

still_more : (bound shown : ℕ → Shown) (d : ℕ) → ((net e : ℕ) → is_still e (bound net) ≡ true → is_still e (shown net) ≡ true) → (nets : List ℕ) →
    HasAll (still_needs every bound d) nets → HasAll (still_needs every shown d) nets
still_more bound shown d more [] has = tt
still_more bound shown d more (net ∷ nets) has = (more net d has.0, still_more bound shown d more nets has.1)

all_read : (l : Logic) (nets : List ℕ) → HasAll every nets
all_read l [] = tt
all_read l (net ∷ nets) = (refl, all_read l nets)

pub pass_of_bound : PassOfBound
pass_of_bound l rank p bound values ranked is =
    let found = shown_there l rank p ranked in
    pass_of_shown l rank p every found.0 values ranked (λ net need. all_read l _) found.1 (λ net need. is.before net)
    (λ c up. still_more bound found.0 (l.cell c).domain (is.bounds found.0 found.1) (nets_of (next_reads (l.cell c) p.ports (value_from values))) (is.still c up))

-- ---- the strobe is before the rises

wire_low : (high level : Bool) (held shown : Tri) → level ≡ false → (if high then held else shown) ≡ (if is_wire high level then shown else held)
wire_low true true held shown low = absurd cc
wire_low true false held shown low = refl
wire_low false true held shown low = absurd cc
wire_low false false held shown low = refl

strobe_before : (l : Logic) (x : Vector) (old values : ℕ → Tri) → strobe_sources l x old values ≡ before_from (rise_of l x old) values
strobe_before l x old values =
    let clock : (e : ℕ) → Zero ≡ known (x.pulsed e && false) = λ e. ap known (sym (and_false (x.pulsed e))) in
    let wire : (c e : ℕ) (high : Bool) (source : Source) →
    (if high then (rise_of l x old).old c else value_from values source) ≡ (if is_wire high (x.pulsed e && false) then value_from values source else (rise_of l x old).old c) =
    λ c e high source. wire_low high (x.pulsed e && false) ((rise_of l x old).old c) (value_from values source) (and_false (x.pulsed e)) in
    λ t. record { ports = x.ports; clocks = λ e. clock e t; flops = (rise_of l x old).old; lockups = λ c e high source. wire c e high source t }

rise_pass : (l : Logic) (x : Vector) (old : ℕ → Tri) (bound : ℕ → Shown) (values : ℕ → Tri) → IsRise l x old bound values → IsPass l (rise_of l x old) bound values
rise_pass l x old bound values is = record {
  before = subst (λ (s : TriSources). IsTriSettled l s values) (strobe_before l x old values) is.strobe;
  bounds = is.bounds;
  still = is.still;
}

-- ---- both phases

pub round_of_passes : RoundOfPasses
round_of_passes l rank x old rise fall values later ranked up down =
    let p : Pulse = rise_of l x old in
    let q : Pulse = falls_of l x old values in
    let first = pass_of_bound l rank p rise values ranked (rise_pass l x old rise values up) in
    let second = pass_of_bound l rank q fall later ranked down in
    let view : ℕ → ℕ → Tri = first.1.0 in
    let same : q ≡ fall_of l x old view = λ t. record { rising = false; ports = x.ports; pulsed = x.pulsed; old = λ c. sym (first.1.1.1 c) t } in
    let r : Round = record { strobe = values; halves = record { rise = record { poss = first.0; view = view }; fall = record { poss = second.0; view = second.1.0 } } } in
    let least : IsLeast l (fall_of l x old view) second.0 second.1.0 = subst (λ (z : Pulse). IsLeast l z second.0 second.1.0) same second.1.1.0 in (
      r,
      (
        refl,
        (
          record { strobe = up.strobe; least = record { rise = first.1.1.0; fall = least } },
          λ c. sym (ap (λ (z : Pulse). after_pulse l z second.1.0 c) same) ∙ second.1.1.1 c,
        ),
      ),
    )

pub round_of_rises : RoundOfRises
round_of_rises l rank x old rise values ranked up none =
    let p : Pulse = rise_of l x old in
    let q : Pulse = falls_of l x old values in
    let first = pass_of_bound l rank p rise values ranked (rise_pass l x old rise values up) in
    let second = none_changes l rank q ranked none in
    let view : ℕ → ℕ → Tri = first.1.0 in
    let same : q ≡ fall_of l x old view = λ t. record { rising = false; ports = x.ports; pulsed = x.pulsed; old = λ c. sym (first.1.1.1 c) t } in
    let r : Round = record { strobe = values; halves = record { rise = record { poss = first.0; view = view }; fall = record { poss = q.old; view = second.0 } } } in
    let least : IsLeast l (fall_of l x old view) q.old second.0 = subst (λ (z : Pulse). IsLeast l z q.old second.0) same second.1.0 in (
      r,
      (
        refl,
        (
          record { strobe = up.strobe; least = record { rise = first.1.1.0; fall = least } },
          λ c. sym (ap (λ (z : Pulse). after_pulse l z second.0 c) same) ∙ second.1.1 c,
        ),
      ),
    )
