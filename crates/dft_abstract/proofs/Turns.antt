-- A vector: its strobe, and its two phases, the rises and the falls, in any orders.
use Rattle.std.proofs.Common.{ℕ, Bool, true, false, refl, Option, sym, subst, ◌∙◌, map}
use Rattle.std.specs.Prelude.{if◌then◌else◌}
use Rattle.dft_base.specs.declared.tri.Tri.{Tri}
use Rattle.dft_base.specs.Tri.{Above, AboveTri}
use Rattle.dft_base.proofs.SumLemmas.{and_false}
use Rattle.dft_cells.specs.FlipFlops.{Forces, tri_taken_by, tri_forced_by}
use Rattle.dft_cells.proofs.TakesLemmas.{left_above, left_again}
use Rattle.dft_netlist.specs.Drivers.{Source}
use Rattle.dft_behavior.specs.Logic.{Logic, IsRanked}
use Rattle.dft_behavior.specs.Settled.{value_from}
use Rattle.dft_behavior.specs.Runs.{Now, sources_of, next_now, after, edge_step, Vector, Turn, IsTurn, after_turn, set_step}
use Rattle.dft_behavior.proofs.Meanings.{completed_above}
use Rattle.dft_behavior.proofs.Steps.{after-append, AreSteps-append}
use Rattle.dft_abstract.specs.Cycle.{Pulse, changes, level_before, level_after, IsClosed, after_pulse, rise_of, falls_after, fall_of, strobe_sources}
use Rattle.dft_abstract.specs.Laws.{Stands, StandsAt, IsForced, StrobeIsAbove, TurnIsAbove, after_rises, falls_from}
use Rattle.dft_abstract.proofs.Strobe.{SourcesAbove, strobe_above}
use Rattle.dft_abstract.proofs.Phases.{phase_above, ports_stay, last_settled}

-- ---- the Set and the strobe

-- the present after the Set of a vector
abbrev pub at_strobe : Logic → Vector → Now → Turn → Now
at_strobe l x now t = next_now l now (set_step x t)

set_above : (l : Logic) (x : Vector) (old : ℕ → Tri) (now : Now) (t : Turn) → Stands old now.state → (c : ℕ) → Above ((rise_of l x old).old c) ((at_strobe l x now t).state.flops c)
set_above l x old now t stands c = left_above (l.cell c).forces (old c) (now.state.flops c) x.ports _ (stands.above c) (λ k. completed_above (x.ports k) (t.strobe.free k))

pub strobe_stands : StrobeIsAbove
strobe_stands l rank x old values now t ranked stands turn settled net =
    let a : SourcesAbove (sources_of (at_strobe l x now t)) (strobe_sources l x old values) values = record {
      ports = λ k. completed_above (x.ports k) (t.strobe.free k);
      clocks = λ e. rw (stands.low e) tt;
      flops = set_above l x old now t stands;
      low = stands.low;
      lockups = λ c e high source. refl;
    } in
    strobe_above l rank (sources_of (at_strobe l x now t)) (strobe_sources l x old values) t.strobe.seen values ranked turn.steps.0 settled a net

-- ---- the whole turn

either_stays : (b : Bool) (f : Forces ℕ) (ports : ℕ → Tri) (t u : Tri) → AboveTri u (tri_forced_by f ports u) → AboveTri (if b then tri_forced_by f ports t else u) (tri_forced_by f ports (if b then tri_forced_by f ports t else u))
either_stays true f ports t u h = left_again f ports t
either_stays false f ports t u h = h

-- the values after a phase are those that resets and sets leave
after_forced : (l : Logic) (p : Pulse) (view : ℕ → ℕ → Tri) → IsForced l p → IsForced l (falls_after l p view)
after_forced l p view old c =
    either_stays (changes l p c) (l.cell c).forces p.ports (tri_taken_by (l.cell c).takes (p.old c) (value_from (view (l.cell c).domain))) (p.old c) (old c)

-- after the rises of a turn the values of any closed map stand above the bits
pub rises_stand : (l : Logic) (rank : ℕ → ℕ) (x : Vector) (old : ℕ → Tri) (now : Now) (t : Turn) (poss : ℕ → Tri) (view : ℕ → ℕ → Tri) → IsRanked l rank → Stands old now.state → IsTurn l x now t → IsClosed l (rise_of l x old) poss view →
    StandsAt (level_after (rise_of l x old)) (fall_of l x old view).old (after_rises l x now t).state
rises_stand l rank x old now t poss view ranked stands turn closed =
    let p : Pulse = rise_of l x old in
    let first : Now = at_strobe l x now t in
    let split = AreSteps-append l first (map (edge_step true) t.rises) (map (edge_step false) t.falls) turn.steps.1 in
    let begun : StandsAt (level_before p) p.old first.state = record { above = set_above l x old now t stands; levels = λ e. stands.low e ∙ sym (and_false (x.pulsed e)) } in
    phase_above l rank p poss view first t.rises ranked closed (λ c. left_again (l.cell c).forces x.ports (old c)) (λ k. refl) begun turn.steps.0 turn.rises split.0

-- and after its falls, from any values above the bits after the rises that are those that resets and sets leave
pub falls_stand : (l : Logic) (rank : ℕ → ℕ) (x : Vector) (old : ℕ → Tri) (now : Now) (t : Turn) (poss : ℕ → Tri) (view : ℕ → ℕ → Tri) → IsRanked l rank → IsTurn l x now t → IsForced l (falls_from x old) →
    StandsAt (level_before (falls_from x old)) old (after_rises l x now t).state → IsClosed l (falls_from x old) poss view → Stands (after_pulse l (falls_from x old) view) (after_turn l x now t).state
falls_stand l rank x old now t poss view ranked turn forced risen closed =
    let q : Pulse = falls_from x old in
    let first : Now = at_strobe l x now t in
    let middle : Now = after_rises l x now t in
    let split = AreSteps-append l first (map (edge_step true) t.rises) (map (edge_step false) t.falls) turn.steps.1 in
    let fallen : StandsAt (level_after q) (after_pulse l q view) (after l middle (map (edge_step false) t.falls)).state =
    phase_above l rank q poss view middle t.falls ranked closed forced (ports_stay l first true t.rises) risen (last_settled l first true t.rises turn.steps.0 split.0) turn.falls split.1 in
    let result : Stands (after_pulse l q view) (after l middle (map (edge_step false) t.falls)).state = record { above = fallen.above; low = λ e. fallen.levels e ∙ and_false (x.pulsed e) } in
    subst (λ (n : Now). Stands (after_pulse l q view) n.state) (sym (after-append l first (map (edge_step true) t.rises) (map (edge_step false) t.falls))) result

-- the values after the rises are those that resets and sets leave
pub rises_forced : (l : Logic) (x : Vector) (old : ℕ → Tri) (view : ℕ → ℕ → Tri) → IsForced l (fall_of l x old view)
rises_forced l x old view = after_forced l (rise_of l x old) view (λ c. left_again (l.cell c).forces x.ports (old c))

pub turn_stands : TurnIsAbove
turn_stands l rank x old now t halves ranked stands turn closed =
    falls_stand l rank x (fall_of l x old halves.rise.view).old now t halves.fall.poss halves.fall.view ranked turn (rises_forced l x old halves.rise.view)
    (rises_stand l rank x old now t halves.rise.poss halves.rise.view ranked stands turn closed.rise) closed.fall
