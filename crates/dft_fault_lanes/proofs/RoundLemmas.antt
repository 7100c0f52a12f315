-- The round of a vector in a lane, from what is settled and taken in it.
use Rattle.std.proofs.Common.{ℕ, Bool, true, false, ◌≡◌, ◌<◌, inl, inr, List, [], length, refl, sym, ap, subst, ◌∙◌, Option}
use Rattle.std.specs.Prelude.{if◌then◌else◌}
use Rattle.dft_base.proofs.BitLemmas.{with_true}
use Rattle.dft_base.specs.declared.tri.Tri.{Tri}
use Rattle.dft_base.specs.declared.tri.Tri.TheVariants.{Zero}
use Rattle.dft_lanes.specs.declared.wide.Wide.{Wide}
use Rattle.dft_netlist.specs.Drivers.{nets_of}
use Rattle.dft_behavior.specs.Logic.{Logic, Meaning, Input, Clock, Gate, Joined, Flop, Lockup, Free, IsRanked}
use Rattle.dft_behavior.specs.Settled.{TriSources, is_wire, value_from, IsTriSettled}
use Rattle.dft_behavior.specs.Runs.{Vector}
use Rattle.dft_abstract.specs.Cycle.{Pulse, changes, rise_of, strobe_sources, level_before}
use Rattle.dft_takings.specs.declared.shown.Shown.{Shown}
use Rattle.dft_logic.specs.Circuit.{Circuit, logic_at, flag_at, next_at, IsCircuit}
use Rattle.dft_takings.specs.Needs.{still_from, IsStillFrom, IsStillOn, IsStrobeClosed, next_reads}
use Rattle.dft_takings.specs.Ranks.{rank_of}
use Rattle.dft_takings.specs.Shows as shows
use Rattle.dft_takings.specs.Shows.{shown_given, IsShownOn}
use Rattle.dft_takings.specs.ShownTables.{shown_at, edges_of}
use Rattle.dft_logic.specs.Values.{value_at}
use Rattle.dft_takings.proofs.CircuitRanks.{circuit_ranked}
use Rattle.dft_takings.proofs.PlanLemmas.{needs_closed}
use Rattle.dft_evaluator.specs.Wides.{value_in, values_in}
use Rattle.dft_fault_laws.specs.Stuck.{with_fault}
use Rattle.dft_fault_laws.specs.Rounds.{every, IsBound, IsPass, IsRise, passed, falls_of}
use Rattle.dft_fault_laws.proofs.Bounds.{rank_stays, still_stays}
use Rattle.dft_fault_laws.proofs.Passes.{round_of_passes, round_of_rises}
use Rattle.dft_fault_lanes.specs.declared.clamps.Clamp.{Clamp}
use Rattle.dft_fault_lanes.specs.Lanes.{AreSettledOn, AreActedOn, AreTaken, AreSteady, IsStuck, IsLive, HasLaneRound, vector_of, flop_at, is_changed}
use Rattle.dft_fault_lanes.specs.Pulses.{IsPhase, IsFall, NoneFalls, IsStrobeOf, ArePulsed, at_levels}
use Rattle.dft_fault_lanes.specs.Plans.{needs_of}
use Rattle.dft_fault_lanes.specs.Seen.{seen, knows}
use Rattle.dft_fault_lanes.proofs.LaneLemmas.{lane_is_faulty}
use Rattle.dft_fault_lanes.proofs.SeenLemmas.{marked_seen, needs_known, knows_closed, knows_settled}
use Rattle.dft_fault_lanes.proofs.WholeLemmas.{Whole, whole_there, closed_stays, needed_agree, still_of_all, passes_same}

-- ---- what nets show

edges_shown : (l : Logic) (p : Pulse) (shown : ℕ → shows.Shown) (net : ℕ) (m : Meaning) → shown_given l (edges_of p.rising p.pulsed) shown net m ≡ shown_given l p shown net m
edges_shown l p shown net Input = refl
edges_shown l p shown net Clock = refl
edges_shown l p shown net (Gate kind inputs) = refl
edges_shown l p shown net (Joined source) = refl
edges_shown l p shown net (Flop cell inverted) = refl
edges_shown l p shown net (Lockup cell domain high source) = refl
edges_shown l p shown net Free = refl

shown_bound : (x : Circuit) (p : Pulse) (stuck : ℕ) (value : Bool) (shown : ℕ → shows.Shown) → IsCircuit x → IsShownOn (logic_at x) (edges_of p.rising p.pulsed) every shown → IsBound (with_fault stuck value (logic_at x)) p shown
shown_bound x p stuck value shown is on =
    still_stays (logic_at x) (rank_of x) p stuck value shown (circuit_ranked x is) (λ net need. on net need ∙ edges_shown (logic_at x) p shown net ((logic_at x).net net))

lane_ranked : (x : Circuit) (stuck : ℕ) (value : Bool) → IsCircuit x → IsRanked (with_fault stuck value (logic_at x)) (rank_of x)
lane_ranked x stuck value is = rank_stays (logic_at x) (rank_of x) stuck value (circuit_ranked x is)

-- ---- the rises

wire_low : (high : Bool) (held shown : Tri) → (if is_wire high false then shown else held) ≡ (if high then held else shown)
wire_low true held shown = refl
wire_low false held shown = refl

strobe_is : (l : Logic) (v : Vector) (old values : ℕ → Tri) → still_from (flag_at []) v.ports (rise_of l v old).old values ≡ strobe_sources l v old values
strobe_is l v old values = λ t. record {
  ports = v.ports;
  clocks = λ e. Zero;
  flops = (rise_of l v old).old;
  lockups = λ c e high source. wire_low high ((rise_of l v old).old c) (value_from values source) t;
}

-- the cells of a lane once resets and sets acted
held_is : (x : Circuit) (ports : List Tri) (pulsed : List Bool) (before held : List Wide) (lane stuck : ℕ) (value : Bool) → lane < 512 → AreActedOn x.flops ports before held →
    values_in held lane ≡ (rise_of (with_fault stuck value (logic_at x)) (vector_of ports pulsed) (values_in before lane)).old
unfolding logic_at
held_is x ports pulsed before held lane stuck value within acted = λ t c. acted lane c within t

-- The rises are of one pass, and cells have after it what these values of the set give.
pub record Risen (x : Circuit) (ports : List Tri) (pulsed : List Bool) (needs : ℕ → Bool) (before strobe : List Wide) (shown : List Shown) (lane stuck : ℕ) (value : Bool) : Type 0 where
  pub all : ℕ → Tri
  pub same : (net : ℕ) → needs net ≡ true → values_in strobe lane net ≡ all net
  pub is : IsRise (with_fault stuck value (logic_at x)) (vector_of ports pulsed) (values_in before lane) (shown_at shown) all
  pub falls : falls_of (with_fault stuck value (logic_at x)) (vector_of ports pulsed) (values_in before lane) (values_in strobe lane) ≡ falls_of (with_fault stuck value (logic_at x)) (vector_of ports pulsed) (values_in before lane) all

lane_rise : (x : Circuit) (needs : ℕ → Bool) (ports : List Tri) (pulsed : List Bool) (clamps : List (Option Clamp)) (before held strobe : List Wide) (shown : List Shown) (lane stuck : ℕ) (value : Bool) → IsCircuit x → IsStrobeClosed (logic_at x) needs →
    lane < 512 → IsStuck clamps lane stuck value → IsStrobeOf x needs ports clamps before held strobe → IsShownOn (logic_at x) (edges_of true (flag_at pulsed)) every (shown_at shown) → AreSteady x.flops true pulsed needs shown strobe lane →
    Risen x ports pulsed needs before strobe shown lane stuck value
unfolding logic_at
lane_rise x needs ports pulsed clamps before held strobe shown lane stuck value is closed within stuck_is at on steady =
    let l : Logic = with_fault stuck value (logic_at x) in
    let v : Vector = vector_of ports pulsed in
    let p : Pulse = rise_of l v (values_in before lane) in
    let values : ℕ → Tri = values_in strobe lane in
    let given : IsStillOn l (flag_at []) (value_at ports) (values_in held lane) needs values = lane_is_faulty x (at_levels ports [] held clamps) needs strobe lane stuck value at.settled within stuck_is in
    let from_old : IsStillOn l (flag_at []) (value_at ports) p.old needs values =
    subst (λ (f : ℕ → Tri). IsStillOn l (flag_at []) (value_at ports) f needs values) (held_is x ports pulsed before held lane stuck value within at.acted) given in
    let whole : Whole l (flag_at []) (value_at ports) p.old needs values =
    whole_there l (rank_of x) (flag_at []) (value_at ports) p.old needs values (lane_ranked x stuck value is) (closed_stays (logic_at x) stuck value needs closed) from_old in
    let passes : (c : ℕ) → passed l p values c ≡ passed l p whole.all c = λ c. passes_same l p values whole.all c
    (λ up. needed_agree needs (shown_at shown) (l.cell c).domain values whole.all (nets_of (next_reads (l.cell c) p.ports (value_from values))) whole.same (steady c up p.ports)) in
    record {
      all = whole.all;
      same = whole.same;
      is = record {
        strobe = subst (λ (s : TriSources). IsTriSettled l s whole.all) (strobe_is l v (values_in before lane) whole.all) whole.settled;
        bounds = shown_bound x p stuck value (shown_at shown) is on;
        still = λ c up. still_of_all needs (shown_at shown) (l.cell c) p.ports values whole.all whole.same (steady c up p.ports);
      };
      falls = λ t. record { rising = false; ports = p.ports; pulsed = p.pulsed; old = λ c. passes c t };
    }

-- ---- the falls

-- the cells of a lane after the rises
risen_is : (x : Circuit) (ports : List Tri) (pulsed : List Bool) (before held strobe risen : List Wide) (lane stuck : ℕ) (value : Bool) → lane < 512 → AreActedOn x.flops ports before held →
    AreTaken x.flops true pulsed ports strobe held risen → values_in risen lane ≡ (falls_of (with_fault stuck value (logic_at x)) (vector_of ports pulsed) (values_in before lane) (values_in strobe lane)).old
unfolding logic_at
risen_is x ports pulsed before held strobe risen lane stuck value within acted taken = λ t c.
    (taken lane c within ∙ ap (λ (m : Tri). if is_changed (flop_at x.flops c) true pulsed then next_at (flop_at x.flops c) (value_at ports) (values_in strobe lane) else m) (acted lane c within)) t

-- the falls are of one pass, and cells have after it what these values of the set give
pub record Fallen (x : Circuit) (q : Pulse) (later : ℕ → Tri) (shown : List Shown) (stuck : ℕ) (value : Bool) : Type 0 where
  pub all : ℕ → Tri
  pub is : IsPass (with_fault stuck value (logic_at x)) q (shown_at shown) all
  pub passes : (c : ℕ) → passed (with_fault stuck value (logic_at x)) q later c ≡ passed (with_fault stuck value (logic_at x)) q all c

-- the falls of these clocks, from these cells
abbrev pub fall_from : (ports : List Tri) → (pulsed : List Bool) → (old : ℕ → Tri) → Pulse
fall_from ports pulsed old = record { rising = false; ports = value_at ports; pulsed = flag_at pulsed; old = old }

lane_fall : (x : Circuit) (needs : ℕ → Bool) (ports : List Tri) (pulsed : List Bool) (clamps : List (Option Clamp)) (risen later : List Wide) (shown : List Shown) (lane stuck : ℕ) (value : Bool) → IsCircuit x → IsStrobeClosed (logic_at x) needs →
    lane < 512 → IsStuck clamps lane stuck value → AreSettledOn x.ops (at_levels ports pulsed risen clamps) needs later →
    IsShownOn (logic_at x) (edges_of false (flag_at pulsed)) every (shown_at shown) → AreSteady x.flops false pulsed needs shown later lane →
    Fallen x (fall_from ports pulsed (values_in risen lane)) (values_in later lane) shown stuck value
unfolding logic_at
lane_fall x needs ports pulsed clamps risen later shown lane stuck value is closed within stuck_is at on steady =
    let l : Logic = with_fault stuck value (logic_at x) in
    let values : ℕ → Tri = values_in later lane in
    let made : Pulse = fall_from ports pulsed (values_in risen lane) in
    let level : flag_at pulsed ≡ level_before made = λ t e. with_true (flag_at pulsed e) t in
    let given : IsStillOn l (flag_at pulsed) (value_at ports) (values_in risen lane) needs values = lane_is_faulty x (at_levels ports pulsed risen clamps) needs later lane stuck value at within stuck_is in
    let whole : Whole l (flag_at pulsed) (value_at ports) (values_in risen lane) needs values =
    whole_there l (rank_of x) (flag_at pulsed) (value_at ports) (values_in risen lane) needs values (lane_ranked x stuck value is) (closed_stays (logic_at x) stuck value needs closed) given in
    record {
      all = whole.all;
      is = record {
        before = subst (λ (f : ℕ → Bool). IsStillFrom l f (value_at ports) (values_in risen lane) whole.all) level whole.settled;
        bounds = shown_bound x made stuck value (shown_at shown) is on;
        still = λ c up. still_of_all needs (shown_at shown) (l.cell c) made.ports values whole.all whole.same (steady c up made.ports);
      };
      passes = λ c. passes_same l made values whole.all c
          (λ up. needed_agree needs (shown_at shown) (l.cell c).domain values whole.all (nets_of (next_reads (l.cell c) made.ports (value_from values))) whole.same (steady c up made.ports));
    }

-- ---- the round

-- a lane has gone through a round with both edges: risen cells take from the strobe, falling ones from the values behind the rise
with_falls : (x : Circuit) (needs fewer : ℕ → Bool) (ports : List Tri) (pulsed : List Bool) (clamps : List (Option Clamp)) (before held strobe risen later after : List Wide) (first second : List Shown) (lane stuck : ℕ) (value : Bool) → IsCircuit x → IsStrobeClosed (logic_at x) needs → IsStrobeClosed (logic_at x) fewer →
    lane < 512 → IsStuck clamps lane stuck value → IsStrobeOf x needs ports clamps before held strobe → IsShownOn (logic_at x) (edges_of true (flag_at pulsed)) every (shown_at first) → AreSteady x.flops true pulsed needs first strobe lane →
    AreTaken x.flops true pulsed ports strobe held risen → AreSettledOn x.ops (at_levels ports pulsed risen clamps) fewer later → IsShownOn (logic_at x) (edges_of false (flag_at pulsed)) every (shown_at second) →
    AreSteady x.flops false pulsed fewer second later lane → AreTaken x.flops false pulsed ports later risen after → HasLaneRound x needs ports pulsed before strobe after lane stuck value
unfolding logic_at
with_falls x needs fewer ports pulsed clamps before held strobe risen later after first second lane stuck value is closed closed_fewer within stuck_is at on steady taken settled on_fall steady_fall more =
    let l : Logic = with_fault stuck value (logic_at x) in
    let v : Vector = vector_of ports pulsed in
    let old : ℕ → Tri = values_in before lane in
    let rise = lane_rise x needs ports pulsed clamps before held strobe first lane stuck value is closed within stuck_is at on steady in
    let q : Pulse = falls_of l v old rise.all in
    let cells : values_in risen lane ≡ q.old = risen_is x ports pulsed before held strobe risen lane stuck value within at.acted taken ∙ ap (λ (z : Pulse). z.old) rise.falls in
    let same_q : fall_from ports pulsed (values_in risen lane) ≡ q = λ t. record { rising = false; ports = value_at ports; pulsed = flag_at pulsed; old = cells t } in
    let fall : Fallen x q (values_in later lane) second stuck value = subst (λ (z : Pulse). Fallen x z (values_in later lane) second stuck value) same_q
    (lane_fall x fewer ports pulsed clamps risen later second lane stuck value is closed_fewer within stuck_is settled on_fall steady_fall) in
    let found = round_of_passes l (rank_of x) v old (shown_at first) (shown_at second) rise.all fall.all (lane_ranked x stuck value is) rise.is fall.is in
    let last : (c : ℕ) → passed l q (values_in later lane) c ≡ values_in after lane c = λ c.
    sym (more lane c within ∙ ap (λ (f : ℕ → Tri). if is_changed (flop_at x.flops c) false pulsed then next_at (flop_at x.flops c) (value_at ports) (values_in later lane) else f c) cells) in
    (found.0, ((λ net need. rise.same net need ∙ ap (λ (f : ℕ → Tri). f net) (sym found.1.0)), (found.1.1.0, λ c. found.1.1.1 c ∙ sym (fall.passes c) ∙ last c)))

none_changes : (x : Circuit) (ports : List Tri) (pulsed : List Bool) (old values : ℕ → Tri) (stuck : ℕ) (value : Bool) → NoneFalls x pulsed → (c : ℕ) →
    changes (with_fault stuck value (logic_at x)) (falls_of (with_fault stuck value (logic_at x)) (vector_of ports pulsed) old values) c ≡ false
unfolding logic_at
none_changes x ports pulsed old values stuck value none c = none c

without_falls : (x : Circuit) (needs : ℕ → Bool) (ports : List Tri) (pulsed : List Bool) (clamps : List (Option Clamp)) (before held strobe risen : List Wide) (first : List Shown) (lane stuck : ℕ) (value : Bool) → IsCircuit x → IsStrobeClosed (logic_at x) needs →
    lane < 512 → IsStuck clamps lane stuck value → IsStrobeOf x needs ports clamps before held strobe → IsShownOn (logic_at x) (edges_of true (flag_at pulsed)) every (shown_at first) → AreSteady x.flops true pulsed needs first strobe lane →
    AreTaken x.flops true pulsed ports strobe held risen → NoneFalls x pulsed → HasLaneRound x needs ports pulsed before strobe risen lane stuck value
without_falls x needs ports pulsed clamps before held strobe risen first lane stuck value is closed within stuck_is at on steady taken none =
    let l : Logic = with_fault stuck value (logic_at x) in
    let v : Vector = vector_of ports pulsed in
    let old : ℕ → Tri = values_in before lane in
    let rise = lane_rise x needs ports pulsed clamps before held strobe first lane stuck value is closed within stuck_is at on steady in
    let cells : values_in risen lane ≡ (falls_of l v old rise.all).old = risen_is x ports pulsed before held strobe risen lane stuck value within at.acted taken ∙ ap (λ (z : Pulse). z.old) rise.falls in
    let found = round_of_rises l (rank_of x) v old (shown_at first) rise.all (lane_ranked x stuck value is) rise.is (none_changes x ports pulsed old rise.all stuck value none) in
    (found.0, ((λ net need. rise.same net need ∙ ap (λ (f : ℕ → Tri). f net) (sym found.1.0)), (found.1.1.0, λ c. found.1.1.1 c ∙ sym (ap (λ (f : ℕ → Tri). f c) cells))))

pub are_pulsed : (x : Circuit) (needs fewer : ℕ → Bool) (ports : List Tri) (pulsed : List Bool) (clamps : List (Option Clamp)) (strobe held risen new : List Wide) (live middle last : Wide) → IsCircuit x → IsStrobeClosed (logic_at x) needs → IsStrobeClosed (logic_at x) fewer →
    IsPhase x needs true ports pulsed strobe held risen live middle → IsFall x fewer ports pulsed clamps risen new middle last → ArePulsed x needs ports pulsed clamps strobe held new live last
are_pulsed x needs fewer ports pulsed clamps strobe held risen new live middle last is closed closed_fewer rise (inl rests) before lane stuck value at within stuck_is h =
    let first = rise.steady lane within (subst (λ (w : Wide). IsLive w lane) rests.1.1 h) in
    let R : List Wide → Type 0 = λ w. HasLaneRound x needs ports pulsed before strobe w lane stuck value in
    (first.0, subst R (sym rests.1.0) (without_falls x needs ports pulsed clamps before held strobe risen rise.shown lane stuck value is closed within stuck_is at rise.shows first.1 rise.taken rests.0))
are_pulsed x needs fewer ports pulsed clamps strobe held risen new live middle last is closed closed_fewer rise (inr fall) before lane stuck value at within stuck_is h =
    let second = fall.1.1.steady lane within h in
    let first = rise.steady lane within second.0 in (
      first.0,
      with_falls x needs fewer ports pulsed clamps before held strobe risen fall.0 new rise.shown fall.1.1.shown lane stuck value is closed closed_fewer within stuck_is at rise.shows first.1 rise.taken fall.1.0 fall.1.1.shows second.1 fall.1.1.taken,
    )

-- what nets have that show cells need not be settled
pub seen_pulsed : (x : Circuit) (marked : List Bool) (ports : List Tri) (pulsed : List Bool) (clamps : List (Option Clamp)) (strobe held risen new : List Wide) (live middle last : Wide) → IsCircuit x → IsStrobeClosed (logic_at x) (flag_at marked) → length strobe ≡ length x.ops →
    (AreSettledOn x.ops (at_levels ports [] held clamps) (needs_of (length x.ops) marked) strobe → IsPhase x (knows x.ops clamps marked) true ports pulsed (seen x.ops clamps marked held strobe) held risen live middle) →
    IsFall x (needs_of (length x.ops) marked) ports pulsed clamps risen new middle last → ArePulsed x (needs_of (length x.ops) marked) ports pulsed clamps strobe held new live last
seen_pulsed x marked ports pulsed clamps strobe held risen new live middle last is closed size rise fall before lane stuck value at within stuck_is h =
    let view : List Wide = seen x.ops clamps marked held strobe in
    let more : IsStrobeOf x (knows x.ops clamps marked) ports clamps before held view = record { acted = at.acted; settled = knows_settled x ports [] held clamps marked strobe size closed at.settled } in
    let went = are_pulsed x (knows x.ops clamps marked) (needs_of (length x.ops) marked) ports pulsed clamps view held risen new live middle last is (knows_closed x clamps marked closed) (needs_closed x marked closed) (rise at.settled) fall
    before lane stuck value more within stuck_is h in (
      went.0,
      (
        went.1.0,
        (
          λ net need. sym (ap (λ (w : Wide). value_in w lane) (marked_seen x.ops clamps marked held strobe net size need)) ∙ went.1.1.0 net (needs_known x.ops clamps marked net need),
          went.1.1.1,
        ),
      ),
    )
