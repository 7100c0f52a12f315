-- The flip-flops of one domain more have their next values.
use Rattle.std.proofs.Common.{ℕ, ◌<◌, ◌∙◌, length, refl, sym, get_or}
use Rattle.std.proofs.lemmas.Option.{slice_get-get_or}
use Rattle.dft_netlist.specs.declared.ids.NetId.{NetId}
use Rattle.dft_logic.specs.Circuit.{logic_at}
use Rattle.dft_takings.specs.Views.{pulse_at}
use Rattle.dft_cycle.specs.Machine.{value_at}
use Rattle.dft_cycle.proofs.DomainLemmas.{ready_in}
use Rattle.dft_cycle.proofs.NextLemmas.{next_more, next_kept}
use Rattle.dft_cycle.proofs.rounds.next_values.Goals as goal
use Rattle.dft_cycle.proofs.rounds.next_values.Goals.{then-flag_at, else-flag_at}

pub loop-clock-preserved : goal.loop-clock-preserved
unfolding logic_at
loop-clock-preserved c =
    let x = c.args.views.phase.circuit.now in
    let p = pulse_at c.args.views.phase.pulse in
    let clocks = c.args.views.phase.clocks.now in
    let j : ℕ = c.loop-clock.clock-index in
    let clock : NetId = get_or clocks j (record { 0 = 0 }) in
    let live : clock.0 < length x.ops = c.requires.live j clock (slice_get-get_or clocks j (record { 0 = 0 }) c.loop-clock-test.true) in
    elim c.if-flag_at.branch [
      | then-flag_at w ↦ record {
        next = λ view views right. rw w.next-is (next_more x p (value_at c.args.views.poss.now) view clocks c.args.views.held.now c.loop-clock.next w.take_next.new.next w.enter.new.values j clock.0 _ c.soundness.ensures views
            (record { ports = λ k. refl; clocks = λ e. refl; flops = λ k. refl; lockups = λ k e high source. refl }) w.enter.ensures.given right w.take_next.ensures refl (c.loop-clock.invariant.next view views right));
        given = rw (w.values-is, w.last-is) w.enter.ensures.given;
        clear = rw w.marked-is w.enter.ensures.clear;
        live = λ some. rw w.last-is live;
      }
      | else-flag_at w ↦ record {
        next = λ view views right. rw w.next-is (next_kept x p view clocks c.loop-clock.next j clock.0 refl (sym c.flag_at.ensures ∙ w.if-flag_at.false) (c.loop-clock.invariant.next view views right));
        given = rw (w.values-is, w.last-is) c.loop-clock.invariant.given;
        clear = rw w.marked-is c.loop-clock.invariant.clear;
        live = rw w.last-is c.loop-clock.invariant.live;
      }
    ]

pub returns-clause-ready : goal.returns-clause-ready
returns-clause-ready c = ready_in c.args.views.phase.circuit.now (pulse_at c.args.views.phase.pulse) c.args.views.poss.now c.args.views.held.now c.loop-clock.values c.loop-clock.last.0 c.loop-clock.invariant.given
