-- The lock-ups of one domain more are held higher.
use Rattle.std.proofs.Common.{◌<◌, ◌∙◌, inr, length, refl, sym, get_or, arith}
use Rattle.std.proofs.lemmas.Option.{slice_get-get_or}
use Rattle.dft_netlist.specs.declared.ids.NetId.{NetId}
use Rattle.dft_logic.specs.Circuit.{logic_at}
use Rattle.dft_takings.specs.Views.{pulse_at}
use Rattle.dft_cycle.specs.Machine.{value_at}
use Rattle.dft_cycle.proofs.RoundLemmas.{rises_start, rises_more, round_rises}
use Rattle.dft_cycle.proofs.DomainLemmas.{moved, held_near, ready_in}
use Rattle.dft_cycle.proofs.rounds.round.Goals as goal
use Rattle.dft_cycle.proofs.rounds.round.Goals.{then-changed, else-changed}

pub change_view-requires-clause-near : goal.change_view-requires-clause-near
change_view-requires-clause-near c = λ k.
    (let x = c.args.phase.circuit.now in
    let clock : NetId = get_or c.args.phase.clocks.now c.loop-clock.clock-index (record { 0 = 0 }) in
    let live : clock.0 < length x.ops = c.requires.live c.loop-clock.clock-index clock (slice_get-get_or c.args.phase.clocks.now c.loop-clock.clock-index (record { 0 = 0 }) c.loop-clock-test.true) in
    moved x (pulse_at c.args.phase.pulse) c.args.poss.now c.loop-clock.held c.loop-clock.values c.loop-clock.last.0 clock.0 k c.soundness.ensures (c.loop-clock.invariant.live (omega arith)) live (c.loop-clock.invariant.near k))

pub hold-moved-requires-clause-live : goal.hold-moved-requires-clause-live
hold-moved-requires-clause-live c = c.requires.live c.loop-clock.clock-index _ (slice_get-get_or c.args.phase.clocks.now c.loop-clock.clock-index (record { 0 = 0 }) c.loop-clock-test.true)

pub loop-clock-init : goal.loop-clock-init
loop-clock-init c = record {
  rises = rises_start c.args.phase.circuit.now (pulse_at c.args.phase.pulse) (value_at c.args.poss.now) c.args.phase.clocks.now c.args.held.now;
  same = λ h. refl;
  near = λ k. inr (c.settle_again.ensures.given k);
  ready = ready_in c.args.phase.circuit.now (pulse_at c.args.phase.pulse) c.args.poss.now c.args.held.now c.settle_again.new.values c.first-last.result.0 c.settle_again.ensures.given;
  clear = c.settle_again.ensures.clear;
  live = λ some. c.first-last.ensures (length c.args.phase.circuit.now.ops) c.requires.live some;
}

pub loop-clock-preserved : goal.loop-clock-preserved
unfolding logic_at
loop-clock-preserved c =
    let x = c.args.phase.circuit.now in
    let p = pulse_at c.args.phase.pulse in
    let clock : NetId = get_or c.args.phase.clocks.now c.loop-clock.clock-index (record { 0 = 0 }) in
    let live : clock.0 < length x.ops = c.requires.live c.loop-clock.clock-index clock (slice_get-get_or c.args.phase.clocks.now c.loop-clock.clock-index (record { 0 = 0 }) c.loop-clock-test.true) in
    record {
      rises = rises_more x p (value_at c.args.poss.now) c.args.phase.clocks.now c.args.held.now c.loop-clock.held c.hold-moved.new.held c.change_view.new.values c.loop-clock.clock-index clock.0 _
          c.soundness.ensures (λ view. record { ports = λ k. refl; clocks = λ e. refl; flops = λ k. refl; lockups = λ k e high source. refl }) c.change_view.ensures.given c.hold-moved.ensures.each refl c.loop-clock.invariant.rises;
      same = λ h. elim c.if-changed.branch [
        | then-changed w ↦ (let p = w.changed-is in let q = w.if-changed.true in absurd (cc))
        | else-changed w ↦ c.hold-moved.ensures.same (sym w.changed-is ∙ h) ∙ c.loop-clock.invariant.same w.if-changed.false
      ];
      near = λ k. held_near x p c.args.poss.now c.loop-clock.held c.hold-moved.new.held c.change_view.new.values clock.0 k c.soundness.ensures live c.hold-moved.ensures.each (c.change_view.ensures.given k);
      ready = ready_in x p c.args.poss.now c.loop-clock.held c.change_view.new.values clock.0 c.change_view.ensures.given;
      clear = c.change_view.ensures.clear;
      live = λ some. live;
    }

pub returns-clause-rises : goal.returns-clause-rises
returns-clause-rises c =
    round_rises c.args.phase.circuit.now (pulse_at c.args.phase.pulse) (value_at c.args.poss.now) c.args.phase.clocks.now c.args.held.now c.loop-clock.held c.loop-clock.clock-index c.loop-clock-test.false
    c.soundness.ensures c.requires.owned c.loop-clock.invariant.rises
