-- The map is least, and its next values are there, where a turn changes nothing.
use Rattle.std.proofs.Common.{refl}
use Rattle.dft_logic.specs.Circuit.{logic_at}
use Rattle.dft_takings.specs.Views.{pulse_at}
use Rattle.dft_cycle.proofs.Risings.{reach_start, reach_more, reach_least}
use Rattle.dft_cycle.proofs.rounds.find_least.Goals as goal

pub loop-init : goal.loop-init
loop-init c = record {
  reached = reach_start (logic_at c.args.phase.circuit.now) (pulse_at c.args.phase.pulse) c.args.search.now.poss.items c.args.phase.pulse.old.now.values c.requires.begins refl;
  search = c.requires.search;
  ready = c.requires.ready;
  clear = c.requires.clear;
}

pub loop-preserved : goal.loop-preserved
loop-preserved c = record {
  reached = reach_more (logic_at c.args.phase.circuit.now) (pulse_at c.args.phase.pulse) c.loop.search.poss.items c.turn.new.search.poss.items c.loop.invariant.reached c.turn.ensures.above c.turn.ensures.below;
  search = c.turn.ensures.search;
  ready = c.turn.ensures.ready;
  clear = c.turn.ensures.clear;
}

pub returns-clause-least : goal.returns-clause-least
returns-clause-least c = λ view views.
    (let reached = reach_more (logic_at c.args.phase.circuit.now) (pulse_at c.args.phase.pulse) c.loop.search.poss.items c.turn.new.search.poss.items c.loop.invariant.reached c.turn.ensures.above c.turn.ensures.below in
    reach_least (logic_at c.args.phase.circuit.now) (pulse_at c.args.phase.pulse) c.turn.new.search.poss.items c.turn.new.search.next.items view reached views (c.turn.ensures.done c.loop-test.false view views))

pub returns-clause-next : goal.returns-clause-next
returns-clause-next c = λ view views. c.turn.ensures.done c.loop-test.false view views
