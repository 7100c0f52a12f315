-- One level more is held, and where a round changes nothing all are.
use Rattle.std.proofs.Common.{length, sym, ap, ◌∙◌, arith, subst}
use Rattle.dft_logic.specs.Circuit.{Circuit, IsCircuit}
use Rattle.std.specs.Prelude.{is_some}
use Rattle.std.specs.List.{list_any}
use Rattle.dft_cycle.proofs.RoundLemmas.{none_held, all_held, no_latch_held}
use Rattle.dft_cycle.proofs.rounds.hold_lockups.Goals as goal

pub loop-level-init : goal.loop-level-init
loop-level-init c = record { held = λ view views. none_held c.args.phase.circuit.now view c.args.held.now; ready = c.requires.ready; clear = c.requires.clear }

pub loop-level-preserved : goal.loop-level-preserved
loop-level-preserved c = record {
  held = λ view views net k e high source here low. c.round.ensures.rises view c.loop-level._level views (c.loop-level.invariant.held view views) net k e high source here (omega (arith, low));
  ready = c.round.ensures.ready;
  clear = c.round.ensures.clear;
}

pub returns-then-not-round-clause-held : goal.returns-then-not-round-clause-held
returns-then-not-round-clause-held c = λ view views. all_held c.args.phase.circuit.now view c.loop-level.held c.round.new.held (c.round.ensures.same c.if-not-round.true) (λ r. c.round.ensures.rises view r views) (length c.args.phase.circuit.now.ops)

pub returns-clause-held : goal.returns-clause-held
returns-clause-held c = λ view views net k e high source here low. c.loop-level.invariant.held view views net k e high source here (omega (arith, low))

pub returns-then-not-has_latch-clause-held : goal.returns-then-not-has_latch-clause-held
returns-then-not-has_latch-clause-held c = λ view views. no_latch_held c.args.phase.circuit.now view c.args.held.now (length c.args.phase.circuit.now.ops) (subst IsCircuit c.circuit.view_is c.circuit.invariant) (sym (ap (λ (latches : _). list_any (λ latch. is_some latch) latches) (c.deref.ensures.value ∙ ap (λ (m : Circuit). m.latches) c.circuit.view_is)) ∙ sym c.has_latch.ensures ∙ c.if-not-has_latch.true)
