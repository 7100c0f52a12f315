-- One signal more is marked, if it is compared.
use Rattle.std.proofs.Common.{ℕ, sym, subst, arith}
use Rattle.dft_replay.specs.Vectors.{AreSignals}
use Rattle.dft_fault_lanes.proofs.MarkLemmas.{covering_more, covering_ends}
use Rattle.dft_fault_lanes.proofs.marking.mark_compared.Goals as goal

pub mark_signal-requires-clause-nets : goal.mark_signal-requires-clause-nets
mark_signal-requires-clause-nets c = subst (λ (n : ℕ). AreSignals n c.args.nets.now) (sym c.loop-signal.auto.marked) c.requires.nets

pub loop-signal-preserved : goal.loop-signal-preserved
loop-signal-preserved c =
    covering_more c.args.nets.now c.args.acts.now c.args.marked.now c.loop-signal.marked c.mark_signal.new.marked c.loop-signal.signal c.mark_signal.auto.marked c.mark_signal.ensures.kept c.mark_signal.ensures.here c.loop-signal.invariant

pub returns-clause-kept : goal.returns-clause-kept
returns-clause-kept c = c.loop-signal.invariant.kept

pub returns-clause-covered : goal.returns-clause-covered
returns-clause-covered c = covering_ends c.args.nets.now c.args.acts.now c.args.marked.now c.loop-signal.marked c.loop-signal.signal (omega (arith, c.loop-signal-test.false)) c.loop-signal.invariant
