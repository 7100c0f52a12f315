-- One signal more is marked, if it is compared.
use Rattle.std.proofs.Common.{arith, refl}
use Rattle.dft_fault_lanes.proofs.MarkLemmas.{covering_more, covering_ends}
use Rattle.dft_fault_lanes.proofs.marking.covers.Goals as goal

pub loop-signal-preserved : goal.loop-signal-preserved
loop-signal-preserved c =
    covering_more c.args.nets.now c.args.acts.now c.args.marked.now c.args.marked.now c.args.marked.now c.loop-signal.signal refl (λ k up. up) (c.is_covered.ensures c.if-not-is_covered.false) c.loop-signal.invariant

pub returns : goal.returns
returns c = λ up. covering_ends c.args.nets.now c.args.acts.now c.args.marked.now c.args.marked.now c.loop-signal.signal (omega (arith, c.loop-signal-test.false)) c.loop-signal.invariant
