-- A replay that unknown bits stop gives the verdict, and every design has an order.
use Rattle.std.proofs.lemmas.Result.{IfOk-weaker}
use Rattle.dft_replay.specs.Laws.{HoldsInRuns}
use Rattle.dft_replay.specs.Verdicts.{HasVerdict}
use Rattle.dft_replay.proofs.Soundness.{verdict_holds}
use Rattle.dft_replay.proofs.replayer.replay.Goals as goal

pub returns-clause-runs : goal.returns-clause-runs
returns-clause-runs c =
    IfOk-weaker c.replay_past.result (HasVerdict c.args.design.now c.args.patterns.now) (HoldsInRuns c.args.design.now c.args.patterns.now)
    (λ verdict has. verdict_holds c.args.design.now c.soundness.ensures.ordered.order c.args.patterns.now verdict c.soundness.ensures.netlist c.soundness.ensures.ordered.is has) c.replay_past.ensures.ends
