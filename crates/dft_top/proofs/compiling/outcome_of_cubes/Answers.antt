use Rattle.std.proofs.Common.{subst, sym}
use Rattle.dft_netlist.proofs.RankLemmas.{order_ranks}
use Rattle.dft_top.specs.Outcomes.{IsOutcomeOfCubes}
use Rattle.dft_top.proofs.CompileLemmas.{compiled_is, refused_is}
use Rattle.dft_top.proofs.compiling.outcome_of_cubes.Goals as goal

pub returns-in-Ok-clause-outcome : goal.returns-in-Ok-clause-outcome
returns-in-Ok-clause-outcome c =
    let n = c.args.design.now in
    let config = c.args.config.now in
    let cubes = c.args.cubes.now in
    subst (IsOutcomeOfCubes n config cubes) (sym c.outcome_of.ensures) (compiled_is n config cubes c.in-Ok.texts c.soundness-2.ensures (rw c.requires.prepared at c.in-Ok.ensures.compile) (rw c.requires.prepared at c.in-Ok.ensures.reads))

pub returns-in_ok-compile_refusal-in-Err-clause-outcome : goal.returns-in_ok-compile_refusal-in-Err-clause-outcome
returns-in_ok-compile_refusal-in-Err-clause-outcome c =
    let n = c.args.design.now in
    let sound = c.soundness.ensures in
    let ranked = order_ranks n sound.ordered.order sound.netlist sound.ordered.is in
    refused_is n ranked.0 c.args.config.now c.args.cubes.now c.in-Err.error c.in_ok-compile_refusal-in-Err.field-0 ranked.1 c.soundness-2.ensures (rw c.requires.prepared at c.in-Err.ensures.refused) c.in_ok-compile_refusal-in-Err.ensures
