use Rattle.std.proofs.Common.{◌+◌, ◌<◌, List, drop, length, arith, subst}
use Rattle.std.proofs.lemmas.List.{drop_more}
use Rattle.dft_netlist.specs.declared.instance.Join.{Join}
use Rattle.dft_verilog.proofs.GrowLemmas.{JoinsAhead, JoinsAhead-more}
use Rattle.dft_verilog.proofs.finishing.add_joins.Goals as goal

pub loop-join-preserved : goal.loop-join-preserved
loop-join-preserved c =
    let joins : List Join = c.joins-join-items.result.now in
    let index = c.loop-join.join-index in
    let lt : index < length joins = omega arith in
    JoinsAhead-more c.args.draft.now joins _ (drop (index + 1) joins) c.args.builder.now c.loop-join.builder c.add_join.new.builder c.in_ok-add_join.ensures
    (subst (λ (rest : List Join). JoinsAhead c.args.draft.now joins rest c.args.builder.now c.loop-join.builder) (drop_more joins index _ lt) c.loop-join.invariant)
