use Rattle.dft_verilog_out.proofs.instances.add_joins.Goals as goal
use Rattle.std.proofs.lemmas.Option.{slice_get-get_or}

pub add_join-requires : goal.add_join-requires
add_join-requires c = c.requires c.loop-join.join-index _ (slice_get-get_or c.args.joins.now c.loop-join.join-index _ c.loop-join-test.true)
