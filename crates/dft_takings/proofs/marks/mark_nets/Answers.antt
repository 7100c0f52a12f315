-- One net more is marked.
use Rattle.dft_takings.proofs.EntryTableLemmas.{marked_nets_more, marked_nets_all}
use Rattle.dft_takings.proofs.marks.mark_nets.Goals as goal

pub loop-net-preserved : goal.loop-net-preserved
loop-net-preserved c =
    marked_nets_more c.args.marked.now c.loop-net.marked c.mark_net.new.marked c.args.nets.now c.loop-net.net-index _ c.loop-net-test.true c.mark_net.ensures c.loop-net.invariant

pub returns : goal.returns
returns c = marked_nets_all c.args.marked.now c.loop-net.marked c.args.nets.now c.loop-net.net-index c.loop-net-test.false c.loop-net.invariant
