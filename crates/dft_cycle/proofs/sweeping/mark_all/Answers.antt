-- One net more is marked.
use Rattle.std.proofs.Common.{ℕ, ◌<◌, length, refl, get_or, arith}
use Rattle.dft_netlist.proofs.ListingLemmas.{has_item}
use Rattle.dft_cycle.proofs.Sweepings.{marking_more, marking_ends}
use Rattle.dft_cycle.proofs.sweeping.mark_all.Goals as goal

pub bounds-marked-net : goal.bounds-marked-net
bounds-marked-net c =
    let less = c.requires (get_or c.args.nets.now c.loop-net.net-index 0) (has_item c.args.nets.now c.loop-net.net-index 0 c.loop-net-test.true) in
    let e = c.loop-net.auto.marked in
    omega arith

pub loop-net-preserved : goal.loop-net-preserved
loop-net-preserved c =
    let net : ℕ = get_or c.args.nets.now c.loop-net.net-index 0 in
    let live : net < length c.loop-net.marked = (let less = c.requires net (has_item c.args.nets.now c.loop-net.net-index 0 c.loop-net-test.true) in let e = c.loop-net.auto.marked in omega arith) in
    marking_more c.args.nets.now c.args.marked.now c.loop-net.marked c.loop-net.net-index net 0 refl c.loop-net-test.true live c.loop-net.invariant

pub returns-clause-lowered : goal.returns-clause-lowered
returns-clause-lowered c = λ k. marking_ends c.args.nets.now c.args.marked.now c.loop-net.marked c.loop-net.net-index k c.loop-net-test.false c.loop-net.invariant
