use Rattle.std.proofs.Common.{◌≡◌, length, arith}
use Rattle.dft_netlist.proofs.StandLemmas.{fresh, whole}
use Rattle.dft_netlist.proofs.order.find_order.Goals as goal

pub loop-number-init : goal.loop-number-init
loop-number-init c = rw c.in_ok-progress.ensures (fresh c.args.builder.now c.net_count-count.result c.net_count-count.ensures.count)

pub returns-clause-ok : goal.returns-clause-ok
returns-clause-ok c =
    let count = c.net_count-count.ensures.count in
    let past = c.loop-number-test.false in
    let within = c.loop-number.auto.number-end in
    let number : c.loop-number.number ≡ length c.args.builder.now.nets = omega arith in
    rw c.into_order.ensures (whole c.args.builder.now c.loop-number.number c.loop-number.progress number c.loop-number.invariant)
