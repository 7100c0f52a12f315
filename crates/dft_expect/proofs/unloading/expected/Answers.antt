-- One cycle more.
use Rattle.std.proofs.Common.{◌<◌, ◌+◌, arith}
use Rattle.dft_base.specs.Packed.{packed_bit}
use Rattle.dft_stitch.specs.Plans.{falling_head}
use Rattle.dft_expect.specs.Loaded.{table_of}
use Rattle.dft_expect.specs.Masks.{by_chain}
use Rattle.dft_expect.proofs.RingLemmas.{states_again}
use Rattle.dft_expect.proofs.UnloadLemmas.{unloading_goes_on}
use Rattle.dft_expect.proofs.unloading.expected.Goals as goal

pub loop-cycle-preserved : goal.loop-cycle-preserved
loop-cycle-preserved c =
    let ring = c.args.config.now.ring in
    let table = table_of ring (packed_bit c.args.next.now) in
    let are = rw c.ring-ring.ensures at c.in_ok-states.ensures in
    let again = states_again ring table (c.cycles.result + 1) c.in_ok-states.states.items c.deref-2.result.now are c.deref-2.ensures.value in
    let more = (rw (c.as_slice-values.ensures, c.as_slice-groups.ensures, c.compactor.ensures, c.ring-ring.ensures) at c.in_ok-add_cycle.ensures) table again in
    let less : c.loop-cycle.cycle < c.args.chains.now.cycles = omega (arith, c.loop-cycle-test.true, c.from-cycle-end.ensures, are.count, c.cycles.ensures, c.cycles-2.ensures) in
    unloading_goes_on ring c.args.config.now.compactor.groups table (falling_head c.args.chains.now) c.args.masks.now (by_chain c.args.chains.now.chains c.args.response.now.cells) c.args.chains.now.cycles c.loop-cycle.cycle
    c.loop-cycle.expected.items c.add_cycle.new.expected.items less more c.loop-cycle.invariant
