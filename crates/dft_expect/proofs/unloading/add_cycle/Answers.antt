-- One output more.
use Rattle.dft_stitch.specs.Plans.{falling_head}
use Rattle.dft_expect.specs.Masks.{by_chain}
use Rattle.dft_expect.specs.Expected.{output_bit}
use Rattle.dft_expect.proofs.UnloadLemmas.{list_goes_on, list_ends}
use Rattle.dft_expect.proofs.unloading.add_cycle.Goals as goal

pub loop-group-preserved : goal.loop-group-preserved
loop-group-preserved c = λ table are.
    let u = c.args.unload.now in
    let read = rw c.as_slice.ensures at (c.output.ensures table are) in
    list_goes_on (output_bit u.ring.now table (falling_head u.chains.now) c.args.masks.now (by_chain u.chains.now.chains u.values.now) c.args.cycle) c.args.groups.now c.loop-group.group-index c.group-item.result _
    c.loop-group.expected.items c.args.expected.now.items c.push.new.self.items c.output.result c.loop-group-test.true c.group-item.is c.in_ok-push.ensures.items read (c.loop-group.invariant table are)

pub returns : goal.returns
returns c = λ table are.
    let u = c.args.unload.now in
    list_ends (output_bit u.ring.now table (falling_head u.chains.now) c.args.masks.now (by_chain u.chains.now.chains u.values.now) c.args.cycle) c.args.groups.now c.loop-group.group-index c.loop-group.expected.items c.args.expected.now.items
    c.loop-group-test.false (c.loop-group.invariant table are)
