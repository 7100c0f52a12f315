-- One chain more.
use Rattle.dft_stitch.specs.Plans.{falling_head}
use Rattle.dft_expect.specs.Masks.{by_chain}
use Rattle.dft_expect.specs.Expected.{counted_by}
use Rattle.dft_expect.proofs.UnloadLemmas.{flipped, sum_goes_on, sum_ends}
use Rattle.dft_expect.proofs.unloading.output.Goals as goal

pub loop-chain-preserved : goal.loop-chain-preserved
loop-chain-preserved c = λ table are.
    let u = c.args.unload.now in
    sum_goes_on (counted_by u.ring.now table (falling_head u.chains.now) c.args.masks.now (by_chain u.chains.now.chains u.values.now) c.args.cycle) c.args.group.now c.loop-chain.chain-index _ c.loop-chain.sum _ c.counted-sum.result
    c.loop-chain-test.true (flipped c.loop-chain.sum c.counted-sum.result) (c.counted-sum.ensures table are) (c.loop-chain.invariant table are)

pub returns : goal.returns
returns c = λ table are.
    let u = c.args.unload.now in
    sum_ends (counted_by u.ring.now table (falling_head u.chains.now) c.args.masks.now (by_chain u.chains.now.chains u.values.now) c.args.cycle) c.args.group.now c.loop-chain.chain-index c.loop-chain.sum c.loop-chain-test.false (c.loop-chain.invariant table are)
