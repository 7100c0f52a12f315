-- One chain more.
use Rattle.std.proofs.Common.{ap, length, arith}
use Rattle.dft_expect.proofs.MaskLemmas.{masking_fits, masking_goes_on, mask_is}
use Rattle.dft_expect.proofs.masking.masks.Goals as goal

pub slice_bounds-has_unknown-end : goal.slice_bounds-has_unknown-end
slice_bounds-has_unknown-end g c =
    let fits = masking_fits c.args.policy.now.always.now c.args.chains.now.chains c.args.response.now.cells c.loop-chain.chain c.loop-chain.first c.loop-chain.masks.items c.chain.result.now c.chain.ensures c.loop-chain.invariant in
    omega (arith, fits, ap length c.as_slice-values.ensures)

pub loop-chain-preserved : goal.loop-chain-preserved
loop-chain-preserved g c =
    let always = c.args.policy.now.always.now in
    let chains = c.args.chains.now.chains in
    let values = c.args.response.now.cells in
    let is = mask_is always values _ c.loop-chain.first (length c.chain.result.now) c.loop-chain.chain _ c.has_unknown.result c.mask.result c.as_slice-values.ensures c.from-in-loop-chain.ensures c.has_unknown.ensures c.mask.ensures in
    rw c.in_ok-push.ensures.items (masking_goes_on always chains values c.loop-chain.chain c.loop-chain.first c.loop-chain.masks.items c.chain.result.now c.mask.result c.chain.ensures is c.loop-chain.invariant)
