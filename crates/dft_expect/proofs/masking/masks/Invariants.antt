-- The masks so far, and the values that are left.
use Rattle.dft_expect.proofs.MaskLemmas.{Masking}
use Rattle.dft_expect.proofs.masking.masks.Given as goal

abbrev pub invariant-loop-chain : goal.invariant-loop-chain
invariant-loop-chain g l = Masking l.policy.always.now l.chains.chains l.response.cells l.chain l.first l.masks.items
