-- One chain more.
use Rattle.dft_expect.proofs.ReadLemmas.{chains_on}
use Rattle.dft_expect.proofs.reads.reads.Goals as goal

pub loop-chain-preserved : goal.loop-chain-preserved
loop-chain-preserved c =
    chains_on c.args.design.now c.args.chains.now.chains c.loop-chain.chain c.chain.result.now c.loop-chain.reads.items c.add_reads.new.reads.items c.chain.ensures c.loop-chain.invariant (λ before are. c.in_ok-add_reads.ensures before are)
