-- One chain more.
use Rattle.std.proofs.Common.{arith}
use Rattle.dft_seek.proofs.Filled.{chains_all, chains_more}
use Rattle.dft_seek.proofs.tables.cells.Goals as goal

pub loop-chain-preserved : goal.loop-chain-preserved
loop-chain-preserved c =
    chains_more c.args.chains.now.chains c.loop-chain.chain c.chain.result.now c.loop-chain.cells.items c.extend_from_slice.new.self.items _ c.chain.ensures c.in_ok-extend_from_slice.ensures.items c.loop-chain.invariant

pub returns : goal.returns
returns c = chains_all c.args.chains.now.chains c.loop-chain.chain c.loop-chain.cells.items _ (omega (arith, c.loop-chain-test.false, c.count-chain-end.ensures)) c.loop-chain.invariant
