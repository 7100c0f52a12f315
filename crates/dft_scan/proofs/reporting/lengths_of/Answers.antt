use Rattle.std.proofs.Common.{◌+◌, ◌∷◌, [], List, length, drop}
use Rattle.dft_netlist.specs.declared.ids.InstanceId.{InstanceId}
use Rattle.dft_stitch.proofs.RangeLemmas.{grown}
use Rattle.dft_scan.specs.Reports.{lengths_of}
use Rattle.dft_scan.proofs.ListLemmas.{map_at}
use Rattle.dft_scan.proofs.reporting.lengths_of.Goals as goal

pub loop-chain-preserved : goal.loop-chain-preserved
loop-chain-preserved c =
    let chains = c.args.chains.now.chains in
    let k = c.loop-chain.chain in
    grown c.loop-chain.lengths.items _ (length c.chain.result.now ∷ []) (lengths_of (drop k chains)) (lengths_of (drop (k + 1) chains)) (lengths_of chains)
    c.in_ok-push.ensures.items (map_at (λ (cells : List InstanceId). length cells) chains k c.chain.result.now c.chain.ensures) c.loop-chain.invariant
