use Rattle.std.proofs.Common.{◌∙◌, ◌+◌, ◌++◌, ℕ, List, ap, drop, flat_map}
use Rattle.std.specs.List.{enumerate_from}
use Rattle.dft_netlist.specs.declared.ids.InstanceId.{InstanceId}
use Rattle.dft_report.specs.declared.report.ScannedLine.{ScannedLine}
use Rattle.dft_stitch.proofs.RangeLemmas.{grown}
use Rattle.dft_scan.specs.Reports.{scanned_in, scanned_lines}
use Rattle.dft_scan.proofs.ListLemmas.{flat_at}
use Rattle.dft_scan.proofs.reporting.scanned_lines.Goals as goal

pub loop-chain-preserved : goal.loop-chain-preserved
loop-chain-preserved c =
    let n = c.args.design.now in
    let config = c.args.config.now in
    let v = c.args.verdicts.now in
    let chains = c.args.chains.now.chains in
    let k = c.loop-chain.chain in
    let cells = c.chain-cells.result.now in
    let old = c.loop-chain.lines.items in
    let f : ℕ × List InstanceId → List ScannedLine = λ at. scanned_in n config v at.0 at.1 in
    grown old _ (scanned_in n config v k cells) (flat_map f (enumerate_from k (drop k chains))) (flat_map f (enumerate_from (k + 1) (drop (k + 1) chains))) (scanned_lines n config v chains)
    (c.in_ok-add_chain.ensures ∙ ap (λ (m : ℕ). old ++ scanned_in n config v m cells) c.from.ensures) (flat_at f chains k cells c.chain-cells.ensures) c.loop-chain.invariant
