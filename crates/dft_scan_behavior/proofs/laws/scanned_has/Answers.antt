-- The planned chains and the hardware of each style.
use Rattle.dft_scan_behavior.proofs.ChainsHave.{chains_have}
use Rattle.dft_scan_behavior.proofs.EdtHave.{edt_has}
use Rattle.dft_scan_behavior.proofs.EdtUnder.{edt_under}
use Rattle.dft_scan_behavior.proofs.FlopsOrdered.{flops_in_order}
use Rattle.dft_scan_behavior.proofs.PlainChains.{plain_has}
use Rattle.dft_scan_behavior.proofs.laws.scanned_has.Goals as goal

pub returns-clause-chains : goal.returns-clause-chains
returns-clause-chains c = chains_have

pub returns-clause-plain : goal.returns-clause-plain
returns-clause-plain c = plain_has

pub returns-clause-hardware : goal.returns-clause-hardware
returns-clause-hardware c = edt_has

pub returns-clause-wider : goal.returns-clause-wider
returns-clause-wider c = edt_under

pub returns-clause-order : goal.returns-clause-order
returns-clause-order c = flops_in_order
