use Rattle.std.proofs.Common.{◌≡◌, ℕ, IfOk, subst}
use Rattle.dft_configuring.proofs.Counted.{counted}
use Rattle.dft_configuring.proofs.checking.cells_of.Goals as goal

pub returns-clause-count : goal.returns-clause-count
returns-clause-count c = subst (λ (k : ℕ). IfOk c.scanned_of.result (λ (cells : ℕ). cells ≡ k)) (counted c.args.design.now c.soundness.ensures.netlist) c.scanned_of.ensures.count
