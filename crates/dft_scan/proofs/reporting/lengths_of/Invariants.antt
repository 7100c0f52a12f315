-- The lengths so far, and those of the chains left.
use Rattle.std.proofs.Common.{◌≡◌, ◌++◌, drop}
use Rattle.dft_scan.specs.Reports.{lengths_of}
use Rattle.dft_scan.proofs.reporting.lengths_of.Given as goal

abbrev pub invariant-loop-chain : goal.invariant-loop-chain
invariant-loop-chain l = l.lengths.items ++ lengths_of (drop l.chain l.chains.chains) ≡ lengths_of l.chains.chains
