use Rattle.std.proofs.Common.{◌≡◌, ◌++◌, drop}
use Rattle.dft_report.specs.Written.{chain_lines}
use Rattle.dft_report.proofs.writer.add_chains.Given as goal

abbrev pub invariant-loop-chain : goal.invariant-loop-chain
invariant-loop-chain l = l.out.items ++ chain_lines l.chain (drop l.chain l.lengths) ≡ l.fn.out.items ++ chain_lines 0 l.lengths
