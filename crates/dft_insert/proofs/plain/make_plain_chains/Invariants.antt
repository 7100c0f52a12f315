use Rattle.std.proofs.Common.{◌-◌}
use Rattle.std.specs.List.{range_with_len}
use Rattle.dft_parts.proofs.Runs.{Goes}
use Rattle.dft_insert.specs.Scanned.{a_plain_chain}
use Rattle.dft_insert.proofs.plain.make_plain_chains.Given as goal

abbrev pub invariant-loop-chain : goal.invariant-loop-chain
invariant-loop-chain l = Goes (a_plain_chain l.design l.config l.chains l.gap l.rows) (range_with_len 0 l.count) (range_with_len l.chain (l.count - l.chain)) l.fn.parts l.parts
