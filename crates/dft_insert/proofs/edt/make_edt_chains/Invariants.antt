use Rattle.std.proofs.Common.{◌-◌}
use Rattle.std.specs.List.{range_with_len}
use Rattle.dft_parts.proofs.Runs.{Goes}
use Rattle.dft_insert.specs.Scanned.{an_edt_chain}
use Rattle.dft_insert.proofs.edt.make_edt_chains.Given as goal

abbrev pub invariant-loop-chain : goal.invariant-loop-chain
invariant-loop-chain l = Goes (an_edt_chain l.design l.config l.chains l.gap l.ports l.phases l.rows) (range_with_len 0 l.count) (range_with_len l.chain (l.count - l.chain)) l.fn.parts l.parts
