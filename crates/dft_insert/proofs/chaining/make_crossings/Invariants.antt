use Rattle.std.proofs.Common.{drop}
use Rattle.dft_parts.proofs.Runs.{Goes}
use Rattle.dft_insert.specs.Chained.{crossing_in}
use Rattle.dft_insert.proofs.chaining.make_crossings.Given as goal

abbrev pub invariant-loop-lockup : goal.invariant-loop-lockup
invariant-loop-lockup l = Goes (crossing_in l.design l.config l.gap l.chain l.cells l.row) l.lockups (drop l.lockup-index l.lockups) l.fn.parts l.parts
