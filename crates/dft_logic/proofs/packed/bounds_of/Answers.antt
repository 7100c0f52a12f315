-- A list ends where it starts or behind that, and within all numbers.
use Rattle.std.proofs.Common.{arith}
use Rattle.dft_logic.proofs.PackedLemmas.{starts_before, ends_inside}
use Rattle.dft_logic.proofs.packed.bounds_of.Goals as goal

pub returns-then-place-eq0-clause-within : goal.returns-then-place-eq0-clause-within
returns-then-place-eq0-clause-within c = ends_inside c.args.ends.now c.args.count c.args.place c.requires.ends c.requires.live

pub returns-else-place-eq0-clause-order : goal.returns-else-place-eq0-clause-order
returns-else-place-eq0-clause-order c = starts_before c.args.ends.now c.args.count c.args.place c.requires.ends c.requires.live (let e = c.if-place-eq0.false in omega arith)

pub returns-else-place-eq0-clause-within : goal.returns-else-place-eq0-clause-within
returns-else-place-eq0-clause-within c = ends_inside c.args.ends.now c.args.count c.args.place c.requires.ends c.requires.live
