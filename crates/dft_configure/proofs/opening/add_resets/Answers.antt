use Rattle.std.proofs.Common.{arith}
use Rattle.dft_configure.specs.Found.{numbers}
use Rattle.dft_configure.specs.Roots.{open_reset}
use Rattle.dft_configure.proofs.ChoiceLemmas.{pushed_behind}
use Rattle.dft_configure.proofs.RootLemmas.{clock_at, clocks_count}
use Rattle.dft_configure.proofs.opening.add_resets.Goals as goal

pub bounds-clocks-number : goal.bounds-clocks-number
bounds-clocks-number c = let count = clocks_count c.args.design.now c.args.clocks.now c.requires.clocks in let less = rw c.instances-count.ensures.instances at c.loop-number-test.true in omega (arith, count, less)

pub open_reset-requires-clause-clock : goal.open_reset-requires-clause-clock
open_reset-requires-clause-clock c = clock_at c.args.design.now c.args.clocks.now c.loop-number.number c.requires.clocks (rw c.instances-count.ensures.instances at c.loop-number-test.true)

pub loop-number-preserved : goal.loop-number-preserved
loop-number-preserved c =
    pushed_behind (open_reset c.args.design.now (numbers c.args.domains.now) c.args.hold) c.loop-number.number c.args.resets.now.items c.loop-number.resets.items c.push.new.self.items c.open_reset.result c.in_ok-push.ensures.items c.open_reset.ensures c.loop-number.invariant
