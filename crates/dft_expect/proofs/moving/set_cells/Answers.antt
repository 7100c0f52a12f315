-- One net more.
use Rattle.std.proofs.Common.{arith}
use Rattle.std.proofs.lemmas.List.{get_or_default}
use Rattle.dft_expect.specs.declared.settings.Setting.TheVariants.{Unknown}
use Rattle.dft_expect.proofs.MovingLemmas.{cells_all, cells_set_on}
use Rattle.dft_expect.proofs.SourceLemmas.{same_more}
use Rattle.dft_expect.proofs.moving.set_cells.Goals as goal

pub overflow_cast-net : goal.overflow_cast-net
overflow_cast-net c = omega (arith, c.loop-net-test.true, c.requires.small)

pub loop-net-preserved : goal.loop-net-preserved
loop-net-preserved c =
    let before = c.loop-net.invariant in
    cells_set_on c.args.settings.now c.args.risen.now c.loop-net.net _ c.args.evaluator.now c.loop-net.evaluator c.set_cell.new.evaluator before
    (get_or_default c.args.settings.now c.loop-net.net _ Unknown c.loop-net-test.true) (same_more c.args.evaluator.now c.loop-net.evaluator c.set_cell.new.evaluator before.same c.set_cell.ensures.same) c.set_cell.ensures.set

pub returns-clause-each : goal.returns-clause-each
returns-clause-each c = cells_all c.args.settings.now c.args.risen.now c.loop-net.net c.args.evaluator.now c.loop-net.evaluator c.loop-net.invariant (omega (arith, c.loop-net-test.false))
