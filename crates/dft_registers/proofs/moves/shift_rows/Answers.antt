-- One row more is moved.
use Rattle.std.proofs.Common.{◌∙◌, sym, refl, ap, subst, arith}
use Rattle.std.specs.Prelude.{map}
use Rattle.dft_registers.specs.declared.moves.Move.{Move}
use Rattle.dft_registers.specs.Cells.{row_at, moved_row, IsReady}
use Rattle.dft_registers.proofs.MoveLemmas.{moved_none, moved_more, moved_all, ready}
use Rattle.dft_registers.proofs.moves.shift_rows.Goals as goal

pub loop-number-init : goal.loop-number-init
loop-number-init g c = (refl, moved_none (map g.W.Way.move_value c.args.moves.now) c.args.rows.now)

pub move_row-requires-clause-live : goal.move_row-requires-clause-live
move_row-requires-clause-live g c = omega (arith, c.loop-number.invariant.0, c.loop-number-test.true)

pub move_row-requires-clause-ready : goal.move_row-requires-clause-ready
move_row-requires-clause-ready g c =
    subst (λ (m : Move). IsReady c.loop-number.rows c.loop-number.number m) (sym c.move_of.ensures) (ready (map g.W.Way.move_value c.args.moves.now) c.loop-number.number c.args.rows.now c.loop-number.rows c.requires c.loop-number.invariant.1)

pub loop-number-preserved : goal.loop-number-preserved
loop-number-preserved g c =
    let rows = c.loop-number.rows in
    let n = c.loop-number.number in (
      c.move_row.ensures.count ∙ c.loop-number.invariant.0,
      moved_more (map g.W.Way.move_value c.args.moves.now) n c.args.rows.now rows c.move_row.new.rows c.requires c.loop-number.invariant.1 c.move_row.ensures.others
          (c.move_row.ensures.here ∙ ap (λ (m : Move). moved_row rows m (row_at rows n)) c.move_of.ensures),
    )

pub returns-clause-each : goal.returns-clause-each
returns-clause-each g c = moved_all (map g.W.Way.move_value c.args.moves.now) c.loop-number.number c.args.rows.now c.loop-number.rows c.loop-number-test.false c.loop-number.invariant.0 c.loop-number.invariant.1
