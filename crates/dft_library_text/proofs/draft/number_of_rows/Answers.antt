-- One row more.
use Rattle.std.proofs.Common.{sym, ◌∙◌}
use Rattle.dft_library_text.proofs.RowLemmas.{row_more, row_small}
use Rattle.dft_library_text.proofs.draft.number_of_rows.Goals as goal

pub loop-place-preserved : goal.loop-place-preserved
loop-place-preserved c =
    rw c.at_place-number.ensures
    record {
      number = c.loop-place.invariant.number ∙ row_more c.args.rows.now c.loop-place.place 0 c.in-Some.bit c.loop-place.number c.loop-place-test.true (sym c.in-Some.ensures);
      small = row_small c.in-Some.bit c.loop-place.number c.loop-place.place c.loop-place.invariant.small;
    }
