-- The needed nets that show the cell are marked.
use Rattle.std.proofs.Common.{ℕ, List, refl, ap, ◌∙◌}
use Rattle.dft_logic.specs.Tables.{list_at}
use Rattle.dft_seek.proofs.OpenLemmas.{cell_open, put_lent}
use Rattle.dft_seek.proofs.rig.Rig.give_cell.Goals as goal

pub returns-clause-marks : goal.returns-clause-marks
returns-clause-marks c = record { good = c.mark.ensures.good.size ∙ c.requires.marks.good; bad = c.mark.ensures.bad.size ∙ c.requires.marks.bad }

pub returns-clause-opens : goal.returns-clause-opens
returns-clause-opens c = λ f was. cell_open c.args.self.now f c.args.cone.now.needed.items c.args.cell.0 c.args.value c.showing_of.result.now c.args.v.now _ c.mark.new.v c.requires.rig (put_lent c.args.v.now.cells c.put.new.values c.deref_mut.result.now c.args.cell.0 c.args.value c.deref_mut.ensures.value c.put.ensures) refl refl refl refl refl refl (c.showing_of.ensures ∙ ap (λ (t : List (List ℕ)). list_at t c.args.cell.0) c.deref.ensures.value) c.mark.ensures was
