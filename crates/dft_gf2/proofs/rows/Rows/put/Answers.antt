use Rattle.std.proofs.Common.{List, ◌≡◌, ◌∙◌, arith, ap, length, sym}
use Rattle.std.specs.Prelude.{slice_set}
use Rattle.std.proofs.lemmas.List.{get_or_read}
use Rattle.dft_gf2.specs.Rows.{row_at, IsWide}
use Rattle.dft_gf2.specs.declared.row.Row.{Row}
use Rattle.dft_gf2.proofs.StoredRows.{shown_wide, shown_copied, shown_put}
use Rattle.dft_gf2.proofs.rows.Rows.put.Goals as goal

pub returns : goal.returns
returns c =
    let n = c.self.inside.columns in
    let rows = c.self.inside.rows.items in
    let size : length c.args.self.now ≡ n = ap length (sym c.self.view_is) ∙ (shown_wide n rows c.self.invariant.fitted).0 in
    let wide : IsWide n c.args.row.now = rw size at c.requires.wide in
    let read : c.index_mut.result.now ≡ row_at rows c.args.place = get_or_read rows c.args.place c.index_mut.result.now (omega (arith, c.self.invariant.fitted.0, c.requires.place)) c.index_mut.ensures.value _ in
    let set : length c.index_mut.result.now.set ≡ n = ap (λ (r : Row). length r.set) read ∙ (c.self.invariant.fitted.1 c.args.place (omega (arith, c.requires.place))).0 in
    shown_put n rows c.args.place c.args.row.now c.copy_from.new.self (shown_copied n c.index_mut.result.now c.args.row.now c.copy_from.new.self wide set c.copy_from.ensures)
    ∙ ap (λ (l : List Row). slice_set l c.args.place c.args.row.now) c.self.view_is
