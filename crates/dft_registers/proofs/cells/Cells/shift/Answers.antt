-- The registers are moved.
use Rattle.std.proofs.Common.{List, ◌≡◌, ◌∙◌, sym, ap, subst, refl, length, arith}
use Rattle.std.specs.Prelude.{map}
use Rattle.std.specs.Vec.{with_items}
use Rattle.std.proofs.lemmas.List.{with_items_is}
use Rattle.dft_registers.specs.Cells.{Contents, row_at, values_in, IsShifted, CanMove, move_at, moved_row}
use Rattle.dft_registers.proofs.CellLemmas.{carried, count_in}
use Rattle.dft_registers.proofs.MoveLemmas.{sound_rows}
use Rattle.dft_registers.proofs.cells.Cells.shift.Goals as goal

pub shift_rows-requires : goal.shift_rows-requires
shift_rows-requires g c =
    let d = c.self.inside in
    let can : CanMove d.layout (map g.W.Way.move_value c.args.moves.now) = subst (λ (k : Contents _). CanMove k.layout (map g.W.Way.move_value c.args.moves.now)) (sym c.self.view_is) c.requires in
    sound_rows d.layout (map g.W.Way.move_value c.args.moves.now) c.deref_mut.result.now can (λ r. ap (λ (l : List (List _)). length (row_at l r)) c.deref_mut.ensures.value ∙ c.self.invariant.rows r)

pub returns : goal.returns
returns g c =
    let d = c.self.inside in
    let i = c.self.invariant in
    let places = d.layout.places in
    let own : List _ = d.resting.items in
    let rows : List (List _) = (with_items d.rows c.shift_rows.new.rows).items in
    let can : CanMove d.layout (map g.W.Way.move_value c.args.moves.now) = subst (λ (k : Contents _). CanMove k.layout (map g.W.Way.move_value c.args.moves.now)) (sym c.self.view_is) c.requires in
    let filled : rows ≡ c.shift_rows.new.rows = with_items_is d.rows c.shift_rows.new.rows (c.shift_rows.ensures.count ∙ ap length c.deref_mut.ensures.value ∙ sym d.rows.ok.0) in
    let P : Contents _ → Type 0 = λ k. IsShifted g.V.Value.unknown_value (map g.W.Way.move_value c.args.moves.now) k (record { layout = d.layout; values = values_in rows places own }) in
    subst P c.self.view_is (record {
      layout = refl;
      count = count_in rows places own i.resting ∙ sym (count_in d.rows.items places own i.resting);
      each = λ k less. carried g.V.Value.unknown_value d.layout d.rows.items rows own (map g.W.Way.move_value c.args.moves.now) k i.laid i.resting i.rows can
          (λ r. ap (λ (l : List (List _)). row_at l r) filled ∙ c.shift_rows.ensures.each r ∙ ap (λ (l : List (List _)). moved_row l (move_at (map g.W.Way.move_value c.args.moves.now) r) (row_at l r)) c.deref_mut.ensures.value)
          (omega (arith, count_in d.rows.items places own i.resting, less));
    })
