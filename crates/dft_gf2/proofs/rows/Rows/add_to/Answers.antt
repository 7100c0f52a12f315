use Rattle.std.proofs.Common.{List, ◌≡◌, ◌<◌, ◌+◌, ◌∙◌, arith, ap, length, sym, false, ℕ}
use Rattle.std.proofs.lemmas.List.{get_or_read}
use Rattle.dft_base.specs.Solutions.{bit_at}
use Rattle.dft_gf2.specs.Rows.{row_at}
use Rattle.dft_gf2.specs.RowsShown.{widened}
use Rattle.dft_gf2.specs.declared.row.Row.{Row}
use Rattle.dft_gf2.proofs.StoredRows.{shown_wide, shown_at, shown_sums, shown_added}
use Rattle.dft_gf2.proofs.rows.Rows.add_to.Goals as goal

pub add-requires-clause-sums : goal.add-requires-clause-sums
add-requires-clause-sums c =
    let n = c.self.inside.columns in
    let rows = c.self.inside.rows.items in
    let size : length c.args.self.now ≡ n = ap length (sym c.self.view_is) ∙ (shown_wide n rows c.self.invariant.fitted).0 in
    let less : c.args.place < n = omega (arith, c.requires.place) in
    let read : c.index.result.now ≡ row_at rows c.args.place = get_or_read rows c.args.place c.index.result.now (omega (arith, c.self.invariant.fitted.0)) c.index.ensures _ in
    let long : length (row_at rows c.args.place).sums ≡ c.args.place + 1 = (c.self.invariant.fitted.1 c.args.place less).1 in
    let shown : row_at c.args.self.now c.args.place ≡ widened n (row_at rows c.args.place) = ap (λ (l : List Row). row_at l c.args.place) (sym c.self.view_is) ∙ shown_at n rows c.args.place (omega (arith, c.self.invariant.fitted.0)) in
    let end : (k : ℕ) → c.args.place < k → bit_at (widened n (row_at rows c.args.place)).sums k ≡ false = rw shown at c.requires.sums in
    rw read (omega (arith, c.requires.wide.1), omega arith, λ k above. sym (shown_sums n (row_at rows c.args.place) k (omega arith)) ∙ end k above)

pub returns : goal.returns
returns c =
    let n = c.self.inside.columns in
    let rows = c.self.inside.rows.items in
    let size : length c.args.self.now ≡ n = ap length (sym c.self.view_is) ∙ (shown_wide n rows c.self.invariant.fitted).0 in
    let less : c.args.place < n = omega (arith, c.requires.place) in
    let read : c.index.result.now ≡ row_at rows c.args.place = get_or_read rows c.args.place c.index.result.now (omega (arith, c.self.invariant.fitted.0)) c.index.ensures _ in
    let long : length (row_at rows c.args.place).sums ≡ c.args.place + 1 = (c.self.invariant.fitted.1 c.args.place less).1 in
    let shown : row_at c.args.self.now c.args.place ≡ widened n (row_at rows c.args.place) = ap (λ (l : List Row). row_at l c.args.place) (sym c.self.view_is) ∙ shown_at n rows c.args.place (omega (arith, c.self.invariant.fitted.0)) in
    shown_added n c.args.trial.now (row_at c.args.self.now c.args.place) (row_at rows c.args.place) c.add.new.self (omega arith) shown (rw read at c.add.ensures)
