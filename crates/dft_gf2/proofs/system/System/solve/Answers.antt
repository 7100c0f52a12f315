-- A column that leads a row takes the bit that the row forces, and another its fill bit.
use Rattle.std.proofs.Common.{ℕ, Bool, List, Some, ◌≡◌, ◌∙◌, arith, ap, sym, subst}
use Rattle.dft_base.specs.Solutions.{bit_at, IsChosen, Solves}
use Rattle.dft_lanes.specs.Rows.{bits_of}
use Rattle.dft_gf2.specs.Rows.{place_at, kept_to}
use Rattle.dft_gf2.proofs.Outcomes.{are_led}
use Rattle.dft_gf2.proofs.Choices.{IsNext, Fills, fills_more, fills_solve, fills_choose, place_read, next_forced, next_filled}
use Rattle.dft_gf2.proofs.system.System.solve.Goals as goal
use Rattle.dft_gf2.proofs.system.System.solve.Goals.{in-Some, in-None}

pub forced-bit-requires-clause-place : goal.forced-bit-requires-clause-place
forced-bit-requires-clause-place g c =
    let read : c.index.result.now ≡ place_at c.self.inside.row_of.items c.loop-column.column = place_read _ _ _ _ c.loop-column.column c.index.result.now c.self.invariant.echelon c.loop-column-test.true c.index.ensures in
    let leads : place_at c.self.inside.row_of.items c.loop-column.column ≡ Some c.in-Some.place = sym read ∙ c.in-Some.is in
    (are_led _ _ _ _ c.self.invariant.echelon _ _ leads).0

pub forced-bit-requires-clause-bits : goal.forced-bit-requires-clause-bits
forced-bit-requires-clause-bits g c = c.loop-column.invariant.size ∙ sym c.self.invariant.echelon.wide.0

pub loop-column-preserved : goal.loop-column-preserved
loop-column-preserved g c =
    let read : c.index.result.now ≡ place_at c.self.inside.row_of.items c.loop-column.column = place_read _ _ _ _ c.loop-column.column c.index.result.now c.self.invariant.echelon c.loop-column-test.true c.index.ensures in
    let next : IsNext c.self.inside.rows c.self.inside.row_of.items c.args.fill.now.like.now c.loop-column.bits c.loop-column.column c.match-index.bit =
    elim c.match-index.branch [
      | in-Some w ↦ next_forced _ _ _ _ _ c.loop-column.bits _ w.in-Some.place _ c.self.invariant.echelon c.loop-column-test.true (sym read ∙ w.in-Some.is) c.loop-column.invariant
          (w.bit-is ∙ w.forced-bit.ensures)
      | in-None w ↦ next_filled _ _ _ _ _ _ (sym read ∙ w.in-None.is) (w.bit-is ∙ w.bit-bit.ensures)
    ] in
    rw c.put.ensures (fills_more _ _ _ _ _ _ _ c.match-index.bit c.self.invariant.echelon c.loop-column-test.true c.loop-column.invariant next)

pub returns-clause-chosen : goal.returns-clause-chosen
returns-clause-chosen g c =
    let n = c.self.inside.columns in
    let all : c.loop-column.column ≡ c.self.inside.columns = (let end = c.loop-column-test.false in let fits = c.loop-column.auto.column-end in omega arith) in
    let fills : Fills n c.self.inside.rows c.self.inside.row_of.items c.args.fill.now.like.now c.loop-column.bits n = rw all at c.loop-column.invariant in
    let words : c.loop-column.bits ≡ bits_of n c.into_words.result.items =
    sym (ap (λ (m : ℕ). bits_of m c.into_words.result.items) (sym c.loop-column.invariant.size) ∙ c.into_words.ensures.bits) in
    let P : List Bool → Type 0 = IsChosen n (kept_to n c.self.inside.rows c.self.inside.kept) c.args.fill.now.like.now in
    rw (← c.self.view_is) (subst P words (fills_choose _ _ _ _ _ _ c.self.invariant.echelon fills))

pub returns-clause-solves : goal.returns-clause-solves
returns-clause-solves g c =
    let n = c.self.inside.columns in
    let all : c.loop-column.column ≡ c.self.inside.columns = (let end = c.loop-column-test.false in let fits = c.loop-column.auto.column-end in omega arith) in
    let fills : Fills n c.self.inside.rows c.self.inside.row_of.items c.args.fill.now.like.now c.loop-column.bits n = rw all at c.loop-column.invariant in
    let words : c.loop-column.bits ≡ bits_of n c.into_words.result.items =
    sym (ap (λ (m : ℕ). bits_of m c.into_words.result.items) (sym c.loop-column.invariant.size) ∙ c.into_words.ensures.bits) in
    let P : List Bool → Type 0 = λ bits. Solves n (bit_at bits) (kept_to n c.self.inside.rows c.self.inside.kept) in
    rw (← c.self.view_is) (subst P words (fills_solve _ _ _ _ c.args.fill.now.like.now _ c.self.invariant.echelon fills))
