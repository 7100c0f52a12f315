-- The value is its own where the cell rests, and that of its place in a register.
use Rattle.std.proofs.Common.{ℕ, List, [], ◌≡◌, ◌<◌, ◌≤◌, ◌∙◌, sym, ap, subst, length, arith}
use Rattle.std.proofs.lemmas.List.{get_or_default, get_or_past}
use Rattle.dft_registers.specs.declared.layout.Place.{Place}
use Rattle.dft_registers.specs.Layout.{place_at}
use Rattle.dft_registers.specs.Cells.{Contents, value_or, values_in, row_at}
use Rattle.dft_registers.proofs.CellLemmas.{count_in, read_at, in_rest, in_row}
use Rattle.dft_registers.proofs.cells.Cells.at.Goals as goal

pub rests-requires : goal.rests-requires
rests-requires g c =
    let d = c.self.inside in
    let less : c.args.cell < length d.layout.places = (let e = c.len.ensures ∙ d.resting.ok.0 in let f = c.if-cell-len.true in let g = c.self.invariant.resting in omega arith) in
    subst (λ (k : Contents _). c.args.cell < length k.values) c.self.view_is (omega (arith, count_in d.rows.items d.layout.places d.resting.items c.self.invariant.resting, less))

pub returns-then-rests : goal.returns-then-rests
returns-then-rests g c =
    let d = c.self.inside in
    let i = c.self.invariant in
    let cell : ℕ = c.args.cell in
    let own : List _ = d.resting.items in
    let less : cell < length own = (let e = c.len.ensures ∙ d.resting.ok.0 in let f = c.if-cell-len.true in omega arith) in
    let rests : (place_at d.layout.places cell).register ≡ 0 = ap (λ (k : Contents _). (place_at k.layout.places cell).register) c.self.view_is ∙ c.rests.ensures.rests c.if-rests.true in
    c.index.ensures ∙ get_or_default own cell _ g.V.Value.unknown_value less
    ∙ sym (ap (λ (k : Contents _). value_or g.V.Value.unknown_value k.values cell) (sym c.self.view_is) ∙ read_at g.V.Value.unknown_value d.rows.items d.layout.places own cell i.resting (omega (arith, i.resting, less)) ∙ in_rest d.rows.items (place_at d.layout.places cell) (value_or g.V.Value.unknown_value own cell) rests)

pub returns-else-rests : goal.returns-else-rests
returns-else-rests g c =
    let d = c.self.inside in
    let i = c.self.invariant in
    let cell : ℕ = c.args.cell in
    let own : List _ = d.resting.items in
    let p : Place = c.place-place.result in
    let live : cell < length d.layout.places = (let e = c.len.ensures ∙ d.resting.ok.0 in let f = c.if-cell-len.true in let g = i.resting in omega arith) in
    let at : p ≡ place_at d.layout.places cell = c.place-place.ensures in
    let above : 0 < (place_at d.layout.places cell).register = subst (λ (k : Contents _). 0 < (place_at k.layout.places cell).register) (sym c.self.view_is) (c.rests.ensures.lies c.if-rests.false) in
    let less : p.register < length d.rows.items = (let was = i.laid.register cell live in omega (arith, i.count, ap (λ (q : Place). q.register) at, was)) in
    c.at.ensures ∙ ap (λ (x : List _). value_or g.V.Value.unknown_value x p.index) (c.index-row.ensures ∙ get_or_default d.rows.items p.register _ [] less) ∙ ap (λ (q : Place). value_or g.V.Value.unknown_value (row_at d.rows.items q.register) q.index) at
    ∙ sym (ap (λ (k : Contents _). value_or g.V.Value.unknown_value k.values cell) (sym c.self.view_is) ∙ read_at g.V.Value.unknown_value d.rows.items d.layout.places own cell i.resting live ∙ in_row d.rows.items (place_at d.layout.places cell) (value_or g.V.Value.unknown_value own cell) above ∙ get_or_default (row_at d.rows.items (place_at d.layout.places cell).register) (place_at d.layout.places cell).index (value_or g.V.Value.unknown_value own cell) g.V.Value.unknown_value (let was = i.laid.index cell live above in omega (arith, i.rows (place_at d.layout.places cell).register, was)))

pub returns-else-cell-len : goal.returns-else-cell-len
returns-else-cell-len g c =
    let d = c.self.inside in
    let past : length d.layout.places ≤ c.args.cell = (let e = c.len.ensures ∙ d.resting.ok.0 in let f = c.if-cell-len.false in let g = c.self.invariant.resting in omega arith) in
    let values : List _ = values_in d.rows.items d.layout.places d.resting.items in
    c.unknown.ensures ∙ sym (ap (λ (k : Contents _). value_or g.V.Value.unknown_value k.values c.args.cell) (sym c.self.view_is) ∙ get_or_past values c.args.cell g.V.Value.unknown_value (omega (arith, count_in d.rows.items d.layout.places d.resting.items c.self.invariant.resting, past)))
