-- The value is written where the cell has it.
use Rattle.std.proofs.Common.{ℕ, List, [], ◌≡◌, ◌<◌, ◌∙◌, sym, ap, subst, length, slice_set, arith}
use Rattle.std.proofs.lemmas.List.{get_or_default}
use Rattle.dft_registers.specs.declared.layout.Place.{Place}
use Rattle.dft_registers.specs.Layout.{place_at}
use Rattle.dft_registers.specs.Cells.{Contents, values_in, row_at}
use Rattle.dft_registers.proofs.CellLemmas.{placed, written, written_resting}
use Rattle.dft_registers.proofs.cells.Cells.set.Goals as goal

pub place-place-requires : goal.place-place-requires
place-place-requires g c = placed c.self.inside c.args.self.now c.args.cell c.self.invariant c.self.view_is c.requires

pub index_mut-requires : goal.index_mut-requires
index_mut-requires g c =
    let d = c.self.inside in
    let live = placed d c.args.self.now c.args.cell c.self.invariant c.self.view_is c.requires in
    omega (arith, d.resting.ok.0, c.self.invariant.resting, live)

pub returns-then-rests-clause-values : goal.returns-then-rests-clause-values
returns-then-rests-clause-values g c =
    let d = c.self.inside in
    let cell : ℕ = c.args.cell in
    let live = placed d c.args.self.now cell c.self.invariant c.self.view_is c.requires in
    let rests : (place_at d.layout.places cell).register ≡ 0 = ap (λ (k : Contents _). (place_at k.layout.places cell).register) c.self.view_is ∙ c.rests.ensures.rests c.if-rests.true in
    written_resting g.V.Value.unknown_value d.rows.items d.layout.places d.resting.items cell c.args.value c.self.invariant.resting live rests ∙ ap (λ (k : Contents _). slice_set k.values cell c.args.value) c.self.view_is

pub returns-else-rests-clause-values : goal.returns-else-rests-clause-values
returns-else-rests-clause-values g c =
    let d = c.self.inside in
    let i = c.self.invariant in
    let cell : ℕ = c.args.cell in
    let own : List _ = d.resting.items in
    let p : Place = c.place-place.result in
    let live : cell < length d.layout.places = placed d c.args.self.now cell i c.self.view_is c.requires in
    let at : p ≡ place_at d.layout.places cell = c.place-place.ensures in
    let above : 0 < (place_at d.layout.places cell).register = subst (λ (k : Contents _). 0 < (place_at k.layout.places cell).register) (sym c.self.view_is) (c.rests.ensures.lies c.if-rests.false) in
    let less : p.register < length d.rows.items = (let was = i.laid.register cell live in omega (arith, i.count, ap (λ (q : Place). q.register) at, was)) in
    let row : c.index_mut-row.result.now ≡ _ = c.index_mut-row.ensures.value ∙ get_or_default d.rows.items p.register _ [] less ∙ ap (λ (q : Place). row_at d.rows.items q.register) at in
    ap (λ (x : List _). values_in (slice_set d.rows.items p.register x) d.layout.places own) c.set.ensures
    ∙ ap (λ (q : Place). values_in (slice_set d.rows.items q.register (slice_set c.index_mut-row.result.now q.index c.args.value)) d.layout.places own) at
    ∙ written g.V.Value.unknown_value d.layout d.rows.items own cell c.args.value c.index_mut-row.result.now i.laid i.resting i.count i.rows live above row
    ∙ ap (λ (k : Contents _). slice_set k.values cell c.args.value) c.self.view_is
