-- Where there is one register, it is that of the cell.
use Rattle.std.proofs.Common.{ℕ, ◌≡◌, ◌<◌, ◌≢◌, ◌∙◌, sym, ap, subst, length, arith}
use Rattle.std.proofs.lemmas.Bool.{ltb-false, eqb-true, eq-eqb}
use Rattle.dft_registers.specs.declared.layout.Place.{Place}
use Rattle.dft_registers.specs.Layout.{place_at}
use Rattle.dft_registers.specs.Cells.{Contents}
use Rattle.dft_registers.proofs.CellLemmas.{placed}
use Rattle.dft_registers.proofs.cells.Cells.rests.Goals as goal

pub place-requires : goal.place-requires
place-requires g c = placed c.self.inside c.args.self.now c.args.cell c.self.invariant c.self.view_is c.requires

pub returns-then-len-lt2-clause-rests : goal.returns-then-len-lt2-clause-rests
returns-then-len-lt2-clause-rests g c few =
    let d = c.self.inside in
    let i = c.self.invariant in
    let cell : ℕ = c.args.cell in
    let was : (place_at d.layout.places cell).register < length d.layout.registers = i.laid.register cell (placed d c.args.self.now cell i c.self.view_is c.requires) in
    let one : length d.rows.items < 2 = (let e = c.len.ensures ∙ d.rows.ok.0 in let f = c.if-len-lt2.true in omega arith) in
    let zero : (place_at d.layout.places cell).register ≡ 0 = omega (arith, was, one, i.count) in
    ap (λ (k : Contents _). (place_at k.layout.places cell).register) (sym c.self.view_is) ∙ zero

pub returns-then-len-lt2-clause-lies : goal.returns-then-len-lt2-clause-lies
returns-then-len-lt2-clause-lies g c many = absurd (let more = ltb-false c.len.result 2 many in let few = c.if-len-lt2.true in omega arith)

pub returns-else-len-lt2-clause-rests : goal.returns-else-len-lt2-clause-rests
returns-else-len-lt2-clause-rests g c is =
    ap (λ (k : Contents _). (place_at k.layout.places c.args.cell).register) (sym c.self.view_is) ∙ ap (λ (p : Place). p.register) (sym c.place.ensures) ∙ eqb-true c.place.result.register 0 is

pub returns-else-len-lt2-clause-lies : goal.returns-else-len-lt2-clause-lies
returns-else-len-lt2-clause-lies g c isnt =
    let p : Place = c.place.result in
    let ne : p.register ≢ 0 = (λ zero. absurd (let e = sym (eq-eqb p.register 0 zero) ∙ isnt in cc)) in
    subst (λ (k : Contents _). 0 < (place_at k.layout.places c.args.cell).register) c.self.view_is (subst (λ (q : Place). 0 < q.register) c.place.ensures (omega (arith, ne)))
