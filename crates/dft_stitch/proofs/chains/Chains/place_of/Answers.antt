use Rattle.std.proofs.Common.{◌≡◌, ◌∙◌, Option, None, List, ap, get_or, sym}
use Rattle.dft_stitch.specs.declared.places.CellPlace.{CellPlace}
use Rattle.dft_stitch.proofs.TableLemmas.{stands_at, stands_nowhere}
use Rattle.dft_stitch.proofs.chains.Chains.place_of.Goals as goal

pub returns-clause-stands : goal.returns-clause-stands
returns-clause-stands c =
    let places = c.self.inside.places.items in
    let is : get_or places c.args.cell.0 None ≡ c.place_at.result = sym (c.place_at.ensures ∙ ap (λ (xs : List (Option CellPlace)). get_or xs c.args.cell.0 None) c.deref.ensures.value) in
    rw (← c.self.view_is) (stands_at c.self.inside.chains.items places c.args.cell c.place_at.result c.self.invariant.places is)

pub returns-clause-nowhere : goal.returns-clause-nowhere
returns-clause-nowhere c =
    let places = c.self.inside.places.items in
    let is : get_or places c.args.cell.0 None ≡ c.place_at.result = sym (c.place_at.ensures ∙ ap (λ (xs : List (Option CellPlace)). get_or xs c.args.cell.0 None) c.deref.ensures.value) in
    rw (← c.self.view_is) (stands_nowhere c.self.inside.chains.items places c.args.cell c.place_at.result c.self.invariant.places is)
