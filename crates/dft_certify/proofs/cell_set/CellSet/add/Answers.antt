use Rattle.std.proofs.Common.{List, cond, ◌++◌, ◌∷◌, [], refl, ap, ◌∙◌}
use Rattle.std.proofs.lemmas.List.{map-append}
use Rattle.dft_netlist.specs.declared.ids.InstanceId.{InstanceId}
use Rattle.dft_certify.specs.Certifying.{has_cell}
use Rattle.dft_certify.proofs.TakingLemmas.{cells-map}
use Rattle.dft_certify.proofs.cell_set.CellSet.add.Goals as goal

pub returns : goal.returns
returns c =
    let ks = c.self.inside.numbers.keys in
    let none = cells-map c.args.cell ks ∙ ap (λ (cells : List InstanceId). has_cell cells c.args.cell) c.self.view_is ∙ c.requires in
    let added = c.in_ok-insert.ensures.keys ∙ ap (λ t. cond t ks (ks ++ c.args.cell.0 ∷ [])) none in
    rw (added, map-append, c.self.view_is) refl
