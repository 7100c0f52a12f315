use Rattle.std.proofs.Common.{List, ℕ, cond, ◌++◌, ◌∷◌, [], refl, ap, ◌∙◌}
use Rattle.std.proofs.lemmas.List.{map-append}
use Rattle.dft_cells.specs.WellFormed.{has_name}
use Rattle.dft_cubes.proofs.NameLemmas.{has-map}
use Rattle.dft_cubes.proofs.name_set.NameSet.add.Goals as goal

pub returns : goal.returns
returns c =
    let ks = c.self.inside.names.keys in
    let name = c.args.name in
    let none = has-map (λ k. k.items) name.items ks ∙ ap (λ (names : List (List ℕ)). has_name names name.items) c.self.view_is ∙ c.requires in
    let added = c.in_ok-insert.ensures.keys ∙ ap (λ t. cond t ks (ks ++ name ∷ [])) none in
    rw (added, map-append, c.self.view_is) refl
