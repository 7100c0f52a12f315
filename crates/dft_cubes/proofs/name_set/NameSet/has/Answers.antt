use Rattle.std.proofs.Common.{List, ℕ, ap, ◌∙◌}
use Rattle.dft_cells.specs.WellFormed.{has_name}
use Rattle.dft_cubes.proofs.NameLemmas.{has-map}
use Rattle.dft_cubes.proofs.name_set.NameSet.has.Goals as goal

pub returns : goal.returns
returns c = c.contains.ensures ∙ has-map (λ k. k.items) c.args.name.now c.self.inside.names.keys ∙ ap (λ (names : List (List ℕ)). has_name names c.args.name.now) c.self.view_is
