-- The value that the map holds is the member of the table.
use Rattle.std.proofs.Common.{rules, ap, ◌∙◌, ◌≡◌, Option, Some, None, is_some, option_map, refl}
use Rattle.toml.proofs.Views.{table_get}
use Rattle.toml.specs.View.{view}
use Rattle.dft_toml.proofs.lookup.has_key.Goals as goal

some_mapped : {A B : Type 0} (f : A → B) (r : Option A) → is_some r ≡ is_some (option_map f r)
some_mapped f None = refl
some_mapped f (Some x) = refl

pub returns : goal.returns
returns c =
    let found = table_get c.get.result c.args.key.now c.args.table.now.entries (search rules) in
    c.is_some.ensures ∙ some_mapped (λ v. view v.now) c.get.result ∙ ap is_some found
