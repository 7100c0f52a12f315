-- The value that the map holds is the member of the table.
use Rattle.std.proofs.Common.{rules, ap, ◌∙◌, sym, option_map, option_and_then}
use Rattle.toml.proofs.Views.{table_get}
use Rattle.toml.specs.Data.{as_integer}
use Rattle.toml.specs.View.{view}
use Rattle.dft_toml.proofs.lookup.integer_at.Goals as goal

pub returns-in-Some : goal.returns-in-Some
returns-in-Some c =
    let found = table_get c.get.result c.args.key.now c.args.table.now.entries (search rules) in
    c.as_integer.ensures ∙ ap (option_and_then as_integer) (ap (option_map (λ v. view v.now)) (sym c.in-Some.is) ∙ found)

pub returns-in-None : goal.returns-in-None
returns-in-None c =
    let found = table_get c.get.result c.args.key.now c.args.table.now.entries (search rules) in
    ap (option_and_then as_integer) (ap (option_map (λ v. view v.now)) (sym c.in-None.is) ∙ found)
