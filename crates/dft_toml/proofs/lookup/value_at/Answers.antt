-- The value that the map holds is the member of the table.
use Rattle.std.proofs.Common.{rules}
use Rattle.toml.proofs.Views.{table_get}
use Rattle.dft_toml.proofs.lookup.value_at.Goals as goal

pub returns : goal.returns
returns c = table_get c.get.result c.args.key.now c.args.table.now.entries (search rules)
