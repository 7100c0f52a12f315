-- The columns are those of the load equations.
use Rattle.std.proofs.Common.{◌≡◌, ◌∙◌, ap, sym}
use Rattle.dft_equations.specs.LoadRows.{LoadRows}
use Rattle.dft_merge.specs.LoadPlan.{columns_by}
use Rattle.dft_encode.proofs.loads.load_of.Goals as goal

pub channel_bits-requires-clause-columns : goal.channel_bits-requires-clause-columns
channel_bits-requires-clause-columns c = c.columns-columns.ensures ∙ ap (λ (r : LoadRows). r.columns) c.equations.ensures ∙ ap columns_by (sym c.requires.finder.merger)

pub loaded-requires-clause-ring : goal.loaded-requires-clause-ring
loaded-requires-clause-ring c = rw (c.chains.ensures, c.config-config.ensures, c.requires.finder.count) c.requires.finder.range.ring

pub loaded-requires-clause-cells : goal.loaded-requires-clause-cells
loaded-requires-clause-cells c = rw c.chains.ensures c.requires.finder.cells
