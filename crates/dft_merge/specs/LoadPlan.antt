-- What a caller sees of a planned design with the load equations of its chains.
use Rattle.std.specs.Prelude.{ℕ}
use Rattle.dft_netlist.specs.Netlist.{Netlist}
use Rattle.dft_config.specs.Config.{Config}
use Rattle.dft_stitch.specs.Plans.{Plan}
use Rattle.dft_equations.specs.LoadRows.{LoadRows}
use Rattle.dft_merge.specs.Rows.{CellRows, cell_row}

-- a design, its configuration, its chains, and the load equations of their places
pub record LoadPlan : Type 0 where
  pub design : Netlist
  pub config : Config
  pub plan : Plan
  pub rows : LoadRows

-- the load equations of the cells
abbrev pub rows_by : LoadPlan → CellRows
rows_by l = cell_row l.plan.chains l.rows

-- the number of variables
abbrev pub columns_by : LoadPlan → ℕ
columns_by l = l.rows.columns
