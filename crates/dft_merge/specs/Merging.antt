-- What a caller sees of a merger.
use Rattle.std.specs.Prelude.{ℕ, List}
use Rattle.dft_cubes.specs.declared.cube.Merged.{Merged}
use Rattle.dft_merge.specs.LoadPlan.{LoadPlan, columns_by, rows_by}
use Rattle.dft_merge.specs.Rows.{CellRows}

-- the design with its chains and their load equations, how many patterns are open, and the patterns so far
pub record Merging : Type 0 where
  pub loads : LoadPlan
  pub window : ℕ
  pub patterns : List Merged

-- the load equations of the cells
abbrev pub rows_in : Merging → CellRows
rows_in m = rows_by m.loads

-- the number of variables
abbrev pub columns_in : Merging → ℕ
columns_in m = columns_by m.loads
