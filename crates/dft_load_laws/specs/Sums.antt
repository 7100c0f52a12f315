-- The sums of placement are what loads bring.
use Rattle.std.specs.Prelude.{ℕ, ◌<◌, ◌≡◌, Bool, List, [], length, map, unwrap_or, Some}
use Rattle.dft_base.specs.Solutions.{sum_over}
use Rattle.dft_netlist.specs.declared.ids.InstanceId.{InstanceId}
use Rattle.dft_config.specs.Config.{Config}
use Rattle.dft_config.specs.Range.{IsInRange}
use Rattle.dft_config.specs.Ring.{phase_sum, state_after}
use Rattle.dft_config.specs.Loads.{moment_of_place}
use Rattle.dft_equations.specs.LoadRows.{LoadRows, AreLoadEquations}
use Rattle.dft_stitch.specs.Plans.{cell_at}
use Rattle.dft_expect.specs.Loaded.{table_of}
use Rattle.dft_merge.specs.Rows.{StandApart, cell_row}

-- The sum of channel bits over a cell's load equation is what a load with these bits brings to the cell.
abbrev pub SumsAreLoads : Type 0
SumsAreLoads =
    (config : Config) (chains : List (List InstanceId)) (late : ℕ → Bool) (cycles : ℕ) (rows : LoadRows) (bits : ℕ → Bool) (chain place : ℕ) (cell : InstanceId) → IsInRange config → StandApart chains →
    AreLoadEquations config.ring (map length chains) late cycles rows → chain < config.chains → place < cycles → cell_at chains chain place ≡ Some cell →
    sum_over rows.columns (unwrap_or (cell_row chains rows cell) []) bits ≡ phase_sum config.ring chain (state_after config.ring (table_of config.ring bits) (moment_of_place cycles (late chain) place))
