-- What became of cubes, as lines of a report: a cube's pattern, the sums of its certificate, or the cell that is not scanned.
use Rattle.std.specs.Prelude.{ℕ, Bool, List, [], ◌∷◌, Option, None, Some, option_and_then, option_map, slice_get, unwrap_or, if◌then◌else◌}
use Rattle.std.specs.List.{cons_option, filter_map, enumerate_from}
use Rattle.dft_base.specs.Lexing.{Text}
use Rattle.dft_netlist.specs.declared.ids.InstanceId.{InstanceId}
use Rattle.dft_netlist.specs.Netlist.{Netlist}
use Rattle.dft_netlist.specs.Names.{instance_name}
use Rattle.dft_config.specs.declared.config.RingConfig.{RingConfig}
use Rattle.dft_config.specs.Loads.{channel_of, cycle_of}
use Rattle.dft_cubes.specs.declared.cube.Cube.{Cube}
use Rattle.dft_merge.specs.declared.placed.Placed.{Placed}
use Rattle.dft_merge.specs.declared.placed.Placed.TheVariants.{Into, Unsolvable, Skipped}
use Rattle.dft_merge.specs.Rows.{CellRows}
use Rattle.dft_report.specs.declared.report.CubeLine.{CubeLine}
use Rattle.dft_report.specs.declared.report.CubeLine.TheVariants as line
use Rattle.dft_report.specs.declared.report.CubeReport.{CubeReport}
use Rattle.dft_report.specs.declared.report.SumLine.{SumLine}
use Rattle.dft_report.specs.declared.report.Variable.{Variable}

-- ---- sums

-- the name of a cell; a flip-flop has one, since it is a cell of the library
abbrev pub cell_name : Netlist → InstanceId → Option Text
cell_name n cell = option_and_then instance_name (slice_get n.instances cell.0)

-- the variable of a column, where it is in a load equation
abbrev pub variable_of : RingConfig → (column : ℕ) → (is_in : Bool) → Option Variable
variable_of ring column is_in = if is_in then Some (record { channel = channel_of ring column; cycle = cycle_of ring column }) else None

-- the variables of a load equation, in column order
abbrev pub variables_of : RingConfig → (row : List Bool) → List Variable
variables_of ring row = filter_map (λ at. variable_of ring at.0 at.1) (enumerate_from 0 row)

-- a cell by its name, the bit that a cube gives it, and the variables that it sums
abbrev pub sum_as : RingConfig → (row : List Bool) → (bit : Bool) → (name : Text) → SumLine
sum_as ring row bit name = record { name = name; bit = bit; variables = variables_of ring row }

abbrev pub sum_line : Netlist → RingConfig → CellRows → (InstanceId × Bool) → Option SumLine
sum_line n ring row given = option_map (sum_as ring (unwrap_or (row given.0) []) given.1) (cell_name n given.0)

-- the cell and the bit at a position of a cube
abbrev pub sum_at : Netlist → RingConfig → CellRows → List (InstanceId × Bool) → (position : ℕ) → Option SumLine
sum_at n ring row cells position = option_and_then (sum_line n ring row) (slice_get cells position)

-- the sums of a certificate, which names cells by their positions in the cube
abbrev pub sums_of : Netlist → RingConfig → CellRows → List (InstanceId × Bool) → (positions : List ℕ) → List SumLine
sums_of n ring row cells positions = filter_map (sum_at n ring row cells) positions

-- ---- cubes

-- what became of a cube
abbrev pub outcome_of : Netlist → RingConfig → CellRows → Cube → Placed → Option CubeLine
outcome_of n ring row cube (Into pattern) = Some (line.Encoded pattern)
outcome_of n ring row cube (Unsolvable positions) = Some (line.Unsolvable (sums_of n ring row cube.cells positions))
outcome_of n ring row cube (Skipped cell) = option_map line.Skipped (cell_name n cell)

abbrev pub named_outcome : (name : Text) → CubeLine → CubeReport
named_outcome name outcome = record { name = name; outcome = outcome }

abbrev pub cube_report : Netlist → RingConfig → CellRows → Cube → Placed → Option CubeReport
cube_report n ring row cube placed = option_map (named_outcome cube.name) (outcome_of n ring row cube placed)

-- what became of the cubes, in the order of their file
abbrev pub cube_reports : Netlist → RingConfig → CellRows → List Cube → List Placed → List CubeReport
cube_reports n ring row [] placed = []
cube_reports n ring row (cube ∷ cubes) [] = []
cube_reports n ring row (cube ∷ cubes) (place ∷ placed) = cons_option (cube_report n ring row cube place) (cube_reports n ring row cubes placed)
