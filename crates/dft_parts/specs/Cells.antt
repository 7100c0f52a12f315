-- The cells of a library that store a bit, as they are made: the first of a kind, and what its pins are joined to.
use Rattle.std.specs.Prelude.{ℕ, zero, suc, Bool, List, [], ◌∷◌, map, Option, None, Some, if◌then◌else◌}
use Rattle.dft_cells.specs.declared.kind.Kind.{Kind}
use Rattle.dft_cells.specs.declared.kind.Role.{Role}
use Rattle.dft_cells.specs.declared.kind.Role.TheVariants.{Clock, Din, Output}
use Rattle.dft_cells.specs.declared.cell.Cell.{Cell}
use Rattle.dft_cells.specs.declared.cell.CellId.{CellId}
use Rattle.dft_netlist.specs.declared.ids.NetId.{NetId}
use Rattle.dft_netlist.specs.declared.instance.Signal.{Signal}
use Rattle.dft_netlist.specs.declared.instance.Signal.TheVariants.{Net, Unconnected}
use Rattle.dft_netlist.specs.declared.instance.CellRef.TheVariants.{Library}
use Rattle.dft_netlist.specs.Drivers.{shape_of}
pub use Rattle.dft_cells.specs.FlipFlops.{is_dff}
pub use Rattle.dft_behavior.specs.Logic.{is_lockup}

-- the number of the first cell whose kind passes a test, where they are numbered from a number on
abbrev pub first_from : (Kind → Bool) → (number : ℕ) → List Cell → Option ℕ
first_from test number [] = None
first_from test number (cell ∷ cells) = if test cell.kind then Some number else first_from test (suc number) cells

abbrev pub numbered_cell : Option ℕ → CellId
numbered_cell None = record { 0 = zero }
numbered_cell (Some number) = record { 0 = number }

-- the first cell of a library whose kind passes a test
abbrev pub first_cell : (Kind → Bool) → List Cell → CellId
first_cell test library = numbered_cell (first_from test zero library)

-- what a pin is joined to, by what it is for: the clock, what is taken and the output to nets, another to nothing
abbrev pub pin_between : (clock input output : NetId) → Role → Signal
pin_between clock input output Clock = Net clock
pin_between clock input output Din = Net input
pin_between clock input output Output = Net output
pin_between clock input output _ = Unconnected

-- the pins of a cell of the library between these nets
abbrev pub pins_between : List Cell → CellId → (clock input output : NetId) → List Signal
pins_between library cell clock input output = map (pin_between clock input output) (shape_of library (Library cell)).roles
