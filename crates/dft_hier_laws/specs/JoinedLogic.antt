-- Modules side by side as one logic, by the numbers of their nets and instances: what each net means, what each flip-flop and lock-up takes, and runs.
use Rattle.std.specs.Prelude.{◌≡◌, ℕ, ◌<◌, ◌≤◌, List, length, map, Some, option_map, slice_get}
use Rattle.dft_cells.specs.declared.cell.Cell as library
use Rattle.dft_cells.specs.FlipFlops.{Scan, Takes}
use Rattle.dft_netlist.specs.Drivers.{Source, Net, Tied, Loose}
use Rattle.dft_behavior.specs.Logic.{Ports, Logic, Cell, Meaning, Input, Clock, Gate, Joined, Flop, Lockup, Free, no_cell}
use Rattle.dft_behavior.specs.Runs.{Now, Vector, Turn, IsRun}
use Rattle.dft_modules.specs.Modules.{Module}
use Rattle.dft_hier.specs.Hierarchy.{cells_of}
use Rattle.dft_hier.specs.Paths.{Path, Spot, module_at, net_spots, instance_spots}
use Rattle.dft_hier_laws.specs.Joined.{Roots, AreRoots, alone, cell_by, JoinedMeans}

-- ---- by numbers

-- a number for each net and for each instance at each path
pub record Numbers : Type 0 where
  pub net : Path → ℕ → ℕ
  pub instance : Path → ℕ → ℕ

-- they are counted from the top down, module instance by module instance
pub record AreNumbers (ms : List Module) (top : Module) (numbers : Numbers) : Type 0 where
  pub nets : (number : ℕ) (spot : Spot) → slice_get (net_spots ms top) number ≡ Some spot → numbers.net spot.path spot.at ≡ number
  pub instances : (number : ℕ) (spot : Spot) → slice_get (instance_spots ms top) number ≡ Some spot → numbers.instance spot.path spot.at ≡ number

-- a source at a path
abbrev pub numbered_source : Numbers → Path → Source → Source
numbered_source numbers path (Net net) = Net (numbers.net path net)
numbered_source numbers path (Tied bit) = Tied bit
numbered_source numbers path (Loose i pin) = Loose (numbers.instance path i) pin

-- what a net means, over sources at a path
abbrev pub numbered_meaning : Numbers → Path → Meaning → Meaning
numbered_meaning numbers path Input = Input
numbered_meaning numbers path Clock = Clock
numbered_meaning numbers path (Gate kind inputs) = Gate kind (map (numbered_source numbers path) inputs)
numbered_meaning numbers path (Joined source) = Joined (numbered_source numbers path source)
numbered_meaning numbers path (Flop i inverted) = Flop (numbers.instance path i) inverted
numbered_meaning numbers path (Lockup i domain high source) = Lockup (numbers.instance path i) domain high (numbered_source numbers path source)
numbered_meaning numbers path Free = Free

abbrev pub numbered_scan : Numbers → Path → Scan Source → Scan Source
numbered_scan numbers path scan = record { enable = numbered_source numbers path scan.enable; input = numbered_source numbers path scan.input }

-- what a cell at a path takes
abbrev pub numbered_takes : Numbers → Path → Takes Source → Takes Source
numbered_takes numbers path takes = record { input = numbered_source numbers path takes.input; scan = option_map (numbered_scan numbers path) takes.scan }

-- a cell at a path; its clock, and what forces it, are ports of the top
abbrev pub numbered_cell : Numbers → Path → Cell → Cell
numbered_cell numbers path cell = record { domain = cell.domain; falling = cell.falling; takes = numbered_takes numbers path cell.takes; forces = cell.forces }

-- ---- one logic

-- A logic is that of joined modules where, by these numbers, each net means what it means at its path, and each instance is the cell that it is in
-- the module there: with its clock and edge, what it takes, and what forces it.
pub record IsJoinedLogic (ms : List Module) (library : List library.Cell) (top : Module) (ports : Ports) (l : Logic) : Type 0 where
  pub roots : Path → Roots
  pub are_roots : AreRoots ms library top roots
  pub numbers : Numbers
  pub are_numbers : AreNumbers ms top numbers
  pub nets : (path : Path) (net : ℕ) (over : Path) (meaning : Meaning) → JoinedMeans ms library top ports roots path net over meaning →
      l.net (numbers.net path net) ≡ numbered_meaning numbers over meaning
  pub cells : (path : Path) (m : Module) (i : ℕ) → module_at ms path top ≡ Some m → i < length (cells_of m.items) →
      l.cell (numbers.instance path i) ≡ numbered_cell numbers path (cell_by (roots path) (alone library path m) ports i)
  -- there are no others
  pub no_nets : (net : ℕ) → length (net_spots ms top) ≤ net → l.net net ≡ Free
  pub no_cells : (i : ℕ) → length (instance_spots ms top) ≤ i → l.cell i ≡ no_cell i

-- ---- runs

-- a run of joined modules is one of their logic, with the bits of flip-flops, lock-ups, nets and unconnected pins by the same numbers
pub record IsJoinedRun (ms : List Module) (library : List library.Cell) (top : Module) (ports : Ports) (xs : List Vector) (start : Now) (ts : List Turn) : Type 0 where
  pub logic : Logic
  pub is : IsJoinedLogic ms library top ports logic
  pub run : IsRun logic xs start ts
