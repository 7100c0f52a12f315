-- What holds of all that a search tells.
use Rattle.std.specs.Prelude.{ℕ, ◌≡◌, ◌<◌, Bool, List, length, get_or, slice_get, Some, Ok}
use Rattle.std.specs.List.{AllByRecursion}
use Rattle.dft_base.specs.Lexing.{Text}
use Rattle.dft_cells.specs.WellFormed.{IsWellFormed}
use Rattle.dft_netlist.specs.declared.ids.NetId.{NetId}
use Rattle.dft_netlist.specs.declared.ids.InstanceId.{InstanceId}
use Rattle.dft_netlist.specs.Netlist.{Netlist}
use Rattle.dft_netlist.specs.Drivers.{IsOrdered}
use Rattle.dft_netlist.specs.Sound.{IsNetlist}
use Rattle.dft_config.specs.Config.{Config}
use Rattle.dft_config.specs.Range.{IsInRange}
use Rattle.dft_cubes.specs.declared.cube.Cube.{Cube}
use Rattle.dft_cubes.specs.Cubes.{cubes_of}
use Rattle.dft_cubes.specs.Laws.{AreCubes}
use Rattle.dft_cubes_out.specs.Laws.{IsWord}
use Rattle.dft_cubes_out.specs.Written.{cell_name, clock_name, port_name}
use Rattle.dft_seek.specs.declared.found.Found.{Found}
use Rattle.dft_seek.specs.declared.found.Found.TheVariants as found
use Rattle.dft_seek.specs.Searches.{Detects, Given, IsFull, Search}
use Rattle.dft_seek.specs.Sought.{CompletesCube}
use Rattle.dft_seeking.specs.declared.seeking.Sought.{Sought}
use Rattle.dft_seeking.specs.Gathers.{IsDone}
use Rattle.dft_seeking.specs.Told.{Told, AreTold, cubes_in, search_of}

-- A cube detects its fault in each assignment that completes it; where there is none, no assignment of bits to all scanned cells and
-- drivable ports detects the fault. Nothing is said where the search was aborted.
abbrev pub IsTrue : Search → Found → Type 0
IsTrue s (found.Cube cube) = (g : Given) → CompletesCube cube g → Detects s g
IsTrue s found.NotTestable = (g : Given) → IsFull s g → Detects s g → ⊥
IsTrue s found.Aborted = Unit {0}

abbrev pub AllTrue : Netlist → Config → (domain : ℕ) → List Told → Type 0
AllTrue n config domain told = AllByRecursion (λ t. IsTrue (search_of n config domain t.fault) t.found) told

-- all that is told is true
abbrev pub ToldIsTrue : Type 0
ToldIsTrue =
    (n : Netlist) (config : Config) (domain limit : ℕ) (told : List Told) (rank : ℕ → ℕ) → IsOrdered n rank → IsWellFormed n.library → AreTold n config domain limit told → AllTrue n config domain told

-- one thing is told
abbrev pub ToldIsOne : Type 0
ToldIsOne =
    (n : Netlist) (config : Config) (domain limit : ℕ) (told other : List Told) (rank : ℕ → ℕ) → IsOrdered n rank → AreTold n config domain limit told → AreTold n config domain limit other → told ≡ other

-- ---- the cube file

-- What is told are cubes of the design and the configuration, where the domain is one of the configuration's.
abbrev pub ToldAreCubes : Type 0
ToldAreCubes =
    (n : Netlist) (config : Config) (domain limit : ℕ) (told : List Told) → IsNetlist n → IsInRange config → domain < length config.domains → AreTold n config domain limit told →
    AreCubes n config (cubes_in told)

-- a name with which no comment begins, in a cube file
abbrev pub IsPlain : Text → Type 0
IsPlain name = get_or name 0 0 ≡ 35 → ⊥

-- no comment begins with the name of a cell or a port that a cube gives
pub record GivesPlain (n : Netlist) (cube : Cube) : Type 0 where
  pub cells : (k : ℕ) (given : InstanceId × Bool) → slice_get cube.cells k ≡ Some given → IsPlain (cell_name n given.0.0)
  pub ports : (k : ℕ) (given : NetId × Bool) → slice_get cube.ports k ≡ Some given → IsPlain (port_name n given.0.0)

-- The cube file of a search is read as the cubes that were found, where no comment begins with the name of the clock or of a cell or a port in it.
abbrev pub SavedAreRead : Type 0
SavedAreRead =
    (n : Netlist) (config : Config) (domain limit : ℕ) (s : Sought) → IsNetlist n → IsInRange config → IsWord (clock_name config domain) → (done : IsDone n config domain limit s) →
    ((k : ℕ) (cube : Cube) → slice_get (cubes_in done.told) k ≡ Some cube → GivesPlain n cube) → cubes_of n config s.cubes.items ≡ Ok (cubes_in done.told)
