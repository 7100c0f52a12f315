-- What a search tells of all faults of a design.
use Rattle.std.specs.Prelude.{ℕ, suc, ◌≡◌, Bool, true, false, List, [], ◌∷◌, ◌++◌, count_by, decimal, length, map}
use Rattle.dft_base.specs.Lexing.{Text}
use Rattle.dft_netlist.specs.Netlist.{Netlist}
use Rattle.dft_config.specs.Config.{Config}
use Rattle.dft_cubes.specs.declared.cube.Cube.{Cube}
use Rattle.dft_faults.specs.declared.fault.Fault.{Fault}
use Rattle.dft_seek.specs.declared.found.Found.{Found}
use Rattle.dft_seek.specs.declared.found.Found.TheVariants as found
use Rattle.dft_seek.specs.Searches.{Search}
use Rattle.dft_seek.specs.Sought.{IsSought}
use Rattle.dft_seek.specs.SoughtFaults.{seek_faults}
use Rattle.dft_seeking.specs.declared.counting.SeekCounts.{SeekCounts}

-- a fault, and what a search tells of it
pub record Told : Type 0 where
  pub fault : Fault
  pub found : Found

abbrev pub faults_in : List Told → List Fault
faults_in told = map (λ t. t.fault) told

-- a cube is named `s` and the number of its fault
abbrev pub cube_name : (number : ℕ) → Text
cube_name number = 115 ∷ decimal number

abbrev pub search_of : Netlist → Config → (domain : ℕ) → Fault → Search
search_of n config domain fault = record { design = n; config = config; domain = domain; fault = fault }

-- each of these is what the search of its fault tells; the first of them has this number
abbrev pub AllSought : Netlist → Config → (domain limit number : ℕ) → List Told → Type 0
AllSought n config domain limit number [] = Unit {0}
AllSought n config domain limit number (t ∷ told) = IsSought (search_of n config domain t.fault) limit (cube_name number) t.found × AllSought n config domain limit (suc number) told

-- the faults for which cubes are sought, in order, each with what its search tells
pub record AreTold (n : Netlist) (config : Config) (domain limit : ℕ) (told : List Told) : Type 0 where
  pub faults : faults_in told ≡ seek_faults n config
  pub sought : AllSought n config domain limit 0 told

-- ---- cubes

abbrev pub cubes_by : Found → List Cube
cubes_by (found.Cube cube) = cube ∷ []
cubes_by found.NotTestable = []
cubes_by found.Aborted = []

-- the cubes that were found, in order
abbrev pub cubes_in : List Told → List Cube
cubes_in [] = []
cubes_in (t ∷ told) = cubes_by t.found ++ cubes_in told

-- ---- counts

abbrev pub is_cube : Found → Bool
is_cube (found.Cube cube) = true
is_cube _ = false

abbrev pub is_untestable : Found → Bool
is_untestable found.NotTestable = true
is_untestable _ = false

abbrev pub is_aborted : Found → Bool
is_aborted found.Aborted = true
is_aborted _ = false

abbrev pub counts_of : List Told → SeekCounts
counts_of told = record {
  faults = length told;
  cubes = count_by (λ t. is_cube t.found) told;
  not_testable = count_by (λ t. is_untestable t.found) told;
  aborted = count_by (λ t. is_aborted t.found) told;
}
