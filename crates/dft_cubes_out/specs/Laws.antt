-- Written cubes are read as they are.
use Rattle.std.specs.Prelude.{ℕ, ◌≡◌, ◌≤◌, Bool, true, List, length, get_or, None, Some, Ok, slice_get}
use Rattle.dft_base.specs.Lexing.{Text}
use Rattle.dft_base.specs.Name.{IsName}
use Rattle.dft_netlist.specs.declared.ids.NetId.{NetId}
use Rattle.dft_netlist.specs.declared.ids.InstanceId.{InstanceId}
use Rattle.dft_netlist.specs.Netlist.{Netlist}
use Rattle.dft_netlist.specs.Sound.{IsNetlist}
use Rattle.dft_netlist.specs.Drivers.{kind_at}
use Rattle.dft_config.specs.Config.{Config}
use Rattle.dft_config.specs.Range.{IsInRange}
use Rattle.dft_rules.specs.Rules.{may_be_scanned}
use Rattle.dft_cubes.specs.declared.cube.Cube.{Cube}
use Rattle.dft_cubes.specs.declared.limits.TheConstants.{MAX_CUBES}
use Rattle.dft_cubes.specs.Cubes.{cubes_of}
use Rattle.dft_cubes.specs.Laws.{AreCubes}
use Rattle.dft_cubes_out.specs.Written.{clock_name, cell_name, port_name, cubes_text}

-- a name with which no comment begins, in a cube file
pub record IsWord (word : Text) : Type 0 where
  pub name : IsName word
  pub plain : get_or word 0 0 ≡ 35 → ⊥

-- the cube captures once, its cells are flip-flops that may be scanned, and no name in its lines begins a comment
pub record CanBeWritten (n : Netlist) (config : Config) (cube : Cube) : Type 0 where
  pub once : cube.domains.second ≡ None
  pub name : IsWord cube.name
  pub clock : IsWord (clock_name config cube.domains.first)
  pub kinds : (k : ℕ) (given : InstanceId × Bool) → slice_get cube.cells k ≡ Some given → may_be_scanned (kind_at n given.0.0) ≡ true
  pub cells : (k : ℕ) (given : InstanceId × Bool) → slice_get cube.cells k ≡ Some given → IsWord (cell_name n given.0.0)
  pub ports : (k : ℕ) (given : NetId × Bool) → slice_get cube.ports k ≡ Some given → IsWord (port_name n given.0.0)

-- A text of cubes of a design is read as these cubes.
abbrev pub WrittenCubesAreRead : Type 0
WrittenCubesAreRead =
    (n : Netlist) (config : Config) (cubes : List Cube) → IsNetlist n → IsInRange config → AreCubes n config cubes → ((k : ℕ) (cube : Cube) → slice_get cubes k ≡ Some cube → CanBeWritten n config cube) → length cubes ≤ MAX_CUBES
    → cubes_of n config (cubes_text n config cubes) ≡ Ok cubes
