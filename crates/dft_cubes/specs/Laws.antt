-- What holds of the cubes of every text.
use Rattle.std.specs.Prelude.{ℕ, ◌≡◌, ◌<◌, Bool, true, false, List, length, Ok, Some, slice_get, option_and_then, IsSome}
use Rattle.std.specs.List.{AllByRecursion}
use Rattle.dft_base.specs.Lexing.{Text}
use Rattle.dft_netlist.specs.declared.ids.NetId.{NetId}
use Rattle.dft_netlist.specs.declared.ids.InstanceId.{InstanceId}
use Rattle.dft_netlist.specs.Netlist.{Netlist}
use Rattle.dft_netlist.specs.Drivers.{driver}
use Rattle.dft_netlist.specs.Connections.{is_input}
use Rattle.dft_netlist.specs.Names.{instance_name}
use Rattle.dft_config.specs.Config.{Config}
use Rattle.dft_rules.specs.ConfigPorts.{config_ports}
use Rattle.dft_cubes.specs.declared.cube.Cube.{Cube}
use Rattle.dft_cubes.specs.Domains.{captured}
use Rattle.dft_cubes.specs.Cubes.{cubes_of}

-- no cell is given twice, and each is an instance with a name
pub record AreCells (n : Netlist) (cells : List (InstanceId × Bool)) : Type 0 where
  pub once : (j k : ℕ) (a b : InstanceId × Bool) → slice_get cells j ≡ Some a → slice_get cells k ≡ Some b → a.0.0 ≡ b.0.0 → j ≡ k
  pub live : (k : ℕ) (a : InstanceId × Bool) → slice_get cells k ≡ Some a → a.0.0 < length n.instances
  pub named : (k : ℕ) (a : InstanceId × Bool) → slice_get cells k ≡ Some a → IsSome (option_and_then instance_name (slice_get n.instances a.0.0))

-- no port is given twice, and each is a net: the bit of an input port, and neither a clock nor a reset of the configuration
pub record ArePorts (n : Netlist) (config : Config) (ports : List (NetId × Bool)) : Type 0 where
  pub once : (j k : ℕ) (a b : NetId × Bool) → slice_get ports j ≡ Some a → slice_get ports k ≡ Some b → a.0.0 ≡ b.0.0 → j ≡ k
  pub live : (k : ℕ) (a : NetId × Bool) → slice_get ports k ≡ Some a → a.0.0 < length n.nets
  pub input : (k : ℕ) (a : NetId × Bool) → slice_get ports k ≡ Some a → is_input (driver n a.0.0) ≡ true
  pub no_clock : (k : ℕ) (a : NetId × Bool) → slice_get ports k ≡ Some a → (config_ports n config).is_clock a.0.0 ≡ false
  pub no_reset : (k : ℕ) (a : NetId × Bool) → slice_get ports k ≡ Some a → (config_ports n config).is_reset a.0.0 ≡ false

pub record IsCube (n : Netlist) (config : Config) (cube : Cube) : Type 0 where
  pub domains : AllByRecursion (λ domain. domain < length config.domains) (captured cube.domains)
  pub cells : AreCells n cube.cells
  pub ports : ArePorts n config cube.ports

-- names of cubes differ
pub record AreCubes (n : Netlist) (config : Config) (cubes : List Cube) : Type 0 where
  pub names : (j k : ℕ) (a b : Cube) → slice_get cubes j ≡ Some a → slice_get cubes k ≡ Some b → a.name ≡ b.name → j ≡ k
  pub each : (k : ℕ) (cube : Cube) → slice_get cubes k ≡ Some cube → IsCube n config cube

-- the cubes of a text have names that differ, give each cell and each port once, give only what the design and the configuration have, and give no clock and no reset
abbrev pub CubesAreSound : Type 0
CubesAreSound = (n : Netlist) (config : Config) (text : Text) (cubes : List Cube) → cubes_of n config text ≡ Ok cubes → AreCubes n config cubes
