-- Ports of modules by their names, and the connection that is told where it fits no port.
use Rattle.std.specs.Prelude.{ℕ, ◌≡◌, List, [], length, Option, Some, MatchOption, slice_get, slice_index_or}
use Rattle.dft_hier.specs.declared.error.HierError.{HierError}
use Rattle.dft_hier.specs.declared.error.HierError.TheVariants as told
use Rattle.dft_modules.specs.declared.connections.Connection.{Connection}
use Rattle.dft_modules.specs.Modules.{Module}
use Rattle.dft_numbered.specs.Numbers.{Entry, Finds}
use Rattle.dft_hier.specs.Numbers.{port_names}

-- the ports of each module are found by their names
pub record ArePortsFound (ms : List Module) (ports : List (List Entry)) : Type 0 where
  pub count : length ports ≡ length ms
  pub each : (number : ℕ) (m : Module) → slice_get ms number ≡ Some m → Finds (slice_index_or ports number []) (port_names m.ports)

-- a connection that fits no port is told by its place and its port's name
abbrev pub TellsMisfit : Option Connection → HierError → Type 0
TellsMisfit misfit (told.H5 place name) = MatchOption misfit ⊥ (λ c. (place ≡ c.place) × (name ≡ c.port))
TellsMisfit misfit (told.Memory error) = Unit {0}
TellsMisfit misfit _ = ⊥
