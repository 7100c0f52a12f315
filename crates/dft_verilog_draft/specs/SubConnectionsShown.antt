-- What `SubConnections` shows, and what holds of it.
use Rattle.std.specs.Prelude.{◌≡◌, List, map}
use Rattle.dft_modules.specs.SubInstances as spec
use Rattle.dft_verilog_draft.specs.declared.sub_connections.SubConnections.TheInside.{Inside}

abbrev pub connections_of : Inside → List spec.SubConnection
connections_of c = c.connections.items

-- the set has the names of the ports
abbrev pub HasPorts : Inside → Type 0
HasPorts c = c.ports ≡ map (λ (e : spec.SubConnection). e.port) c.connections.items
