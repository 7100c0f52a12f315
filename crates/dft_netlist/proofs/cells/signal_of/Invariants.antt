-- The rest of the pins gives what all of them give.
use Rattle.std.proofs.Common.{◌≡◌, drop, find}
use Rattle.dft_netlist.specs.Drivers.{connections_from, connections_of, shape_of}
use Rattle.dft_netlist.specs.Connections.{same_role}
use Rattle.dft_netlist.proofs.cells.signal_of.Given as goal

abbrev pub invariant-loop-pin : goal.invariant-loop-pin
invariant-loop-pin l =
    find (λ c. same_role l.role c.role) (connections_of l.cells l.instance)
    ≡ find (λ c. same_role l.role c.role) (connections_from l.pin (drop l.pin (shape_of l.cells l.instance.cell).roles) (drop l.pin l.instance.pins))
