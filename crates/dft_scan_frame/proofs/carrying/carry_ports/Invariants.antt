use Rattle.std.proofs.Common.{drop}
use Rattle.dft_scan_frame.specs.Growing.{port_things, with_things}
use Rattle.dft_scan_frame.proofs.Completing.{Completes}
use Rattle.dft_scan_frame.proofs.carrying.carry_ports.Given as goal

abbrev pub invariant-loop-port : goal.invariant-loop-port
invariant-loop-port l = Completes (with_things l.initial.builder (port_things l.ports)) l.builder (port_things (drop l.port-index l.ports))
