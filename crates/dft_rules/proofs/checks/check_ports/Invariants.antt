-- The rest of the ports gives what all of them give.
use Rattle.std.proofs.Common.{◌≡◌, drop}
use Rattle.dft_rules.specs.Refusals.{quoted_port}
use Rattle.dft_rules.proofs.checks.check_ports.Given as goal

abbrev pub invariant-loop-port : goal.invariant-loop-port
invariant-loop-port l = quoted_port l.ports ≡ quoted_port (drop l.port-index l.ports)
