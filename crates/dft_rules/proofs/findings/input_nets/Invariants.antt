-- The rest of the names gives what all of them give.
use Rattle.std.proofs.Common.{◌≡◌, ◌++◌, Some, map, drop}
use Rattle.dft_rules.specs.Refusals.{unknown_port}
use Rattle.dft_netlist.specs.Connections.{input_net}
use Rattle.dft_rules.proofs.findings.input_nets.Given as goal

abbrev pub invariant-loop-name : goal.invariant-loop-name
invariant-loop-name l = record {
  same : unknown_port l.design l.names ≡ unknown_port l.design (drop l.name-index l.names);
  found : map (input_net l.design) l.names ≡ map Some l.nets.items ++ map (input_net l.design) (drop l.name-index l.names);
}
