use Rattle.std.proofs.Common.{drop}
use Rattle.dft_scan_frame.specs.Growing.{net_things, with_things}
use Rattle.dft_scan_frame.proofs.Completing.{Completes}
use Rattle.dft_scan_frame.proofs.carrying.carry_nets.Given as goal

abbrev pub invariant-loop-net : goal.invariant-loop-net
invariant-loop-net l = Completes (with_things l.initial.builder (net_things (drop l.first l.design.nets))) l.builder (net_things (drop l.net l.design.nets))
