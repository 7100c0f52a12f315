-- The last ports so far.
use Rattle.std.proofs.Common.{drop, length, ◌-◌}
use Rattle.dft_expect.specs.Sources.{ArePortsSet, IsSame}
use Rattle.dft_expect.proofs.sources.set_ports.Given as goal

abbrev pub invariant-loop-done : goal.invariant-loop-done
invariant-loop-done l = record {
  same : IsSame l.initial.evaluator l.evaluator;
  set : ArePortsSet l.settings l.pattern (drop (length l.ports - l.done) l.ports) l.initial.evaluator l.evaluator;
}
