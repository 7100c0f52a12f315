-- The rest of the instances gives what all of them give.
use Rattle.std.proofs.Common.{◌≡◌, drop}
use Rattle.dft_rules.specs.Refusals.{first_present}
use Rattle.dft_rules.proofs.checks.check_absent.Given as goal

abbrev pub invariant-loop-instance : goal.invariant-loop-instance
invariant-loop-instance l = first_present l.cells l.instances ≡ first_present l.cells (drop l.instance-index l.instances)
