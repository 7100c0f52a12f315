-- What the passes with more slack lead to, all passes do.
use Rattle.std.proofs.Common.{◌-◌}
use Rattle.dft_decompressor.proofs.PassLemmas.{LeadsTo}
use Rattle.dft_decompressor.proofs.shifter.phases.Given as goal

abbrev pub invariant-loop-slack : goal.invariant-loop-slack
invariant-loop-slack l = LeadsTo l.stages l.chains 4 l.slack (4 - l.slack)
