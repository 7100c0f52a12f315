-- The stages from here on.
use Rattle.std.proofs.Common.{◌≡◌, drop}
use Rattle.dft_decompressor.specs.Phases.{is_balanced}
use Rattle.dft_decompressor.proofs.taken.is_balanced.Given as goal

abbrev pub invariant-loop-stage : goal.invariant-loop-stage
invariant-loop-stage l = is_balanced l.bound l.sets (drop l.stage-index l.set) ≡ is_balanced l.bound l.sets l.set
