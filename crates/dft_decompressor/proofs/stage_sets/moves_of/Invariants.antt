-- The moves so far, and those of the last set.
use Rattle.std.proofs.Common.{◌≡◌, ◌++◌, ◌-◌}
use Rattle.dft_decompressor.specs.StageSets.{moves_from, moves_of}
use Rattle.dft_decompressor.proofs.stage_sets.moves_of.Given as goal

abbrev pub invariant-loop-cycle : goal.invariant-loop-cycle
invariant-loop-cycle l = l.moves.items ++ moves_from l.taps (l.stages - l._cycle) l.last ≡ moves_of l.stages l.taps l.set
