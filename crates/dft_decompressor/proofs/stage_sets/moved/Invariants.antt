-- The bits of the stages so far.
use Rattle.std.proofs.Common.{◌≡◌, map}
use Rattle.std.specs.List.{range_with_len}
use Rattle.dft_decompressor.specs.StageSets.{moved_bit}
use Rattle.dft_decompressor.proofs.stage_sets.moved.Given as goal

abbrev pub invariant-loop-stage : goal.invariant-loop-stage
invariant-loop-stage l = l.bits.items ≡ map (moved_bit l.taps l.set) (range_with_len 0 l.stage)
