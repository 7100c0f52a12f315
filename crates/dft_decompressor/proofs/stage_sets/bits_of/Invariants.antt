-- The bits of the stages so far.
use Rattle.std.proofs.Common.{◌≡◌, ◌==◌, map}
use Rattle.std.specs.List.{list_any, range_with_len}
use Rattle.dft_decompressor.proofs.stage_sets.bits_of.Given as goal

abbrev pub invariant-loop-stage : goal.invariant-loop-stage
invariant-loop-stage l = l.bits.items ≡ map (λ stage. list_any (λ other. other == stage) l.set) (range_with_len 0 l.stage)
