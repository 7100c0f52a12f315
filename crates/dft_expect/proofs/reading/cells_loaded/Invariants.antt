-- The cells so far.
use Rattle.std.proofs.Common.{◌≡◌, map, slice_get}
use Rattle.std.specs.List.{range_with_len}
use Rattle.dft_expect.specs.Loaded.{or_unknown}
use Rattle.dft_expect.proofs.reading.cells_loaded.Given as goal

abbrev pub invariant-loop-number : goal.invariant-loop-number
invariant-loop-number l = l.cells.items ≡ map (λ number. or_unknown (slice_get l.loaded number)) (range_with_len 0 l.number)
