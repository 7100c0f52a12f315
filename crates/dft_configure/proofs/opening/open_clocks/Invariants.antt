-- The clocks of the instances so far.
use Rattle.std.proofs.Common.{◌≡◌, map}
use Rattle.std.specs.List.{range_with_len}
use Rattle.dft_configure.specs.Roots.{open_clock}
use Rattle.dft_configure.specs.Found.{numbers_of}
use Rattle.dft_configure.proofs.opening.open_clocks.Given as goal

abbrev pub invariant-loop-number : goal.invariant-loop-number
invariant-loop-number l = numbers_of l.clocks.items ≡ map (open_clock l.design) (range_with_len 0 l.number)
