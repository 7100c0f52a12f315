-- The resets of the instances so far stand behind the others.
use Rattle.std.proofs.Common.{◌≡◌, ◌++◌, map}
use Rattle.std.specs.List.{range_with_len}
use Rattle.dft_configure.specs.Roots.{open_reset}
use Rattle.dft_configure.specs.Found.{numbers, numbers_of}
use Rattle.dft_configure.proofs.opening.add_resets.Given as goal

abbrev pub invariant-loop-number : goal.invariant-loop-number
invariant-loop-number l = numbers_of l.resets.items ≡ numbers_of l.fn.resets.items ++ map (open_reset l.design (numbers l.domains) l.hold) (range_with_len 0 l.number)
