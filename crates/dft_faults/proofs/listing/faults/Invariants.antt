use Rattle.std.proofs.Common.{◌≡◌}
use Rattle.dft_faults.specs.Faults.{is_clock_in}
use Rattle.dft_faults.proofs.Listed.{first_faults}
use Rattle.dft_faults.proofs.listing.faults.Given as goal

abbrev pub invariant-loop-number : goal.invariant-loop-number
invariant-loop-number l = l.faults.items ≡ first_faults l.design (is_clock_in l.clocks) l.number
