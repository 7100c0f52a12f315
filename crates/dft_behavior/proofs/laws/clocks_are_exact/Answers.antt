use Rattle.dft_behavior.proofs.ClockWalks.{walk_finds_clock, clock_found, clock_bit, traced_clock}
use Rattle.dft_behavior.proofs.LockupPins.{lockup_by_pin}
use Rattle.dft_behavior.proofs.laws.clocks_are_exact.Goals as goal

pub returns : goal.returns
returns c = record { finds = walk_finds_clock; found = clock_found; bit = clock_bit; lockup = lockup_by_pin; traced = traced_clock }
