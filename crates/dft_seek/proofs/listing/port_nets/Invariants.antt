-- The nets of the first names.
use Rattle.std.proofs.Common.{◌≡◌, ℕ, take}
use Rattle.dft_faults.specs.Faults.{is_clock_in}
use Rattle.dft_seek.specs.SoughtFaults.{is_named}
use Rattle.dft_seek.proofs.listing.port_nets.Given as goal

abbrev pub invariant-loop-name : goal.invariant-loop-name
invariant-loop-name l = (net : ℕ) → is_clock_in l.nets.items net ≡ is_named l.design (take l.name-index l.names) net
