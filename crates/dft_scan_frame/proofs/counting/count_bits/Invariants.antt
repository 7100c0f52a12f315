-- The bits so far, and those of the rest.
use Rattle.std.proofs.Common.{◌≡◌, ◌+◌, drop, length}
use Rattle.dft_netlist.specs.Sound.{bits_of}
use Rattle.dft_scan_frame.proofs.counting.count_bits.Given as goal

abbrev pub invariant-loop-port : goal.invariant-loop-port
invariant-loop-port l = l.count + length (bits_of (drop l.port-index l.ports)) ≡ length (bits_of l.ports)
