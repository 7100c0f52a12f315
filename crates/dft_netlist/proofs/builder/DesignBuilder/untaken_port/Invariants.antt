use Rattle.std.proofs.Common.{◌≡◌, drop}
use Rattle.dft_netlist.specs.Names.{first_taken, port_names}
use Rattle.dft_netlist.proofs.builder.DesignBuilder.untaken_port.Given as goal

abbrev pub invariant-loop-bit : goal.invariant-loop-bit
invariant-loop-bit l = first_taken l.self (drop l.bit-index l.bits) ≡ first_taken l.self (port_names l.fn.name l.fn.range)
