-- The nets that are left.
use Rattle.std.proofs.Common.{◌≡◌, length, drop}
use Rattle.dft_netlist_text.specs.NetlistText.{add_nets}
use Rattle.dft_hier.proofs.flattening.add_other_nets.Given as goal

abbrev pub invariant-loop-number : goal.invariant-loop-number
invariant-loop-number l = add_nets (drop l.number l.names) l.builder ≡ add_nets (drop (length l.initial.builder.nets) l.names) l.initial.builder
