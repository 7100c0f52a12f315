use Rattle.std.proofs.Common.{◌≡◌, drop}
use Rattle.dft_verilog.specs.FinalNets.{without_number}
use Rattle.dft_verilog.specs.SaidParts.{with_nets}
use Rattle.dft_verilog.proofs.module_nets.add_others.Given as goal

-- the nets ahead are to be added
abbrev pub invariant-loop-net : goal.invariant-loop-net
invariant-loop-net l = with_nets (without_number (drop l.net l.names) (drop l.net l.numbers)) l.made ≡ with_nets (without_number l.names l.numbers) l.initial.made
