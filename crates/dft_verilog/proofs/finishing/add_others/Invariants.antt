use Rattle.std.proofs.Common.{drop}
use Rattle.dft_verilog.proofs.GrowLemmas.{NumbersOthers}
use Rattle.dft_verilog.proofs.finishing.add_others.Given as goal

abbrev pub invariant-loop-net : goal.invariant-loop-net
invariant-loop-net l = NumbersOthers l.names l.numbers (drop l.net l.names) (drop l.net l.numbers) l.initial.builder l.builder l.finals.items
