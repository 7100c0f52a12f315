use Rattle.std.proofs.Common.{drop}
use Rattle.dft_verilog.proofs.SaidPartLemmas.{NumbersToGive}
use Rattle.dft_verilog.proofs.module_nets.all_numbers.Given as goal

abbrev pub invariant-loop-number : goal.invariant-loop-number
invariant-loop-number l = NumbersToGive l.numbers (drop l.number-index l.numbers) l.fn.first l.next l.finals.items
