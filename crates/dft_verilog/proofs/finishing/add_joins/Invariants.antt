use Rattle.std.proofs.Common.{drop}
use Rattle.dft_verilog.proofs.GrowLemmas.{JoinsAhead}
use Rattle.dft_verilog.proofs.finishing.add_joins.Given as goal

abbrev pub invariant-loop-join : goal.invariant-loop-join
invariant-loop-join l = JoinsAhead l.draft l.join-items (drop l.join-index l.join-items) l.initial.builder l.builder
