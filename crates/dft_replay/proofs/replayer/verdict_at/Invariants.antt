-- A verdict on what is left is the verdict on all.
use Rattle.std.proofs.Common.{◌≡◌, ◌≤◌, ◌*◌, length, drop, map}
use Rattle.dft_behavior.specs.Logic.{logic_of}
use Rattle.dft_netlist.specs.Orders.{numbers_of}
use Rattle.dft_abstract.specs.Cycle.{all_unknown}
use Rattle.dft_cycle.specs.Machine.{value_at}
use Rattle.dft_cycle.specs.MachineLaws.{IsForced}
use Rattle.dft_replay.specs.declared.verdict.Verdict.{Verdict}
use Rattle.dft_replay.specs.Looks.{HasRoom}
use Rattle.dft_replay.specs.Rows.{rows_from, ports_in}
use Rattle.dft_replay.specs.Vectors.{net_at, clocks_of}
use Rattle.dft_replay.specs.Verdicts.{EndsFrom}
use Rattle.dft_replay.proofs.replayer.verdict_at.Given as goal

abbrev pub invariant-loop-vector : goal.invariant-loop-vector
invariant-loop-vector l = record {
  netlist : l.machine.netlist ≡ l.design;
  clocks : l.machine.clocks ≡ map (net_at l.nets) (clocks_of (length l.nets) l.vectors);
  forced : IsForced l.machine;
  room : HasRoom (length l.clocks.items) (length l.nets) l.room;
  rest : (verdict : Verdict) → EndsFrom l.unknowns (logic_of l.design (ports_in (numbers_of l.nets) l.vectors)) (value_at l.machine.cells) l.vector l.compared (rows_from (numbers_of l.nets) (value_at l.machine.inputs) (drop l.vector l.vectors)) verdict
      → EndsFrom l.unknowns (logic_of l.design (ports_in (numbers_of l.nets) l.vectors)) all_unknown 0 0 (rows_from (numbers_of l.nets) all_unknown l.vectors) verdict;
  few : l.compared ≤ l.vector * length l.nets;
}
