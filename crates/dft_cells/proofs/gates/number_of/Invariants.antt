-- The inputs so far, and the rest times the weight.
use Rattle.std.proofs.Common.{◌≡◌, ◌<◌, ◌+◌, ◌*◌, ◌^◌, drop}
use Rattle.dft_cells.specs.Gates.{number_of}
use Rattle.dft_cells.proofs.gates.number_of.Given as goal

abbrev pub invariant-loop-input : goal.invariant-loop-input
invariant-loop-input l = record {
  number : number_of l.inputs ≡ l.number + l.weight * number_of (drop l.input-index l.inputs);
  weight : l.weight ≡ 2 ^ l.input-index;
  small : l.number < l.weight;
}
