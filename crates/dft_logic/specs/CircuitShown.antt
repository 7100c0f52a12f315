-- What a `Circuit` shows, and what holds of it.
use Rattle.dft_logic.specs.declared.circuit.Circuit.TheInside.{Inside}
use Rattle.dft_logic.specs.Circuit.{Circuit, IsCircuit}

abbrev pub circuit_of : Inside → Circuit
circuit_of d = record {
  order = d.order.items;
  ops = d.ops.items;
  flops = d.flops.items;
  latches = d.latches.items;
  readers = d.readers;
  sources = d.sources;
  leaves = d.leaves;
  cells = d.cells;
  holders = d.holders;
  followers = d.followers;
}

abbrev pub IsSound : Inside → Type 0
IsSound d = IsCircuit (circuit_of d)
