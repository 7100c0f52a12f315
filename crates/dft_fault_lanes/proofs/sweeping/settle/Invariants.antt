-- The nets before this one are settled.
use Rattle.dft_fault_lanes.specs.Lanes.{situation_of}
use Rattle.dft_fault_lanes.proofs.Settling.{Settling}
use Rattle.dft_fault_lanes.proofs.sweeping.settle.Given as goal

abbrev pub invariant-loop-net : goal.invariant-loop-net
invariant-loop-net l = Settling l.circuit.ops (situation_of l.setting) l.nets l.wides l.net-index
