-- The states so far, and the one that comes next.
use Rattle.dft_base.specs.Packed.{packed_bit}
use Rattle.dft_expect.specs.Loaded.{table_of}
use Rattle.dft_expect.specs.States.{IsState, AreStates}
use Rattle.dft_expect.proofs.ring.states.Given as goal

abbrev pub invariant-loop-cycle : goal.invariant-loop-cycle
invariant-loop-cycle l = record {
  so_far : AreStates l.ring (table_of l.ring (packed_bit l.bits)) l.cycle l.states.items;
  now : IsState l.ring (table_of l.ring (packed_bit l.bits)) l.cycle l.state.items;
}
