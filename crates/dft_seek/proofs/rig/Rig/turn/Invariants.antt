-- The last bits that are left off are 1.
use Rattle.std.proofs.Common.{◌≡◌, ◌≤◌, length, vec_capacity, vec_len}
use Rattle.dft_faults.specs.declared.fault.Fault.{Fault}
use Rattle.dft_seek.specs.Nodes.{AreAt, AreMarkable, AreOpen}
use Rattle.dft_seek.specs.Turns.{pending}
use Rattle.dft_seek.proofs.rig.Rig.turn.Given as goal

abbrev pub invariant-loop-bit : goal.invariant-loop-bit
invariant-loop-bit l = record {
  marks : AreMarkable l.self l.v;
  opens : (f : Fault) → AreOpen l.self f l.cone.needed.items l.initial.v → AreOpen l.self f l.cone.needed.items l.v;
  at : AreAt l.cone l.bits.items l.v;
  room : vec_capacity l.bits ≡ vec_capacity l.initial.bits;
  few : length l.bits.items ≤ length l.initial.bits.items;
  same : pending l.initial.bits.items ≡ pending l.bits.items;
}

abbrev pub decreases-loop-bit : goal.decreases-loop-bit
decreases-loop-bit l = vec_len l.bits
