-- The nodes that are gone to so far.
use Rattle.std.proofs.Common.{ℕ, ◌≡◌, ◌≤◌, ◌+◌, ◌∷◌, List, Bool, Option, length, vec_capacity}
use Rattle.dft_seek.specs.Cones.{cone_of}
use Rattle.dft_seek.specs.Nodes.{AreAt, AreOpen}
use Rattle.dft_seek.specs.Rigs.{search_in}
use Rattle.dft_seek.specs.Turns.{Forest, pending}
use Rattle.dft_seek.proofs.rig.Rig.descend.Given as goal

abbrev pub invariant-loop-depth : goal.invariant-loop-depth
invariant-loop-depth l = record {
  opens : AreOpen l.self l.fault l.cone.needed.items l.v;
  at : AreAt l.cone l.bits.items l.v;
  room : vec_capacity l.bits ≡ vec_capacity l.initial.bits;
  few : length l.bits.items ≤ length l.cone.cells.items + length l.cone.ports.items;
  more : l._depth ≤ length l.bits.items;
  leads : (dead : ℕ) (cube : Option (List Bool)) → Forest (search_in l.self l.fault) (cone_of l.cone) (l.bits.items ∷ pending l.bits.items) dead cube → Forest (search_in l.self l.fault) (cone_of l.cone) (l.initial.bits.items ∷ pending l.initial.bits.items) dead cube;
}
