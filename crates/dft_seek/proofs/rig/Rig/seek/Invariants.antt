-- What is left of the search leads to its tree, behind so many dead nodes.
use Rattle.std.proofs.Common.{◌≡◌, ◌≤◌, ◌+◌, ◌∷◌, length, vec_capacity}
use Rattle.dft_seek.specs.Cones.{cone_of}
use Rattle.dft_seek.specs.Nodes.{AreAt, AreOpen}
use Rattle.dft_seek.specs.Rigs.{search_in}
use Rattle.dft_seek.specs.Turns.{pending}
use Rattle.dft_seek.proofs.TurnLemmas.{LeftOf}
use Rattle.dft_seek.proofs.rig.Rig.seek.Given as goal

abbrev pub invariant-loop-dead : goal.invariant-loop-dead
invariant-loop-dead l = record {
  opens : AreOpen l.self l.fault l.cone.needed.items l.values;
  at : AreAt l.cone l.bits.items l.values;
  room : length l.cone.cells.items + length l.cone.ports.items ≤ vec_capacity l.bits;
  few : length l.bits.items ≤ length l.cone.cells.items + length l.cone.ports.items;
  left : LeftOf (search_in l.self l.fault) (cone_of l.cone) l._dead (l.bits.items ∷ pending l.bits.items);
}
