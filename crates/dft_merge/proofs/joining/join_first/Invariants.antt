-- The slots are the patterns', which are as they were, and none before this one fits the cube.
use Rattle.std.proofs.Common.{◌≡◌, ◌+◌}
use Rattle.dft_merge.specs.LoadPlan.{columns_by, rows_by}
use Rattle.dft_merge.specs.Slots.{AreSlots, NoneFrom}
use Rattle.dft_merge.proofs.joining.join_first.Given as goal

abbrev pub invariant-loop-place : goal.invariant-loop-place
invariant-loop-place l = record {
  slots : AreSlots (columns_by l.loads) (rows_by l.loads) l.first l.patterns l.slots;
  same : l.patterns ≡ l.initial.patterns;
  before : NoneFrom (columns_by l.loads) (rows_by l.loads) l.first l.initial.patterns l.cube (l.first + l.place);
}
