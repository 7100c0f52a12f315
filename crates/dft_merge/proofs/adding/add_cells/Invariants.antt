-- The equations before this one were taken.
use Rattle.std.proofs.Common.{◌≡◌, drop}
use Rattle.dft_merge.specs.Placement.{equations_from, equations_of}
use Rattle.dft_merge.specs.LoadPlan.{columns_by, rows_by}
use Rattle.dft_merge.specs.Systems.{IsRun}
use Rattle.dft_merge.proofs.adding.add_cells.Given as goal

abbrev pub invariant-loop-id : goal.invariant-loop-id
invariant-loop-id l = record {
  columns : l.system.columns ≡ columns_by l.loads;
  run : IsRun (columns_by l.loads) l.initial.system.kept (equations_of (rows_by l.loads) l.cells) l.system.kept (equations_from (rows_by l.loads) l.id (drop l.id l.cells));
}
