-- The system has the equations of the cells before this one.
use Rattle.std.proofs.Common.{take}
use Rattle.dft_merge.specs.Placement.{equations_of}
use Rattle.dft_merge.specs.LoadPlan.{columns_by, rows_by}
use Rattle.dft_merge.specs.Systems.{IsSystem}
use Rattle.dft_merge.proofs.adding.system_of.Given as goal

abbrev pub invariant-loop-given : goal.invariant-loop-given
invariant-loop-given l = IsSystem (columns_by l.loads) (equations_of (rows_by l.loads) (take l.given-index l.cells)) l.system
