-- The reports so far, and those of the cubes that are left.
use Rattle.std.proofs.Common.{◌≡◌, ◌++◌, drop}
use Rattle.dft_cube_reports.specs.Outcomes.{cube_reports}
use Rattle.dft_merge.specs.LoadPlan.{rows_by}
use Rattle.dft_cube_reports.proofs.reports.cube_reports.Given as goal

abbrev pub invariant-loop-place : goal.invariant-loop-place
invariant-loop-place l =
    l.reports.items ++ cube_reports l.loads.design l.loads.config.ring (rows_by l.loads) (drop l.place l.cubes) (drop l.place l.placed) ≡ cube_reports l.loads.design l.loads.config.ring (rows_by l.loads) l.cubes l.placed
