-- The sums so far, and those of the positions that are left.
use Rattle.std.proofs.Common.{◌≡◌, ◌++◌, drop}
use Rattle.dft_cube_reports.specs.Outcomes.{sums_of}
use Rattle.dft_merge.specs.LoadPlan.{rows_by}
use Rattle.dft_cube_reports.proofs.outcomes.sums_of.Given as goal

abbrev pub invariant-loop-position : goal.invariant-loop-position
invariant-loop-position l =
    l.lines.items ++ sums_of l.loads.design l.loads.config.ring (rows_by l.loads) l.cells (drop l.position-index l.positions) ≡ sums_of l.loads.design l.loads.config.ring (rows_by l.loads) l.cells l.positions
