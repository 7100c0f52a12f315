-- The cells that are left have the first unscanned one of all.
use Rattle.std.proofs.Common.{◌≡◌, drop}
use Rattle.dft_merge.specs.Placement.{first_unscanned}
use Rattle.dft_merge.specs.LoadPlan.{rows_by}
use Rattle.dft_merge.proofs.loads.Loads.first_unscanned.Given as goal

abbrev pub invariant-loop-given : goal.invariant-loop-given
invariant-loop-given l = first_unscanned (rows_by l.self) (drop l.given-index l.cells) ≡ first_unscanned (rows_by l.self) l.cells
