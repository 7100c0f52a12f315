-- The lines that are left give what all give.
use Rattle.std.proofs.Common.{◌≡◌, [], drop}
use Rattle.dft_merge.specs.LoadPlan.{rows_by}
use Rattle.dft_certify.specs.Certifying.{sums_refusal}
use Rattle.dft_certify.proofs.sums.take_sums.Given as goal

abbrev pub invariant-loop-line : goal.invariant-loop-line
invariant-loop-line l =
    sums_refusal l.loads.design l.loads.config.ring (rows_by l.loads) l.cells l.before l.number (drop l.line-index l.lines) ≡ sums_refusal l.loads.design l.loads.config.ring (rows_by l.loads) l.cells [] l.first l.lines
