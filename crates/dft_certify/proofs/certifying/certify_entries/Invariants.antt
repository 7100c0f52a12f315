-- The entries that are left give what all give.
use Rattle.std.proofs.Common.{◌≡◌, drop}
use Rattle.dft_merge.specs.LoadPlan.{columns_by, rows_by}
use Rattle.dft_certify.specs.Certifying.{entries_refusal}
use Rattle.dft_certify.proofs.certifying.certify_entries.Given as goal

abbrev pub invariant-loop-entry : goal.invariant-loop-entry
invariant-loop-entry l =
    entries_refusal l.loads.design l.loads.config.ring (rows_by l.loads) (columns_by l.loads) l.cubes l.number (drop l.entry-index l.entries)
    ≡ entries_refusal l.loads.design l.loads.config.ring (rows_by l.loads) (columns_by l.loads) l.cubes l.first l.entries
