-- The ids of the named equations before the place.
use Rattle.std.proofs.Common.{◌≡◌}
use Rattle.dft_base.specs.Solutions.{bit_at, ids_to}
use Rattle.dft_gf2.specs.Rows.{kept_to}
use Rattle.dft_gf2.proofs.system.System.certificate.Given as goal

abbrev pub invariant-loop-place : goal.invariant-loop-place
invariant-loop-place l =
    l.ids.items ≡ ids_to l.place (bit_at l.self-inside.trial.sums) (kept_to l.self-inside.columns l.self-inside.rows l.self-inside.kept)
