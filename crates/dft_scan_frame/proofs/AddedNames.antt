-- What a limit that is not refused says.
use Rattle.std.proofs.Common.{ℕ, ◌≡◌, ◌≤◌, Bool, true, false, None, Some, sym, arith}
use Rattle.std.specs.Prelude.{nat_le, if◌then◌else◌}
use Rattle.std.proofs.lemmas.Bool.Decides.{nat_tests}
use Rattle.std.proofs.lemmas.Option.{none-some}
use Rattle.dft_scan_frame.specs.declared.error.InsertError.{InsertError}

-- ---- limits

pub le_by : (m k : ℕ) (error : InsertError) (b : Bool) → nat_le m k ≡ b → (if b then None else Some error) ≡ None → m ≤ k
le_by m k error true is e = grind (arith, nat_tests)
le_by m k error false is e = absurd (none-some error (sym e))
