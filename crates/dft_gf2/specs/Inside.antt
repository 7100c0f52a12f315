-- What a system's fields stand for, and what is true of them.
use Rattle.std.specs.Prelude.{true, ◌≡◌, if◌then◌else◌, Some, None}
use Rattle.dft_gf2.specs.Elimination.{Elimination}
use Rattle.dft_gf2.specs.Rows.{IsWide, IsZero, IsEchelon, restored, kept_to}
use Rattle.dft_gf2.specs.declared.system.System.TheInside.{Inside}

-- the equations that the kept rows began from, and the trial's where it was refused
abbrev pub elimination : Inside → Elimination
elimination s =
    let kept = kept_to s.columns s.rows s.kept in
    record { columns = s.columns; kept = kept; refused = if s.refused then Some (restored s.columns kept s.trial) else None }

-- the rows are in echelon form, and a refused trial holds no column and has the bit 1
pub record IsEliminated (s : Inside) : Type 0 where
  pub echelon : IsEchelon s.columns s.rows s.row_of.items s.kept
  pub trial : IsWide s.columns s.trial
  pub zero : s.refused ≡ true → IsZero s.trial × (s.trial.bit ≡ true)
