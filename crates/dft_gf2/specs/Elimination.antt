-- What a caller sees of a system: its columns, the kept equations, and the one that was refused last.
use Rattle.std.specs.Prelude.{ℕ, List, [], ◌∷◌, ◌++◌, Option, Some, None}
use Rattle.dft_base.specs.Solutions.{Equation}
use Rattle.dft_gf2.specs.declared.system.Outcome.{Outcome}
use Rattle.dft_gf2.specs.declared.system.Outcome.TheVariants.{Kept, Implied, Conflict}

-- the number of columns, the kept equations in order, and the equation that the last call refused as a conflict
pub record Elimination : Type 0 where
  pub columns : ℕ
  pub kept : List Equation
  pub refused : Option Equation

-- the kept equations after this outcome of the equation
abbrev pub kept_after : Equation → List Equation → Outcome → List Equation
kept_after e kept Kept = kept ++ e ∷ []
kept_after e kept Implied = kept
kept_after e kept Conflict = kept

-- the refused equation after this outcome
abbrev pub refused_after : Equation → Outcome → Option Equation
refused_after e Kept = None
refused_after e Implied = None
refused_after e Conflict = Some e

-- what the system is after this outcome of the equation
abbrev pub After : Equation → Outcome → Elimination → Elimination
After e outcome s = record { columns = s.columns; kept = kept_after e s.kept outcome; refused = refused_after e outcome }
