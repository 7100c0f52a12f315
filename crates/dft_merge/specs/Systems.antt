-- What a system of equations is to the equations that it was given.
use Rattle.std.specs.Prelude.{ℕ, Bool, ◌≡◌, ◌<◌, ◌≤◌, List, [], ◌∷◌, ◌++◌, length, take, IsSome, IfSome}
use Rattle.dft_base.specs.Solutions.{Equation, equation_at, Solves, IsSum, AllGive, NoneGives, Contradicts, StatesFrom}
use Rattle.dft_gf2.specs.Elimination.{Elimination}

-- each equation has a bit for each column
abbrev pub AreWide : ℕ → List Equation → Type 0
AreWide n es = (j : ℕ) → j < length es → length (equation_at es j).row ≡ n

-- each of these was kept: a certificate that they and others state is stated from them by the others
abbrev pub AreKept : ℕ → List Equation → Type 0
AreKept n kept = (es : List Equation) (ids : List ℕ) → StatesFrom n [] (kept ++ es) ids → StatesFrom n kept es ids

-- the system keeps independent equations with the same solutions as these
pub record IsSystem (n : ℕ) (es : List Equation) (s : Elimination) : Type 0 where
  pub columns : s.columns ≡ n
  pub wide : AreWide n s.kept
  pub kept : AreKept n s.kept
  pub there : (x : ℕ → Bool) → Solves n x s.kept → Solves n x es
  pub back : (x : ℕ → Bool) → Solves n x es → Solves n x s.kept

-- the equation is kept, as its set is no sum of kept sets; or each solution of the kept ones solves it
pub data IsTaken (n : ℕ) (kept : List Equation) (e : Equation) : List Equation → Type 0 where
  IsKept : (IsSum n kept e.row → ⊥) → IsTaken n kept e (kept ++ e ∷ [])
  IsImplied : AllGive n kept e.row e.bit → ((IsSum n kept e.row → ⊥) → ⊥) → (IsSum n kept e.row × NoneGives n kept e.row e.bit → ⊥) → IsTaken n kept e kept

-- no solution of the kept equations solves it, and the system tells that it was refused
pub record IsConflict (n : ℕ) (e : Equation) (old new : Elimination) : Type 0 where
  pub sums : IsSum n old.kept e.row
  pub none : NoneGives n old.kept e.row e.bit
  pub kept : new.kept ≡ old.kept
  pub refused : IfSome new.refused (λ other. other ≡ e)
  pub is : IsSome new.refused

-- Some of the equations were taken one by one, and these are left: the kept ones before stand in front, a solution of what is kept and
-- left is one of what was kept and given, and a certificate that the rest states is one that all state.
pub record IsRun (n : ℕ) (old all now rest : List Equation) : Type 0 where
  pub longer : length old ≤ length now
  pub front : take (length old) now ≡ old
  pub wide : AreWide n old → AreWide n now
  pub kept : AreKept n old → AreKept n now
  pub there : (x : ℕ → Bool) → Solves n x now → Solves n x rest → Solves n x old × Solves n x all
  pub back : (x : ℕ → Bool) → Solves n x old → Solves n x all → Solves n x now × Solves n x rest
  pub states : (ids : List ℕ) → StatesFrom n old all ids → StatesFrom n now rest ids
  pub stated : (ids known : List ℕ) → StatesFrom n old all known → StatesFrom n now rest ids → StatesFrom n old all ids

-- one of the equations contradicts those before it: no solution of the kept ones solves all, and its contradiction is the stated certificate
pub record IsRefused (n : ℕ) (all : List Equation) (old new : Elimination) : Type 0 where
  pub longer : length old.kept ≤ length new.kept
  pub front : take (length old.kept) new.kept ≡ old.kept
  pub none : (x : ℕ → Bool) → Solves n x old.kept → Solves n x all → ⊥
  pub is : IsSome new.refused
  pub stated : IfSome new.refused (λ e. (ids known : List ℕ) → Contradicts n new.kept e ids → StatesFrom n old.kept all known → StatesFrom n old.kept all ids)
