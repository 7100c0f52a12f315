-- What a grade says of every run of the design with the fault.
use Rattle.std.specs.Prelude.{ℕ, suc, Bool, not, List, [], ◌∷◌, ◌≡◌, ◌⊎◌}
use Rattle.dft_netlist.specs.Netlist.{Netlist}
use Rattle.dft_netlist.specs.Drivers.{IsOrdered}
use Rattle.dft_behavior.specs.Runs.{Now, Turn}
use Rattle.dft_patterns.specs.Patterns.{Patterns}
use Rattle.dft_replay.specs.declared.verdict.Unknowns.TheVariants.{Skip}
use Rattle.dft_replay.specs.Laws.{IsRunOf}
use Rattle.dft_replay.specs.Plain.{plain_end}
use Rattle.dft_replay.specs.Rows.{Compared, Row, rows_of}
use Rattle.dft_faults.specs.declared.fault.Fault.{Fault}
use Rattle.dft_faults.specs.Faulty.{faulty}
use Rattle.dft_grade.specs.declared.found.Grade.{Grade}
use Rattle.dft_grade.specs.declared.found.Grade.TheVariants.{Detected, Undetected}
use Rattle.dft_grade.specs.Grades.{IsGraded, grade_of}

-- the compared bit of this signal is shown as the opposite of what is printed
abbrev pub ShowsOpposite : (seen : ℕ → Bool) → (signal : ℕ) → List Compared → Type 0
ShowsOpposite seen i [] = ⊥
ShowsOpposite seen i (c ∷ cs) = ((c.signal ≡ i) × (seen c.net ≡ not c.bit)) ⊎ ShowsOpposite seen i cs

-- the strobe of this vector shows the opposite of the printed bit at this signal, the first vector having the number u
abbrev pub FailsAt : (u vector signal : ℕ) → List Row → List Turn → Type 0
FailsAt u v i [] turns = ⊥
FailsAt u v i (x ∷ xs) [] = ⊥
FailsAt u v i (x ∷ xs) (t ∷ ts) = ((u ≡ v) × ShowsOpposite t.strobe.seen i x.compared) ⊎ FailsAt (suc u) v i xs ts

-- Where a fault is detected, in every run of the design with the fault that strobe shows the opposite of the printed bit.
abbrev pub DetectedIsSound : Type 0
DetectedIsSound =
    (n : Netlist) (f : Fault) (rank : ℕ → ℕ) (p : Patterns) (vector signal : ℕ) (start : Now) (turns : List Turn) →
    IsOrdered (faulty n f) rank → IsGraded n p f (Detected vector signal) → IsRunOf (faulty n f) p start turns → FailsAt 0 vector signal (rows_of n p) turns

abbrev pub GradeIsOne : Type 0
GradeIsOne = (n : Netlist) (f : Fault) (rank : ℕ → ℕ) (p : Patterns) (a b : Grade) → IsOrdered (faulty n f) rank → IsGraded n p f a → IsGraded n p f b → a ≡ b

-- A fault has a grade wherever the design with it has an order, and the plain replay gives it.
abbrev pub GradeIsPlain : Type 0
GradeIsPlain = (n : Netlist) (f : Fault) (rank : ℕ → ℕ) (p : Patterns) → IsOrdered (faulty n f) rank → IsGraded n p f (grade_of (plain_end Skip (faulty n f) p))

-- What a grade says of every run of the design with the fault: where it is Detected, the bit that it names is shown as the opposite of what is printed.
abbrev pub FailsInRuns : Netlist → Patterns → Fault → Grade → Type 0
FailsInRuns n p f (Detected vector signal) = (start : Now) (turns : List Turn) → IsRunOf (faulty n f) p start turns → FailsAt 0 vector signal (rows_of n p) turns
FailsInRuns n p f Undetected = Unit {0}
