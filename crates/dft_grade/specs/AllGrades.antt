-- The grades of all faults of a design under patterns.
use Rattle.std.specs.Prelude.{ℕ, ◌≡◌, List, map}
use Rattle.std.specs.List.{AllByRecursion}
use Rattle.dft_netlist.specs.Netlist.{Netlist}
use Rattle.dft_netlist.specs.Drivers.{IsOrdered}
use Rattle.dft_patterns.specs.Patterns.{Patterns}
use Rattle.dft_faults.specs.declared.fault.Fault.{Fault}
use Rattle.dft_grade.specs.declared.found.Graded.{Graded}
use Rattle.dft_grade.specs.Grades.{IsGraded, faults_of}
use Rattle.dft_grade.specs.Laws.{FailsInRuns}

abbrev pub faults_in : List Graded → List Fault
faults_in graded = map (λ g. g.fault) graded

-- each of these faults has the grade beside it
abbrev pub AllGraded : Netlist → Patterns → List Graded → Type 0
AllGraded n p graded = AllByRecursion (λ g. IsGraded n p g.fault g.grade) graded

-- These are the faults of the design under the patterns, in order, each with its grade.
pub record AreGrades (n : Netlist) (p : Patterns) (graded : List Graded) : Type 0 where
  pub faults : faults_in graded ≡ faults_of n p
  pub each : AllGraded n p graded

-- every run of the design with a detected fault shows the opposite of the printed bit that its grade names
abbrev pub AllFail : Netlist → Patterns → List Graded → Type 0
AllFail n p graded = AllByRecursion (λ g. FailsInRuns n p g.fault g.grade) graded

-- ---- laws

abbrev pub GradesAreOne : Type 0
GradesAreOne = (n : Netlist) (rank : ℕ → ℕ) (p : Patterns) (a b : List Graded) → IsOrdered n rank → AreGrades n p a → AreGrades n p b → a ≡ b

-- The faults have grades wherever the nets of the design have an order.
abbrev pub GradesAreThere : Type 0
GradesAreThere = (n : Netlist) (rank : ℕ → ℕ) (p : Patterns) → IsOrdered n rank → (graded : List Graded) × AreGrades n p graded

abbrev pub AllFailInRuns : Type 0
AllFailInRuns = (n : Netlist) (rank : ℕ → ℕ) (p : Patterns) (graded : List Graded) → IsOrdered n rank → AreGrades n p graded → AllFail n p graded
