-- The grade of a fault: the first compared bit of the design with the fault that is known to be the opposite of what is printed.
use Rattle.std.specs.Prelude.{ℕ, ◌<◌, List}
use Rattle.dft_netlist.specs.Netlist.{Netlist}
use Rattle.dft_patterns.specs.Patterns.{Patterns}
use Rattle.dft_replay.specs.declared.verdict.Unknowns.TheVariants.{Skip}
use Rattle.dft_replay.specs.declared.verdict.Verdict.{Verdict}
use Rattle.dft_replay.specs.declared.verdict.Verdict.TheVariants.{Pass, Mismatch, Undetermined}
use Rattle.dft_replay.specs.Rows.{ports_of}
use Rattle.dft_replay.specs.Verdicts.{EndsAt}
use Rattle.dft_faults.specs.declared.fault.Fault.{Fault}
use Rattle.dft_faults.specs.Faults.{faults}
use Rattle.dft_faults.specs.Faulty.{faulty}
use Rattle.dft_grade.specs.declared.found.Grade.{Grade}
use Rattle.dft_grade.specs.declared.found.Grade.TheVariants.{Detected, Undetected}

-- The grade of a design under patterns, by a replay that passes over unknown bits: Detected at the first compared bit, by vectors and then by signals, that
-- is known to be the opposite of what is printed; Undetected where the replay comes to its end.
abbrev pub HasGrade : Netlist → Patterns → Grade → Type 0
HasGrade n p (Detected vector signal) = EndsAt Skip n p (Mismatch vector signal)
HasGrade n p Undetected = (compared : ℕ) × EndsAt Skip n p (Pass compared)

-- The grade of a fault is that of the design with it, with the ports of the patterns.
abbrev pub IsGraded : Netlist → Patterns → Fault → Grade → Type 0
IsGraded n p f grade = HasGrade (faulty n f) p grade

-- The faults of a design under patterns: the clock ports are those of the patterns.
abbrev pub faults_of : Netlist → Patterns → List Fault
faults_of n p = faults n (ports_of n p).is_clock

-- the grade that a replay comes to; one that passes over unknown bits is never Undetermined
abbrev pub grade_of : Verdict → Grade
grade_of (Pass compared) = Undetected
grade_of (Mismatch vector signal) = Detected vector signal
grade_of (Undetermined vector signal) = Undetected

-- a grade's vector and signal are among the vectors and the signals
abbrev pub IsPlaced : (vectors signals : ℕ) → Grade → Type 0
IsPlaced vectors signals (Detected vector signal) = (vector < vectors) × (signal < signals)
IsPlaced vectors signals Undetected = Unit {0}
