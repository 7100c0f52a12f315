-- The written form of a fault report: one text for each.
use Rattle.std.specs.Prelude.{ℕ, Bool, true, false, List, [], ◌∷◌, ◌++◌, length, flat_map, slice_get, Option, None, Some, codes, decimal}
use Rattle.std.specs.List.{sum_by}
use Rattle.dft_base.specs.Lexing.{Text}
use Rattle.dft_netlist.specs.Netlist.{Netlist}
use Rattle.dft_patterns.specs.declared.signal.StilSignal.{StilSignal}
use Rattle.dft_patterns.specs.Patterns.{Patterns}
use Rattle.dft_grade.specs.declared.found.Grade.{Grade}
use Rattle.dft_grade.specs.declared.found.Grade.TheVariants.{Detected, Undetected}
use Rattle.dft_grade.specs.declared.found.Graded.{Graded}
use Rattle.dft_grade_report.specs.declared.counting.Counts.{Counts}
use Rattle.dft_grade_report.specs.Counted.{counts_of}

-- ---- names

abbrev pub text_of : Option Text → Text
text_of None = []
text_of (Some name) = name

-- the name of the net with a number; there is one with each number that a fault has
abbrev pub net_name : Netlist → (net : ℕ) → Text
net_name n net = text_of (slice_get n.nets net)

abbrev pub name_of : Option StilSignal → Text
name_of None = []
name_of (Some signal) = signal.name

-- the name of the signal with a number; there is one with each number that a grade has
abbrev pub signal_name : List StilSignal → (signal : ℕ) → Text
signal_name signals signal = name_of (slice_get signals signal)

-- ---- lines

abbrev pub bit_text : Bool → Text
bit_text false = codes " 0"
bit_text true = codes " 1"

abbrev pub detected_text : (vector : ℕ) → (signal : Text) → Text
detected_text vector signal = codes " detected vector " ++ (decimal vector ++ (codes " signal " ++ (signal ++ codes "\n")))

abbrev pub grade_text : List StilSignal → Grade → Text
grade_text signals (Detected vector signal) = detected_text vector (signal_name signals signal)
grade_text signals Undetected = codes " undetected\n"

-- a fault by the name of its net and its bit, and its grade
unfoldable pub fault_line : Netlist → List StilSignal → Graded → Text
fault_line n signals g = codes "fault " ++ (net_name n g.fault.net.0 ++ (bit_text g.fault.value ++ grade_text signals g.grade))

-- the first line, and the counts
unfoldable pub head_text : Counts → Text
head_text counts =
    codes "fault report 1\nfaults " ++ (decimal counts.faults ++ (codes " detected " ++ (decimal counts.detected ++ (codes " undetected " ++ (decimal counts.undetected ++ codes "\n")))))

-- the bytes of the lines of faults
abbrev pub lines_length : Netlist → List StilSignal → List Graded → ℕ
lines_length n signals graded = sum_by (λ g. length (fault_line n signals g)) graded

-- ---- the report

abbrev pub report_text : Netlist → Patterns → List Graded → Text
report_text n p graded = head_text (counts_of graded) ++ flat_map (fault_line n p.signals) graded
