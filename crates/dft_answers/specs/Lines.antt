-- The line that a command prints, with the line's end; a generated job has two.
use Rattle.std.specs.Prelude.{ℕ, ℤ, List, [], ◌∷◌, ◌++◌, codes, Option, None, Some}
use Rattle.std.specs.Fmt.{decimal, signed_decimal}
use Rattle.dft_base.specs.declared.place.Place.{Place}
use Rattle.dft_scan.specs.declared.texts.Counts.{Counts}
use Rattle.dft_compile.specs.declared.texts.Counts as compiled
use Rattle.dft_configuring.specs.declared.counting.MadeCounts.{MadeCounts}
use Rattle.dft_seeking.specs.declared.counting.SeekCounts.{SeekCounts}
use Rattle.dft_answers.specs.declared.answer.Code.{Code}
use Rattle.dft_answers.specs.declared.answer.Code.TheVariants.{F1, L1, L2, L3, L4, L5, L6, L7, C1, C2, C3, C4, C5, C6, V1, V2, V3, V5, V6, V7, V9, V10, V11, V12, H1, H2, H3, H4, H5, N1, N2, N3, N4, G1, G2, G3, G4, G5, G6, G7, P1, P2, P3, P4, P5, P6, P7, P8, P9, P10, Q1, Q2, Q3, Q4, Q5, Q6, Q7, Q8, Q9, K1, K2, K3, K4, K5, K6, X1, X2, X3, X4}
use Rattle.dft_answers.specs.declared.answer.Refusal.{Refusal}
use Rattle.dft_answers.specs.declared.outcome.Outcome.{Outcome}
use Rattle.dft_answers.specs.declared.outcome.Outcome.TheVariants.{Usage, Refused, Finished}
use Rattle.dft_answers.specs.declared.outcome.Replayed.{Replayed}
use Rattle.dft_answers.specs.declared.outcome.Replayed.TheVariants as replayed
use Rattle.dft_answers.specs.declared.outcome.Work.{Work}
use Rattle.dft_answers.specs.declared.outcome.Work.TheVariants as work

abbrev pub code_text : Code → List ℕ
code_text F1 = codes "F1"
code_text L1 = codes "L1"
code_text L2 = codes "L2"
code_text L3 = codes "L3"
code_text L4 = codes "L4"
code_text L5 = codes "L5"
code_text L6 = codes "L6"
code_text L7 = codes "L7"
code_text C1 = codes "C1"
code_text C2 = codes "C2"
code_text C3 = codes "C3"
code_text C4 = codes "C4"
code_text C5 = codes "C5"
code_text C6 = codes "C6"
code_text V1 = codes "V1"
code_text V2 = codes "V2"
code_text V3 = codes "V3"
code_text V5 = codes "V5"
code_text V6 = codes "V6"
code_text V7 = codes "V7"
code_text V9 = codes "V9"
code_text V10 = codes "V10"
code_text V11 = codes "V11"
code_text V12 = codes "V12"
code_text H1 = codes "H1"
code_text H2 = codes "H2"
code_text H3 = codes "H3"
code_text H4 = codes "H4"
code_text H5 = codes "H5"
code_text N1 = codes "N1"
code_text N2 = codes "N2"
code_text N3 = codes "N3"
code_text N4 = codes "N4"
code_text G1 = codes "G1"
code_text G2 = codes "G2"
code_text G3 = codes "G3"
code_text G4 = codes "G4"
code_text G5 = codes "G5"
code_text G6 = codes "G6"
code_text G7 = codes "G7"
code_text P1 = codes "P1"
code_text P2 = codes "P2"
code_text P3 = codes "P3"
code_text P4 = codes "P4"
code_text P5 = codes "P5"
code_text P6 = codes "P6"
code_text P7 = codes "P7"
code_text P8 = codes "P8"
code_text P9 = codes "P9"
code_text P10 = codes "P10"
code_text Q1 = codes "Q1"
code_text Q2 = codes "Q2"
code_text Q3 = codes "Q3"
code_text Q4 = codes "Q4"
code_text Q5 = codes "Q5"
code_text Q6 = codes "Q6"
code_text Q7 = codes "Q7"
code_text Q8 = codes "Q8"
code_text Q9 = codes "Q9"
code_text K1 = codes "K1"
code_text K2 = codes "K2"
code_text K3 = codes "K3"
code_text K4 = codes "K4"
code_text K5 = codes "K5"
code_text K6 = codes "K6"
code_text X1 = codes "X1"
code_text X2 = codes "X2"
code_text X3 = codes "X3"
code_text X4 = codes "X4"

-- ---- the parts of a refusal, each behind a blank

-- a place as its line, a colon and its column
abbrev pub place_part : Option Place → List ℕ
place_part None = []
place_part (Some place) = codes " " ++ (decimal place.line ++ (codes ":" ++ decimal place.column))

abbrev pub name_part : Option (List ℕ) → List ℕ
name_part None = []
name_part (Some name) = 32 ∷ name

abbrev pub number_part : Option ℤ → List ℕ
number_part None = []
number_part (Some number) = codes " " ++ signed_decimal number

-- ---- lines

abbrev pub usage_line : List ℕ
usage_line = codes "usage: dft replay, scan, compile, certify, generate, grade, seek or configure, each option once as --name value\n"

abbrev pub refused_line : Refusal → List ℕ
refused_line refusal =
    codes "refused " ++ (code_text refusal.code ++ (place_part refusal.place ++ (name_part refusal.name ++ (number_part refusal.first ++ (number_part refusal.second ++ codes "\n")))))

abbrev pub passed_line : (vectors compared : ℕ) → List ℕ
passed_line vectors compared = codes "pass " ++ (decimal vectors ++ (codes " vectors " ++ (decimal compared ++ codes " compared\n")))

abbrev pub failed_line : (what : List ℕ) → (vector : ℕ) → (signal : List ℕ) → List ℕ
failed_line what vector signal = what ++ (codes " vector " ++ (decimal vector ++ (codes " signal " ++ (signal ++ codes "\n"))))

abbrev pub scanned_line : Counts → List ℕ
scanned_line counts =
    codes "scanned cells " ++ (decimal counts.cells ++ (codes " unscanned " ++ (decimal counts.unscanned ++ (codes " chains " ++ (decimal counts.chains ++ (codes " lockups " ++ (decimal counts.lockups ++ codes "\n")))))))

-- the cells, the chains, the cycles of a load, the patterns
abbrev pub load_part : compiled.Counts → List ℕ
load_part counts =
    codes "compiled cells " ++ (decimal counts.cells ++ (codes " chains " ++ (decimal counts.chains ++ (codes " cycles " ++ (decimal counts.cycles ++ (codes " patterns " ++ decimal counts.patterns))))))

-- what became of the cubes
abbrev pub fate_part : compiled.Counts → List ℕ
fate_part counts = codes " encoded " ++ (decimal counts.encoded ++ (codes " unsolvable " ++ (decimal counts.unsolvable ++ (codes " skipped " ++ decimal counts.skipped))))

-- the masked chains, and the vectors
abbrev pub vector_part : compiled.Counts → List ℕ
vector_part counts = codes " masked " ++ (decimal counts.masked ++ (codes " vectors " ++ decimal counts.vectors))

abbrev pub compiled_line : compiled.Counts → List ℕ
compiled_line counts = load_part counts ++ (fate_part counts ++ (vector_part counts ++ codes "\n"))

abbrev pub certified_line : (unsolvable : ℕ) → List ℕ
certified_line unsolvable = codes "certified " ++ (decimal unsolvable ++ codes " cubes\n")

abbrev pub graded_line : (faults detected undetected : ℕ) → List ℕ
graded_line faults detected undetected =
    codes "graded faults " ++ (decimal faults ++ (codes " detected " ++ (decimal detected ++ (codes " undetected " ++ (decimal undetected ++ codes "\n")))))

-- the flip-flops, the clocks and the resets of a made configuration
abbrev pub flip_flop_part : MadeCounts → List ℕ
flip_flop_part counts =
    codes "configured cells " ++ (decimal counts.cells ++ (codes " unscanned " ++ (decimal counts.unscanned ++ (codes " domains " ++ (decimal counts.domains ++ (codes " resets " ++ decimal counts.resets))))))

-- its chains, the cells of the longest, the stages of the ring and the channels
abbrev pub chain_part : MadeCounts → List ℕ
chain_part counts =
    codes " chains " ++ (decimal counts.chains ++ (codes " longest " ++ (decimal counts.longest ++ (codes " stages " ++ (decimal counts.stages ++ (codes " channels " ++ decimal counts.channels))))))

-- the outputs, the masks, the warm cycles and those of a load
abbrev pub output_part : MadeCounts → List ℕ
output_part counts =
    codes " outputs " ++ (decimal counts.outputs ++ (codes " masks " ++ (decimal counts.masks ++ (codes " warm " ++ (decimal counts.warm ++ (codes " cycles " ++ decimal counts.cycles))))))

abbrev pub configured_line : MadeCounts → List ℕ
configured_line counts = flip_flop_part counts ++ (chain_part counts ++ (output_part counts ++ codes "\n"))

abbrev pub sought_line : SeekCounts → List ℕ
sought_line counts =
    codes "seek faults " ++ (decimal counts.faults ++ (codes " cubes " ++ (decimal counts.cubes ++ (codes " not-testable " ++ (decimal counts.not_testable ++ (codes " aborted " ++ (decimal counts.aborted ++ codes "\n")))))))

-- what a replay comes to
abbrev pub replayed_line : Replayed → List ℕ
replayed_line (replayed.Passed vectors compared) = passed_line vectors compared
replayed_line (replayed.Mismatch vector signal) = failed_line (codes "mismatch") vector signal
replayed_line (replayed.Undetermined vector signal) = failed_line (codes "undetermined") vector signal

-- the line of the compilation, and then that of the replay
abbrev pub generated_lines : compiled.Counts → Replayed → List ℕ
generated_lines counts replay = compiled_line counts ++ replayed_line replay

-- what a command did
abbrev pub work_line : Work → List ℕ
work_line (work.Replayed replay) = replayed_line replay
work_line (work.Scanned counts netlist report) = scanned_line counts
work_line (work.Compiled counts netlist patterns report) = compiled_line counts
work_line (work.Certified unsolvable) = certified_line unsolvable
work_line (work.Generated counts replay) = generated_lines counts replay
work_line (work.Graded faults detected undetected report) = graded_line faults detected undetected
work_line (work.Configured counts text) = configured_line counts
work_line (work.Sought counts cubes report) = sought_line counts

abbrev pub line_of : Outcome → List ℕ
line_of Usage = usage_line
line_of (Refused refusal) = refused_line refusal
line_of (Finished work) = work_line work
