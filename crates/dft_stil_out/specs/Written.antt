-- The written form of patterns: one text for each set (IEEE 1450-1999, in a subset of its forms).
use Rattle.std.specs.Prelude.{ℕ, suc, nat_le, List, [], ◌∷◌, ◌++◌, codes, decimal, map, take, drop, flat_map}
use Rattle.std.specs.List.{concat, join_with_byte, prefix_len}
use Rattle.dft_base.specs.declared.dir.Dir.{Dir}
use Rattle.dft_base.specs.declared.dir.Dir.TheVariants.{Input, Output}
use Rattle.dft_patterns.specs.declared.act.Act.{Act}
use Rattle.dft_patterns.specs.declared.notes.Note.{Note}
use Rattle.dft_patterns.specs.declared.notes.NoteKind.{NoteKind}
use Rattle.dft_patterns.specs.declared.notes.NoteKind.TheVariants.{SetUp, Pattern, Unload}
use Rattle.dft_patterns.specs.declared.signal.StilSignal.{StilSignal}
use Rattle.dft_stil_out.specs.Letters.{letter}
use Rattle.dft_patterns.specs.Patterns.{Patterns, inputs, outputs, input_count}

-- ---- signals

-- what follows the name in a declaration
abbrev pub way : Dir → List ℕ
way Input = codes "\" In;\n"
way Output = codes "\" Out;\n"

-- the line that declares a signal, as `"clk" In;`
abbrev pub signal_line : StilSignal → List ℕ
signal_line s = codes "\"" ++ (s.name ++ way s.dir)

-- a name between quotes
abbrev pub quoted : StilSignal → List ℕ
quoted s = codes "\"" ++ (s.name ++ codes "\"")

-- the line of a group, as `ins = '"clk"+"d"';`, and no line where it has no signal
abbrev pub group_line : List ℕ → List StilSignal → List ℕ
group_line label [] = []
group_line label (s ∷ ss) = label ++ (codes " = '" ++ (join_with_byte 43 (map quoted (s ∷ ss)) ++ codes "';\n"))

-- ---- timing

-- inputs change at 0 ns, and a pulse lasts from 50 ns to 80 ns
abbrev pub input_waveforms : List StilSignal → List ℕ
input_waveforms [] = []
input_waveforms (s ∷ ss) = codes "ins { 0 { '0ns' D; } 1 { '0ns' U; } P { '0ns' D; '50ns' U; '80ns' D; } }\n"

-- outputs are compared at 40 ns
abbrev pub output_waveforms : List StilSignal → List ℕ
output_waveforms [] = []
output_waveforms (s ∷ ss) = codes "outs { L { '0ns' X; '40ns' L; } H { '0ns' X; '40ns' H; } X { '0ns' X; } }\n"

-- all between the declarations and the vectors
unfoldable pub middle : List StilSignal → List StilSignal → List ℕ
middle ins outs = concat (
    codes "}\nSignalGroups {\n"
    ∷ group_line (codes "ins") ins
    ∷ group_line (codes "outs") outs
    ∷ codes "}\nTiming {\nWaveformTable w {\nPeriod '100ns';\nWaveforms {\n"
    ∷ input_waveforms ins
    ∷ output_waveforms outs
    ∷ codes "}\n}\n}\nPatternBurst b { PatList { p; } }\nPatternExec { PatternBurst b; }\nPattern p {\nW w;\n"
    ∷ [])

-- all before the vectors
unfoldable pub head : List StilSignal → List ℕ
head signals = codes "STIL 1.0;\nSignals {\n" ++ (flat_map signal_line signals ++ middle (inputs signals) (outputs signals))

-- ---- vectors

-- an assignment to a group, and none where it has no signal
abbrev pub assignment_text : List ℕ → List Act → List ℕ
assignment_text label [] = []
assignment_text label (a ∷ more) = label ++ map letter (a ∷ more)

-- the line of a vector, as `V { ins = P1; outs = X; }`, with so many inputs
unfoldable pub vector_line : ℕ → List Act → List ℕ
vector_line count acts = codes "V { " ++ (assignment_text (codes "ins = ") (take count acts) ++ (assignment_text (codes "; outs = ") (drop count acts) ++ codes "; }\n"))

-- ---- notes

-- what a note says
abbrev pub note_words : NoteKind → List ℕ
note_words SetUp = codes "set-up"
note_words (Pattern n) = codes "pattern " ++ decimal n
note_words Unload = codes "unload"

-- the line of a note, as `Ann {* pattern 0 *}`
unfoldable pub note_line : Note → List ℕ
note_line n = codes "Ann {* " ++ (note_words n.what ++ codes " *}\n")

-- how many of these notes stand before the vector with this number
abbrev pub due : ℕ → List Note → ℕ
due place notes = prefix_len (λ n. nat_le n.before place) notes

-- the lines of vectors, each behind the lines of its notes; the first vector has this number
unfoldable pub noted_lines : (count place : ℕ) → List (List Act) → List Note → List ℕ
noted_lines count place [] notes = []
noted_lines count place (acts ∷ vectors) notes =
    flat_map note_line (take (due place notes) notes) ++ (vector_line count acts ++ noted_lines count (suc place) vectors (drop (due place notes) notes))

-- ---- whole texts

-- the written form, with its notes
unfoldable pub noted : Patterns → List ℕ
noted p = head p.signals ++ (noted_lines (input_count p.signals) 0 p.vectors p.notes ++ codes "}\n")

-- the written form without notes
unfoldable pub written : Patterns → List ℕ
written p = head p.signals ++ (flat_map (vector_line (input_count p.signals)) p.vectors ++ codes "}\n")
