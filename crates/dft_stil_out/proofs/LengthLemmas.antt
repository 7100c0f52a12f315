-- The length of the written form, part by part.
use Rattle.std.proofs.Common.{◌≡◌, ℕ, suc, ◌+◌, ◌*◌, ◌<◌, ◌≤◌, Bool, true, false, cond, List, [], ◌∷◌, ◌++◌, codes, map, flat_map, length, take, drop, refl, sym, ap, ap₂, subst, ◌∙◌, length-append, take-append-drop, length-take, length-drop, min, ◌-◌, arith}
use Rattle.std.specs.Prelude.{nat_le, decimal}
use Rattle.std.specs.List.{All, sum_by, join_with_byte}
use Rattle.std.proofs.lemmas.Bool.Decides.{nat_tests}
use Rattle.std.proofs.lemmas.List.{length-map}
use Rattle.std.proofs.lemmas.List.Sums.{sum_by-cons, sum_by-append}
use Rattle.std.proofs.lemmas.List.Concat.{length-flat_map}
use Rattle.std.proofs.lemmas.List.Elements.{All-head, All-tail, All-drop, All-weaker}
use Rattle.dft_patterns.specs.declared.act.Act.{Act}
use Rattle.dft_patterns.specs.declared.notes.Note.{Note}
use Rattle.dft_patterns.specs.declared.notes.NoteKind.{NoteKind}
use Rattle.dft_patterns.specs.declared.notes.NoteKind.TheVariants.{SetUp, Pattern, Unload}
use Rattle.dft_patterns.specs.declared.signal.StilSignal.{StilSignal}
use Rattle.dft_patterns.specs.Steadiness.{HaveLength}
use Rattle.dft_patterns.specs.Patterns.{inputs, outputs, input_count}
use Rattle.dft_stil_out.specs.Letters.{letter}
use Rattle.dft_stil_out.specs.Written.{signal_line, quoted, group_line, input_waveforms, output_waveforms, middle, head, assignment_text, vector_line, note_line, note_words, due, noted_lines, noted}
use Rattle.dft_stil_out.specs.WrittenLength.{name_bytes, group_length, waveforms_length, assignment_length, line_length, notes_length, head_length, frame_length}
use Rattle.dft_stil_out.specs.LengthLaws.{HasWrittenLength}

-- ---- groups

length-quoted : (s : StilSignal) → length (quoted s) ≡ length s.name + 2
length-quoted s = omega (arith, length-append s.name (codes "\""))

length-joined : (s : StilSignal) (others : List StilSignal) → length (join_with_byte 43 (map quoted (s ∷ others))) ≡ name_bytes (s ∷ others) + 3 * length others + 2
length-joined s [] = omega (arith, length-quoted s, sum_by-cons (λ (x : StilSignal). length x.name) s [])
length-joined s (t ∷ others) =
    omega (
      arith,
      length-append (quoted s) (43 ∷ join_with_byte 43 (map quoted (t ∷ others))),
      length-quoted s,
      length-joined t others,
      sum_by-cons (λ (x : StilSignal). length x.name) s (t ∷ others),
    )

length-group : (label : List ℕ) (signals : List StilSignal) → length (group_line label signals) ≡ group_length (length label) (length signals) (name_bytes signals)
length-group label [] = refl
length-group label (s ∷ others) =
    let names = join_with_byte 43 (map quoted (s ∷ others)) in
    omega (arith, length-append label (codes " = '" ++ (names ++ codes "';\n")), length-append names (codes "';\n"), length-joined s others)

-- ---- lines

length-assignment : (label : List ℕ) (acts : List Act) → length (assignment_text label acts) ≡ assignment_length (length label) (length acts)
length-assignment label [] = refl
length-assignment label (a ∷ acts) = omega (arith, length-append label (map letter (a ∷ acts)), length-map acts letter)

length-line : (count inputs outputs : ℕ) (acts : List Act) → length (take count acts) ≡ inputs → length (drop count acts) ≡ outputs → length (vector_line count acts) ≡ line_length inputs outputs
unfolding vector_line
length-line count inputs outputs acts i o =
    let ins = assignment_text (codes "ins = ") (take count acts) in
    let outs = assignment_text (codes "; outs = ") (drop count acts) in
    let same : length (codes "V { " ++ (ins ++ (outs ++ codes "; }\n"))) ≡ line_length (length (take count acts)) (length (drop count acts)) =
    omega (arith, length-append ins (outs ++ codes "; }\n"), length-append outs (codes "; }\n"), length-assignment (codes "ins = ") (take count acts), length-assignment (codes "; outs = ") (drop count acts)) in
    same ∙ ap₂ line_length i o

-- ---- notes

-- a note stands before this vector or a later one, where there is a note
abbrev Ahead : (place : ℕ) → List Note → Type 0
Ahead place [] = Unit {0}
Ahead place (n ∷ notes) = place ≤ n.before

due_case : (place : ℕ) (n : Note) (notes : List Note) (t : Bool) → t ≡ nat_le n.before place → Ahead (suc place) (drop (due place notes) notes) → Ahead (suc place) (drop (cond t (1 + due place notes) 0) (n ∷ notes))
due_case place n notes true is ahead = let one : suc (due place notes) ≡ 1 + due place notes = omega arith in subst (λ (k : ℕ). Ahead (suc place) (drop k (n ∷ notes))) one ahead
due_case place n notes false is ahead = grind (arith, nat_tests)

-- the notes before a vector are taken, and the others stand behind it
ahead_more : (place : ℕ) (notes : List Note) → Ahead (suc place) (drop (due place notes) notes)
ahead_more place [] = tt
ahead_more place (n ∷ notes) = due_case place n notes (nat_le n.before place) refl (ahead_more place notes)

-- each note stands at the first vector or behind it
start_ahead : (notes : List Note) → Ahead 0 notes
start_ahead [] = tt
start_ahead (n ∷ notes) = omega arith

none_left : (place : ℕ) (notes : List Note) → Ahead place notes → All (λ note. note.before < place) notes → notes ≡ []
none_left place [] ahead below = refl
none_left place (n ∷ notes) ahead below = absurd (omega (arith, All-head (λ note. note.before < place) n notes below, ahead))

length-lines : (count inputs outputs place : ℕ) (vectors : List (List Act)) (notes : List Note) → All (λ acts. (length (take count acts) ≡ inputs) × (length (drop count acts) ≡ outputs)) vectors → Ahead place notes →
    All (λ note. note.before < place + length vectors) notes → length (noted_lines count place vectors notes) ≡ length vectors * line_length inputs outputs + notes_length notes
unfolding noted_lines
length-lines count inputs outputs place [] notes wide ahead below =
    let none : notes ≡ [] = none_left place notes ahead (subst (λ (k : ℕ). All (λ note. note.before < k) notes) (omega arith) below) in
    rw none (omega arith)
length-lines count inputs outputs place (acts ∷ vectors) notes wide ahead below =
    let k = due place notes in
    let now = flat_map note_line (take k notes) in
    let rest = noted_lines count (suc place) vectors (drop k notes) in
    let one = All-head (λ acts. (length (take count acts) ≡ inputs) × (length (drop count acts) ≡ outputs)) acts vectors wide in
    let more = length-lines count inputs outputs (suc place) vectors (drop k notes) (All-tail (λ acts. (length (take count acts) ≡ inputs) × (length (drop count acts) ≡ outputs)) acts vectors wide) (ahead_more place notes)
    (All-drop (λ note. note.before < suc place + length vectors) k notes (subst (λ (j : ℕ). All (λ note. note.before < j) notes) (omega arith) below)) in
    let f = λ (n : Note). length (note_line n) in
    let notes_are : notes_length notes ≡ notes_length (take k notes) + notes_length (drop k notes) = ap (sum_by f) (sym (take-append-drop k notes)) ∙ sum_by-append f (take k notes) (drop k notes) in
    let lines : suc (length vectors) * line_length inputs outputs ≡ line_length inputs outputs + length vectors * line_length inputs outputs = grind arith in
    omega (arith, lines, length-append now (vector_line count acts ++ rest), length-append (vector_line count acts) rest, length-flat_map note_line (take k notes), length-line count inputs outputs acts one.0 one.1, more, notes_are)

-- ---- the text

length-input_waveforms : (signals : List StilSignal) → length (input_waveforms signals) ≡ waveforms_length (length signals) 73
length-input_waveforms [] = refl
length-input_waveforms (s ∷ signals) = refl

length-output_waveforms : (signals : List StilSignal) → length (output_waveforms signals) ≡ waveforms_length (length signals) 74
length-output_waveforms [] = refl
length-output_waveforms (s ∷ signals) = refl

length-middle : (ins outs : List StilSignal) → length (middle ins outs) + 22 ≡ frame_length (length ins) (name_bytes ins) (length outs) (name_bytes outs)
unfolding middle
length-middle ins outs =
    let a = group_line (codes "ins") ins in
    let b = group_line (codes "outs") outs in
    let c = input_waveforms ins in
    let d = output_waveforms outs in
    let last = codes "}\n}\n}\nPatternBurst b { PatList { p; } }\nPatternExec { PatternBurst b; }\nPattern p {\nW w;\n" in
    let timing = codes "}\nTiming {\nWaveformTable w {\nPeriod '100ns';\nWaveforms {\n" in
    omega (
      arith,
      length-append a (b ++ (timing ++ (c ++ (d ++ (last ++ []))))),
      length-append b (timing ++ (c ++ (d ++ (last ++ [])))),
      length-append c (d ++ (last ++ [])),
      length-append d (last ++ []),
      length-group (codes "ins") ins,
      length-group (codes "outs") outs,
      length-input_waveforms ins,
      length-output_waveforms outs,
    )

length-head : (signals : List StilSignal) → length (head signals) + 2 ≡ head_length signals
unfolding head
length-head signals =
    let names = flat_map signal_line signals in
    let rest = middle (inputs signals) (outputs signals) in
    omega (arith, length-append names rest, length-flat_map signal_line signals, length-middle (inputs signals) (outputs signals))

-- each vector has its inputs and its outputs
wide_of : (signals : List StilSignal) (vectors : List (List Act)) → HaveLength (length signals) vectors →
    All (λ acts. (length (take (input_count signals) acts) ≡ length (inputs signals)) × (length (drop (input_count signals) acts) ≡ length (outputs signals))) vectors
wide_of signals vectors wide =
    let k = input_count signals in
    All-weaker (λ acts. length acts ≡ length signals) (λ acts. (length (take k acts) ≡ length (inputs signals)) × (length (drop k acts) ≡ length (outputs signals)))
    (λ acts same. (length-take k acts ∙ ap (λ (l : ℕ). min k l) same ∙ sym (length-take k signals), length-drop k acts ∙ ap (λ (l : ℕ). l - k) same ∙ sym (length-drop k signals))) vectors wide

pub written_has_length : HasWrittenLength
unfolding noted
written_has_length p wide below =
    let k = input_count p.signals in
    let lines = noted_lines k 0 p.vectors p.notes in
    omega (
      arith,
      length-append (head p.signals) (lines ++ codes "}\n"),
      length-append lines (codes "}\n"),
      length-head p.signals,
      length-lines k (length (inputs p.signals)) (length (outputs p.signals)) 0 p.vectors p.notes (wide_of p.signals p.vectors wide) (start_ahead p.notes) (subst (λ (k : ℕ). All (λ note. note.before < k) p.notes) (omega arith) below),
    )

-- ---- notes

pub length-set_up : (note : Note) → note.what ≡ SetUp → length (note_line note) ≡ 17
unfolding note_line
length-set_up note is = ap (λ (what : NoteKind). length (codes "Ann {* " ++ (note_words what ++ codes " *}\n"))) is

pub length-unload : (note : Note) → note.what ≡ Unload → length (note_line note) ≡ 17
unfolding note_line
length-unload note is = ap (λ (what : NoteKind). length (codes "Ann {* " ++ (note_words what ++ codes " *}\n"))) is

pub length-pattern : (note : Note) (number : ℕ) (digits : List ℕ) → note.what ≡ Pattern number → digits ≡ decimal number → length (note_line note) ≡ 19 + length digits
unfolding note_line
length-pattern note number digits is same =
    ap (λ (what : NoteKind). length (codes "Ann {* " ++ (note_words what ++ codes " *}\n"))) is
    ∙ omega (arith, length-append (decimal number) (codes " *}\n"), ap length same)
