-- How many bytes the written form of patterns has, by its signals, the number of its vectors and its notes: the lines of all vectors
-- have one length.
use Rattle.std.specs.Prelude.{ℕ, zero, suc, ◌+◌, ◌*◌, List, length}
use Rattle.std.specs.List.{sum_by}
use Rattle.dft_patterns.specs.declared.notes.Note.{Note}
use Rattle.dft_patterns.specs.declared.signal.StilSignal.{StilSignal}
use Rattle.dft_patterns.specs.Patterns.{inputs, outputs}
use Rattle.dft_stil_out.specs.Written.{signal_line, note_line}

-- ---- declarations and groups

-- the bytes of names
abbrev pub name_bytes : List StilSignal → ℕ
name_bytes signals = sum_by (λ s. length s.name) signals

-- the lines that declare signals
abbrev pub declarations_length : List StilSignal → ℕ
declarations_length signals = sum_by (λ s. length (signal_line s)) signals

-- the line of a group with a label of so many letters: quotes around each name, a plus sign between two, and 7 bytes besides
abbrev pub group_length : (label signals names : ℕ) → ℕ
group_length label zero names = 0
group_length label (suc others) names = label + names + 3 * others + 9

-- the lines of waveforms of inputs and of outputs
abbrev pub waveforms_length : (signals bytes : ℕ) → ℕ
waveforms_length zero bytes = 0
waveforms_length (suc others) bytes = bytes

-- ---- vectors

-- an assignment to a group, with a label of so many letters
abbrev pub assignment_length : (label signals : ℕ) → ℕ
assignment_length label zero = 0
assignment_length label (suc others) = label + suc others

-- the line of a vector, as `V { ins = P1; outs = X; }`
abbrev pub line_length : (inputs outputs : ℕ) → ℕ
line_length inputs outputs = 8 + assignment_length 6 inputs + assignment_length 9 outputs

-- the lines of notes
abbrev pub notes_length : List Note → ℕ
notes_length notes = sum_by (λ n. length (note_line n)) notes

-- ---- the text

-- the lines around all these, and the groups and waveforms of so many inputs and outputs
abbrev pub frame_length : (inputs input_names outputs output_names : ℕ) → ℕ
frame_length inputs input_names outputs output_names =
    185 + group_length 3 inputs input_names + group_length 4 outputs output_names + waveforms_length inputs 73 + waveforms_length outputs 74

-- all but the lines of vectors and notes
abbrev pub head_length : List StilSignal → ℕ
head_length signals =
    declarations_length signals + frame_length (length (inputs signals)) (name_bytes (inputs signals)) (length (outputs signals)) (name_bytes (outputs signals))

abbrev pub written_length : List StilSignal → (vectors : ℕ) → List Note → ℕ
written_length signals vectors notes =
    head_length signals + vectors * line_length (length (inputs signals)) (length (outputs signals)) + notes_length notes
