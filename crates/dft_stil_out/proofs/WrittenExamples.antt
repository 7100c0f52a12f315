-- Written forms worked by hand, and sets whose written form is refused: each condition of what is written is needed.
use Rattle.std.proofs.Common.{◌≡◌, ℕ, refl, codes, Ok, Err, List, [], ◌∷◌}
use Rattle.std.specs.Fmt.{digits}
use Rattle.dft_base.specs.Lexing.{Text}
use Rattle.dft_stil_tokens.specs.declared.text.Cause.{Cause}
use Rattle.dft_stil_tokens.specs.declared.text.Cause.TheVariants as cause
use Rattle.dft_base.specs.declared.dir.Dir.{Dir}
use Rattle.dft_base.specs.declared.dir.Dir.TheVariants.{Input, Output}
use Rattle.dft_patterns.specs.declared.act.Act.{Act}
use Rattle.dft_patterns.specs.declared.act.Act.TheVariants as act
use Rattle.dft_patterns.specs.declared.notes.Note.{Note}
use Rattle.dft_patterns.specs.declared.notes.NoteKind.{NoteKind}
use Rattle.dft_patterns.specs.declared.notes.NoteKind.TheVariants as what
use Rattle.dft_patterns.specs.declared.signal.StilSignal.{StilSignal}
use Rattle.dft_patterns.specs.Patterns.{Patterns}
use Rattle.dft_stil_tokens.specs.Lexemes.{comment_rest, note_rest, gap_len, gaps_from, blank_len, mark_kind, quoted_text, word_or_note, lexeme}
use Rattle.dft_stil_tokens.specs.Steps.{kind_of, bytes, left, next, sees, sees_word, left_out, sees_left_out, sees_capital, mark_refusal, keyword_refusal, expect, after, after_word, keyword, sees_name, name, sees_run, one_character, one_letter, single, number_from, small_number, unit}
use Rattle.dft_stil_text.specs.SignalGroups.{direction, signal, signals_from, signals_block, member, members_from, members, group, groups_from, name_if_any, group_block, sees_groups, after_groups, group_blocks_from, group_blocks}
use Rattle.dft_stil_text.specs.WaveformTables.{time, event_letter, event, events_from, waveform, waveforms_from, signal_waveforms, signal_waveforms_from, table_body, waveform_table, waveform_tables_from, timing}
use Rattle.dft_stil_text.specs.Statements.{sees_characters, characters_refusal, run_of_characters, runs_from, characters, assignment, assignments_from, vector, table_used, labelled, statement, statements_from}
use Rattle.dft_stil_text.specs.PatternText.{version, block_from, block, header_if_any, listed_pattern, burst, known_name, known_name_if_any, used_timing, exec, executed, pattern, pattern_part, stil_text, patterns_in, At}
use Rattle.dft_stil_out.specs.Written.{middle, head, vector_line, note_line, noted_lines, noted}

-- a signal
abbrev pub of : Text → Dir → StilSignal
of name dir = record { name = name; dir = dir }

-- a set of patterns
abbrev pub set : List StilSignal → List (List Act) → List Note → Patterns
set ss vs ns = record { signals = ss; vectors = vs; notes = ns }

-- a note before the vector with this number
abbrev pub note : ℕ → NoteKind → Note
note n kind = record { before = n; what = kind }

-- the written form
abbrev pub text_of : List StilSignal → List (List Act) → List Note → Text
text_of ss vs ns = noted (set ss vs ns)

-- what the written form is read as
abbrev pub reads_back : List StilSignal → List (List Act) → List Note → Type 0
reads_back ss vs ns = patterns_in 2 (noted (set ss vs ns)) ≡ Ok (set ss vs [])

-- the written form is refused so, with so many bytes left
abbrev pub refused : Cause → ℕ → List StilSignal → List (List Act) → List Note → Type 0
refused why left ss vs ns = patterns_in 2 (noted (set ss vs ns)) ≡ Err (At (record { cause = why; left = left }))

pub whole_form : text_of (of (codes "c") Input ∷ of (codes "d") Input ∷ of (codes "q") Output ∷ []) ((act.Pulse ∷ act.High ∷ act.Ignore ∷ []) ∷ (act.Low ∷ act.Low ∷ act.ExpectHigh ∷ []) ∷ []) (note 0 what.SetUp ∷ note 0 (what.Pattern 12) ∷ note 1 what.Unload ∷ note 7 what.Unload ∷ [])
    ≡ codes "STIL 1.0;\nSignals {\n\"c\" In;\n\"d\" In;\n\"q\" Out;\n}\nSignalGroups {\nins = '\"c\"+\"d\"';\nouts = '\"q\"';\n}\nTiming {\nWaveformTable w {\nPeriod '100ns';\nWaveforms {\nins { 0 { '0ns' D; } 1 { '0ns' U; } P { '0ns' D; '50ns' U; '80ns' D; } }\nouts { L { '0ns' X; '40ns' L; } H { '0ns' X; '40ns' H; } X { '0ns' X; } }\n}\n}\n}\nPatternBurst b { PatList { p; } }\nPatternExec { PatternBurst b; }\nPattern p {\nW w;\nAnn {* set-up *}\nAnn {* pattern 12 *}\nV { ins = P1; outs = X; }\nAnn {* unload *}\nV { ins = 00; outs = H; }\n}\n"
unfolding middle head vector_line note_line noted_lines noted digits
whole_form = refl

-- names that stand for groups, and names with marks of comments and annotations
pub strange_names : reads_back (of (codes "outs") Input ∷ of (codes "//;'*}") Input ∷ of (codes "ins") Output ∷ of (codes "Ann{*") Output ∷ []) ((act.Pulse ∷ act.High ∷ act.Ignore ∷ act.ExpectLow ∷ []) ∷ []) []
unfolding comment_rest note_rest gap_len gaps_from blank_len mark_kind quoted_text word_or_note lexeme kind_of bytes left next sees sees_word left_out sees_left_out sees_capital mark_refusal keyword_refusal expect after after_word keyword sees_name name sees_run one_character one_letter single number_from small_number unit direction signal signals_from signals_block member members_from members group groups_from name_if_any group_block sees_groups after_groups group_blocks_from group_blocks time event_letter event events_from waveform waveforms_from signal_waveforms signal_waveforms_from table_body waveform_table waveform_tables_from timing sees_characters characters_refusal run_of_characters runs_from characters assignment assignments_from vector table_used labelled statement statements_from version block_from block header_if_any listed_pattern burst known_name known_name_if_any used_timing exec executed pattern pattern_part stil_text patterns_in middle head vector_line note_line noted_lines noted
strange_names = refl

pub no_output : reads_back (of (codes "c") Input ∷ []) ((act.Pulse ∷ []) ∷ []) []
unfolding comment_rest note_rest gap_len gaps_from blank_len mark_kind quoted_text word_or_note lexeme kind_of bytes left next sees sees_word left_out sees_left_out sees_capital mark_refusal keyword_refusal expect after after_word keyword sees_name name sees_run one_character one_letter single number_from small_number unit direction signal signals_from signals_block member members_from members group groups_from name_if_any group_block sees_groups after_groups group_blocks_from group_blocks time event_letter event events_from waveform waveforms_from signal_waveforms signal_waveforms_from table_body waveform_table waveform_tables_from timing sees_characters characters_refusal run_of_characters runs_from characters assignment assignments_from vector table_used labelled statement statements_from version block_from block header_if_any listed_pattern burst known_name known_name_if_any used_timing exec executed pattern pattern_part stil_text patterns_in middle head vector_line note_line noted_lines noted
no_output = refl

pub a_note : reads_back (of (codes "c") Input ∷ []) ((act.Low ∷ []) ∷ []) (note 0 what.SetUp ∷ [])
unfolding comment_rest note_rest gap_len gaps_from blank_len mark_kind quoted_text word_or_note lexeme kind_of bytes left next sees sees_word left_out sees_left_out sees_capital mark_refusal keyword_refusal expect after after_word keyword sees_name name sees_run one_character one_letter single number_from small_number unit direction signal signals_from signals_block member members_from members group groups_from name_if_any group_block sees_groups after_groups group_blocks_from group_blocks time event_letter event events_from waveform waveforms_from signal_waveforms signal_waveforms_from table_body waveform_table waveform_tables_from timing sees_characters characters_refusal run_of_characters runs_from characters assignment assignments_from vector table_used labelled statement statements_from version block_from block header_if_any listed_pattern burst known_name known_name_if_any used_timing exec executed pattern pattern_part stil_text patterns_in middle head vector_line note_line noted_lines noted
a_note = refl

pub no_input_and_no_vector : reads_back (of (codes "q") Output ∷ []) [] (note 2 what.SetUp ∷ [])
unfolding comment_rest note_rest gap_len gaps_from blank_len mark_kind quoted_text word_or_note lexeme kind_of bytes left next sees sees_word left_out sees_left_out sees_capital mark_refusal keyword_refusal expect after after_word keyword sees_name name sees_run one_character one_letter single number_from small_number unit direction signal signals_from signals_block member members_from members group groups_from name_if_any group_block sees_groups after_groups group_blocks_from group_blocks time event_letter event events_from waveform waveforms_from signal_waveforms signal_waveforms_from table_body waveform_table waveform_tables_from timing sees_characters characters_refusal run_of_characters runs_from characters assignment assignments_from vector table_used labelled statement statements_from version block_from block header_if_any listed_pattern burst known_name known_name_if_any used_timing exec executed pattern pattern_part stil_text patterns_in middle head vector_line note_line noted_lines noted
no_input_and_no_vector = refl

pub no_signal_and_no_vector : reads_back [] [] []
unfolding comment_rest note_rest gap_len gaps_from blank_len mark_kind quoted_text word_or_note lexeme kind_of bytes left next sees sees_word left_out sees_left_out sees_capital mark_refusal keyword_refusal expect after after_word keyword sees_name name sees_run one_character one_letter single number_from small_number unit direction signal signals_from signals_block member members_from members group groups_from name_if_any group_block sees_groups after_groups group_blocks_from group_blocks time event_letter event events_from waveform waveforms_from signal_waveforms signal_waveforms_from table_body waveform_table waveform_tables_from timing sees_characters characters_refusal run_of_characters runs_from characters assignment assignments_from vector table_used labelled statement statements_from version block_from block header_if_any listed_pattern burst known_name known_name_if_any used_timing exec executed pattern pattern_part stil_text patterns_in middle head vector_line note_line noted_lines noted
no_signal_and_no_vector = refl

-- where no input stands before a vector's outputs, a semicolon does
pub no_input : refused cause.Token 16 (of (codes "q") Output ∷ []) ((act.Ignore ∷ []) ∷ []) []
unfolding comment_rest note_rest gap_len gaps_from blank_len mark_kind quoted_text word_or_note lexeme kind_of bytes left next sees sees_word left_out sees_left_out sees_capital mark_refusal keyword_refusal expect after after_word keyword sees_name name sees_run one_character one_letter single number_from small_number unit direction signal signals_from signals_block member members_from members group groups_from name_if_any group_block sees_groups after_groups group_blocks_from group_blocks time event_letter event events_from waveform waveforms_from signal_waveforms signal_waveforms_from table_body waveform_table waveform_tables_from timing sees_characters characters_refusal run_of_characters runs_from characters assignment assignments_from vector table_used labelled statement statements_from version block_from block header_if_any listed_pattern burst known_name known_name_if_any used_timing exec executed pattern pattern_part stil_text patterns_in middle head vector_line note_line noted_lines noted
no_input = refl

pub never_set : refused cause.Token 7 (of (codes "c") Input ∷ []) ((act.Unset ∷ []) ∷ []) []
unfolding comment_rest note_rest gap_len gaps_from blank_len mark_kind quoted_text word_or_note lexeme kind_of bytes left next sees sees_word left_out sees_left_out sees_capital mark_refusal keyword_refusal expect after after_word keyword sees_name name sees_run one_character one_letter single number_from small_number unit direction signal signals_from signals_block member members_from members group groups_from name_if_any group_block sees_groups after_groups group_blocks_from group_blocks time event_letter event events_from waveform waveforms_from signal_waveforms signal_waveforms_from table_body waveform_table waveform_tables_from timing sees_characters characters_refusal run_of_characters runs_from characters assignment assignments_from vector table_used labelled statement statements_from version block_from block header_if_any listed_pattern burst known_name known_name_if_any used_timing exec executed pattern pattern_part stil_text patterns_in middle head vector_line note_line noted_lines noted
never_set = refl

pub input_behind_output : refused (cause.Unsupported (codes "X")) 148 (of (codes "q") Output ∷ of (codes "d") Input ∷ []) [] []
unfolding comment_rest note_rest gap_len gaps_from blank_len mark_kind quoted_text word_or_note lexeme kind_of bytes left next sees sees_word left_out sees_left_out sees_capital mark_refusal keyword_refusal expect after after_word keyword sees_name name sees_run one_character one_letter single number_from small_number unit direction signal signals_from signals_block member members_from members group groups_from name_if_any group_block sees_groups after_groups group_blocks_from group_blocks time event_letter event events_from waveform waveforms_from signal_waveforms signal_waveforms_from table_body waveform_table waveform_tables_from timing sees_characters characters_refusal run_of_characters runs_from characters assignment assignments_from vector table_used labelled statement statements_from version block_from block header_if_any listed_pattern burst known_name known_name_if_any used_timing exec executed pattern pattern_part stil_text patterns_in middle head vector_line note_line noted_lines noted
input_behind_output = refl

pub double_quote : refused cause.Token 260 (of (codes "a\"b") Input ∷ []) [] []
unfolding comment_rest note_rest gap_len gaps_from blank_len mark_kind quoted_text word_or_note lexeme kind_of bytes left next sees sees_word left_out sees_left_out sees_capital mark_refusal keyword_refusal expect after after_word keyword sees_name name sees_run one_character one_letter single number_from small_number unit direction signal signals_from signals_block member members_from members group groups_from name_if_any group_block sees_groups after_groups group_blocks_from group_blocks time event_letter event events_from waveform waveforms_from signal_waveforms signal_waveforms_from table_body waveform_table waveform_tables_from timing sees_characters characters_refusal run_of_characters runs_from characters assignment assignments_from vector table_used labelled statement statements_from version block_from block header_if_any listed_pattern burst known_name known_name_if_any used_timing exec executed pattern pattern_part stil_text patterns_in middle head vector_line note_line noted_lines noted
double_quote = refl
