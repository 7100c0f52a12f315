-- Pattern texts worked by hand.
use Rattle.std.proofs.Common.{◌≡◌, ℕ, refl, codes, Option, Some, None, Result, Ok, Err, List, [], ◌∷◌}
use Rattle.std.specs.List.{concat}
use Rattle.dft_base.specs.declared.place.Place.{Place}
use Rattle.dft_base.specs.Lexing.{Text, place_of, place_after, next_place}
use Rattle.dft_stil_tokens.specs.declared.text.Cause.{Cause}
use Rattle.dft_stil_tokens.specs.declared.text.Cause.TheVariants as cause
use Rattle.dft_base.specs.declared.dir.Dir.TheVariants as dir
use Rattle.dft_patterns.specs.declared.act.Act.TheVariants as act
use Rattle.dft_patterns.specs.Patterns.{Patterns}
use Rattle.dft_stil_tokens.specs.Lexemes.{comment_rest, note_rest, gap_len, gaps_from, blank_len, mark_kind, quoted_text, word_or_note, lexeme}
use Rattle.dft_stil_tokens.specs.Steps.{kind_of, bytes, left, next, sees, sees_word, left_out, sees_left_out, sees_capital, mark_refusal, keyword_refusal, expect, after, after_word, keyword, sees_name, name, sees_run, one_character, one_letter, single, number_from, small_number, unit}
use Rattle.dft_stil_text.specs.SignalGroups.{direction, signal, signals_from, signals_block, member, members_from, members, group, groups_from, name_if_any, group_block, sees_groups, after_groups, group_blocks_from, group_blocks}
use Rattle.dft_stil_text.specs.WaveformTables.{time, event_letter, event, events_from, waveform, waveforms_from, signal_waveforms, signal_waveforms_from, table_body, waveform_table, waveform_tables_from, timing}
use Rattle.dft_stil_text.specs.Statements.{sees_characters, characters_refusal, run_of_characters, runs_from, characters, assignment, assignments_from, vector, table_used, labelled, statement, statements_from}
use Rattle.dft_stil_text.specs.PatternText.{version, block_from, block, header_if_any, listed_pattern, burst, known_name, known_name_if_any, used_timing, exec, executed, pattern, pattern_part, stil_text, patterns_in, Refusal, At, Unsteadily}

-- how a text is refused: at a place, or by the vector and the name of a signal
pub data Told : Type 0 where
  Placed : (why : Cause) → (at : Place) → Told
  Unsteady : (vector : ℕ) → (name : Text) → Told

abbrev pub told : Text → Result Patterns Refusal → Option Told
told text (Ok p) = None
told text (Err (At f)) = Some (Placed f.cause (place_of text f.left))
told text (Err (Unsteadily v n)) = Some (Unsteady v n)

abbrev pub outcome : Text → Option Told
outcome text = told text (patterns_in 3 text)

abbrev pub refused : Cause → ℕ → ℕ → Option Told
refused why line column = Some (Placed why (record { line = line; column = column }))

abbrev pub unsteady : ℕ → Text → Option Told
unsteady v n = Some (Unsteady v n)

abbrev pub join : List Text → Text
join ts = concat ts

pub whole_1 :
    (outcome (codes "STIL 1.0;Signals{c In;d In;q Out;}SignalGroups{g='c+d';}Timing t{WaveformTable w{Period'100ns';Waveforms{g{0{'0ns'D;}1{'0ns'U;}P{'0ns'D;'50ns'U;'80ns'D;}}q{L{'40ns'L;}H{'0ns'X;'40ns'H;}X{'0ns'X;}}}}}PatternBurst b{PatList{p;}}PatternExec{PatternBurst b;}Pattern p{W w;V{g=01;q=L;}}") ≡ None)
    × (outcome (codes "STIL 1.0;Signals{c In;d In;q Out;}SignalGroups{g='c+d';}Timing t{WaveformTable w{Period'100ns';Waveforms{g{0{'0ns'D;}1{'0ns'U;}P{'0ns'D;'50ns'U;'80ns'D;}}q{L{'40ns'L;}H{'0ns'X;'40ns'H;}X{'0ns'X;}}}}}PatternBurst b{PatList{p;}}PatternExec{PatternBurst b;}Pattern p{}") ≡ None)
    × (outcome (codes "STIL 1.0;Signals{c In;d In;q Out;}SignalGroups{g='c+d';}Timing t{WaveformTable w{Period'100ns';Waveforms{g{0{'0ns'D;}1{'0ns'U;}P{'0ns'D;'50ns'U;'80ns'D;}}q{L{'40ns'L;}H{'0ns'X;'40ns'H;}X{'0ns'X;}}}}}PatternBurst b{PatList{p;}}PatternExec{PatternBurst b;}Pattern p{W w;a:V{g=01;}\"W\":V{}}") ≡ None)
    × (outcome (codes "STIL 1.0;Signals{c In;d In;q Out;}SignalGroups{g='c+d';}Timing t{WaveformTable w{Period'100ns';Waveforms{g{0{'0ns'D;}1{'0ns'U;}P{'0ns'D;'50ns'U;'80ns'D;}}q{L{'40ns'L;}H{'0ns'X;'40ns'H;}X{'0ns'X;}}}}}PatternBurst b{PatList{p;}}PatternExec{PatternBurst b;}Pattern p{W w;V{g=0 /**/1;q=L;}}\n") ≡ None)
    × (outcome (codes "STIL Foo") ≡ refused cause.Token 1 6)
    × (outcome (codes "STIL Loop") ≡ refused (cause.Unsupported (codes "Loop")) 1 6)
unfolding comment_rest note_rest gap_len gaps_from blank_len mark_kind quoted_text word_or_note lexeme kind_of bytes left next sees sees_word left_out sees_left_out sees_capital mark_refusal keyword_refusal expect after after_word keyword sees_name name sees_run one_character one_letter single number_from small_number unit direction signal signals_from signals_block member members_from members group groups_from name_if_any group_block sees_groups after_groups group_blocks_from group_blocks time event_letter event events_from waveform waveforms_from signal_waveforms signal_waveforms_from table_body waveform_table waveform_tables_from timing sees_characters characters_refusal run_of_characters runs_from characters assignment assignments_from vector table_used labelled statement statements_from version block_from block header_if_any listed_pattern burst known_name known_name_if_any used_timing exec executed pattern pattern_part stil_text patterns_in place_after next_place
whole_1 = (refl, refl, refl, refl, refl, refl)

pub whole_2 :
    (outcome (codes "STIL 1.01;") ≡ refused cause.Token 1 6)
    × (outcome (codes "STIL 1;") ≡ refused cause.Token 1 6)
    × (outcome (codes "STIL 1.0;") ≡ refused cause.Token 1 10)
    × (outcome (codes "") ≡ refused cause.Token 1 1)
    × (outcome (codes "STIL 1.0;\n Foo") ≡ refused (cause.Unsupported (codes "Foo")) 2 2)
    × (outcome (codes "STIL 1.0;foo") ≡ refused cause.Token 1 10)
unfolding comment_rest note_rest gap_len gaps_from blank_len mark_kind quoted_text word_or_note lexeme kind_of bytes left next sees sees_word left_out sees_left_out sees_capital mark_refusal keyword_refusal expect after after_word keyword sees_name name sees_run one_character one_letter single number_from small_number unit direction signal signals_from signals_block member members_from members group groups_from name_if_any group_block sees_groups after_groups group_blocks_from group_blocks time event_letter event events_from waveform waveforms_from signal_waveforms signal_waveforms_from table_body waveform_table waveform_tables_from timing sees_characters characters_refusal run_of_characters runs_from characters assignment assignments_from vector table_used labelled statement statements_from version block_from block header_if_any listed_pattern burst known_name known_name_if_any used_timing exec executed pattern pattern_part stil_text patterns_in place_after next_place
whole_2 = (refl, refl, refl, refl, refl, refl)

pub whole_3 :
    (outcome ((1 ∷ [])) ≡ refused cause.Token 1 1)
unfolding comment_rest note_rest gap_len gaps_from blank_len mark_kind quoted_text word_or_note lexeme kind_of bytes left next sees sees_word left_out sees_left_out sees_capital mark_refusal keyword_refusal expect after after_word keyword sees_name name sees_run one_character one_letter single number_from small_number unit direction signal signals_from signals_block member members_from members group groups_from name_if_any group_block sees_groups after_groups group_blocks_from group_blocks time event_letter event events_from waveform waveforms_from signal_waveforms signal_waveforms_from table_body waveform_table waveform_tables_from timing sees_characters characters_refusal run_of_characters runs_from characters assignment assignments_from vector table_used labelled statement statements_from version block_from block header_if_any listed_pattern burst known_name known_name_if_any used_timing exec executed pattern pattern_part stil_text patterns_in place_after next_place
whole_3 = refl

pub blanks_1 :
    (outcome (codes "STIL 1.0;Signals{c In;d In;q Out;}SignalGroups{g='c+d';}Timing t{WaveformTable w{Period'100ns';Waveforms{g{0{'0ns'D;}1{'0ns'U;}P{'0ns'D;'50ns'U;'80ns'D;}}q{L{'40ns'L;}H{'0ns'X;'40ns'H;}X{'0ns'X;}}}}}PatternBurst b{PatList{p;}}PatternExec{PatternBurst b;}Pattern p{W w;V{g=01 Ann {* x *};}}") ≡ refused cause.Token 1 288)
    × (outcome (join (codes "Ann /* a */ {* " ∷ (1 ∷ []) ∷ codes " *} /* b */ ;STIL Ann{*}*}1.0;Signals{c In;d In;q Out;}SignalGroups{g='c+d';}Timing t{WaveformTable w{Period'100ns';Waveforms{g{0{'0ns'D;}1{'0ns'U;}P{'0ns'D;'50ns'U;'80ns'D;}}q{L{'40ns'L;}H{'0ns'X;'40ns'H;}X{'0ns'X;}}}}}PatternBurst b{PatList{p;}}PatternExec{PatternBurst b;}Pattern p{W w;V{g=01;q=L;}}" ∷ [])) ≡ None)
    × (outcome (codes "STIL 1.0;Ann {* x") ≡ refused cause.Token 1 18)
    × (outcome (codes "STIL 1.0;/* x ") ≡ refused cause.Token 1 15)
    × (outcome (codes "STIL 1.0; // x\nSignals{c In;d In;q Out;}SignalGroups{g='c+d';}Timing t{WaveformTable w{Period'100ns';Waveforms{g{0{'0ns'D;}1{'0ns'U;}P{'0ns'D;'50ns'U;'80ns'D;}}q{L{'40ns'L;}H{'0ns'X;'40ns'H;}X{'0ns'X;}}}}}PatternBurst b{PatList{p;}}PatternExec{PatternBurst b;}Pattern p{W w;V{g=01;q=L;}}") ≡ None)
    × (outcome (codes "STIL 1.0;Signals{Ann In;Ann[1] In;c In;d In;q Out;}") ≡ refused cause.Token 1 52)
unfolding comment_rest note_rest gap_len gaps_from blank_len mark_kind quoted_text word_or_note lexeme kind_of bytes left next sees sees_word left_out sees_left_out sees_capital mark_refusal keyword_refusal expect after after_word keyword sees_name name sees_run one_character one_letter single number_from small_number unit direction signal signals_from signals_block member members_from members group groups_from name_if_any group_block sees_groups after_groups group_blocks_from group_blocks time event_letter event events_from waveform waveforms_from signal_waveforms signal_waveforms_from table_body waveform_table waveform_tables_from timing sees_characters characters_refusal run_of_characters runs_from characters assignment assignments_from vector table_used labelled statement statements_from version block_from block header_if_any listed_pattern burst known_name known_name_if_any used_timing exec executed pattern pattern_part stil_text patterns_in place_after next_place
blanks_1 = (refl, refl, refl, refl, refl, refl)

pub blanks_2 :
    (outcome (codes "STIL 1.0;Header{Title \" x y \";a{Loop '}{}1}Signals{c In;d In;q Out;}SignalGroups{g='c+d';}Timing t{WaveformTable w{Period'100ns';Waveforms{g{0{'0ns'D;}1{'0ns'U;}P{'0ns'D;'50ns'U;'80ns'D;}}q{L{'40ns'L;}H{'0ns'X;'40ns'H;}X{'0ns'X;}}}}}PatternBurst b{PatList{p;}}PatternExec{PatternBurst b;}Pattern p{W w;V{g=01;q=L;}}") ≡ None)
    × (outcome (join (codes "STIL 1.0;Header{a \"x " ∷ (2 ∷ []) ∷ [])) ≡ refused cause.Token 1 23)
    × (outcome (join (codes "STIL 1.0;Header{" ∷ (2 ∷ []) ∷ [])) ≡ refused cause.Token 1 17)
    × (outcome (codes "STIL 1.0;Header Loop") ≡ refused (cause.Unsupported (codes "Loop")) 1 17)
    × (outcome (codes "STIL 1.0;Header{}Foo[1] ") ≡ refused (cause.Unsupported (codes "Foo[1]")) 1 18)
unfolding comment_rest note_rest gap_len gaps_from blank_len mark_kind quoted_text word_or_note lexeme kind_of bytes left next sees sees_word left_out sees_left_out sees_capital mark_refusal keyword_refusal expect after after_word keyword sees_name name sees_run one_character one_letter single number_from small_number unit direction signal signals_from signals_block member members_from members group groups_from name_if_any group_block sees_groups after_groups group_blocks_from group_blocks time event_letter event events_from waveform waveforms_from signal_waveforms signal_waveforms_from table_body waveform_table waveform_tables_from timing sees_characters characters_refusal run_of_characters runs_from characters assignment assignments_from vector table_used labelled statement statements_from version block_from block header_if_any listed_pattern burst known_name known_name_if_any used_timing exec executed pattern pattern_part stil_text patterns_in place_after next_place
blanks_2 = (refl, refl, refl, refl, refl)

pub names_1 :
    (outcome (codes "STIL 1.0;Signals{c In;c ") ≡ refused (cause.Taken (codes "c")) 1 23)
    × (outcome (codes "STIL 1.0;Signals{c InOut;") ≡ refused (cause.Unsupported (codes "InOut")) 1 20)
    × (outcome (codes "STIL 1.0;Signals{c in;") ≡ refused cause.Token 1 20)
    × (outcome (codes "STIL 1.0;Signals{c In Loop") ≡ refused (cause.Unsupported (codes "Loop")) 1 23)
    × (outcome (codes "STIL 1.0;Signals{c In Foo") ≡ refused cause.Token 1 23)
    × (outcome (codes "STIL 1.0;Signals{\"\" In;") ≡ refused cause.Token 1 18)
unfolding comment_rest note_rest gap_len gaps_from blank_len mark_kind quoted_text word_or_note lexeme kind_of bytes left next sees sees_word left_out sees_left_out sees_capital mark_refusal keyword_refusal expect after after_word keyword sees_name name sees_run one_character one_letter single number_from small_number unit direction signal signals_from signals_block member members_from members group groups_from name_if_any group_block sees_groups after_groups group_blocks_from group_blocks time event_letter event events_from waveform waveforms_from signal_waveforms signal_waveforms_from table_body waveform_table waveform_tables_from timing sees_characters characters_refusal run_of_characters runs_from characters assignment assignments_from vector table_used labelled statement statements_from version block_from block header_if_any listed_pattern burst known_name known_name_if_any used_timing exec executed pattern pattern_part stil_text patterns_in place_after next_place
names_1 = (refl, refl, refl, refl, refl, refl)

pub names_2 :
    (outcome (codes "STIL 1.0;Signals{\"a b\" In;") ≡ refused cause.Token 1 20)
    × (outcome (codes "STIL 1.0;Signals{\"a") ≡ refused cause.Token 1 20)
    × (outcome (codes "STIL 1.0;Signals{Loop In;In In;\"C\" Out;d[3] Out;d[:") ≡ refused cause.Token 1 50)
    × (outcome (codes "STIL 1.0;Signals{c In;d In;q Out;}SignalGroups{g='c+g") ≡ refused (cause.Unknown (codes "g")) 1 53)
    × (outcome (codes "STIL 1.0;Signals{c In;d In;q Out;}SignalGroups{g='c';g") ≡ refused (cause.Taken (codes "g")) 1 54)
    × (outcome (codes "STIL 1.0;Signals{c In;d In;q Out;}SignalGroups Loop{c='d+c';h='c+c';k='h;") ≡ refused cause.Token 1 73)
unfolding comment_rest note_rest gap_len gaps_from blank_len mark_kind quoted_text word_or_note lexeme kind_of bytes left next sees sees_word left_out sees_left_out sees_capital mark_refusal keyword_refusal expect after after_word keyword sees_name name sees_run one_character one_letter single number_from small_number unit direction signal signals_from signals_block member members_from members group groups_from name_if_any group_block sees_groups after_groups group_blocks_from group_blocks time event_letter event events_from waveform waveforms_from signal_waveforms signal_waveforms_from table_body waveform_table waveform_tables_from timing sees_characters characters_refusal run_of_characters runs_from characters assignment assignments_from vector table_used labelled statement statements_from version block_from block header_if_any listed_pattern burst known_name known_name_if_any used_timing exec executed pattern pattern_part stil_text patterns_in place_after next_place
names_2 = (refl, refl, refl, refl, refl, refl)

pub names_3 :
    (outcome (codes "STIL 1.0;Signals{c In;d In;q Out;}SignalGroups{g=Loop") ≡ refused (cause.Unsupported (codes "Loop")) 1 50)
    × (outcome (codes "STIL 1.0;Signals{c In;d In;q Out;}SignalGroups{g=Foo") ≡ refused cause.Token 1 50)
    × (outcome (codes "STIL 1.0;Signals{c In;d In;q Out;}SignalGroups{g='c+c';}SignalGroups{h='k") ≡ refused (cause.Unknown (codes "k")) 1 73)
unfolding comment_rest note_rest gap_len gaps_from blank_len mark_kind quoted_text word_or_note lexeme kind_of bytes left next sees sees_word left_out sees_left_out sees_capital mark_refusal keyword_refusal expect after after_word keyword sees_name name sees_run one_character one_letter single number_from small_number unit direction signal signals_from signals_block member members_from members group groups_from name_if_any group_block sees_groups after_groups group_blocks_from group_blocks time event_letter event events_from waveform waveforms_from signal_waveforms signal_waveforms_from table_body waveform_table waveform_tables_from timing sees_characters characters_refusal run_of_characters runs_from characters assignment assignments_from vector table_used labelled statement statements_from version block_from block header_if_any listed_pattern burst known_name known_name_if_any used_timing exec executed pattern pattern_part stil_text patterns_in place_after next_place
names_3 = (refl, refl, refl)

pub tables_1 :
    (outcome (codes "STIL 1.0;Signals{c In;d In;q Out;}SignalGroups{g='c+d';}Timing{WaveformTable w{Period'100ns';Waveforms{}}WaveformTable w") ≡ refused (cause.Taken (codes "w")) 1 120)
    × (outcome (codes "STIL 1.0;Signals{c In;d In;q Out;}SignalGroups{g='c+d';}Timing{WaveformTable w{Period'100ns';Waveforms{z") ≡ refused (cause.Unknown (codes "z")) 1 104)
    × (outcome (codes "STIL 1.0;Signals{c In;d In;q Out;}SignalGroups{g='c+d';}Timing{WaveformTable w{Period'1000000000ns") ≡ refused cause.Token 1 87)
    × (outcome (codes "STIL 1.0;Signals{c In;d In;q Out;}SignalGroups{g='c+d';}Timing{WaveformTable w{Period'5Ns") ≡ refused (cause.Unsupported (codes "Ns")) 1 88)
    × (outcome (codes "STIL 1.0;Signals{c In;d In;q Out;}SignalGroups{g='c+d';}Timing{WaveformTable w{Period'5us") ≡ refused cause.Token 1 88)
    × (outcome (codes "STIL 1.0;Signals{c In;d In;q Out;}SignalGroups{g='c+d';}Timing{WaveformTable w{Period'1.5ns") ≡ refused cause.Token 1 88)
unfolding comment_rest note_rest gap_len gaps_from blank_len mark_kind quoted_text word_or_note lexeme kind_of bytes left next sees sees_word left_out sees_left_out sees_capital mark_refusal keyword_refusal expect after after_word keyword sees_name name sees_run one_character one_letter single number_from small_number unit direction signal signals_from signals_block member members_from members group groups_from name_if_any group_block sees_groups after_groups group_blocks_from group_blocks time event_letter event events_from waveform waveforms_from signal_waveforms signal_waveforms_from table_body waveform_table waveform_tables_from timing sees_characters characters_refusal run_of_characters runs_from characters assignment assignments_from vector table_used labelled statement statements_from version block_from block header_if_any listed_pattern burst known_name known_name_if_any used_timing exec executed pattern pattern_part stil_text patterns_in place_after next_place
tables_1 = (refl, refl, refl, refl, refl, refl)

pub tables_2 :
    (outcome (codes "STIL 1.0;Signals{c In;d In;q Out;}SignalGroups{g='c+d';}Timing{WaveformTable w{Period'100ns';Waveforms{c{0{'0ns'D;}0") ≡ refused (cause.Taken (codes "0")) 1 116)
    × (outcome (codes "STIL 1.0;Signals{c In;d In;q Out;}SignalGroups{g='c+d';}Timing{WaveformTable w{Period'100ns';Waveforms{c{0{'0ns'D;}}g{0") ≡ refused (cause.Taken (codes "0")) 1 119)
    × (outcome (codes "STIL 1.0;Signals{c In;d In;q Out;}SignalGroups{g='c+d';}Timing{WaveformTable w{Period'100ns';Waveforms{q{0{'0ns'X;}}c{0{'0ns'D;}}}}}") ≡ refused cause.Token 1 133)
    × (outcome (codes "STIL 1.0;Signals{c In;d In;q Out;}SignalGroups{g='c+d';}Timing{WaveformTable w{Period'100ns';Waveforms{c{01") ≡ refused (cause.Unsupported (codes "01")) 1 106)
    × (outcome (codes "STIL 1.0;Signals{c In;d In;q Out;}SignalGroups{g='c+d';}Timing{WaveformTable w{Period'100ns';Waveforms{c{0a{") ≡ refused (cause.Unsupported (codes "0a")) 1 106)
    × (outcome (codes "STIL 1.0;Signals{c In;d In;q Out;}SignalGroups{g='c+d';}Timing{WaveformTable w{Period'100ns';Waveforms{c{a_b{") ≡ refused cause.Token 1 107)
unfolding comment_rest note_rest gap_len gaps_from blank_len mark_kind quoted_text word_or_note lexeme kind_of bytes left next sees sees_word left_out sees_left_out sees_capital mark_refusal keyword_refusal expect after after_word keyword sees_name name sees_run one_character one_letter single number_from small_number unit direction signal signals_from signals_block member members_from members group groups_from name_if_any group_block sees_groups after_groups group_blocks_from group_blocks time event_letter event events_from waveform waveforms_from signal_waveforms signal_waveforms_from table_body waveform_table waveform_tables_from timing sees_characters characters_refusal run_of_characters runs_from characters assignment assignments_from vector table_used labelled statement statements_from version block_from block header_if_any listed_pattern burst known_name known_name_if_any used_timing exec executed pattern pattern_part stil_text patterns_in place_after next_place
tables_2 = (refl, refl, refl, refl, refl, refl)

pub tables_3 :
    (outcome (codes "STIL 1.0;Signals{c In;d In;q Out;}SignalGroups{g='c+d';}Timing{WaveformTable w{Period'100ns';Waveforms{c{C{}") ≡ refused (cause.Unsupported (codes "}")) 1 108)
    × (outcome (codes "STIL 1.0;Signals{c In;d In;q Out;}SignalGroups{g='c+d';}Timing{WaveformTable w{Period'100ns';Waveforms{c{0{'0ns'5;") ≡ refused cause.Token 1 113)
    × (outcome (codes "STIL 1.0;Signals{c In;d In;q Out;}SignalGroups{g='c+d';}Timing{WaveformTable w{Period'100ns';Waveforms{c{0{'0ns'5a;") ≡ refused (cause.Unsupported (codes "5a")) 1 113)
    × (outcome (codes "STIL 1.0;Signals{c In;d In;q Out;}SignalGroups{g='c+d';}Timing{WaveformTable w{Period'100ns';Waveforms{c{0{'0ns'd;") ≡ refused (cause.Unsupported (codes "d")) 1 113)
    × (outcome (codes "STIL 1.0;Signals{c In;d In;q Out;}SignalGroups{g='c+d';}Timing{WaveformTable w{Period'100ns';Waveforms{c{0{'0ns'DD;") ≡ refused (cause.Unsupported (codes "DD")) 1 113)
    × (outcome (codes "STIL 1.0;Signals{c In;d In;q Out;}SignalGroups{g='c+d';}Timing{WaveformTable w{Period'100ns';Waveforms{c{0{'0ns'L;") ≡ refused (cause.Unsupported (codes "L")) 1 113)
unfolding comment_rest note_rest gap_len gaps_from blank_len mark_kind quoted_text word_or_note lexeme kind_of bytes left next sees sees_word left_out sees_left_out sees_capital mark_refusal keyword_refusal expect after after_word keyword sees_name name sees_run one_character one_letter single number_from small_number unit direction signal signals_from signals_block member members_from members group groups_from name_if_any group_block sees_groups after_groups group_blocks_from group_blocks time event_letter event events_from waveform waveforms_from signal_waveforms signal_waveforms_from table_body waveform_table waveform_tables_from timing sees_characters characters_refusal run_of_characters runs_from characters assignment assignments_from vector table_used labelled statement statements_from version block_from block header_if_any listed_pattern burst known_name known_name_if_any used_timing exec executed pattern pattern_part stil_text patterns_in place_after next_place
tables_3 = (refl, refl, refl, refl, refl, refl)

pub tables_4 :
    (outcome (codes "STIL 1.0;Signals{c In;d In;q Out;}SignalGroups{g='c+d';}Timing{WaveformTable w{Period'100ns';Waveforms{c{0{'0ns'\"D\"") ≡ refused cause.Token 1 113)
    × (outcome (codes "STIL 1.0;Signals{c In;d In;q Out;}SignalGroups{g='c+d';}Timing{WaveformTable w{Period'100ns';Waveforms{c{0{'0ns'D;'1ns'U;}") ≡ refused (cause.Unsupported (codes "}")) 1 122)
    × (outcome (codes "STIL 1.0;Signals{c In;d In;q Out;}SignalGroups{g='c+d';}Timing{WaveformTable w{Period'100ns';Waveforms{c{0{'0ns'D;'1ns'D;") ≡ refused (cause.Unsupported (codes "D")) 1 120)
    × (outcome (codes "STIL 1.0;Signals{c In;d In;q Out;}SignalGroups{g='c+d';}Timing{WaveformTable w{Period'100ns';Waveforms{c{0{'1ns'D;'1ns'U;") ≡ refused (cause.Unsupported (codes "U")) 1 120)
    × (outcome (codes "STIL 1.0;Signals{c In;d In;q Out;}SignalGroups{g='c+d';}Timing{WaveformTable w{Period'100ns';Waveforms{c{0{'1ns'D;'2ns'U;'3000ps'D;'4ns'D") ≡ refused (cause.Unsupported (codes "D")) 1 137)
    × (outcome (codes "STIL 1.0;Signals{c In;d In;q Out;}SignalGroups{g='c+d';}Timing{WaveformTable w{Period'100ns';Waveforms{q{X{'1ns'X;'2ns'X") ≡ refused (cause.Unsupported (codes "X")) 1 120)
unfolding comment_rest note_rest gap_len gaps_from blank_len mark_kind quoted_text word_or_note lexeme kind_of bytes left next sees sees_word left_out sees_left_out sees_capital mark_refusal keyword_refusal expect after after_word keyword sees_name name sees_run one_character one_letter single number_from small_number unit direction signal signals_from signals_block member members_from members group groups_from name_if_any group_block sees_groups after_groups group_blocks_from group_blocks time event_letter event events_from waveform waveforms_from signal_waveforms signal_waveforms_from table_body waveform_table waveform_tables_from timing sees_characters characters_refusal run_of_characters runs_from characters assignment assignments_from vector table_used labelled statement statements_from version block_from block header_if_any listed_pattern burst known_name known_name_if_any used_timing exec executed pattern pattern_part stil_text patterns_in place_after next_place
tables_4 = (refl, refl, refl, refl, refl, refl)

pub tables_5 :
    (outcome (codes "STIL 1.0;Signals{c In;d In;q Out;}SignalGroups{g='c+d';}Timing{WaveformTable w{Period'100ns';Waveforms{q{X{'2ns'X;'2ns'H") ≡ refused (cause.Unsupported (codes "H")) 1 120)
    × (outcome (codes "STIL 1.0;Signals{c In;d In;q Out;}SignalGroups{g='c+d';}Timing{WaveformTable w{Period'100ns';Waveforms{q{X{'2ns'H;'3ns'L") ≡ refused (cause.Unsupported (codes "L")) 1 120)
    × (outcome (codes "STIL 1.0;Signals{c In;d In;q Out;}SignalGroups{m='c+q';}Timing{WaveformTable w{Period'100ns';Waveforms{m{0{'0ns'D") ≡ refused (cause.Unsupported (codes "D")) 1 113)
    × (outcome (codes "STIL 1.0;Signals{c In;d In;q Out;}SignalGroups{g='c+d';}Timing{WaveformTable w{Period'100ns';Waveforms{c{0{'0ns'D;'5ns'U;'9ns'D;D") ≡ refused cause.Token 1 129)
unfolding comment_rest note_rest gap_len gaps_from blank_len mark_kind quoted_text word_or_note lexeme kind_of bytes left next sees sees_word left_out sees_left_out sees_capital mark_refusal keyword_refusal expect after after_word keyword sees_name name sees_run one_character one_letter single number_from small_number unit direction signal signals_from signals_block member members_from members group groups_from name_if_any group_block sees_groups after_groups group_blocks_from group_blocks time event_letter event events_from waveform waveforms_from signal_waveforms signal_waveforms_from table_body waveform_table waveform_tables_from timing sees_characters characters_refusal run_of_characters runs_from characters assignment assignments_from vector table_used labelled statement statements_from version block_from block header_if_any listed_pattern burst known_name known_name_if_any used_timing exec executed pattern pattern_part stil_text patterns_in place_after next_place
tables_5 = (refl, refl, refl, refl)

pub times_1 :
    (outcome (codes "STIL 1.0;Signals{c In;d In;q Out;}SignalGroups{g='c+d';}Timing{WaveformTable w{Period'100ns';Waveforms{c{P{'0ns'D;'50ns'U;'80ns'D;}}q{L{'60ns'L;}}}}") ≡ refused cause.Times 1 148)
    × (outcome (codes "STIL 1.0;Signals{c In;d In;q Out;}SignalGroups{g='c+d';}Timing{WaveformTable w{Period'100ns';Waveforms{c{0{'40ns'D;}}q{L{'40ns'L;}}}}") ≡ refused cause.Times 1 133)
    × (outcome (codes "STIL 1.0;Signals{c In;d In;q Out;}SignalGroups{g='c+d';}Timing{WaveformTable w{Period'100ns';Waveforms{c{P{'0ns'D;'50ns'U;'80ns'D;}}d{P{'0ns'D;'20ns'U;'50ns'D;}}}}") ≡ refused cause.Times 1 163)
    × (outcome (codes "STIL 1.0;Signals{c In;d In;q Out;}SignalGroups{g='c+d';}Timing{WaveformTable w{Period'100ns';Waveforms{c{0{'0ns'D;}}q{X{'100ns'X;}}}}") ≡ refused cause.Times 1 133)
    × (outcome (codes "STIL 1.0;Signals{c In;d In;q Out;}SignalGroups{g='c+d';}Timing{WaveformTable w{Period'100ns';Waveforms{c{0{'50ns'D;}P{'0ns'D;'50ns'U;'80ns'D;}}}}") ≡ refused cause.Times 1 145)
    × (outcome (codes "STIL 1.0;Signals{c In;d In;q Out;}SignalGroups{g='c+d';}Timing{WaveformTable w{Period'100ns';Waveforms{c{0{'49ns'D;}P{'0ns'D;'50ns'U;'80ns'D;}}}}") ≡ refused cause.Token 1 146)
unfolding comment_rest note_rest gap_len gaps_from blank_len mark_kind quoted_text word_or_note lexeme kind_of bytes left next sees sees_word left_out sees_left_out sees_capital mark_refusal keyword_refusal expect after after_word keyword sees_name name sees_run one_character one_letter single number_from small_number unit direction signal signals_from signals_block member members_from members group groups_from name_if_any group_block sees_groups after_groups group_blocks_from group_blocks time event_letter event events_from waveform waveforms_from signal_waveforms signal_waveforms_from table_body waveform_table waveform_tables_from timing sees_characters characters_refusal run_of_characters runs_from characters assignment assignments_from vector table_used labelled statement statements_from version block_from block header_if_any listed_pattern burst known_name known_name_if_any used_timing exec executed pattern pattern_part stil_text patterns_in place_after next_place
times_1 = (refl, refl, refl, refl, refl, refl)

pub times_2 :
    (outcome (codes "STIL 1.0;Signals{c In;d In;q Out;}SignalGroups{g='c+d';}Timing{WaveformTable w{Period'0ns';Waveforms{}}") ≡ refused cause.Token 1 104)
    × (outcome (codes "STIL 1.0;Signals{c In;d In;q Out;}SignalGroups{g='c+d';}Timing{WaveformTable w{Period'100ns';Waveforms{c{0{'99999ps'D;}}}}") ≡ refused cause.Token 1 123)
unfolding comment_rest note_rest gap_len gaps_from blank_len mark_kind quoted_text word_or_note lexeme kind_of bytes left next sees sees_word left_out sees_left_out sees_capital mark_refusal keyword_refusal expect after after_word keyword sees_name name sees_run one_character one_letter single number_from small_number unit direction signal signals_from signals_block member members_from members group groups_from name_if_any group_block sees_groups after_groups group_blocks_from group_blocks time event_letter event events_from waveform waveforms_from signal_waveforms signal_waveforms_from table_body waveform_table waveform_tables_from timing sees_characters characters_refusal run_of_characters runs_from characters assignment assignments_from vector table_used labelled statement statements_from version block_from block header_if_any listed_pattern burst known_name known_name_if_any used_timing exec executed pattern pattern_part stil_text patterns_in place_after next_place
times_2 = (refl, refl)

pub bursts_1 :
    (outcome (codes "STIL 1.0;Signals{c In;d In;q Out;}SignalGroups{g='c+d';}Timing t{WaveformTable w{Period'100ns';Waveforms{g{0{'0ns'D;}1{'0ns'U;}P{'0ns'D;'50ns'U;'80ns'D;}}q{L{'40ns'L;}H{'0ns'X;'40ns'H;}X{'0ns'X;}}}}}PatternBurst b{PatList{p;p") ≡ refused cause.Token 1 225)
    × (outcome (codes "STIL 1.0;Signals{c In;d In;q Out;}SignalGroups{g='c+d';}Timing t{WaveformTable w{Period'100ns';Waveforms{g{0{'0ns'D;}1{'0ns'U;}P{'0ns'D;'50ns'U;'80ns'D;}}q{L{'40ns'L;}H{'0ns'X;'40ns'H;}X{'0ns'X;}}}}}PatternBurst b{PatList{p;}}PatternExec e{Timing t;PatternBurst c") ≡ refused (cause.Unknown (codes "c")) 1 263)
    × (outcome (codes "STIL 1.0;Signals{c In;d In;q Out;}SignalGroups{g='c+d';}Timing t{WaveformTable w{Period'100ns';Waveforms{g{0{'0ns'D;}1{'0ns'U;}P{'0ns'D;'50ns'U;'80ns'D;}}q{L{'40ns'L;}H{'0ns'X;'40ns'H;}X{'0ns'X;}}}}}PatternBurst b{PatList{p;}}PatternExec{Timing u") ≡ refused (cause.Unknown (codes "u")) 1 246)
    × (outcome (codes "STIL 1.0;Signals{c In;d In;q Out;}SignalGroups{g='c+d';}Timing{}PatternBurst b{PatList{p;}}PatternExec{Timing t") ≡ refused (cause.Unknown (codes "t")) 1 111)
    × (outcome (codes "STIL 1.0;Signals{c In;d In;q Out;}SignalGroups{g='c+d';}Timing t{WaveformTable w{Period'100ns';Waveforms{g{0{'0ns'D;}1{'0ns'U;}P{'0ns'D;'50ns'U;'80ns'D;}}q{L{'40ns'L;}H{'0ns'X;'40ns'H;}X{'0ns'X;}}}}}PatternBurst b{PatList{p;}}PatternExec{Timing;Loop") ≡ refused (cause.Unsupported (codes "Loop")) 1 246)
    × (outcome (codes "STIL 1.0;Signals{c In;d In;q Out;}SignalGroups{g='c+d';}Timing t{WaveformTable w{Period'100ns';Waveforms{g{0{'0ns'D;}1{'0ns'U;}P{'0ns'D;'50ns'U;'80ns'D;}}q{L{'40ns'L;}H{'0ns'X;'40ns'H;}X{'0ns'X;}}}}}PatternBurst b{PatList{p;}}PatternExec{PatternBurst b;}Pattern q") ≡ refused (cause.Unknown (codes "q")) 1 263)
unfolding comment_rest note_rest gap_len gaps_from blank_len mark_kind quoted_text word_or_note lexeme kind_of bytes left next sees sees_word left_out sees_left_out sees_capital mark_refusal keyword_refusal expect after after_word keyword sees_name name sees_run one_character one_letter single number_from small_number unit direction signal signals_from signals_block member members_from members group groups_from name_if_any group_block sees_groups after_groups group_blocks_from group_blocks time event_letter event events_from waveform waveforms_from signal_waveforms signal_waveforms_from table_body waveform_table waveform_tables_from timing sees_characters characters_refusal run_of_characters runs_from characters assignment assignments_from vector table_used labelled statement statements_from version block_from block header_if_any listed_pattern burst known_name known_name_if_any used_timing exec executed pattern pattern_part stil_text patterns_in place_after next_place
bursts_1 = (refl, refl, refl, refl, refl, refl)

pub bursts_2 :
    (outcome (codes "STIL 1.0;Signals{c In;d In;q Out;}SignalGroups{g='c+d';}Timing t{WaveformTable w{Period'100ns';Waveforms{g{0{'0ns'D;}1{'0ns'U;}P{'0ns'D;'50ns'U;'80ns'D;}}q{L{'40ns'L;}H{'0ns'X;'40ns'H;}X{'0ns'X;}}}}}PatternBurst b{PatList{p;}}PatternExec{PatternBurst b;}Pattern p{W w;V{g=01;q=L;}}Pattern q {") ≡ refused cause.Token 1 282)
    × (outcome (codes "STIL 1.0;Signals{c In;d In;q Out;}SignalGroups{g='c+d';}Timing t{WaveformTable w{Period'100ns';Waveforms{g{0{'0ns'D;}1{'0ns'U;}P{'0ns'D;'50ns'U;'80ns'D;}}q{L{'40ns'L;}H{'0ns'X;'40ns'H;}X{'0ns'X;}}}}}PatternBurst b{PatList{p;}}PatternExec{PatternBurst b;}Pattern p{W w;V{g=01;q=L;}}Procedures") ≡ refused (cause.Unsupported (codes "Procedures")) 1 282)
unfolding comment_rest note_rest gap_len gaps_from blank_len mark_kind quoted_text word_or_note lexeme kind_of bytes left next sees sees_word left_out sees_left_out sees_capital mark_refusal keyword_refusal expect after after_word keyword sees_name name sees_run one_character one_letter single number_from small_number unit direction signal signals_from signals_block member members_from members group groups_from name_if_any group_block sees_groups after_groups group_blocks_from group_blocks time event_letter event events_from waveform waveforms_from signal_waveforms signal_waveforms_from table_body waveform_table waveform_tables_from timing sees_characters characters_refusal run_of_characters runs_from characters assignment assignments_from vector table_used labelled statement statements_from version block_from block header_if_any listed_pattern burst known_name known_name_if_any used_timing exec executed pattern pattern_part stil_text patterns_in place_after next_place
bursts_2 = (refl, refl)

-- a run of letters and digits where one character is expected, whatever byte follows it
pub runs_1 :
    (outcome (codes "STIL 1.0;Signals{c In;d In;q Out;}SignalGroups{g='c+d';}Timing t{WaveformTable w{Period'100ns';Waveforms{g{ab_c{") ≡ refused (cause.Unsupported (codes "ab")) 1 108)
    × (outcome (codes "STIL 1.0;Signals{c In;d In;q Out;}SignalGroups{g='c+d';}Timing t{WaveformTable w{Period'100ns';Waveforms{g{Loop[1]{") ≡ refused (cause.Unsupported (codes "Loop")) 1 108)
    × (outcome (codes "STIL 1.0;Signals{c In;d In;q Out;}SignalGroups{g='c+d';}Timing t{WaveformTable w{Period'100ns';Waveforms{g{a_b{") ≡ refused cause.Token 1 109)
    × (outcome (codes "STIL 1.0;Signals{c In;d In;q Out;}SignalGroups{g='c+d';}Timing t{WaveformTable w{Period'100ns';Waveforms{g{0_{") ≡ refused cause.Token 1 109)
    × (outcome (codes "STIL 1.0;Signals{c In;d In;q Out;}SignalGroups{g='c+d';}Timing t{WaveformTable w{Period'100ns';Waveforms{g{1.0{") ≡ refused cause.Token 1 109)
unfolding comment_rest note_rest gap_len gaps_from blank_len mark_kind quoted_text word_or_note lexeme kind_of bytes left next sees sees_word left_out sees_left_out sees_capital mark_refusal keyword_refusal expect after after_word keyword sees_name name sees_run one_character one_letter single number_from small_number unit direction signal signals_from signals_block member members_from members group groups_from name_if_any group_block sees_groups after_groups group_blocks_from group_blocks time event_letter event events_from waveform waveforms_from signal_waveforms signal_waveforms_from table_body waveform_table waveform_tables_from timing sees_characters characters_refusal run_of_characters runs_from characters assignment assignments_from vector table_used labelled statement statements_from version block_from block header_if_any listed_pattern burst known_name known_name_if_any used_timing exec executed pattern pattern_part stil_text patterns_in place_after next_place
runs_1 = (refl, refl, refl, refl, refl)

pub runs_2 :
    (outcome (codes "STIL 1.0;Signals{c In;d In;q Out;}SignalGroups{g='c+d';}Timing t{WaveformTable w{Period'100ns';Waveforms{g{a[0]{") ≡ refused cause.Token 1 109)
    × (outcome (codes "STIL 1.0;Signals{c In;d In;q Out;}SignalGroups{g='c+d';}Timing t{WaveformTable w{Period'100ns';Waveforms{g{a{'0ns'D;}a_{") ≡ refused (cause.Taken (codes "a")) 1 118)
    × (outcome (codes "STIL 1.0;Signals{c In;d In;q Out;}SignalGroups{g='c+d';}Timing t{WaveformTable w{Period'100ns';Waveforms{g{a{'0ns'DU_;") ≡ refused (cause.Unsupported (codes "DU")) 1 115)
    × (outcome (codes "STIL 1.0;Signals{c In;d In;q Out;}SignalGroups{g='c+d';}Timing t{WaveformTable w{Period'100ns';Waveforms{g{a{'0ns'D[0];") ≡ refused cause.Token 1 116)
    × (outcome (codes "STIL 1.0;Signals{c In;d In;q Out;}SignalGroups{g='c+d';}Timing t{WaveformTable w{Period'100ns';Waveforms{g{a{'0ns'D_;") ≡ refused cause.Token 1 116)
unfolding comment_rest note_rest gap_len gaps_from blank_len mark_kind quoted_text word_or_note lexeme kind_of bytes left next sees sees_word left_out sees_left_out sees_capital mark_refusal keyword_refusal expect after after_word keyword sees_name name sees_run one_character one_letter single number_from small_number unit direction signal signals_from signals_block member members_from members group groups_from name_if_any group_block sees_groups after_groups group_blocks_from group_blocks time event_letter event events_from waveform waveforms_from signal_waveforms signal_waveforms_from table_body waveform_table waveform_tables_from timing sees_characters characters_refusal run_of_characters runs_from characters assignment assignments_from vector table_used labelled statement statements_from version block_from block header_if_any listed_pattern burst known_name known_name_if_any used_timing exec executed pattern pattern_part stil_text patterns_in place_after next_place
runs_2 = (refl, refl, refl, refl, refl)

pub runs_3 :
    (outcome (codes "STIL 1.0;Signals{c In;d In;q Out;}SignalGroups{g='c+d';}Timing t{WaveformTable w{Period'100ns';Waveforms{g{a{'0ns'Q[0];") ≡ refused (cause.Unsupported (codes "Q")) 1 115)
    × (outcome (codes "STIL 1.0;Signals{c In;d In;q Out;}SignalGroups{g='c+d';}Timing t{WaveformTable w{Period'100ns';Waveforms{g{_a{") ≡ refused cause.Token 1 108)
    × (outcome (codes "STIL 1.0;Signals{c In;d In;q Out;}SignalGroups{g='c+d';}Timing t{WaveformTable w{Period'100ns';Waveforms{g{a{'0ns'5_;") ≡ refused cause.Token 1 115)
    × (outcome (codes "STIL 1.0;Signals{c In;d In;q Out;}SignalGroups{g='c+d';}Timing t{WaveformTable w{Period'100ns';Waveforms{g{10_{") ≡ refused (cause.Unsupported (codes "10")) 1 108)
    × (outcome (codes "STIL 1.0;Signals{c In;d In;q Out;}SignalGroups{g='c+d';}Timing t{WaveformTable w{Period'100ns';Waveforms{g{10.5{") ≡ refused (cause.Unsupported (codes "10")) 1 108)
unfolding comment_rest note_rest gap_len gaps_from blank_len mark_kind quoted_text word_or_note lexeme kind_of bytes left next sees sees_word left_out sees_left_out sees_capital mark_refusal keyword_refusal expect after after_word keyword sees_name name sees_run one_character one_letter single number_from small_number unit direction signal signals_from signals_block member members_from members group groups_from name_if_any group_block sees_groups after_groups group_blocks_from group_blocks time event_letter event events_from waveform waveforms_from signal_waveforms signal_waveforms_from table_body waveform_table waveform_tables_from timing sees_characters characters_refusal run_of_characters runs_from characters assignment assignments_from vector table_used labelled statement statements_from version block_from block header_if_any listed_pattern burst known_name known_name_if_any used_timing exec executed pattern pattern_part stil_text patterns_in place_after next_place
runs_3 = (refl, refl, refl, refl, refl)

pub vectors_1 :
    (outcome (codes "STIL 1.0;Signals{c In;d In;q Out;}SignalGroups{g='c+d';}Timing t{WaveformTable w{Period'100ns';Waveforms{g{0{'0ns'D;}1{'0ns'U;}P{'0ns'D;'50ns'U;'80ns'D;}}q{L{'40ns'L;}H{'0ns'X;'40ns'H;}X{'0ns'X;}}}}}PatternBurst b{PatList{p;}}PatternExec{PatternBurst b;}Pattern p{W w;W x") ≡ refused (cause.Unknown (codes "x")) 1 271)
    × (outcome (codes "STIL 1.0;Signals{c In;d In;q Out;}SignalGroups{g='c+d';}Timing t{WaveformTable w{Period'100ns';Waveforms{g{0{'0ns'D;}1{'0ns'U;}P{'0ns'D;'50ns'U;'80ns'D;}}q{L{'40ns'L;}H{'0ns'X;'40ns'H;}X{'0ns'X;}}}}}PatternBurst b{PatList{p;}}PatternExec{PatternBurst b;}Pattern p{W w;V{z") ≡ refused (cause.Unknown (codes "z")) 1 271)
    × (outcome (codes "STIL 1.0;Signals{c In;d In;q Out;}SignalGroups{g='c+d';}Timing t{WaveformTable w{Period'100ns';Waveforms{g{0{'0ns'D;}1{'0ns'U;}P{'0ns'D;'50ns'U;'80ns'D;}}q{L{'40ns'L;}H{'0ns'X;'40ns'H;}X{'0ns'X;}}}}}PatternBurst b{PatList{p;}}PatternExec{PatternBurst b;}Pattern p{W w;V{g=01;c") ≡ refused (cause.Taken (codes "c")) 1 276)
    × (outcome (codes "STIL 1.0;Signals{c In;d In;q Out;}SignalGroups{g='c+d';}Timing t{WaveformTable w{Period'100ns';Waveforms{g{0{'0ns'D;}1{'0ns'U;}P{'0ns'D;'50ns'U;'80ns'D;}}q{L{'40ns'L;}H{'0ns'X;'40ns'H;}X{'0ns'X;}}}}}PatternBurst b{PatList{p;}}PatternExec{PatternBurst b;}Pattern p{W w;V{c=0;g") ≡ refused (cause.Taken (codes "g")) 1 275)
    × (outcome (codes "STIL 1.0;Signals{c In;d In;q Out;}SignalGroups{r='c+d+c';}Timing{}PatternBurst b{PatList{p;}}PatternExec{PatternBurst b;}Pattern p{V{r") ≡ refused (cause.Taken (codes "r")) 1 134)
    × (outcome (codes "STIL 1.0;Signals{c In;d In;q Out;}SignalGroups{g='c+d';}Timing t{WaveformTable w{Period'100ns';Waveforms{g{0{'0ns'D;}1{'0ns'U;}P{'0ns'D;'50ns'U;'80ns'D;}}q{L{'40ns'L;}H{'0ns'X;'40ns'H;}X{'0ns'X;}}}}}PatternBurst b{PatList{p;}}PatternExec{PatternBurst b;}Pattern p{W w;V{}V{}V{}a:V{}") ≡ refused cause.Count 1 280)
unfolding comment_rest note_rest gap_len gaps_from blank_len mark_kind quoted_text word_or_note lexeme kind_of bytes left next sees sees_word left_out sees_left_out sees_capital mark_refusal keyword_refusal expect after after_word keyword sees_name name sees_run one_character one_letter single number_from small_number unit direction signal signals_from signals_block member members_from members group groups_from name_if_any group_block sees_groups after_groups group_blocks_from group_blocks time event_letter event events_from waveform waveforms_from signal_waveforms signal_waveforms_from table_body waveform_table waveform_tables_from timing sees_characters characters_refusal run_of_characters runs_from characters assignment assignments_from vector table_used labelled statement statements_from version block_from block header_if_any listed_pattern burst known_name known_name_if_any used_timing exec executed pattern pattern_part stil_text patterns_in place_after next_place
vectors_1 = (refl, refl, refl, refl, refl, refl)

pub vectors_2 :
    (outcome (codes "STIL 1.0;Signals{c In;d In;q Out;}SignalGroups{g='c+d';}Timing t{WaveformTable w{Period'100ns';Waveforms{g{0{'0ns'D;}1{'0ns'U;}P{'0ns'D;'50ns'U;'80ns'D;}}q{L{'40ns'L;}H{'0ns'X;'40ns'H;}X{'0ns'X;}}}}}PatternBurst b{PatList{p;}}PatternExec{PatternBurst b;}Pattern p{W w;V{g=0;") ≡ refused cause.Count 1 274)
    × (outcome (codes "STIL 1.0;Signals{c In;d In;q Out;}SignalGroups{g='c+d';}Timing t{WaveformTable w{Period'100ns';Waveforms{g{0{'0ns'D;}1{'0ns'U;}P{'0ns'D;'50ns'U;'80ns'D;}}q{L{'40ns'L;}H{'0ns'X;'40ns'H;}X{'0ns'X;}}}}}PatternBurst b{PatList{p;}}PatternExec{PatternBurst b;}Pattern p{W w;V{g=01z;") ≡ refused cause.Count 1 276)
    × (outcome (codes "STIL 1.0;Signals{c In;d In;q Out;}SignalGroups{g='c+d';}Timing t{WaveformTable w{Period'100ns';Waveforms{g{0{'0ns'D;}1{'0ns'U;}P{'0ns'D;'50ns'U;'80ns'D;}}q{L{'40ns'L;}H{'0ns'X;'40ns'H;}X{'0ns'X;}}}}}PatternBurst b{PatList{p;}}PatternExec{PatternBurst b;}Pattern p{W w;V{g=0L;") ≡ refused cause.NoWaveform 1 274)
    × (outcome (codes "STIL 1.0;Signals{c In;d In;q Out;}SignalGroups{g='c+d';}Timing t{WaveformTable w{Period'100ns';Waveforms{g{0{'0ns'D;}1{'0ns'U;}P{'0ns'D;'50ns'U;'80ns'D;}}q{L{'40ns'L;}H{'0ns'X;'40ns'H;}X{'0ns'X;}}}}}PatternBurst b{PatList{p;}}PatternExec{PatternBurst b;}Pattern p{V{g=01;") ≡ refused cause.NoWaveform 1 269)
    × (outcome (codes "STIL 1.0;Signals{c In;d In;q Out;}SignalGroups{g='c+d';}Timing t{WaveformTable w{Period'100ns';Waveforms{g{0{'0ns'D;}1{'0ns'U;}P{'0ns'D;'50ns'U;'80ns'D;}}q{L{'40ns'L;}H{'0ns'X;'40ns'H;}X{'0ns'X;}}}}}PatternBurst b{PatList{p;}}PatternExec{PatternBurst b;}Pattern p{W w;V{g=;") ≡ refused cause.Token 1 273)
    × (outcome (codes "STIL 1.0;Signals{c In;d In;q Out;}SignalGroups{g='c+d';}Timing t{WaveformTable w{Period'100ns';Waveforms{g{0{'0ns'D;}1{'0ns'U;}P{'0ns'D;'50ns'U;'80ns'D;}}q{L{'40ns'L;}H{'0ns'X;'40ns'H;}X{'0ns'X;}}}}}PatternBurst b{PatList{p;}}PatternExec{PatternBurst b;}Pattern p{W w;V{g=0_1;") ≡ refused cause.Token 1 274)
unfolding comment_rest note_rest gap_len gaps_from blank_len mark_kind quoted_text word_or_note lexeme kind_of bytes left next sees sees_word left_out sees_left_out sees_capital mark_refusal keyword_refusal expect after after_word keyword sees_name name sees_run one_character one_letter single number_from small_number unit direction signal signals_from signals_block member members_from members group groups_from name_if_any group_block sees_groups after_groups group_blocks_from group_blocks time event_letter event events_from waveform waveforms_from signal_waveforms signal_waveforms_from table_body waveform_table waveform_tables_from timing sees_characters characters_refusal run_of_characters runs_from characters assignment assignments_from vector table_used labelled statement statements_from version block_from block header_if_any listed_pattern burst known_name known_name_if_any used_timing exec executed pattern pattern_part stil_text patterns_in place_after next_place
vectors_2 = (refl, refl, refl, refl, refl, refl)

pub vectors_3 :
    (outcome (codes "STIL 1.0;Signals{c In;d In;q Out;}SignalGroups{g='c+d';}Timing t{WaveformTable w{Period'100ns';Waveforms{g{0{'0ns'D;}1{'0ns'U;}P{'0ns'D;'50ns'U;'80ns'D;}}q{L{'40ns'L;}H{'0ns'X;'40ns'H;}X{'0ns'X;}}}}}PatternBurst b{PatList{p;}}PatternExec{PatternBurst b;}Pattern p{W w;V{g=\\r2 01") ≡ refused (cause.Unsupported (codes "\\")) 1 273)
    × (outcome (codes "STIL 1.0;Signals{c In;d In;q Out;}SignalGroups{g='c+d';}Timing t{WaveformTable w{Period'100ns';Waveforms{g{0{'0ns'D;}1{'0ns'U;}P{'0ns'D;'50ns'U;'80ns'D;}}q{L{'40ns'L;}H{'0ns'X;'40ns'H;}X{'0ns'X;}}}}}PatternBurst b{PatList{p;}}PatternExec{PatternBurst b;}Pattern p{W w;V{g=\"01\"") ≡ refused cause.Token 1 273)
    × (outcome (codes "STIL 1.0;Signals{c In;d In;q Out;}SignalGroups{g='c+d';}Timing t{WaveformTable w{Period'100ns';Waveforms{g{0{'0ns'D;}1{'0ns'U;}P{'0ns'D;'50ns'U;'80ns'D;}}q{L{'40ns'L;}H{'0ns'X;'40ns'H;}X{'0ns'X;}}}}}PatternBurst b{PatList{p;}}PatternExec{PatternBurst b;}Pattern p{W w;V{c=Loop;") ≡ refused cause.NoWaveform 1 273)
    × (outcome (codes "STIL 1.0;Signals{c In;d In;q Out;}SignalGroups{g='c+d';}Timing t{WaveformTable w{Period'100ns';Waveforms{g{0{'0ns'D;}1{'0ns'U;}P{'0ns'D;'50ns'U;'80ns'D;}}q{L{'40ns'L;}H{'0ns'X;'40ns'H;}X{'0ns'X;}}}}}PatternBurst b{PatList{p;}}PatternExec{PatternBurst b;}Pattern p{W w;V{q=LOO;") ≡ refused cause.Count 1 276)
    × (outcome (codes "STIL 1.0;Signals{c In;d In;q Out;}SignalGroups{g='c+d';}Timing t{WaveformTable w{Period'100ns';Waveforms{g{0{'0ns'D;}1{'0ns'U;}P{'0ns'D;'50ns'U;'80ns'D;}}q{L{'40ns'L;}H{'0ns'X;'40ns'H;}X{'0ns'X;}}}}}PatternBurst b{PatList{p;}}PatternExec{PatternBurst b;}Pattern p{W w;V{g=01}") ≡ refused cause.Token 1 275)
    × (outcome (codes "STIL 1.0;Signals{c In;d In;q Out;}SignalGroups{g='c+d';}Timing t{WaveformTable w{Period'100ns';Waveforms{g{0{'0ns'D;}1{'0ns'U;}P{'0ns'D;'50ns'U;'80ns'D;}}q{L{'40ns'L;}H{'0ns'X;'40ns'H;}X{'0ns'X;}}}}}PatternBurst b{PatList{p;}}PatternExec{PatternBurst b;}Pattern p{W w;Loop") ≡ refused (cause.Unsupported (codes "Loop")) 1 269)
unfolding comment_rest note_rest gap_len gaps_from blank_len mark_kind quoted_text word_or_note lexeme kind_of bytes left next sees sees_word left_out sees_left_out sees_capital mark_refusal keyword_refusal expect after after_word keyword sees_name name sees_run one_character one_letter single number_from small_number unit direction signal signals_from signals_block member members_from members group groups_from name_if_any group_block sees_groups after_groups group_blocks_from group_blocks time event_letter event events_from waveform waveforms_from signal_waveforms signal_waveforms_from table_body waveform_table waveform_tables_from timing sees_characters characters_refusal run_of_characters runs_from characters assignment assignments_from vector table_used labelled statement statements_from version block_from block header_if_any listed_pattern burst known_name known_name_if_any used_timing exec executed pattern pattern_part stil_text patterns_in place_after next_place
vectors_3 = (refl, refl, refl, refl, refl, refl)

pub vectors_4 :
    (outcome (codes "STIL 1.0;Signals{c In;d In;q Out;}SignalGroups{g='c+d';}Timing t{WaveformTable w{Period'100ns';Waveforms{g{0{'0ns'D;}1{'0ns'U;}P{'0ns'D;'50ns'U;'80ns'D;}}q{L{'40ns'L;}H{'0ns'X;'40ns'H;}X{'0ns'X;}}}}}PatternBurst b{PatList{p;}}PatternExec{PatternBurst b;}Pattern p{W w;a:W w;") ≡ refused (cause.Unsupported (codes "W")) 1 271)
    × (outcome (codes "STIL 1.0;Signals{c In;d In;q Out;}SignalGroups{g='c+d';}Timing t{WaveformTable w{Period'100ns';Waveforms{g{0{'0ns'D;}1{'0ns'U;}P{'0ns'D;'50ns'U;'80ns'D;}}q{L{'40ns'L;}H{'0ns'X;'40ns'H;}X{'0ns'X;}}}}}PatternBurst b{PatList{p;}}PatternExec{PatternBurst b;}Pattern p{W w;a V") ≡ refused cause.Token 1 271)
    × (outcome (codes "STIL 1.0;Signals{c In;d In;q Out;}SignalGroups{g='c+d';}Timing t{WaveformTable w{Period'100ns';Waveforms{g{0{'0ns'D;}1{'0ns'U;}P{'0ns'D;'50ns'U;'80ns'D;}}q{L{'40ns'L;}H{'0ns'X;'40ns'H;}X{'0ns'X;}}}}}PatternBurst b{PatList{p;}}PatternExec{PatternBurst b;}Pattern p{W w;C ") ≡ refused (cause.Unsupported (codes "C")) 1 269)
    × (outcome (codes "STIL 1.0;Signals{c In;d In;q Out;}SignalGroups{g='c+d';}Timing t{WaveformTable w{Period'100ns';Waveforms{g{0{'0ns'D;}1{'0ns'U;}P{'0ns'D;'50ns'U;'80ns'D;}}q{L{'40ns'L;}H{'0ns'X;'40ns'H;}X{'0ns'X;}}}}}PatternBurst b{PatList{p;}}PatternExec{PatternBurst b;}Pattern p{W w;5") ≡ refused cause.Token 1 269)
    × (outcome (codes "STIL 1.0;Signals{c In;d In;q Out;}SignalGroups{g='c+d';}Timing t{WaveformTable w{Period'100ns';Waveforms{g{0{'0ns'D;}1{'0ns'U;}P{'0ns'D;'50ns'U;'80ns'D;}}q{L{'40ns'L;}H{'0ns'X;'40ns'H;}X{'0ns'X;}}}}}PatternBurst b{PatList{p;}}PatternExec{PatternBurst b;}Pattern p{W w;V Foo") ≡ refused cause.Token 1 271)
unfolding comment_rest note_rest gap_len gaps_from blank_len mark_kind quoted_text word_or_note lexeme kind_of bytes left next sees sees_word left_out sees_left_out sees_capital mark_refusal keyword_refusal expect after after_word keyword sees_name name sees_run one_character one_letter single number_from small_number unit direction signal signals_from signals_block member members_from members group groups_from name_if_any group_block sees_groups after_groups group_blocks_from group_blocks time event_letter event events_from waveform waveforms_from signal_waveforms signal_waveforms_from table_body waveform_table waveform_tables_from timing sees_characters characters_refusal run_of_characters runs_from characters assignment assignments_from vector table_used labelled statement statements_from version block_from block header_if_any listed_pattern burst known_name known_name_if_any used_timing exec executed pattern pattern_part stil_text patterns_in place_after next_place
vectors_4 = (refl, refl, refl, refl, refl)

pub pulses_1 :
    (outcome (codes "STIL 1.0;Signals{c In;d In;q Out;}SignalGroups{g='c+d';}Timing t{WaveformTable w{Period'100ns';Waveforms{g{0{'0ns'D;}1{'0ns'U;}P{'0ns'D;'50ns'U;'80ns'D;}}q{L{'40ns'L;}H{'0ns'X;'40ns'H;}X{'0ns'X;}}}}}PatternBurst b{PatList{p;}}PatternExec{PatternBurst b;}Pattern p{W w;V{g=01;}V{g=1P;}}") ≡ unsteady 0 (codes "d"))
    × (outcome (codes "STIL 1.0;Signals{c In;d In;q Out;}SignalGroups{g='c+d';}Timing t{WaveformTable w{Period'100ns';Waveforms{g{0{'0ns'D;}1{'0ns'U;}P{'0ns'D;'50ns'U;'80ns'D;}}q{L{'40ns'L;}H{'0ns'X;'40ns'H;}X{'0ns'X;}}}}}PatternBurst b{PatList{p;}}PatternExec{PatternBurst b;}Pattern p{W w;V{g=0P;}V{q=L;}}") ≡ None)
    × (outcome (codes "STIL 1.0;Signals{c In;d In;q Out;}SignalGroups{g='c+d';}Timing t{WaveformTable w{Period'100ns';Waveforms{g{0{'0ns'D;}1{'0ns'U;}P{'0ns'D;'50ns'U;'80ns'D;}}q{L{'40ns'L;}H{'0ns'X;'40ns'H;}X{'0ns'X;}}}}}PatternBurst b{PatList{p;}}PatternExec{PatternBurst b;}Pattern p{W w;V{g=0P;}V{g=10;}V{g=P0;}}") ≡ unsteady 1 (codes "c"))
    × (outcome (codes "STIL 1.0;Signals{c In;d In;q Out;}SignalGroups{g='c+d';}Timing t{WaveformTable w{Period'100ns';Waveforms{g{0{'0ns'D;}1{'0ns'U;}P{'0ns'D;'50ns'U;'80ns'D;}}q{L{'40ns'L;}H{'0ns'X;'40ns'H;}X{'0ns'X;}}}}}PatternBurst b{PatList{p;}}PatternExec{PatternBurst b;}Pattern p{W w;V{q=L;}V{c=P;}}") ≡ unsteady 0 (codes "c"))
    × (outcome (codes "STIL 1.0;Signals{c In;d In;q Out;}SignalGroups{g='c+d';}Timing t{WaveformTable w{Period'100ns';Waveforms{g{0{'0ns'D;}1{'0ns'U;}P{'0ns'D;'50ns'U;'80ns'D;}}q{L{'40ns'L;}H{'0ns'X;'40ns'H;}X{'0ns'X;}}}}}PatternBurst b{PatList{p;}}PatternExec{PatternBurst b;}Pattern p{W w;V{g=01;}V{g=1P;}") ≡ refused cause.Token 1 285)
unfolding comment_rest note_rest gap_len gaps_from blank_len mark_kind quoted_text word_or_note lexeme kind_of bytes left next sees sees_word left_out sees_left_out sees_capital mark_refusal keyword_refusal expect after after_word keyword sees_name name sees_run one_character one_letter single number_from small_number unit direction signal signals_from signals_block member members_from members group groups_from name_if_any group_block sees_groups after_groups group_blocks_from group_blocks time event_letter event events_from waveform waveforms_from signal_waveforms signal_waveforms_from table_body waveform_table waveform_tables_from timing sees_characters characters_refusal run_of_characters runs_from characters assignment assignments_from vector table_used labelled statement statements_from version block_from block header_if_any listed_pattern burst known_name known_name_if_any used_timing exec executed pattern pattern_part stil_text patterns_in place_after next_place
pulses_1 = (refl, refl, refl, refl, refl)

pub short_text : patterns_in 3 (codes "STIL 1.0; Signals { c In; d In; q Out; } Timing { WaveformTable t { Period '20ns'; Waveforms { c { 0 { '0ns' D; } P { '0ns' D; '10ns' U; '15ns' D; } } d { 1 { '0ns' U; } } q { H { '5ns' H; } } } } } PatternBurst b { PatList { p; } } PatternExec { PatternBurst b; } Pattern p { W t; V { c = P; d = 1; } V { c = 0; q = H; } }") ≡ Ok (record { signals = (record { name = codes "c"; dir = dir.Input } ∷ record { name = codes "d"; dir = dir.Input } ∷ record { name = codes "q"; dir = dir.Output } ∷ []); vectors = (act.Pulse ∷ act.High ∷ act.Unset ∷ []) ∷ (act.Low ∷ act.High ∷ act.ExpectHigh ∷ []) ∷ []; notes = [] })
unfolding comment_rest note_rest gap_len gaps_from blank_len mark_kind quoted_text word_or_note lexeme kind_of bytes left next sees sees_word left_out sees_left_out sees_capital mark_refusal keyword_refusal expect after after_word keyword sees_name name sees_run one_character one_letter single number_from small_number unit direction signal signals_from signals_block member members_from members group groups_from name_if_any group_block sees_groups after_groups group_blocks_from group_blocks time event_letter event events_from waveform waveforms_from signal_waveforms signal_waveforms_from table_body waveform_table waveform_tables_from timing sees_characters characters_refusal run_of_characters runs_from characters assignment assignments_from vector table_used labelled statement statements_from version block_from block header_if_any listed_pattern burst known_name known_name_if_any used_timing exec executed pattern pattern_part stil_text patterns_in place_after next_place
short_text = refl

pub written_text : patterns_in 3 (codes "STIL 1.0;\nSignals {\n\"c\" In;\n\"d\" In;\n\"q\" Out;\n}\nSignalGroups {\nins = '\"c\"+\"d\"';\nouts = '\"q\"';\n}\nTiming {\nWaveformTable w {\nPeriod '100ns';\nWaveforms {\nins { 0 { '0ns' D; } 1 { '0ns' U; } P { '0ns' D; '50ns' U; '80ns' D; } }\nouts { L { '0ns' X; '40ns' L; } H { '0ns' X; '40ns' H; } X { '0ns' X; } }\n}\n}\n}\nPatternBurst b { PatList { p; } }\nPatternExec { PatternBurst b; }\nPattern p {\nW w;\nAnn {* set-up *}\nV { ins = P1; outs = X; }\nAnn {* pattern 0 *}\nV { ins = 00; outs = H; }\nAnn {* unload *}\nV { ins = P1; outs = L; }\n}\n") ≡ Ok (record { signals = (record { name = codes "c"; dir = dir.Input } ∷ record { name = codes "d"; dir = dir.Input } ∷ record { name = codes "q"; dir = dir.Output } ∷ []); vectors = (act.Pulse ∷ act.High ∷ act.Ignore ∷ []) ∷ (act.Low ∷ act.Low ∷ act.ExpectHigh ∷ []) ∷ (act.Pulse ∷ act.High ∷ act.ExpectLow ∷ []) ∷ []; notes = [] })
unfolding comment_rest note_rest gap_len gaps_from blank_len mark_kind quoted_text word_or_note lexeme kind_of bytes left next sees sees_word left_out sees_left_out sees_capital mark_refusal keyword_refusal expect after after_word keyword sees_name name sees_run one_character one_letter single number_from small_number unit direction signal signals_from signals_block member members_from members group groups_from name_if_any group_block sees_groups after_groups group_blocks_from group_blocks time event_letter event events_from waveform waveforms_from signal_waveforms signal_waveforms_from table_body waveform_table waveform_tables_from timing sees_characters characters_refusal run_of_characters runs_from characters assignment assignments_from vector table_used labelled statement statements_from version block_from block header_if_any listed_pattern burst known_name known_name_if_any used_timing exec executed pattern pattern_part stil_text patterns_in place_after next_place
written_text = refl
