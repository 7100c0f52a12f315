-- What is written stands for its signals and its vectors.
use Rattle.std.proofs.Common.{◌≡◌, ◌≢◌, ℕ, suc, ◌+◌, ◌<◌, ◌≤◌, true, false, cond, List, [], ◌∷◌, ◌++◌, length, flat_map, take, codes, replicate, Option, Some, None, is_some, Ok, ◌⊎◌, All, AllPairs, refl, sym, ap, subst, ◌∙◌, arith, length-append, append_assoc}
use Rattle.std.specs.List.{AllZip, prefix_len}
use Rattle.std.proofs.lemmas.List.{take-append-drop, length-replicate}
use Rattle.std.proofs.lemmas.List.Folds.{length-prefix_len}
use Rattle.dft_base.specs.Lexing.{Text}
use Rattle.dft_base.specs.Parser.{value_of}
use Rattle.dft_base.specs.declared.dir.Dir.{Dir}
use Rattle.dft_base.specs.declared.dir.Dir.TheVariants.{Input, Output}
use Rattle.dft_patterns.specs.declared.act.Act.{Act}
use Rattle.dft_patterns.specs.declared.act.Act.TheVariants.{Unset}
use Rattle.dft_stil_text.specs.declared.limits.TheConstants.{MAX_VECTORS}
use Rattle.dft_patterns.specs.declared.signal.StilSignal.{StilSignal}
use Rattle.dft_patterns.specs.declared.steadiness.Unsteady.{Unsteady}
use Rattle.dft_stil_tokens.specs.declared.text.TokenKind.TheVariants as kind
use Rattle.dft_patterns.specs.Acts.{IsActOf, IsTold}
use Rattle.dft_stil_tokens.specs.Lexemes.{Token, tokens}
use Rattle.dft_patterns.specs.Patterns.{Patterns, IsWellFormed, IsSteady, is_input, input_count, inputs, outputs}
use Rattle.dft_patterns.specs.Steadiness.{first_unsteady}
use Rattle.dft_stil_tokens.specs.Steps.{Outcome, kind_of, bytes, left, next, sees, sees_word, sees_name, expect, after, after_word, keyword, name}
use Rattle.dft_stil_text.specs.SignalGroups.{Names, signals_block, group_blocks, name_if_any}
use Rattle.dft_stil_text.specs.WaveformTables.{Timing, WaveformTable, timing}
use Rattle.dft_stil_text.specs.Statements.{PatternBlock, table_used, statement, statements_from}
use Rattle.dft_stil_text.specs.PatternText.{version, header_if_any, Burst, listed_pattern, burst, known_name, used_timing, exec, executed, pattern, pattern_part, stil_text, steady_or, tested, patterns_in, StandsFor}
use Rattle.dft_stil_out.specs.Writable.{IsWritable}
use Rattle.dft_stil_out.specs.Written.{signal_line, input_waveforms, output_waveforms, middle, head, noted_lines, noted}
use Rattle.dft_stil_out.specs.Written as form
use Rattle.dft_stil_out.specs.Laws.{ReadsBack}
use Rattle.dft_patterns.proofs.SteadyLemmas.{some_is_unsteady}
use Rattle.dft_stil_out.proofs.WrittenTokens.{cut_up, token, ahead, cut_up-start, cut_up-groups, cut_up-burst, cut_up-exec, cut_up-pattern}
use Rattle.dft_stil_out.proofs.WrittenSignals.{AllNew, all_new, AllQuotable, all_quotable, alone, declarations_read}
use Rattle.dft_stil_out.proofs.WrittenGroups.{grouped, grouped-signals, groups_read, timing_text}
use Rattle.dft_stil_out.proofs.WrittenTiming.{AllDir, written_table, written_timing, timing_read, input_acts, output_acts}
use Rattle.dft_stil_out.proofs.WrittenVectors.{AllActs, Means, so_far, one_table}
use Rattle.dft_stil_out.proofs.WrittenLines.{Parted, AllParted, end_text, lines_long, last_acts, lines_read}

-- ---- burst, execution and pattern

-- the burst that is written
abbrev the_burst : Burst
the_burst = record { name = codes "b"; pattern = codes "p" }

burst-at : (rest : Text) (us : List Token) → burst (token kind.Word (codes "PatternBurst") (ahead 34 rest) ∷ token kind.Word (codes "b") (ahead 21 rest) ∷ token kind.OpenBrace (codes "{") (ahead 19 rest) ∷ token kind.Word (codes "PatList") (ahead 17 rest) ∷ token kind.OpenBrace (codes "{") (ahead 9 rest) ∷ token kind.Word (codes "p") (ahead 7 rest) ∷ token kind.Semicolon (codes ";") (ahead 6 rest) ∷ token kind.CloseBrace (codes "}") (ahead 4 rest) ∷ token kind.CloseBrace (codes "}") (ahead 2 rest) ∷ us) ≡ Ok (the_burst, us)
unfolding burst listed_pattern keyword sees_word sees kind_of bytes next name sees_name expect
burst-at rest us = refl

exec-at : (table : WaveformTable) (rest : Text) (us : List Token) → exec (record { name = None; tables = one_table table.waveforms }) the_burst (token kind.Word (codes "PatternExec") (ahead 32 rest) ∷ token kind.OpenBrace (codes "{") (ahead 20 rest) ∷ token kind.Word (codes "PatternBurst") (ahead 18 rest) ∷ token kind.Word (codes "b") (ahead 5 rest) ∷ token kind.Semicolon (codes ";") (ahead 4 rest) ∷ token kind.CloseBrace (codes "}") (ahead 2 rest) ∷ us) ≡ Ok (true, us)
unfolding exec executed keyword sees_word sees kind_of bytes left next name sees_name expect name_if_any used_timing after_word known_name
exec-at table rest us = refl

pattern-at : (most : ℕ) (names : Names) (table : WaveformTable) (rest : Text) (us : List Token)
    → pattern most names (record { name = None; tables = one_table table.waveforms }) the_burst (token kind.Word (codes "Pattern") (ahead 17 rest) ∷ token kind.Word (codes "p") (ahead 9 rest) ∷ token kind.OpenBrace (codes "{") (ahead 7 rest) ∷ token kind.Word (codes "W") (ahead 5 rest) ∷ token kind.Word (codes "w") (ahead 3 rest) ∷ token kind.Semicolon (codes ";") (ahead 2 rest) ∷ us) ≡ statements_from (ahead 4 rest) most names (one_table table.waveforms) (so_far (replicate (length names.signals) Unset) []) us
unfolding pattern keyword sees_word sees kind_of bytes left next name sees_name expect known_name statements_from statement table_used after
pattern-at most names table rest us = refl

text-at : (most : ℕ) (first names : Names) (t : Timing) (b : Burst) (p : PatternBlock) (rest : Text) (ts us vs ws xs ys : List Token) → signals_block (token kind.Word (codes "Signals") (ahead 10 rest) ∷ token kind.OpenBrace (codes "{") (ahead 2 rest) ∷ ts) ≡ Ok (first, us)
    → group_blocks first us ≡ Ok (names, vs) → timing names vs ≡ Ok (t, ws) → burst ws ≡ Ok (b, xs) → exec t b xs ≡ Ok (true, ys) → pattern most names t b ys ≡ Ok (p, [])
    → stil_text most (token kind.Word (codes "STIL") (ahead 20 rest) ∷ token kind.Number (codes "1.0") (ahead 15 rest) ∷ token kind.Semicolon (codes ";") (ahead 12 rest) ∷ token kind.Word (codes "Signals") (ahead 10 rest) ∷ token kind.OpenBrace (codes "{") (ahead 2 rest) ∷ ts) ≡ Ok (record { signals = names.signals; vectors = p.vectors; notes = [] }, [])
unfolding stil_text pattern_part version header_if_any keyword sees_word after_word sees kind_of bytes left next expect
text-at most first names t b p rest ts us vs ws xs ys e f g h i j = rw (e, f, g, h, i, j) refl

-- ---- the text in its parts

-- all between declarations and burst, and what follows
abbrev middle_text : List StilSignal → List StilSignal → Text → Text
middle_text ins outs rest = codes "}" ++ (codes "\nSignalGroups {\n" ++ (form.group_line (codes "ins") ins ++ (form.group_line (codes "outs") outs ++ (codes "}" ++ timing_text (input_waveforms ins ++ (output_waveforms outs ++ (codes "}" ++ (codes "\n}\n}\n" ++ rest))))))))

-- the burst, its execution and the head of the pattern, and what follows
abbrev tail_text : Text → Text
tail_text rest = codes "PatternBurst b { PatList { p; } }\n" ++ (codes "PatternExec { PatternBurst b; }\n" ++ (codes "Pattern p {\nW w;\n" ++ rest))

middle-parts : (ins outs : List StilSignal) (rest : Text) → middle ins outs ++ rest ≡ middle_text ins outs (tail_text rest)
unfolding middle
middle-parts ins outs rest =
    let g : Text = form.group_line (codes "ins") ins in
    let h : Text = form.group_line (codes "outs") outs in
    let v : Text = input_waveforms ins in
    let w : Text = output_waveforms outs in
    let last : Text = codes "}\n}\n}\nPatternBurst b { PatList { p; } }\nPatternExec { PatternBurst b; }\nPattern p {\nW w;\n" in
    let table : Text = codes "}\nTiming {\nWaveformTable w {\nPeriod '100ns';\nWaveforms {\n" in
    ap (λ t. codes "}\nSignalGroups {\n" ++ t) (append_assoc g (h ++ (table ++ (v ++ (w ++ last)))) rest
    ∙ ap (λ t. g ++ t) (append_assoc h (table ++ (v ++ (w ++ last))) rest
    ∙ ap (λ t. h ++ (table ++ t)) (append_assoc v (w ++ last) rest ∙ ap (λ t. v ++ t) (append_assoc w last rest))))

head-parts : (ss : List StilSignal) (rest : Text) → head ss ++ rest ≡ codes "STIL 1.0;\nSignals {\n" ++ (flat_map signal_line ss ++ (middle (inputs ss) (outputs ss) ++ rest))
unfolding head
head-parts ss rest = ap (λ t. codes "STIL 1.0;\nSignals {\n" ++ t) (append_assoc (flat_map signal_line ss) (middle (inputs ss) (outputs ss)) rest)

-- the lines of vectors and notes, and the end
abbrev all_lines : Patterns → Text
all_lines p = noted_lines (input_count p.signals) 0 p.vectors p.notes ++ end_text

noted-parts : (p : Patterns) → noted p ≡ codes "STIL 1.0;\nSignals {\n" ++ (flat_map signal_line p.signals ++ middle_text (inputs p.signals) (outputs p.signals) (tail_text (all_lines p)))
unfolding noted
noted-parts p =
    head-parts p.signals (all_lines p) ∙ ap (λ t. codes "STIL 1.0;\nSignals {\n" ++ (flat_map signal_line p.signals ++ t)) (middle-parts (inputs p.signals) (outputs p.signals) (all_lines p))

-- ---- what is known of the signals and vectors

inputs_dir : (ss : List StilSignal) → AllDir Input (take (prefix_len (λ (s : StilSignal). is_input s.dir) ss) ss)
inputs_dir [] = tt
inputs_dir (s ∷ ss) = by s.dir s refl (inputs_dir ss) where
  by : (d : Dir) (s : StilSignal) → s.dir ≡ d → AllDir Input (take (prefix_len (λ (s : StilSignal). is_input s.dir) ss) ss) → AllDir Input (take (cond (is_input s.dir) (1 + prefix_len (λ (s : StilSignal). is_input s.dir) ss) 0) (s ∷ ss))
  by Input s e h = let one : 1 + prefix_len (λ (s : StilSignal). is_input s.dir) ss ≡ suc (prefix_len (λ (s : StilSignal). is_input s.dir) ss) = omega arith in rw (e, one) (refl, h)
  by Output s e h = rw e tt

outputs_dir : (ss : List StilSignal) → All (λ s. s.dir ≡ Output) ss → AllDir Output ss
outputs_dir [] h = tt
outputs_dir (s ∷ ss) h = (h 0 s (omega arith), outputs_dir ss (λ k d l. h (suc k) d (omega arith)))

quotable_parts : (ins outs : List StilSignal) → AllQuotable (ins ++ outs) → AllQuotable ins × AllQuotable outs
quotable_parts [] outs h = (tt, h)
quotable_parts (i ∷ ins) outs h = let more = quotable_parts ins outs h.1 in ((h.0, more.0), more.1)

full_outputs : (outs : List StilSignal) (acts : List Act) → AllDir Output outs → AllZip (λ s a. IsActOf s.dir a × IsTold a) outs acts → AllActs Output acts × (length acts ≡ length outs)
full_outputs [] [] h z = (tt, refl)
full_outputs [] (a ∷ acts) h z = absurd z
full_outputs (s ∷ outs) [] h z = absurd z
full_outputs (s ∷ outs) (a ∷ acts) h z =
    let more = full_outputs outs acts h.1 z.1 in
    ((subst (λ d. IsActOf d a) h.0 z.0.0, z.0.1, more.0), ap suc more.1)

parted : (ins outs : List StilSignal) (acts : List Act) → AllDir Input ins → AllDir Output outs → AllZip (λ s a. IsActOf s.dir a × IsTold a) (ins ++ outs) acts → Parted ins outs acts
parted [] outs acts hi ho z = let o = full_outputs outs acts ho z in record { first = []; others = acts; is = refl; inputs = tt; outputs = o.0; count = refl; rest = o.1 }
parted (i ∷ ins) outs [] hi ho z = absurd z
parted (i ∷ ins) outs (a ∷ acts) hi ho z =
    let p = parted ins outs acts hi.1 ho z.1 in
    record {
      first = a ∷ p.first;
      others = p.others;
      is = ap (λ rest. a ∷ rest) p.is;
      inputs = (subst (λ d. IsActOf d a) hi.0 z.0.0, z.0.1, p.inputs);
      outputs = p.outputs;
      count = ap suc p.count;
      rest = p.rest;
    }

all_parted : (ins outs : List StilSignal) (vectors : List (List Act)) → AllDir Input ins → AllDir Output outs → All (λ acts. AllZip (λ s a. IsActOf s.dir a × IsTold a) (ins ++ outs) acts) vectors → AllParted ins outs vectors
all_parted ins outs [] hi ho h = tt
all_parted ins outs (acts ∷ vectors) hi ho h = (parted ins outs acts hi ho (h 0 acts (omega arith)), all_parted ins outs vectors hi ho (λ k d l. h (suc k) d (omega arith)))

ins_mean : (ins outs : List StilSignal) → Means (Some (written_table ins outs).waveforms) Input 0 (length ins)
ins_mean ins outs i a low l h told = input_acts ins outs i a (omega arith) h told

outs_mean : (ins outs : List StilSignal) → Means (Some (written_table ins outs).waveforms) Output (length ins) (length outs)
outs_mean ins outs i a low l h told = output_acts ins outs i a low l h told

-- ---- the whole text

-- signals and lines of a text, by inputs and outputs
abbrev whole_text : (ins outs : List StilSignal) (lines : Text) → Text
whole_text ins outs lines = codes "STIL 1.0;\nSignals {\n" ++ (flat_map signal_line (ins ++ outs) ++ middle_text ins outs (tail_text lines))

text_read : (most : ℕ) (ins outs : List StilSignal) (lines : Text) (p : PatternBlock) → AllDir Input ins → AllDir Output outs → AllQuotable (ins ++ outs) → AllNew [] (ins ++ outs)
    → statements_from (ahead 4 lines) most (grouped ins outs) (one_table (written_table ins outs).waveforms) (so_far (replicate (length (grouped ins outs).signals) Unset) []) (cut_up false lines) ≡ Ok (p, [])
    → stil_text most (cut_up false (whole_text ins outs lines)) ≡ Ok (record { signals = (grouped ins outs).signals; vectors = p.vectors; notes = [] }, [])
text_read most ins outs lines p hi ho quotable new e =
    let N : Names = grouped ins outs in
    let T : Timing = written_timing ins outs in
    let q = quotable_parts ins outs quotable in
    let last : Text = codes "Pattern p {\nW w;\n" ++ lines in
    let then : Text = codes "PatternExec { PatternBurst b; }\n" ++ last in
    let tail : Text = tail_text lines in
    let tables : Text = timing_text (input_waveforms ins ++ (output_waveforms outs ++ (codes "}" ++ (codes "\n}\n}\n" ++ tail)))) in
    let groups : Text = form.group_line (codes "ins") ins ++ (form.group_line (codes "outs") outs ++ (codes "}" ++ tables)) in
    let block : Text = codes "\nSignalGroups {\n" ++ groups in
    let declared : Text = flat_map signal_line (ins ++ outs) ++ (codes "}" ++ block) in
    ap (stil_text most) (cut_up-start declared)
    ∙ text-at most (alone (ins ++ outs)) N T the_burst p declared (cut_up false declared) (cut_up false block) (cut_up false tables) (cut_up false tail) (cut_up false then) (cut_up false last)
    (declarations_read (ins ++ outs) (ahead 10 declared) (ahead 2 declared) block quotable new)
    (ap (group_blocks (alone (ins ++ outs))) (cut_up-groups groups) ∙ groups_read ins outs (ahead 13 groups) (ahead 2 groups) (input_waveforms ins ++ (output_waveforms outs ++ (codes "}" ++ (codes "\n}\n}\n" ++ tail)))) q.0 q.1 new)
    (timing_read ins outs tail hi ho)
    (ap burst (cut_up-burst then) ∙ burst-at then (cut_up false then))
    (ap (exec T the_burst) (cut_up-exec last) ∙ exec-at (written_table ins outs) last (cut_up false last))
    (ap (pattern most N T the_burst) (cut_up-pattern lines) ∙ pattern-at most N (written_table ins outs) lines (cut_up false lines) ∙ e)

count-is : (ins outs : List StilSignal) → length (replicate (length (grouped ins outs).signals) Unset) ≡ length ins + length outs
count-is ins outs = length-replicate (length (grouped ins outs).signals) Unset ∙ ap length (grouped-signals ins outs) ∙ length-append ins outs

text_reads : (most count : ℕ) (ins outs : List StilSignal) (p : Patterns) → p.signals ≡ ins ++ outs → count ≡ length ins → AllDir Input ins → AllDir Output outs → AllQuotable (ins ++ outs) → AllNew [] (ins ++ outs)
    → All (λ acts. AllZip (λ s a. IsActOf s.dir a × IsTold a) (ins ++ outs) acts) p.vectors → ((p.vectors ≡ []) ⊎ (0 < length ins)) → length p.vectors ≤ most
    → stil_text most (cut_up false (whole_text ins outs (noted_lines count 0 p.vectors p.notes ++ end_text))) ≡ Ok (record { signals = p.signals; vectors = p.vectors; notes = [] }, [])
text_reads most count ins outs p is size hi ho quotable new full some room =
    let lines : Text = noted_lines (length ins) 0 p.vectors p.notes ++ end_text in
    let unset : List Act = replicate (length (grouped ins outs).signals) Unset in
    let long = lines_long (length ins) 0 p.vectors p.notes in
    ap (λ n. stil_text most (cut_up false (whole_text ins outs (noted_lines n 0 p.vectors p.notes ++ end_text)))) size
    ∙ text_read most ins outs lines (so_far (last_acts unset p.vectors) p.vectors) hi ho quotable new
    (lines_read (ahead 3 lines) most ins outs (written_table ins outs).waveforms 0 p.vectors p.notes unset [] (ins_mean ins outs) (outs_mean ins outs) some (all_parted ins outs p.vectors hi ho full) (count-is ins outs) (omega arith) (omega arith))
    ∙ ap (λ (ss : List StilSignal). Ok (record { signals = ss; vectors = p.vectors; notes = [] }, [])) (grouped-signals ins outs ∙ sym is)

none_unsteady : (o : Option Unsteady) (p : Patterns) → first_unsteady p ≡ o → IsSteady p → o ≡ None
none_unsteady None p e h = refl
none_unsteady (Some u) p e h = absurd (some_is_unsteady p (ap is_some e) h)

cut_up-is : (text : Text) → tokens text ≡ cut_up false text
unfolding cut_up
cut_up-is text = refl

-- what a reader gives of signals and vectors that are steady
steady_told : (p : Patterns) → IsSteady p → steady_or (record { signals = p.signals; vectors = p.vectors; notes = [] }) (first_unsteady (record { signals = p.signals; vectors = p.vectors; notes = [] })) ≡ Ok (record { signals = p.signals; vectors = p.vectors; notes = [] })
steady_told p h = ap (steady_or (record { signals = p.signals; vectors = p.vectors; notes = [] })) (none_unsteady _ p refl h)

-- what a reader of so many vectors at most gives of what is written
pub written_reads : (most : ℕ) (p : Patterns) → IsWellFormed p → IsWritable p → length p.vectors ≤ most → patterns_in most (noted p) ≡ Ok (record { signals = p.signals; vectors = p.vectors; notes = [] })
unfolding patterns_in
written_reads most p well writable room =
    let ss : List StilSignal = p.signals in
    let ins : List StilSignal = inputs ss in
    let outs : List StilSignal = outputs ss in
    let is : ins ++ outs ≡ ss = take-append-drop (input_count ss) ss in
    let quotable = subst AllQuotable (sym is) (all_quotable ss writable.quotable) in
    let new = all_new [] (ins ++ outs) (subst (λ ss. AllPairs (λ (s t : StilSignal). s.name ≢ t.name) ss) (sym is) well.distinct) in
    let full = subst (λ ss. All (λ acts. AllZip (λ (s : StilSignal) (a : Act). IsActOf s.dir a × IsTold a) ss acts) p.vectors) (sym is) writable.full in
    ap (λ ts. tested (value_of (stil_text most ts))) (cut_up-is (noted p) ∙ ap (cut_up false) (noted-parts p ∙ ap (λ ss. codes "STIL 1.0;\nSignals {\n" ++ (flat_map signal_line ss ++ middle_text ins outs (tail_text (all_lines p)))) (sym is)))
    ∙ ap (λ (o : Outcome Patterns). tested (value_of o)) (text_reads most (input_count ss) ins outs p (sym is) (sym (length-prefix_len (λ (s : StilSignal). is_input s.dir) ss)) (inputs_dir ss) (outputs_dir outs writable.ordered) quotable new full writable.some room)
    ∙ steady_told p well.steady

-- what is written stands for its patterns
pub stands_written : (p : Patterns) → ReadsBack p (noted p)
stands_written p well writable = written_reads (length p.vectors) p well writable (omega arith)

-- the same, where the vectors are no more than a reader takes
pub written_stands : (p : Patterns) → IsWellFormed p → IsWritable p → length p.vectors ≤ MAX_VECTORS → StandsFor (noted p) (record { signals = p.signals; vectors = p.vectors; notes = [] })
written_stands p well writable few = stands_written p well writable
