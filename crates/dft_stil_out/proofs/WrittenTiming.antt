-- The written table of waveforms is read.
use Rattle.std.proofs.Common.{◌≡◌, ◌≢◌, ℕ, zero, suc, ◌+◌, ◌*◌, ◌<◌, ◌≤◌, true, false, List, [], ◌∷◌, ◌++◌, length, map, replicate, codes, Option, Some, None, Ok, inl, inr, ◌⊎◌, refl, sym, ap, ◌∙◌, arith, get_or, slice_set, get_or-set_same, get_or-set_other, length-append, append-nil}
use Rattle.std.specs.Prelude.{slice_index_or}
use Rattle.std.proofs.lemmas.Bool.{cases_lt}
use Rattle.std.proofs.lemmas.List.{length-set, length-replicate}
use Rattle.dft_base.specs.Lexing.{Text}
use Rattle.dft_base.specs.declared.dir.Dir.{Dir}
use Rattle.dft_base.specs.declared.dir.Dir.TheVariants.{Input, Output}
use Rattle.dft_patterns.specs.declared.act.Act.{Act}
use Rattle.dft_patterns.specs.declared.act.Act.TheVariants.{Unset, Low, High, Pulse, ExpectLow, ExpectHigh, Ignore}
use Rattle.dft_patterns.specs.declared.shapes.Event.{Event}
use Rattle.dft_patterns.specs.declared.shapes.Drawing.{Drawing}
use Rattle.dft_patterns.specs.declared.shapes.Drawing.TheVariants.{One, Two, Three}
use Rattle.dft_patterns.specs.declared.signal.StilSignal.{StilSignal}
use Rattle.dft_stil_tokens.specs.declared.text.TokenKind.{TokenKind}
use Rattle.dft_stil_tokens.specs.declared.text.TokenKind.TheVariants as kind
use Rattle.dft_patterns.specs.Acts.{IsActOf, IsTold}
use Rattle.dft_patterns.specs.Drawings.{begins_shape}
use Rattle.dft_patterns.specs.Times.{times_fit}
use Rattle.dft_stil_out.specs.Letters as acts
use Rattle.dft_stil_tokens.specs.Lexemes.{Token}
use Rattle.dft_stil_tokens.specs.Steps.{kind_of, bytes, left, next, sees, sees_word, sees_name, expect, after, keyword, name, sees_run, one_character, one_letter, single, number_from, small_number, unit}
use Rattle.dft_stil_text.specs.SignalGroups.{Names, Members, elsewhere, name_if_any}
use Rattle.dft_stil_text.specs.WaveformTables.{Waveforms, place_of_character, act_of, with_waveform, is_given, WaveformTable, empty_table, drawn, dir_of, begin_all, time, event_letter, event, events_from, waveform, waveforms_from, signal_waveforms, signal_waveforms_from, table_body, waveform_table, waveform_tables_from, timing, Timing}
use Rattle.dft_stil_out.specs.Written.{input_waveforms, output_waveforms}
use Rattle.dft_stil_out.proofs.WrittenTokens.{cut_up, token, ahead, cut_up-timing, cut_up-input_waveforms, cut_up-output_waveforms, cut_up-close, cut_up-table_end}
use Rattle.dft_stil_out.proofs.WrittenSignals.{left-token}
use Rattle.dft_stil_out.proofs.WrittenGroups.{counted, group_of, label, grown, grouped, grouped-signals, turns, enough, IsFront, close_front, timing_text}

-- ---- what characters mean

-- a waveform for one character tells nothing of another
other_character : (signals : List ℕ) (c : ℕ) (a : Act) (waveforms : Waveforms) (i d : ℕ) → c ≢ d → c < 256 → d < 256 → act_of (with_waveform signals c a waveforms) i d ≡ act_of waveforms i d
other_character [] c a waveforms i d other lc ld = refl
other_character (n ∷ signals) c a waveforms i d other lc ld =
    let apart : place_of_character i d ≢ place_of_character n c = λ e. other (omega arith) in
    other_character signals c a (record { acts = slice_set waveforms.acts (place_of_character n c) (Some a) }) i d other lc ld ∙ get_or-set_other waveforms.acts (place_of_character n c) (place_of_character i d) (Some a) None apart

-- a waveform of some signals tells nothing of others
other_signal : (from n c : ℕ) (a : Act) (waveforms : Waveforms) (i d : ℕ) → ((i < from) ⊎ (from + n ≤ i)) → c < 256 → d < 256 → act_of (with_waveform (counted from n) c a waveforms) i d ≡ act_of waveforms i d
unfolding counted
other_signal from zero c a waveforms i d h lc ld = refl
other_signal from (suc n) c a waveforms i d (inl h) lc ld =
    let apart : place_of_character i d ≢ place_of_character from c = λ e. absurd (omega arith) in
    other_signal (suc from) n c a (record { acts = slice_set waveforms.acts (place_of_character from c) (Some a) }) i d (inl (omega arith)) lc ld ∙ get_or-set_other waveforms.acts (place_of_character from c) (place_of_character i d) (Some a) None apart
other_signal from (suc n) c a waveforms i d (inr h) lc ld =
    let apart : place_of_character i d ≢ place_of_character from c = λ e. absurd (omega arith) in
    other_signal (suc from) n c a (record { acts = slice_set waveforms.acts (place_of_character from c) (Some a) }) i d (inr (omega arith)) lc ld ∙ get_or-set_other waveforms.acts (place_of_character from c) (place_of_character i d) (Some a) None apart

-- a waveform tells what it does
same_signal : (from n c : ℕ) (a : Act) (waveforms : Waveforms) (i : ℕ) → from ≤ i → i < from + n → c < 256 → (from + n) * 256 ≤ length waveforms.acts → act_of (with_waveform (counted from n) c a waveforms) i c ≡ Some a
unfolding counted
same_signal from zero c a waveforms i low high lc room = absurd (omega arith)
same_signal from (suc n) c a waveforms i low high lc room =
    by (cases_lt from i) (λ h. same_signal (suc from) n c a (record { acts = slice_set waveforms.acts (place_of_character from c) (Some a) }) i (omega arith) (omega arith) lc (omega (arith, length-set waveforms.acts (place_of_character from c) (Some a)))) where
      by : ((from < i) ⊎ (i ≤ from)) → (from < i → act_of (with_waveform (counted (suc from) n) c a (record { acts = slice_set waveforms.acts (place_of_character from c) (Some a) })) i c ≡ Some a)
          → act_of (with_waveform (counted from (suc n)) c a waveforms) i c ≡ Some a
      by (inr h) more =
          let here : i ≡ from = omega arith in
          ap (λ k. act_of (with_waveform (counted (suc from) n) c a (record { acts = slice_set waveforms.acts (place_of_character from c) (Some a) })) k c) here
          ∙ other_signal (suc from) n c a (record { acts = slice_set waveforms.acts (place_of_character from c) (Some a) }) from c (inl (omega arith)) lc lc
          ∙ get_or-set_same waveforms.acts (place_of_character from c) (Some a) None (omega arith)
      by (inl h) more = more h

with_waveform-length : (signals : List ℕ) (c : ℕ) (a : Act) (waveforms : Waveforms) → length (with_waveform signals c a waveforms).acts ≡ length waveforms.acts
with_waveform-length [] c a waveforms = refl
with_waveform-length (n ∷ signals) c a waveforms = with_waveform-length signals c a (record { acts = slice_set waveforms.acts (place_of_character n c) (Some a) }) ∙ length-set waveforms.acts (place_of_character n c) (Some a)

-- no signal from this one on has a waveform
abbrev pub AreFree : (from : ℕ) → Waveforms → Type 0
AreFree from waveforms = (i c : ℕ) → from ≤ i → c < 256 → act_of waveforms i c ≡ None

not_given : (from n c : ℕ) (waveforms : Waveforms) → ((i : ℕ) → from ≤ i → act_of waveforms i c ≡ None) → is_given waveforms (counted from n) c ≡ false
unfolding counted
not_given from zero c waveforms h = refl
not_given from (suc n) c waveforms h = rw (h from (omega arith)) (not_given (suc from) n c waveforms (λ i l. h i (omega arith)))

-- ---- directions of signals

-- each signal has this direction
abbrev pub AllDir : Dir → List StilSignal → Type 0
AllDir d [] = Unit {0}
AllDir d (s ∷ ss) = (s.dir ≡ d) × AllDir d ss

dir_in : (d : Dir) (ss more : List StilSignal) (i : ℕ) → AllDir d ss → i < length ss → slice_index_or (map (λ (s : StilSignal). s.dir) (ss ++ more)) i Input ≡ d
dir_in d [] more i h l = absurd (omega arith)
dir_in d (s ∷ ss) more zero h l = h.0
dir_in d (s ∷ ss) more (suc i) h l = dir_in d ss more i h.1 (omega arith)

dir_behind : (d : Dir) (before ss : List StilSignal) (i : ℕ) → AllDir d ss → length before ≤ i → i < length before + length ss → slice_index_or (map (λ (s : StilSignal). s.dir) (before ++ ss)) i Input ≡ d
dir_behind d [] ss i h low high = ap (λ (ss : List StilSignal). slice_index_or (map (λ (s : StilSignal). s.dir) ss) i Input) (sym (append-nil ss)) ∙ dir_in d ss [] i h (omega arith)
dir_behind d (b ∷ before) ss zero h low high = absurd (omega arith)
dir_behind d (b ∷ before) ss (suc i) h low high = dir_behind d before ss i h (omega arith) (omega arith)

-- each signal of a group has this direction
abbrev HaveDir : Names → Dir → (from count : ℕ) → Type 0
HaveDir names d from n = (i : ℕ) → from ≤ i → i < from + n → dir_of names i ≡ d

all_begin : (names : Names) (d : Dir) (from n : ℕ) (drawing : Drawing) → HaveDir names d from n → begins_shape d drawing ≡ true → begin_all names (counted from n) drawing ≡ true
unfolding counted
all_begin names d from zero drawing h b = refl
all_begin names d from (suc n) drawing h b = rw (h from (omega arith) (omega arith), b) (all_begin names d (suc from) n drawing (λ i l m. h i (omega arith) (omega arith)) b)

-- ---- waveforms

-- an event
abbrev pub at : (letter time : ℕ) → Event
at letter time = record { letter = letter; time = time }

waveform-low : (names : Names) (signals : List ℕ) (t : WaveformTable) (rest : Text) (us : List Token) → is_given t.waveforms signals 48 ≡ false → begin_all names signals (One (at 68 0)) ≡ true
    → waveform names signals t (token kind.Number (codes "0") (ahead 67 rest) ∷ token kind.OpenBrace (codes "{") (ahead 65 rest) ∷ token kind.Quote (codes "'") (ahead 63 rest) ∷ token kind.Number (codes "0") (ahead 62 rest) ∷ token kind.Word (codes "ns") (ahead 61 rest) ∷ token kind.Quote (codes "'") (ahead 59 rest) ∷ token kind.Word (codes "D") (ahead 57 rest) ∷ token kind.Semicolon (codes ";") (ahead 56 rest) ∷ token kind.CloseBrace (codes "}") (ahead 54 rest) ∷ us) ≡ Ok (drawn signals 48 Low (One (at 68 0)) t, us)
unfolding waveform one_character sees_run sees_word sees_name sees kind_of bytes left next expect after keyword one_letter single number_from small_number unit time event_letter event events_from
waveform-low names signals t rest us free b0 = rw (free, b0) refl

waveform-high : (names : Names) (signals : List ℕ) (t : WaveformTable) (rest : Text) (us : List Token) → is_given t.waveforms signals 49 ≡ false → begin_all names signals (One (at 85 0)) ≡ true
    → waveform names signals t (token kind.Number (codes "1") (ahead 52 rest) ∷ token kind.OpenBrace (codes "{") (ahead 50 rest) ∷ token kind.Quote (codes "'") (ahead 48 rest) ∷ token kind.Number (codes "0") (ahead 47 rest) ∷ token kind.Word (codes "ns") (ahead 46 rest) ∷ token kind.Quote (codes "'") (ahead 44 rest) ∷ token kind.Word (codes "U") (ahead 42 rest) ∷ token kind.Semicolon (codes ";") (ahead 41 rest) ∷ token kind.CloseBrace (codes "}") (ahead 39 rest) ∷ us) ≡ Ok (drawn signals 49 High (One (at 85 0)) t, us)
unfolding waveform one_character sees_run sees_word sees_name sees kind_of bytes left next expect after keyword one_letter single number_from small_number unit time event_letter event events_from
waveform-high names signals t rest us free b0 = rw (free, b0) refl

waveform-pulse : (names : Names) (signals : List ℕ) (t : WaveformTable) (rest : Text) (us : List Token) → is_given t.waveforms signals 80 ≡ false → begin_all names signals (One (at 68 0)) ≡ true → begin_all names signals (Two (at 68 0) (at 85 50000)) ≡ true → begin_all names signals (Three (at 68 0) (at 85 50000) (at 68 80000)) ≡ true
    → waveform names signals t (token kind.Word (codes "P") (ahead 37 rest) ∷ token kind.OpenBrace (codes "{") (ahead 35 rest) ∷ token kind.Quote (codes "'") (ahead 33 rest) ∷ token kind.Number (codes "0") (ahead 32 rest) ∷ token kind.Word (codes "ns") (ahead 31 rest) ∷ token kind.Quote (codes "'") (ahead 29 rest) ∷ token kind.Word (codes "D") (ahead 27 rest) ∷ token kind.Semicolon (codes ";") (ahead 26 rest) ∷ token kind.Quote (codes "'") (ahead 24 rest) ∷ token kind.Number (codes "50") (ahead 23 rest) ∷ token kind.Word (codes "ns") (ahead 21 rest) ∷ token kind.Quote (codes "'") (ahead 19 rest) ∷ token kind.Word (codes "U") (ahead 17 rest) ∷ token kind.Semicolon (codes ";") (ahead 16 rest) ∷ token kind.Quote (codes "'") (ahead 14 rest) ∷ token kind.Number (codes "80") (ahead 13 rest) ∷ token kind.Word (codes "ns") (ahead 11 rest) ∷ token kind.Quote (codes "'") (ahead 9 rest) ∷ token kind.Word (codes "D") (ahead 7 rest) ∷ token kind.Semicolon (codes ";") (ahead 6 rest) ∷ token kind.CloseBrace (codes "}") (ahead 4 rest) ∷ us) ≡ Ok (drawn signals 80 Pulse (Three (at 68 0) (at 85 50000) (at 68 80000)) t, us)
unfolding waveform one_character sees_run sees_word sees_name sees kind_of bytes left next expect after keyword one_letter single number_from small_number unit time event_letter event events_from
waveform-pulse names signals t rest us free b0 b1 b2 = rw (free, b0, b1, b2) refl

waveform-expect_low : (names : Names) (signals : List ℕ) (t : WaveformTable) (rest : Text) (us : List Token) → is_given t.waveforms signals 76 ≡ false → begin_all names signals (One (at 88 0)) ≡ true → begin_all names signals (Two (at 88 0) (at 76 40000)) ≡ true
    → waveform names signals t (token kind.Word (codes "L") (ahead 67 rest) ∷ token kind.OpenBrace (codes "{") (ahead 65 rest) ∷ token kind.Quote (codes "'") (ahead 63 rest) ∷ token kind.Number (codes "0") (ahead 62 rest) ∷ token kind.Word (codes "ns") (ahead 61 rest) ∷ token kind.Quote (codes "'") (ahead 59 rest) ∷ token kind.Word (codes "X") (ahead 57 rest) ∷ token kind.Semicolon (codes ";") (ahead 56 rest) ∷ token kind.Quote (codes "'") (ahead 54 rest) ∷ token kind.Number (codes "40") (ahead 53 rest) ∷ token kind.Word (codes "ns") (ahead 51 rest) ∷ token kind.Quote (codes "'") (ahead 49 rest) ∷ token kind.Word (codes "L") (ahead 47 rest) ∷ token kind.Semicolon (codes ";") (ahead 46 rest) ∷ token kind.CloseBrace (codes "}") (ahead 44 rest) ∷ us) ≡ Ok (drawn signals 76 ExpectLow (Two (at 88 0) (at 76 40000)) t, us)
unfolding waveform one_character sees_run sees_word sees_name sees kind_of bytes left next expect after keyword one_letter single number_from small_number unit time event_letter event events_from
waveform-expect_low names signals t rest us free b0 b1 = rw (free, b0, b1) refl

waveform-expect_high : (names : Names) (signals : List ℕ) (t : WaveformTable) (rest : Text) (us : List Token) → is_given t.waveforms signals 72 ≡ false → begin_all names signals (One (at 88 0)) ≡ true → begin_all names signals (Two (at 88 0) (at 72 40000)) ≡ true
    → waveform names signals t (token kind.Word (codes "H") (ahead 42 rest) ∷ token kind.OpenBrace (codes "{") (ahead 40 rest) ∷ token kind.Quote (codes "'") (ahead 38 rest) ∷ token kind.Number (codes "0") (ahead 37 rest) ∷ token kind.Word (codes "ns") (ahead 36 rest) ∷ token kind.Quote (codes "'") (ahead 34 rest) ∷ token kind.Word (codes "X") (ahead 32 rest) ∷ token kind.Semicolon (codes ";") (ahead 31 rest) ∷ token kind.Quote (codes "'") (ahead 29 rest) ∷ token kind.Number (codes "40") (ahead 28 rest) ∷ token kind.Word (codes "ns") (ahead 26 rest) ∷ token kind.Quote (codes "'") (ahead 24 rest) ∷ token kind.Word (codes "H") (ahead 22 rest) ∷ token kind.Semicolon (codes ";") (ahead 21 rest) ∷ token kind.CloseBrace (codes "}") (ahead 19 rest) ∷ us) ≡ Ok (drawn signals 72 ExpectHigh (Two (at 88 0) (at 72 40000)) t, us)
unfolding waveform one_character sees_run sees_word sees_name sees kind_of bytes left next expect after keyword one_letter single number_from small_number unit time event_letter event events_from
waveform-expect_high names signals t rest us free b0 b1 = rw (free, b0, b1) refl

waveform-ignore : (names : Names) (signals : List ℕ) (t : WaveformTable) (rest : Text) (us : List Token) → is_given t.waveforms signals 88 ≡ false → begin_all names signals (One (at 88 0)) ≡ true
    → waveform names signals t (token kind.Word (codes "X") (ahead 17 rest) ∷ token kind.OpenBrace (codes "{") (ahead 15 rest) ∷ token kind.Quote (codes "'") (ahead 13 rest) ∷ token kind.Number (codes "0") (ahead 12 rest) ∷ token kind.Word (codes "ns") (ahead 11 rest) ∷ token kind.Quote (codes "'") (ahead 9 rest) ∷ token kind.Word (codes "X") (ahead 7 rest) ∷ token kind.Semicolon (codes ";") (ahead 6 rest) ∷ token kind.CloseBrace (codes "}") (ahead 4 rest) ∷ us) ≡ Ok (drawn signals 88 Ignore (One (at 88 0)) t, us)
unfolding waveform one_character sees_run sees_word sees_name sees kind_of bytes left next expect after keyword one_letter single number_from small_number unit time event_letter event events_from
waveform-ignore names signals t rest us free b0 = rw (free, b0) refl

waveforms_from-more : (k : ℕ) (names : Names) (signals : List ℕ) (t new : WaveformTable) (kd : TokenKind) (word : Text) (l : ℕ) (ts us : List Token) → sees kind.CloseBrace (token kd word l ∷ ts) ≡ false → waveform names signals t (token kd word l ∷ ts) ≡ Ok (new, us)
    → waveforms_from (suc k) names signals t (token kd word l ∷ ts) ≡ waveforms_from k names signals new us
unfolding waveforms_from after
waveforms_from-more k names signals t new kd word l ts us other e = rw (other, e) refl

waveforms_from-end : (k : ℕ) (names : Names) (signals : List ℕ) (t : WaveformTable) (word : Text) (l : ℕ) (ts : List Token) → waveforms_from (suc k) names signals t (token kind.CloseBrace word l ∷ ts) ≡ Ok (t, ts)
unfolding waveforms_from sees kind_of after next
waveforms_from-end k names signals t word l ts = refl

no_close : (kd : TokenKind) (word : Text) (l : ℕ) (ts : List Token) → ((kd ≡ kind.Word) ⊎ (kd ≡ kind.Number)) → sees kind.CloseBrace (token kd word l ∷ ts) ≡ false
unfolding sees kind_of
no_close kd word l ts (inl e) = rw e refl
no_close kd word l ts (inr e) = rw e refl

-- ---- waveforms

-- the table with the waveforms of inputs
pub with_inputs : List ℕ → WaveformTable → WaveformTable
with_inputs signals t = drawn signals 80 Pulse (Three (at 68 0) (at 85 50000) (at 68 80000)) (drawn signals 49 High (One (at 85 0)) (drawn signals 48 Low (One (at 68 0)) t))

-- the table with the waveforms of outputs
pub with_outputs : List ℕ → WaveformTable → WaveformTable
with_outputs signals t = drawn signals 88 Ignore (One (at 88 0)) (drawn signals 72 ExpectHigh (Two (at 88 0) (at 72 40000)) (drawn signals 76 ExpectLow (Two (at 88 0) (at 76 40000)) t))

input_waveforms_read : (names : Names) (from n : ℕ) (t : WaveformTable) (rest : Text) → AreFree from t.waveforms → HaveDir names Input from n
    → waveforms_from (ahead 67 rest) names (counted from n) t (token kind.Number (codes "0") (ahead 67 rest) ∷ token kind.OpenBrace (codes "{") (ahead 65 rest) ∷ token kind.Quote (codes "'") (ahead 63 rest) ∷ token kind.Number (codes "0") (ahead 62 rest) ∷ token kind.Word (codes "ns") (ahead 61 rest) ∷ token kind.Quote (codes "'") (ahead 59 rest) ∷ token kind.Word (codes "D") (ahead 57 rest) ∷ token kind.Semicolon (codes ";") (ahead 56 rest) ∷ token kind.CloseBrace (codes "}") (ahead 54 rest) ∷ token kind.Number (codes "1") (ahead 52 rest) ∷ token kind.OpenBrace (codes "{") (ahead 50 rest) ∷ token kind.Quote (codes "'") (ahead 48 rest) ∷ token kind.Number (codes "0") (ahead 47 rest) ∷ token kind.Word (codes "ns") (ahead 46 rest) ∷ token kind.Quote (codes "'") (ahead 44 rest) ∷ token kind.Word (codes "U") (ahead 42 rest) ∷ token kind.Semicolon (codes ";") (ahead 41 rest) ∷ token kind.CloseBrace (codes "}") (ahead 39 rest) ∷ token kind.Word (codes "P") (ahead 37 rest) ∷ token kind.OpenBrace (codes "{") (ahead 35 rest) ∷ token kind.Quote (codes "'") (ahead 33 rest) ∷ token kind.Number (codes "0") (ahead 32 rest) ∷ token kind.Word (codes "ns") (ahead 31 rest) ∷ token kind.Quote (codes "'") (ahead 29 rest) ∷ token kind.Word (codes "D") (ahead 27 rest) ∷ token kind.Semicolon (codes ";") (ahead 26 rest) ∷ token kind.Quote (codes "'") (ahead 24 rest) ∷ token kind.Number (codes "50") (ahead 23 rest) ∷ token kind.Word (codes "ns") (ahead 21 rest) ∷ token kind.Quote (codes "'") (ahead 19 rest) ∷ token kind.Word (codes "U") (ahead 17 rest) ∷ token kind.Semicolon (codes ";") (ahead 16 rest) ∷ token kind.Quote (codes "'") (ahead 14 rest) ∷ token kind.Number (codes "80") (ahead 13 rest) ∷ token kind.Word (codes "ns") (ahead 11 rest) ∷ token kind.Quote (codes "'") (ahead 9 rest) ∷ token kind.Word (codes "D") (ahead 7 rest) ∷ token kind.Semicolon (codes ";") (ahead 6 rest) ∷ token kind.CloseBrace (codes "}") (ahead 4 rest) ∷ token kind.CloseBrace (codes "}") (ahead 2 rest) ∷ cut_up false rest) ≡ Ok (with_inputs (counted from n) t, cut_up false rest)
unfolding with_inputs
input_waveforms_read names from n t rest free dirs =
    let ns : List ℕ = counted from n in
    let t0 : WaveformTable = t in
    let t1 : WaveformTable = drawn ns 48 Low (One (at 68 0)) t0 in
    let t2 : WaveformTable = drawn ns 49 High (One (at 85 0)) t1 in
    let t3 : WaveformTable = drawn ns 80 Pulse (Three (at 68 0) (at 85 50000) (at 68 80000)) t2 in
    let free0 : is_given t0.waveforms ns 48 ≡ false = not_given from n 48 t0.waveforms (λ i l. free i 48 l (omega arith)) in
    let b0_0 : begin_all names ns (One (at 68 0)) ≡ true = all_begin names Input from n (One (at 68 0)) dirs refl in
    let free1 : is_given t1.waveforms ns 49 ≡ false = not_given from n 49 t1.waveforms (λ i l. other_character ns 48 Low t0.waveforms i 49 (omega arith) (omega arith) (omega arith) ∙ free i 49 l (omega arith)) in
    let b1_0 : begin_all names ns (One (at 85 0)) ≡ true = all_begin names Input from n (One (at 85 0)) dirs refl in
    let free2 : is_given t2.waveforms ns 80 ≡ false = not_given from n 80 t2.waveforms (λ i l. other_character ns 49 High t1.waveforms i 80 (omega arith) (omega arith) (omega arith) ∙ other_character ns 48 Low t0.waveforms i 80 (omega arith) (omega arith) (omega arith) ∙ free i 80 l (omega arith)) in
    let b2_0 : begin_all names ns (One (at 68 0)) ≡ true = all_begin names Input from n (One (at 68 0)) dirs refl in
    let b2_1 : begin_all names ns (Two (at 68 0) (at 85 50000)) ≡ true = all_begin names Input from n (Two (at 68 0) (at 85 50000)) dirs refl in
    let b2_2 : begin_all names ns (Three (at 68 0) (at 85 50000) (at 68 80000)) ≡ true = all_begin names Input from n (Three (at 68 0) (at 85 50000) (at 68 80000)) dirs refl in
    waveforms_from-more (ahead 66 rest) names ns t0 t1 kind.Number (codes "0") (ahead 67 rest) _ (token kind.Number (codes "1") (ahead 52 rest) ∷ token kind.OpenBrace (codes "{") (ahead 50 rest) ∷ token kind.Quote (codes "'") (ahead 48 rest) ∷ token kind.Number (codes "0") (ahead 47 rest) ∷ token kind.Word (codes "ns") (ahead 46 rest) ∷ token kind.Quote (codes "'") (ahead 44 rest) ∷ token kind.Word (codes "U") (ahead 42 rest) ∷ token kind.Semicolon (codes ";") (ahead 41 rest) ∷ token kind.CloseBrace (codes "}") (ahead 39 rest) ∷ token kind.Word (codes "P") (ahead 37 rest) ∷ token kind.OpenBrace (codes "{") (ahead 35 rest) ∷ token kind.Quote (codes "'") (ahead 33 rest) ∷ token kind.Number (codes "0") (ahead 32 rest) ∷ token kind.Word (codes "ns") (ahead 31 rest) ∷ token kind.Quote (codes "'") (ahead 29 rest) ∷ token kind.Word (codes "D") (ahead 27 rest) ∷ token kind.Semicolon (codes ";") (ahead 26 rest) ∷ token kind.Quote (codes "'") (ahead 24 rest) ∷ token kind.Number (codes "50") (ahead 23 rest) ∷ token kind.Word (codes "ns") (ahead 21 rest) ∷ token kind.Quote (codes "'") (ahead 19 rest) ∷ token kind.Word (codes "U") (ahead 17 rest) ∷ token kind.Semicolon (codes ";") (ahead 16 rest) ∷ token kind.Quote (codes "'") (ahead 14 rest) ∷ token kind.Number (codes "80") (ahead 13 rest) ∷ token kind.Word (codes "ns") (ahead 11 rest) ∷ token kind.Quote (codes "'") (ahead 9 rest) ∷ token kind.Word (codes "D") (ahead 7 rest) ∷ token kind.Semicolon (codes ";") (ahead 6 rest) ∷ token kind.CloseBrace (codes "}") (ahead 4 rest) ∷ token kind.CloseBrace (codes "}") (ahead 2 rest) ∷ cut_up false rest) (no_close kind.Number _ _ _ (inr refl)) (waveform-low names ns t0 rest _ free0 b0_0)
    ∙ waveforms_from-more (ahead 65 rest) names ns t1 t2 kind.Number (codes "1") (ahead 52 rest) _ (token kind.Word (codes "P") (ahead 37 rest) ∷ token kind.OpenBrace (codes "{") (ahead 35 rest) ∷ token kind.Quote (codes "'") (ahead 33 rest) ∷ token kind.Number (codes "0") (ahead 32 rest) ∷ token kind.Word (codes "ns") (ahead 31 rest) ∷ token kind.Quote (codes "'") (ahead 29 rest) ∷ token kind.Word (codes "D") (ahead 27 rest) ∷ token kind.Semicolon (codes ";") (ahead 26 rest) ∷ token kind.Quote (codes "'") (ahead 24 rest) ∷ token kind.Number (codes "50") (ahead 23 rest) ∷ token kind.Word (codes "ns") (ahead 21 rest) ∷ token kind.Quote (codes "'") (ahead 19 rest) ∷ token kind.Word (codes "U") (ahead 17 rest) ∷ token kind.Semicolon (codes ";") (ahead 16 rest) ∷ token kind.Quote (codes "'") (ahead 14 rest) ∷ token kind.Number (codes "80") (ahead 13 rest) ∷ token kind.Word (codes "ns") (ahead 11 rest) ∷ token kind.Quote (codes "'") (ahead 9 rest) ∷ token kind.Word (codes "D") (ahead 7 rest) ∷ token kind.Semicolon (codes ";") (ahead 6 rest) ∷ token kind.CloseBrace (codes "}") (ahead 4 rest) ∷ token kind.CloseBrace (codes "}") (ahead 2 rest) ∷ cut_up false rest) (no_close kind.Number _ _ _ (inr refl)) (waveform-high names ns t1 rest _ free1 b1_0)
    ∙ waveforms_from-more (ahead 64 rest) names ns t2 t3 kind.Word (codes "P") (ahead 37 rest) _ (token kind.CloseBrace (codes "}") (ahead 2 rest) ∷ cut_up false rest) (no_close kind.Word _ _ _ (inl refl)) (waveform-pulse names ns t2 rest _ free2 b2_0 b2_1 b2_2)
    ∙ waveforms_from-end (ahead 63 rest) names ns t3 (codes "}") (ahead 2 rest) (cut_up false rest)

output_waveforms_read : (names : Names) (from n : ℕ) (t : WaveformTable) (rest : Text) → AreFree from t.waveforms → HaveDir names Output from n
    → waveforms_from (ahead 67 rest) names (counted from n) t (token kind.Word (codes "L") (ahead 67 rest) ∷ token kind.OpenBrace (codes "{") (ahead 65 rest) ∷ token kind.Quote (codes "'") (ahead 63 rest) ∷ token kind.Number (codes "0") (ahead 62 rest) ∷ token kind.Word (codes "ns") (ahead 61 rest) ∷ token kind.Quote (codes "'") (ahead 59 rest) ∷ token kind.Word (codes "X") (ahead 57 rest) ∷ token kind.Semicolon (codes ";") (ahead 56 rest) ∷ token kind.Quote (codes "'") (ahead 54 rest) ∷ token kind.Number (codes "40") (ahead 53 rest) ∷ token kind.Word (codes "ns") (ahead 51 rest) ∷ token kind.Quote (codes "'") (ahead 49 rest) ∷ token kind.Word (codes "L") (ahead 47 rest) ∷ token kind.Semicolon (codes ";") (ahead 46 rest) ∷ token kind.CloseBrace (codes "}") (ahead 44 rest) ∷ token kind.Word (codes "H") (ahead 42 rest) ∷ token kind.OpenBrace (codes "{") (ahead 40 rest) ∷ token kind.Quote (codes "'") (ahead 38 rest) ∷ token kind.Number (codes "0") (ahead 37 rest) ∷ token kind.Word (codes "ns") (ahead 36 rest) ∷ token kind.Quote (codes "'") (ahead 34 rest) ∷ token kind.Word (codes "X") (ahead 32 rest) ∷ token kind.Semicolon (codes ";") (ahead 31 rest) ∷ token kind.Quote (codes "'") (ahead 29 rest) ∷ token kind.Number (codes "40") (ahead 28 rest) ∷ token kind.Word (codes "ns") (ahead 26 rest) ∷ token kind.Quote (codes "'") (ahead 24 rest) ∷ token kind.Word (codes "H") (ahead 22 rest) ∷ token kind.Semicolon (codes ";") (ahead 21 rest) ∷ token kind.CloseBrace (codes "}") (ahead 19 rest) ∷ token kind.Word (codes "X") (ahead 17 rest) ∷ token kind.OpenBrace (codes "{") (ahead 15 rest) ∷ token kind.Quote (codes "'") (ahead 13 rest) ∷ token kind.Number (codes "0") (ahead 12 rest) ∷ token kind.Word (codes "ns") (ahead 11 rest) ∷ token kind.Quote (codes "'") (ahead 9 rest) ∷ token kind.Word (codes "X") (ahead 7 rest) ∷ token kind.Semicolon (codes ";") (ahead 6 rest) ∷ token kind.CloseBrace (codes "}") (ahead 4 rest) ∷ token kind.CloseBrace (codes "}") (ahead 2 rest) ∷ cut_up false rest) ≡ Ok (with_outputs (counted from n) t, cut_up false rest)
unfolding with_outputs
output_waveforms_read names from n t rest free dirs =
    let ns : List ℕ = counted from n in
    let t0 : WaveformTable = t in
    let t1 : WaveformTable = drawn ns 76 ExpectLow (Two (at 88 0) (at 76 40000)) t0 in
    let t2 : WaveformTable = drawn ns 72 ExpectHigh (Two (at 88 0) (at 72 40000)) t1 in
    let t3 : WaveformTable = drawn ns 88 Ignore (One (at 88 0)) t2 in
    let free0 : is_given t0.waveforms ns 76 ≡ false = not_given from n 76 t0.waveforms (λ i l. free i 76 l (omega arith)) in
    let b0_0 : begin_all names ns (One (at 88 0)) ≡ true = all_begin names Output from n (One (at 88 0)) dirs refl in
    let b0_1 : begin_all names ns (Two (at 88 0) (at 76 40000)) ≡ true = all_begin names Output from n (Two (at 88 0) (at 76 40000)) dirs refl in
    let free1 : is_given t1.waveforms ns 72 ≡ false = not_given from n 72 t1.waveforms (λ i l. other_character ns 76 ExpectLow t0.waveforms i 72 (omega arith) (omega arith) (omega arith) ∙ free i 72 l (omega arith)) in
    let b1_0 : begin_all names ns (One (at 88 0)) ≡ true = all_begin names Output from n (One (at 88 0)) dirs refl in
    let b1_1 : begin_all names ns (Two (at 88 0) (at 72 40000)) ≡ true = all_begin names Output from n (Two (at 88 0) (at 72 40000)) dirs refl in
    let free2 : is_given t2.waveforms ns 88 ≡ false = not_given from n 88 t2.waveforms (λ i l. other_character ns 72 ExpectHigh t1.waveforms i 88 (omega arith) (omega arith) (omega arith) ∙ other_character ns 76 ExpectLow t0.waveforms i 88 (omega arith) (omega arith) (omega arith) ∙ free i 88 l (omega arith)) in
    let b2_0 : begin_all names ns (One (at 88 0)) ≡ true = all_begin names Output from n (One (at 88 0)) dirs refl in
    waveforms_from-more (ahead 66 rest) names ns t0 t1 kind.Word (codes "L") (ahead 67 rest) _ (token kind.Word (codes "H") (ahead 42 rest) ∷ token kind.OpenBrace (codes "{") (ahead 40 rest) ∷ token kind.Quote (codes "'") (ahead 38 rest) ∷ token kind.Number (codes "0") (ahead 37 rest) ∷ token kind.Word (codes "ns") (ahead 36 rest) ∷ token kind.Quote (codes "'") (ahead 34 rest) ∷ token kind.Word (codes "X") (ahead 32 rest) ∷ token kind.Semicolon (codes ";") (ahead 31 rest) ∷ token kind.Quote (codes "'") (ahead 29 rest) ∷ token kind.Number (codes "40") (ahead 28 rest) ∷ token kind.Word (codes "ns") (ahead 26 rest) ∷ token kind.Quote (codes "'") (ahead 24 rest) ∷ token kind.Word (codes "H") (ahead 22 rest) ∷ token kind.Semicolon (codes ";") (ahead 21 rest) ∷ token kind.CloseBrace (codes "}") (ahead 19 rest) ∷ token kind.Word (codes "X") (ahead 17 rest) ∷ token kind.OpenBrace (codes "{") (ahead 15 rest) ∷ token kind.Quote (codes "'") (ahead 13 rest) ∷ token kind.Number (codes "0") (ahead 12 rest) ∷ token kind.Word (codes "ns") (ahead 11 rest) ∷ token kind.Quote (codes "'") (ahead 9 rest) ∷ token kind.Word (codes "X") (ahead 7 rest) ∷ token kind.Semicolon (codes ";") (ahead 6 rest) ∷ token kind.CloseBrace (codes "}") (ahead 4 rest) ∷ token kind.CloseBrace (codes "}") (ahead 2 rest) ∷ cut_up false rest) (no_close kind.Word _ _ _ (inl refl)) (waveform-expect_low names ns t0 rest _ free0 b0_0 b0_1)
    ∙ waveforms_from-more (ahead 65 rest) names ns t1 t2 kind.Word (codes "H") (ahead 42 rest) _ (token kind.Word (codes "X") (ahead 17 rest) ∷ token kind.OpenBrace (codes "{") (ahead 15 rest) ∷ token kind.Quote (codes "'") (ahead 13 rest) ∷ token kind.Number (codes "0") (ahead 12 rest) ∷ token kind.Word (codes "ns") (ahead 11 rest) ∷ token kind.Quote (codes "'") (ahead 9 rest) ∷ token kind.Word (codes "X") (ahead 7 rest) ∷ token kind.Semicolon (codes ";") (ahead 6 rest) ∷ token kind.CloseBrace (codes "}") (ahead 4 rest) ∷ token kind.CloseBrace (codes "}") (ahead 2 rest) ∷ cut_up false rest) (no_close kind.Word _ _ _ (inl refl)) (waveform-expect_high names ns t1 rest _ free1 b1_0 b1_1)
    ∙ waveforms_from-more (ahead 64 rest) names ns t2 t3 kind.Word (codes "X") (ahead 17 rest) _ (token kind.CloseBrace (codes "}") (ahead 2 rest) ∷ cut_up false rest) (no_close kind.Word _ _ _ (inl refl)) (waveform-ignore names ns t2 rest _ free2 b2_0)
    ∙ waveforms_from-end (ahead 63 rest) names ns t3 (codes "}") (ahead 2 rest) (cut_up false rest)

-- the tokens behind the name and the brace of a waveform
abbrev input_tokens : Text → List Token
input_tokens rest = token kind.Number (codes "0") (ahead 67 rest) ∷ token kind.OpenBrace (codes "{") (ahead 65 rest) ∷ token kind.Quote (codes "'") (ahead 63 rest) ∷ token kind.Number (codes "0") (ahead 62 rest) ∷ token kind.Word (codes "ns") (ahead 61 rest) ∷ token kind.Quote (codes "'") (ahead 59 rest) ∷ token kind.Word (codes "D") (ahead 57 rest) ∷ token kind.Semicolon (codes ";") (ahead 56 rest) ∷ token kind.CloseBrace (codes "}") (ahead 54 rest) ∷ token kind.Number (codes "1") (ahead 52 rest) ∷ token kind.OpenBrace (codes "{") (ahead 50 rest) ∷ token kind.Quote (codes "'") (ahead 48 rest) ∷ token kind.Number (codes "0") (ahead 47 rest) ∷ token kind.Word (codes "ns") (ahead 46 rest) ∷ token kind.Quote (codes "'") (ahead 44 rest) ∷ token kind.Word (codes "U") (ahead 42 rest) ∷ token kind.Semicolon (codes ";") (ahead 41 rest) ∷ token kind.CloseBrace (codes "}") (ahead 39 rest) ∷ token kind.Word (codes "P") (ahead 37 rest) ∷ token kind.OpenBrace (codes "{") (ahead 35 rest) ∷ token kind.Quote (codes "'") (ahead 33 rest) ∷ token kind.Number (codes "0") (ahead 32 rest) ∷ token kind.Word (codes "ns") (ahead 31 rest) ∷ token kind.Quote (codes "'") (ahead 29 rest) ∷ token kind.Word (codes "D") (ahead 27 rest) ∷ token kind.Semicolon (codes ";") (ahead 26 rest) ∷ token kind.Quote (codes "'") (ahead 24 rest) ∷ token kind.Number (codes "50") (ahead 23 rest) ∷ token kind.Word (codes "ns") (ahead 21 rest) ∷ token kind.Quote (codes "'") (ahead 19 rest) ∷ token kind.Word (codes "U") (ahead 17 rest) ∷ token kind.Semicolon (codes ";") (ahead 16 rest) ∷ token kind.Quote (codes "'") (ahead 14 rest) ∷ token kind.Number (codes "80") (ahead 13 rest) ∷ token kind.Word (codes "ns") (ahead 11 rest) ∷ token kind.Quote (codes "'") (ahead 9 rest) ∷ token kind.Word (codes "D") (ahead 7 rest) ∷ token kind.Semicolon (codes ";") (ahead 6 rest) ∷ token kind.CloseBrace (codes "}") (ahead 4 rest) ∷ token kind.CloseBrace (codes "}") (ahead 2 rest) ∷ cut_up false rest

-- the same of outputs
abbrev output_tokens : Text → List Token
output_tokens rest = token kind.Word (codes "L") (ahead 67 rest) ∷ token kind.OpenBrace (codes "{") (ahead 65 rest) ∷ token kind.Quote (codes "'") (ahead 63 rest) ∷ token kind.Number (codes "0") (ahead 62 rest) ∷ token kind.Word (codes "ns") (ahead 61 rest) ∷ token kind.Quote (codes "'") (ahead 59 rest) ∷ token kind.Word (codes "X") (ahead 57 rest) ∷ token kind.Semicolon (codes ";") (ahead 56 rest) ∷ token kind.Quote (codes "'") (ahead 54 rest) ∷ token kind.Number (codes "40") (ahead 53 rest) ∷ token kind.Word (codes "ns") (ahead 51 rest) ∷ token kind.Quote (codes "'") (ahead 49 rest) ∷ token kind.Word (codes "L") (ahead 47 rest) ∷ token kind.Semicolon (codes ";") (ahead 46 rest) ∷ token kind.CloseBrace (codes "}") (ahead 44 rest) ∷ token kind.Word (codes "H") (ahead 42 rest) ∷ token kind.OpenBrace (codes "{") (ahead 40 rest) ∷ token kind.Quote (codes "'") (ahead 38 rest) ∷ token kind.Number (codes "0") (ahead 37 rest) ∷ token kind.Word (codes "ns") (ahead 36 rest) ∷ token kind.Quote (codes "'") (ahead 34 rest) ∷ token kind.Word (codes "X") (ahead 32 rest) ∷ token kind.Semicolon (codes ";") (ahead 31 rest) ∷ token kind.Quote (codes "'") (ahead 29 rest) ∷ token kind.Number (codes "40") (ahead 28 rest) ∷ token kind.Word (codes "ns") (ahead 26 rest) ∷ token kind.Quote (codes "'") (ahead 24 rest) ∷ token kind.Word (codes "H") (ahead 22 rest) ∷ token kind.Semicolon (codes ";") (ahead 21 rest) ∷ token kind.CloseBrace (codes "}") (ahead 19 rest) ∷ token kind.Word (codes "X") (ahead 17 rest) ∷ token kind.OpenBrace (codes "{") (ahead 15 rest) ∷ token kind.Quote (codes "'") (ahead 13 rest) ∷ token kind.Number (codes "0") (ahead 12 rest) ∷ token kind.Word (codes "ns") (ahead 11 rest) ∷ token kind.Quote (codes "'") (ahead 9 rest) ∷ token kind.Word (codes "X") (ahead 7 rest) ∷ token kind.Semicolon (codes ";") (ahead 6 rest) ∷ token kind.CloseBrace (codes "}") (ahead 4 rest) ∷ token kind.CloseBrace (codes "}") (ahead 2 rest) ∷ cut_up false rest

signal_waveforms-at : (names : Names) (t new : WaveformTable) (m : Members) (word : Text) (a b : ℕ) (us vs : List Token) → elsewhere names word ≡ Some m → waveforms_from (left us) names m.signals t us ≡ Ok (new, vs)
    → signal_waveforms names t (token kind.Word word a ∷ token kind.OpenBrace (codes "{") b ∷ us) ≡ Ok (new, vs)
unfolding signal_waveforms name sees_name sees kind_of bytes left next expect
signal_waveforms-at names t new m word a b us vs known e = rw known e

signal_waveforms_from-more : (k : ℕ) (names : Names) (t new : WaveformTable) (word : Text) (l : ℕ) (ts us : List Token) → signal_waveforms names t (token kind.Word word l ∷ ts) ≡ Ok (new, us)
    → signal_waveforms_from (suc k) names t (token kind.Word word l ∷ ts) ≡ signal_waveforms_from k names new us
unfolding signal_waveforms_from sees kind_of after
signal_waveforms_from-more k names t new word l ts us e = rw e refl

signal_waveforms_from-end : (k : ℕ) (names : Names) (t : WaveformTable) (word : Text) (l : ℕ) (ts : List Token) → signal_waveforms_from (suc k) names t (token kind.CloseBrace word l ∷ ts) ≡ Ok (t, ts)
unfolding signal_waveforms_from sees kind_of after next
signal_waveforms_from-end k names t word l ts = refl

pub ins_known : (i : StilSignal) (ins outs : List StilSignal) → elsewhere (grouped (i ∷ ins) outs) (codes "ins") ≡ Some (group_of 0 (suc (length ins)))
unfolding grown label
ins_known i ins [] = refl
ins_known i ins (o ∷ outs) = refl

pub outs_known : (ins : List StilSignal) (o : StilSignal) (outs : List StilSignal) → elsewhere (grouped ins (o ∷ outs)) (codes "outs") ≡ Some (group_of (length ins) (suc (length outs)))
unfolding grown label
outs_known [] o outs = refl
outs_known (i ∷ ins) o outs = refl

-- the table with the waveforms of these inputs
unfoldable pub with_ins : List StilSignal → WaveformTable → WaveformTable
with_ins [] t = t
with_ins (s ∷ ss) t = with_inputs (counted 0 (suc (length ss))) t

-- the table with the waveforms of these outputs, of which the first has this number
unfoldable pub with_outs : (from : ℕ) → List StilSignal → WaveformTable → WaveformTable
with_outs from [] t = t
with_outs from (s ∷ ss) t = with_outputs (counted from (suc (length ss))) t

input_step : (k : ℕ) (ins outs : List StilSignal) (t : WaveformTable) (rest : Text) → AreFree 0 t.waveforms → HaveDir (grouped ins outs) Input 0 (length ins)
    → signal_waveforms_from (turns ins k) (grouped ins outs) t (cut_up false (input_waveforms ins ++ rest)) ≡ signal_waveforms_from k (grouped ins outs) (with_ins ins t) (cut_up false rest)
unfolding turns with_ins
input_step k [] outs t rest free dirs = refl
input_step k (s ∷ ss) outs t rest free dirs =
    let names : Names = grouped (s ∷ ss) outs in
    let n : ℕ = suc (length ss) in
    ap (signal_waveforms_from (suc k) names t) (cut_up-input_waveforms rest)
    ∙ signal_waveforms_from-more k names t (with_inputs (counted 0 n) t) (codes "ins") (ahead 73 rest) (token kind.OpenBrace (codes "{") (ahead 69 rest) ∷ input_tokens rest) (cut_up false rest)
    (signal_waveforms-at names t (with_inputs (counted 0 n) t) (group_of 0 n) (codes "ins") (ahead 73 rest) (ahead 69 rest) (input_tokens rest) (cut_up false rest) (ins_known s ss outs)
    (ap (λ m. waveforms_from m names (counted 0 n) t (input_tokens rest)) (left-token kind.Number (codes "0") (ahead 67 rest) _) ∙ input_waveforms_read names 0 n t rest free dirs))

output_step : (k : ℕ) (ins outs : List StilSignal) (t : WaveformTable) (rest : Text) → AreFree (length ins) t.waveforms → HaveDir (grouped ins outs) Output (length ins) (length outs)
    → signal_waveforms_from (turns outs k) (grouped ins outs) t (cut_up false (output_waveforms outs ++ rest)) ≡ signal_waveforms_from k (grouped ins outs) (with_outs (length ins) outs t) (cut_up false rest)
unfolding turns with_outs
output_step k ins [] t rest free dirs = refl
output_step k ins (s ∷ ss) t rest free dirs =
    let names : Names = grouped ins (s ∷ ss) in
    let from : ℕ = length ins in
    let n : ℕ = suc (length ss) in
    ap (signal_waveforms_from (suc k) names t) (cut_up-output_waveforms rest)
    ∙ signal_waveforms_from-more k names t (with_outputs (counted from n) t) (codes "outs") (ahead 74 rest) (token kind.OpenBrace (codes "{") (ahead 69 rest) ∷ output_tokens rest) (cut_up false rest)
    (signal_waveforms-at names t (with_outputs (counted from n) t) (group_of from n) (codes "outs") (ahead 74 rest) (ahead 69 rest) (output_tokens rest) (cut_up false rest) (outs_known ins s ss)
    (ap (λ m. waveforms_from m names (counted from n) t (output_tokens rest)) (left-token kind.Word (codes "L") (ahead 67 rest) _) ∙ output_waveforms_read names from n t rest free dirs))

-- ---- the table

timing-at : (names : Names) (t : WaveformTable) (rest : Text) (us vs : List Token) (a b : ℕ) → signal_waveforms_from (left us) names (empty_table (length names.signals)) us ≡ Ok (t, token kind.CloseBrace (codes "}") a ∷ token kind.CloseBrace (codes "}") b ∷ vs)
    → times_fit 100000 t.times ≡ true
    → timing names (token kind.Word (codes "Timing") (ahead 55 rest) ∷ token kind.OpenBrace (codes "{") (ahead 48 rest) ∷ token kind.Word (codes "WaveformTable") (ahead 46 rest) ∷ token kind.Word (codes "w") (ahead 32 rest) ∷ token kind.OpenBrace (codes "{") (ahead 30 rest) ∷ token kind.Word (codes "Period") (ahead 28 rest) ∷ token kind.Quote (codes "'") (ahead 21 rest) ∷ token kind.Number (codes "100") (ahead 20 rest) ∷ token kind.Word (codes "ns") (ahead 17 rest) ∷ token kind.Quote (codes "'") (ahead 15 rest) ∷ token kind.Semicolon (codes ";") (ahead 14 rest) ∷ token kind.Word (codes "Waveforms") (ahead 12 rest) ∷ token kind.OpenBrace (codes "{") (ahead 2 rest) ∷ us) ≡ Ok (record { name = None; tables = record { names = codes "w" ∷ []; waveforms = t.waveforms ∷ [] } }, vs)
unfolding timing waveform_tables_from waveform_table table_body time small_number unit number_from name name_if_any sees_name keyword sees_word sees kind_of bytes left next expect after
timing-at names t rest us vs a b e fit = rw (e, fit) refl

-- no act
abbrev no_act : Option Act
no_act = None

none_in : (n k : ℕ) → get_or (replicate n no_act) k None ≡ None
none_in zero k = refl
none_in (suc n) zero = refl
none_in (suc n) (suc k) = none_in n k

empty_free : (count : ℕ) → AreFree 0 (empty_table count).waveforms
empty_free count i c low l = none_in (count * 256) (place_of_character i c)

letter_small : (a : Act) → acts.letter a < 256
letter_small Unset = omega arith
letter_small Low = omega arith
letter_small High = omega arith
letter_small Pulse = omega arith
letter_small ExpectLow = omega arith
letter_small ExpectHigh = omega arith
letter_small Ignore = omega arith

-- the waveforms of inputs tell nothing of the signals behind
behind_inputs : (n : ℕ) (t : WaveformTable) (i c : ℕ) → n ≤ i → c < 256 → act_of (with_inputs (counted 0 n) t).waveforms i c ≡ act_of t.waveforms i c
unfolding with_inputs
behind_inputs n t i c low l =
    let ns : List ℕ = counted 0 n in
    let s1 : Waveforms = with_waveform ns 48 Low t.waveforms in
    let s2 : Waveforms = with_waveform ns 49 High s1 in
    other_signal 0 n 80 Pulse s2 i c (inr (omega arith)) (omega arith) l ∙ other_signal 0 n 49 High s1 i c (inr (omega arith)) (omega arith) l ∙ other_signal 0 n 48 Low t.waveforms i c (inr (omega arith)) (omega arith) l

inputs_free : (ins : List StilSignal) (t : WaveformTable) → AreFree 0 t.waveforms → AreFree (length ins) (with_ins ins t).waveforms
unfolding with_ins
inputs_free [] t free = free
inputs_free (s ∷ ss) t free = λ i c low l. behind_inputs (suc (length ss)) t i c low l ∙ free i c (omega arith) l

-- the waveforms of outputs tell nothing of the signals before
before_outputs : (from n : ℕ) (t : WaveformTable) (i c : ℕ) → i < from → c < 256 → act_of (with_outputs (counted from n) t).waveforms i c ≡ act_of t.waveforms i c
unfolding with_outputs
before_outputs from n t i c low l =
    let ns : List ℕ = counted from n in
    let s1 : Waveforms = with_waveform ns 76 ExpectLow t.waveforms in
    let s2 : Waveforms = with_waveform ns 72 ExpectHigh s1 in
    other_signal from n 88 Ignore s2 i c (inl low) (omega arith) l ∙ other_signal from n 72 ExpectHigh s1 i c (inl low) (omega arith) l ∙ other_signal from n 76 ExpectLow t.waveforms i c (inl low) (omega arith) l

before_outs : (from : ℕ) (outs : List StilSignal) (t : WaveformTable) (i c : ℕ) → i < from → c < 256 → act_of (with_outs from outs t).waveforms i c ≡ act_of t.waveforms i c
unfolding with_outs
before_outs from [] t i c low l = refl
before_outs from (s ∷ ss) t i c low l = before_outputs from (suc (length ss)) t i c low l

-- what a letter means for an input
input_means : (n : ℕ) (t : WaveformTable) (i : ℕ) (a : Act) → i < n → n * 256 ≤ length t.waveforms.acts → IsActOf Input a → IsTold a → act_of (with_inputs (counted 0 n) t).waveforms i (acts.letter a) ≡ Some a
unfolding with_inputs
input_means n t i Unset l room h told = absurd told
input_means n t i Low l room h told =
    let ns : List ℕ = counted 0 n in
    let s1 : Waveforms = with_waveform ns 48 Low t.waveforms in
    let s2 : Waveforms = with_waveform ns 49 High s1 in
    other_character ns 80 Pulse s2 i 48 (omega arith) (omega arith) (omega arith) ∙ other_character ns 49 High s1 i 48 (omega arith) (omega arith) (omega arith)
    ∙ same_signal 0 n 48 Low t.waveforms i (omega arith) (omega arith) (omega arith) (omega arith)
input_means n t i High l room h told =
    let ns : List ℕ = counted 0 n in
    let s1 : Waveforms = with_waveform ns 48 Low t.waveforms in
    let s2 : Waveforms = with_waveform ns 49 High s1 in
    other_character ns 80 Pulse s2 i 49 (omega arith) (omega arith) (omega arith) ∙ same_signal 0 n 49 High s1 i (omega arith) (omega arith) (omega arith) (omega (arith, with_waveform-length ns 48 Low t.waveforms))
input_means n t i Pulse l room h told =
    let ns : List ℕ = counted 0 n in
    let s1 : Waveforms = with_waveform ns 48 Low t.waveforms in
    let s2 : Waveforms = with_waveform ns 49 High s1 in
    same_signal 0 n 80 Pulse s2 i (omega arith) (omega arith) (omega arith) (omega (arith, with_waveform-length ns 48 Low t.waveforms, with_waveform-length ns 49 High s1))
input_means n t i ExpectLow l room h told = absurd h
input_means n t i ExpectHigh l room h told = absurd h
input_means n t i Ignore l room h told = absurd h

-- what a letter means for an output
output_means : (from n : ℕ) (t : WaveformTable) (i : ℕ) (a : Act) → from ≤ i → i < from + n → (from + n) * 256 ≤ length t.waveforms.acts → IsActOf Output a → IsTold a → act_of (with_outputs (counted from n) t).waveforms i (acts.letter a) ≡ Some a
unfolding with_outputs
output_means from n t i Unset low l room h told = absurd told
output_means from n t i Low low l room h told = absurd h
output_means from n t i High low l room h told = absurd h
output_means from n t i Pulse low l room h told = absurd h
output_means from n t i ExpectLow low l room h told =
    let ns : List ℕ = counted from n in
    let s1 : Waveforms = with_waveform ns 76 ExpectLow t.waveforms in
    let s2 : Waveforms = with_waveform ns 72 ExpectHigh s1 in
    other_character ns 88 Ignore s2 i 76 (omega arith) (omega arith) (omega arith) ∙ other_character ns 72 ExpectHigh s1 i 76 (omega arith) (omega arith) (omega arith)
    ∙ same_signal from n 76 ExpectLow t.waveforms i low l (omega arith) room
output_means from n t i ExpectHigh low l room h told =
    let ns : List ℕ = counted from n in
    let s1 : Waveforms = with_waveform ns 76 ExpectLow t.waveforms in
    let s2 : Waveforms = with_waveform ns 72 ExpectHigh s1 in
    other_character ns 88 Ignore s2 i 72 (omega arith) (omega arith) (omega arith) ∙ same_signal from n 72 ExpectHigh s1 i low l (omega arith) (omega (arith, with_waveform-length ns 76 ExpectLow t.waveforms))
output_means from n t i Ignore low l room h told =
    let ns : List ℕ = counted from n in
    let s1 : Waveforms = with_waveform ns 76 ExpectLow t.waveforms in
    let s2 : Waveforms = with_waveform ns 72 ExpectHigh s1 in
    same_signal from n 88 Ignore s2 i low l (omega arith) (omega (arith, with_waveform-length ns 76 ExpectLow t.waveforms, with_waveform-length ns 72 ExpectHigh s1))

inputs-length : (ins : List StilSignal) (t : WaveformTable) → length (with_ins ins t).waveforms.acts ≡ length t.waveforms.acts
unfolding with_ins with_inputs
inputs-length [] t = refl
inputs-length (s ∷ ss) t =
    let ns : List ℕ = counted 0 (suc (length ss)) in
    let s1 : Waveforms = with_waveform ns 48 Low t.waveforms in
    let s2 : Waveforms = with_waveform ns 49 High s1 in
    with_waveform-length ns 80 Pulse s2 ∙ with_waveform-length ns 49 High s1 ∙ with_waveform-length ns 48 Low t.waveforms

-- the table that is written
pub written_table : (ins outs : List StilSignal) → WaveformTable
written_table ins outs = with_outs (length ins) outs (with_ins ins (empty_table (length (ins ++ outs))))

empty-length : (count : ℕ) → length (empty_table count).waveforms.acts ≡ count * 256
empty-length count = length-replicate (count * 256) None

pub input_acts : (ins outs : List StilSignal) (i : ℕ) (a : Act) → i < length ins → IsActOf Input a → IsTold a → act_of (written_table ins outs).waveforms i (acts.letter a) ≡ Some a
unfolding written_table with_ins
input_acts [] outs i a l h told = absurd (omega arith)
input_acts (s ∷ ss) outs i a l h told =
    let t : WaveformTable = empty_table (length ((s ∷ ss) ++ outs)) in
    before_outs (suc (length ss)) outs (with_inputs (counted 0 (suc (length ss))) t) i (acts.letter a) l (letter_small a)
    ∙ input_means (suc (length ss)) t i a l (omega (arith, empty-length (length ((s ∷ ss) ++ outs)), length-append (s ∷ ss) outs)) h told

pub output_acts : (ins outs : List StilSignal) (i : ℕ) (a : Act) → length ins ≤ i → i < length ins + length outs → IsActOf Output a → IsTold a → act_of (written_table ins outs).waveforms i (acts.letter a) ≡ Some a
unfolding written_table with_outs
output_acts ins [] i a low l h told = absurd (omega arith)
output_acts ins (s ∷ ss) i a low l h told =
    let t : WaveformTable = empty_table (length (ins ++ s ∷ ss)) in
    output_means (length ins) (suc (length ss)) (with_ins ins t) i a low l (omega (arith, inputs-length ins t, empty-length (length (ins ++ s ∷ ss)), length-append ins (s ∷ ss))) h told

times_fit-written : (ins outs : List StilSignal) → times_fit 100000 (written_table ins outs).times ≡ true
unfolding written_table with_ins with_outs with_inputs with_outputs
times_fit-written [] [] = refl
times_fit-written [] (o ∷ outs) = refl
times_fit-written (i ∷ ins) [] = refl
times_fit-written (i ∷ ins) (o ∷ outs) = refl

-- ---- the whole block

have_inputs : (ins outs : List StilSignal) → AllDir Input ins → HaveDir (grouped ins outs) Input 0 (length ins)
have_inputs ins outs h i low l =
    ap (λ (ss : List StilSignal). slice_index_or (map (λ (s : StilSignal). s.dir) ss) i Input) (grouped-signals ins outs) ∙ dir_in Input ins outs i h (omega arith)

have_outputs : (ins outs : List StilSignal) → AllDir Output outs → HaveDir (grouped ins outs) Output (length ins) (length outs)
have_outputs ins outs h i low l =
    ap (λ (ss : List StilSignal). slice_index_or (map (λ (s : StilSignal). s.dir) ss) i Input) (grouped-signals ins outs) ∙ dir_behind Output ins outs i h low l

input_front : (ins : List StilSignal) (rest : Text) → IsFront rest → IsFront (input_waveforms ins ++ rest)
input_front [] rest h = h
input_front (s ∷ ss) rest h = ap left (cut_up-input_waveforms rest) ∙ left-token kind.Word (codes "ins") (ahead 73 rest) _

output_front : (outs : List StilSignal) (rest : Text) → IsFront rest → IsFront (output_waveforms outs ++ rest)
output_front [] rest h = h
output_front (s ∷ ss) rest h = ap left (cut_up-output_waveforms rest) ∙ left-token kind.Word (codes "outs") (ahead 74 rest) _

all_waveforms_read : (ins outs : List StilSignal) (rest : Text) → AllDir Input ins → AllDir Output outs
    → signal_waveforms_from (left (cut_up false (input_waveforms ins ++ (output_waveforms outs ++ (codes "}" ++ (codes "\n}\n}\n" ++ rest)))))) (grouped ins outs) (empty_table (length (ins ++ outs))) (cut_up false (input_waveforms ins ++ (output_waveforms outs ++ (codes "}" ++ (codes "\n}\n}\n" ++ rest)))))
    ≡ Ok (written_table ins outs, token kind.CloseBrace (codes "}") (ahead 4 rest) ∷ token kind.CloseBrace (codes "}") (ahead 2 rest) ∷ cut_up false rest)
unfolding written_table
all_waveforms_read ins outs rest hi ho =
    let names : Names = grouped ins outs in
    let after : Text = codes "\n}\n}\n" ++ rest in
    let end : Text = codes "}" ++ after in
    let behind : Text = output_waveforms outs ++ end in
    let text : Text = input_waveforms ins ++ behind in
    let t0 : WaveformTable = empty_table (length (ins ++ outs)) in
    let t1 : WaveformTable = with_ins ins t0 in
    let t2 : WaveformTable = with_outs (length ins) outs t1 in
    let size : left (cut_up false text) ≡ length text = input_front ins behind (output_front outs end (close_front after)) in
    let n = enough ins outs (length text) (omega (arith, length-append (input_waveforms ins) behind, length-append (output_waveforms outs) end)) in
    ap (λ k. signal_waveforms_from k names t0 (cut_up false text)) (size ∙ n.is)
    ∙ input_step (turns outs (suc n.more)) ins outs t0 behind (empty_free (length (ins ++ outs))) (have_inputs ins outs hi)
    ∙ output_step (suc n.more) ins outs t1 end (inputs_free ins t0 (empty_free (length (ins ++ outs)))) (have_outputs ins outs ho)
    ∙ ap (signal_waveforms_from (suc n.more) names t2) (cut_up-close after) ∙ signal_waveforms_from-end n.more names t2 (codes "}") (ahead 1 after) (cut_up false after)
    ∙ ap (λ ts. Ok (t2, ts)) (cut_up-table_end rest)

-- the tables that are written
abbrev pub written_timing : (ins outs : List StilSignal) → Timing
written_timing ins outs = record { name = None; tables = record { names = codes "w" ∷ []; waveforms = (written_table ins outs).waveforms ∷ [] } }

pub timing_read : (ins outs : List StilSignal) (rest : Text) → AllDir Input ins → AllDir Output outs
    → timing (grouped ins outs) (cut_up false (timing_text (input_waveforms ins ++ (output_waveforms outs ++ (codes "}" ++ (codes "\n}\n}\n" ++ rest)))))) ≡ Ok (written_timing ins outs, cut_up false rest)
timing_read ins outs rest hi ho =
    let text : Text = input_waveforms ins ++ (output_waveforms outs ++ (codes "}" ++ (codes "\n}\n}\n" ++ rest))) in
    let count : length (grouped ins outs).signals ≡ length (ins ++ outs) = ap length (grouped-signals ins outs) in
    ap (timing (grouped ins outs)) (cut_up-timing text)
    ∙ timing-at (grouped ins outs) (written_table ins outs) text (cut_up false text) (cut_up false rest) (ahead 4 rest) (ahead 2 rest)
    (ap (λ n. signal_waveforms_from (left (cut_up false text)) (grouped ins outs) (empty_table n) (cut_up false text)) count ∙ all_waveforms_read ins outs rest hi ho) (times_fit-written ins outs)
