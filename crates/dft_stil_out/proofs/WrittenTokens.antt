-- The written pieces are cut into their tokens.
use Rattle.std.proofs.Common.{◌≡◌, ℕ, zero, suc, ◌+◌, ◌<◌, ◌≤◌, Bool, true, false, not, cond, eqb, ltb, List, [], ◌∷◌, ◌++◌, length, map, drop, codes, refl, ap, ◌∙◌, arith, get_or, ◌/◌, ◌%◌, length-append, append_assoc, Some}
use Rattle.std.specs.List.{prefix_len, list_all}
use Rattle.std.specs.Char.{is_ascii_alphanumeric}
use Rattle.std.specs.Fmt.{digits_onto, digits, digit_glyph}
use Rattle.std.proofs.lemmas.Bool.Decides.{nat_tests}
use Rattle.std.proofs.lemmas.List.Sums.{list_all-from_AllPass}
use Rattle.std.proofs.Math.Seq.{take-append_seam, drop-append_seam}
use Rattle.std.proofs.lemmas.Bool.{and_parts, and_from, or_left}
use Rattle.dft_base.specs.Lexing.{Text, Blank, Cut, tokens_from}
use Rattle.dft_base.proofs.LexingLemmas.{tokens_from-cut, tokens_from-blank}
use Rattle.dft_base.proofs.NumberLemmas.{minus_zero}
use Rattle.dft_base.proofs.TextLemmas.{prefix_len-run}
use Rattle.dft_patterns.specs.declared.act.Act.{Act}
use Rattle.dft_patterns.specs.declared.act.Act.TheVariants.{Unset, Low, High, Pulse, ExpectLow, ExpectHigh, Ignore}
use Rattle.dft_patterns.specs.declared.notes.Note.{Note}
use Rattle.dft_patterns.specs.declared.notes.NoteKind.{NoteKind}
use Rattle.dft_patterns.specs.declared.notes.NoteKind.TheVariants.{SetUp, Pattern, Unload}
use Rattle.dft_stil_tokens.specs.declared.text.TokenKind.{TokenKind}
use Rattle.dft_stil_tokens.specs.declared.text.TokenKind.TheVariants as kind
use Rattle.dft_patterns.specs.Acts.{IsTold}
use Rattle.dft_stil_out.specs.Letters.{letter}
use Rattle.dft_stil_tokens.specs.Lexemes.{Token, Lexeme, plain, is_printed, continues_name, is_in_number, to_quote, closed_quote, token_of, quoted_behind, front, comment_rest, note_rest, gap_len, gaps_from, blank_len, mark_kind, quoted_text, word_or_note, lexeme, begins_with, index_len, word_len, semicolon_len, note_opening}
use Rattle.dft_stil_out.specs.Written.{note_words, note_line}
use Rattle.dft_stil_out.specs.Writable.{IsQuotable}

-- the tokens of a text, as a word that does not compute
unfoldable pub cut_up : (quoted : Bool) → Text → List Token
cut_up quoted text = tokens_from front quoted 0 text

-- a token of a kind with these bytes, and so many bytes left
abbrev pub token : TokenKind → Text → ℕ → Token
token k bytes left = record { kind = k; bytes = bytes; left = left }

-- so many bytes and those of a text
abbrev pub ahead : ℕ → Text → ℕ
ahead zero rest = length rest
ahead (suc n) rest = suc (ahead n rest)

-- ---- words and marks

pub cut_up-start : (rest : Text) → cut_up false (codes "STIL 1.0;\nSignals {\n" ++ rest) ≡ token kind.Word (codes "STIL") (ahead 20 rest) ∷ token kind.Number (codes "1.0") (ahead 15 rest) ∷ token kind.Semicolon (codes ";") (ahead 12 rest) ∷ token kind.Word (codes "Signals") (ahead 10 rest) ∷ token kind.OpenBrace (codes "{") (ahead 2 rest) ∷ cut_up false rest
unfolding cut_up comment_rest note_rest gap_len gaps_from blank_len mark_kind quoted_text word_or_note lexeme
cut_up-start rest = simp minus_zero

pub cut_up-in : (rest : Text) → cut_up false (codes " In;\n" ++ rest) ≡ token kind.Word (codes "In") (ahead 4 rest) ∷ token kind.Semicolon (codes ";") (ahead 2 rest) ∷ cut_up false rest
unfolding cut_up comment_rest note_rest gap_len gaps_from blank_len mark_kind quoted_text word_or_note lexeme
cut_up-in rest = simp minus_zero

pub cut_up-out : (rest : Text) → cut_up false (codes " Out;\n" ++ rest) ≡ token kind.Word (codes "Out") (ahead 5 rest) ∷ token kind.Semicolon (codes ";") (ahead 2 rest) ∷ cut_up false rest
unfolding cut_up comment_rest note_rest gap_len gaps_from blank_len mark_kind quoted_text word_or_note lexeme
cut_up-out rest = simp minus_zero

pub cut_up-close : (rest : Text) → cut_up false (codes "}" ++ rest) ≡ token kind.CloseBrace (codes "}") (ahead 1 rest) ∷ cut_up false rest
unfolding cut_up comment_rest note_rest gap_len gaps_from blank_len mark_kind quoted_text word_or_note lexeme
cut_up-close rest = simp minus_zero

pub cut_up-groups : (rest : Text) → cut_up false (codes "\nSignalGroups {\n" ++ rest) ≡ token kind.Word (codes "SignalGroups") (ahead 15 rest) ∷ token kind.OpenBrace (codes "{") (ahead 2 rest) ∷ cut_up false rest
unfolding cut_up comment_rest note_rest gap_len gaps_from blank_len mark_kind quoted_text word_or_note lexeme
cut_up-groups rest = simp minus_zero

pub cut_up-ins_are : (rest : Text) → cut_up false (codes "ins = '" ++ rest) ≡ token kind.Word (codes "ins") (ahead 7 rest) ∷ token kind.Equals (codes "=") (ahead 3 rest) ∷ token kind.Quote (codes "'") (ahead 1 rest) ∷ cut_up true rest
unfolding cut_up comment_rest note_rest gap_len gaps_from blank_len mark_kind quoted_text word_or_note lexeme
cut_up-ins_are rest = simp minus_zero

pub cut_up-outs_are : (rest : Text) → cut_up false (codes "outs = '" ++ rest) ≡ token kind.Word (codes "outs") (ahead 8 rest) ∷ token kind.Equals (codes "=") (ahead 3 rest) ∷ token kind.Quote (codes "'") (ahead 1 rest) ∷ cut_up true rest
unfolding cut_up comment_rest note_rest gap_len gaps_from blank_len mark_kind quoted_text word_or_note lexeme
cut_up-outs_are rest = simp minus_zero

pub cut_up-plus : (rest : Text) → cut_up true (codes "+" ++ rest) ≡ token kind.Plus (codes "+") (ahead 1 rest) ∷ cut_up true rest
unfolding cut_up comment_rest note_rest gap_len gaps_from blank_len mark_kind quoted_text word_or_note lexeme
cut_up-plus rest = simp minus_zero

pub cut_up-listed : (rest : Text) → cut_up true (codes "';\n" ++ rest) ≡ token kind.Quote (codes "'") (ahead 3 rest) ∷ token kind.Semicolon (codes ";") (ahead 2 rest) ∷ cut_up false rest
unfolding cut_up comment_rest note_rest gap_len gaps_from blank_len mark_kind quoted_text word_or_note lexeme
cut_up-listed rest = simp minus_zero

pub cut_up-timing : (rest : Text) → cut_up false (codes "\nTiming {\nWaveformTable w {\nPeriod '100ns';\nWaveforms {\n" ++ rest) ≡ token kind.Word (codes "Timing") (ahead 55 rest) ∷ token kind.OpenBrace (codes "{") (ahead 48 rest) ∷ token kind.Word (codes "WaveformTable") (ahead 46 rest) ∷ token kind.Word (codes "w") (ahead 32 rest) ∷ token kind.OpenBrace (codes "{") (ahead 30 rest) ∷ token kind.Word (codes "Period") (ahead 28 rest) ∷ token kind.Quote (codes "'") (ahead 21 rest) ∷ token kind.Number (codes "100") (ahead 20 rest) ∷ token kind.Word (codes "ns") (ahead 17 rest) ∷ token kind.Quote (codes "'") (ahead 15 rest) ∷ token kind.Semicolon (codes ";") (ahead 14 rest) ∷ token kind.Word (codes "Waveforms") (ahead 12 rest) ∷ token kind.OpenBrace (codes "{") (ahead 2 rest) ∷ cut_up false rest
unfolding cut_up comment_rest note_rest gap_len gaps_from blank_len mark_kind quoted_text word_or_note lexeme
cut_up-timing rest = simp minus_zero

pub cut_up-input_waveforms : (rest : Text) → cut_up false (codes "ins { 0 { '0ns' D; } 1 { '0ns' U; } P { '0ns' D; '50ns' U; '80ns' D; } }\n" ++ rest) ≡ token kind.Word (codes "ins") (ahead 73 rest) ∷ token kind.OpenBrace (codes "{") (ahead 69 rest) ∷ token kind.Number (codes "0") (ahead 67 rest) ∷ token kind.OpenBrace (codes "{") (ahead 65 rest) ∷ token kind.Quote (codes "'") (ahead 63 rest) ∷ token kind.Number (codes "0") (ahead 62 rest) ∷ token kind.Word (codes "ns") (ahead 61 rest) ∷ token kind.Quote (codes "'") (ahead 59 rest) ∷ token kind.Word (codes "D") (ahead 57 rest) ∷ token kind.Semicolon (codes ";") (ahead 56 rest) ∷ token kind.CloseBrace (codes "}") (ahead 54 rest) ∷ token kind.Number (codes "1") (ahead 52 rest) ∷ token kind.OpenBrace (codes "{") (ahead 50 rest) ∷ token kind.Quote (codes "'") (ahead 48 rest) ∷ token kind.Number (codes "0") (ahead 47 rest) ∷ token kind.Word (codes "ns") (ahead 46 rest) ∷ token kind.Quote (codes "'") (ahead 44 rest) ∷ token kind.Word (codes "U") (ahead 42 rest) ∷ token kind.Semicolon (codes ";") (ahead 41 rest) ∷ token kind.CloseBrace (codes "}") (ahead 39 rest) ∷ token kind.Word (codes "P") (ahead 37 rest) ∷ token kind.OpenBrace (codes "{") (ahead 35 rest) ∷ token kind.Quote (codes "'") (ahead 33 rest) ∷ token kind.Number (codes "0") (ahead 32 rest) ∷ token kind.Word (codes "ns") (ahead 31 rest) ∷ token kind.Quote (codes "'") (ahead 29 rest) ∷ token kind.Word (codes "D") (ahead 27 rest) ∷ token kind.Semicolon (codes ";") (ahead 26 rest) ∷ token kind.Quote (codes "'") (ahead 24 rest) ∷ token kind.Number (codes "50") (ahead 23 rest) ∷ token kind.Word (codes "ns") (ahead 21 rest) ∷ token kind.Quote (codes "'") (ahead 19 rest) ∷ token kind.Word (codes "U") (ahead 17 rest) ∷ token kind.Semicolon (codes ";") (ahead 16 rest) ∷ token kind.Quote (codes "'") (ahead 14 rest) ∷ token kind.Number (codes "80") (ahead 13 rest) ∷ token kind.Word (codes "ns") (ahead 11 rest) ∷ token kind.Quote (codes "'") (ahead 9 rest) ∷ token kind.Word (codes "D") (ahead 7 rest) ∷ token kind.Semicolon (codes ";") (ahead 6 rest) ∷ token kind.CloseBrace (codes "}") (ahead 4 rest) ∷ token kind.CloseBrace (codes "}") (ahead 2 rest) ∷ cut_up false rest
unfolding cut_up comment_rest note_rest gap_len gaps_from blank_len mark_kind quoted_text word_or_note lexeme
cut_up-input_waveforms rest = simp minus_zero

pub cut_up-output_waveforms : (rest : Text) → cut_up false (codes "outs { L { '0ns' X; '40ns' L; } H { '0ns' X; '40ns' H; } X { '0ns' X; } }\n" ++ rest) ≡ token kind.Word (codes "outs") (ahead 74 rest) ∷ token kind.OpenBrace (codes "{") (ahead 69 rest) ∷ token kind.Word (codes "L") (ahead 67 rest) ∷ token kind.OpenBrace (codes "{") (ahead 65 rest) ∷ token kind.Quote (codes "'") (ahead 63 rest) ∷ token kind.Number (codes "0") (ahead 62 rest) ∷ token kind.Word (codes "ns") (ahead 61 rest) ∷ token kind.Quote (codes "'") (ahead 59 rest) ∷ token kind.Word (codes "X") (ahead 57 rest) ∷ token kind.Semicolon (codes ";") (ahead 56 rest) ∷ token kind.Quote (codes "'") (ahead 54 rest) ∷ token kind.Number (codes "40") (ahead 53 rest) ∷ token kind.Word (codes "ns") (ahead 51 rest) ∷ token kind.Quote (codes "'") (ahead 49 rest) ∷ token kind.Word (codes "L") (ahead 47 rest) ∷ token kind.Semicolon (codes ";") (ahead 46 rest) ∷ token kind.CloseBrace (codes "}") (ahead 44 rest) ∷ token kind.Word (codes "H") (ahead 42 rest) ∷ token kind.OpenBrace (codes "{") (ahead 40 rest) ∷ token kind.Quote (codes "'") (ahead 38 rest) ∷ token kind.Number (codes "0") (ahead 37 rest) ∷ token kind.Word (codes "ns") (ahead 36 rest) ∷ token kind.Quote (codes "'") (ahead 34 rest) ∷ token kind.Word (codes "X") (ahead 32 rest) ∷ token kind.Semicolon (codes ";") (ahead 31 rest) ∷ token kind.Quote (codes "'") (ahead 29 rest) ∷ token kind.Number (codes "40") (ahead 28 rest) ∷ token kind.Word (codes "ns") (ahead 26 rest) ∷ token kind.Quote (codes "'") (ahead 24 rest) ∷ token kind.Word (codes "H") (ahead 22 rest) ∷ token kind.Semicolon (codes ";") (ahead 21 rest) ∷ token kind.CloseBrace (codes "}") (ahead 19 rest) ∷ token kind.Word (codes "X") (ahead 17 rest) ∷ token kind.OpenBrace (codes "{") (ahead 15 rest) ∷ token kind.Quote (codes "'") (ahead 13 rest) ∷ token kind.Number (codes "0") (ahead 12 rest) ∷ token kind.Word (codes "ns") (ahead 11 rest) ∷ token kind.Quote (codes "'") (ahead 9 rest) ∷ token kind.Word (codes "X") (ahead 7 rest) ∷ token kind.Semicolon (codes ";") (ahead 6 rest) ∷ token kind.CloseBrace (codes "}") (ahead 4 rest) ∷ token kind.CloseBrace (codes "}") (ahead 2 rest) ∷ cut_up false rest
unfolding cut_up comment_rest note_rest gap_len gaps_from blank_len mark_kind quoted_text word_or_note lexeme
cut_up-output_waveforms rest = simp minus_zero

pub cut_up-table_end : (rest : Text) → cut_up false (codes "\n}\n}\n" ++ rest) ≡ token kind.CloseBrace (codes "}") (ahead 4 rest) ∷ token kind.CloseBrace (codes "}") (ahead 2 rest) ∷ cut_up false rest
unfolding cut_up comment_rest note_rest gap_len gaps_from blank_len mark_kind quoted_text word_or_note lexeme
cut_up-table_end rest = simp minus_zero

pub cut_up-burst : (rest : Text) → cut_up false (codes "PatternBurst b { PatList { p; } }\n" ++ rest) ≡ token kind.Word (codes "PatternBurst") (ahead 34 rest) ∷ token kind.Word (codes "b") (ahead 21 rest) ∷ token kind.OpenBrace (codes "{") (ahead 19 rest) ∷ token kind.Word (codes "PatList") (ahead 17 rest) ∷ token kind.OpenBrace (codes "{") (ahead 9 rest) ∷ token kind.Word (codes "p") (ahead 7 rest) ∷ token kind.Semicolon (codes ";") (ahead 6 rest) ∷ token kind.CloseBrace (codes "}") (ahead 4 rest) ∷ token kind.CloseBrace (codes "}") (ahead 2 rest) ∷ cut_up false rest
unfolding cut_up comment_rest note_rest gap_len gaps_from blank_len mark_kind quoted_text word_or_note lexeme
cut_up-burst rest = simp minus_zero

pub cut_up-exec : (rest : Text) → cut_up false (codes "PatternExec { PatternBurst b; }\n" ++ rest) ≡ token kind.Word (codes "PatternExec") (ahead 32 rest) ∷ token kind.OpenBrace (codes "{") (ahead 20 rest) ∷ token kind.Word (codes "PatternBurst") (ahead 18 rest) ∷ token kind.Word (codes "b") (ahead 5 rest) ∷ token kind.Semicolon (codes ";") (ahead 4 rest) ∷ token kind.CloseBrace (codes "}") (ahead 2 rest) ∷ cut_up false rest
unfolding cut_up comment_rest note_rest gap_len gaps_from blank_len mark_kind quoted_text word_or_note lexeme
cut_up-exec rest = simp minus_zero

pub cut_up-pattern : (rest : Text) → cut_up false (codes "Pattern p {\nW w;\n" ++ rest) ≡ token kind.Word (codes "Pattern") (ahead 17 rest) ∷ token kind.Word (codes "p") (ahead 9 rest) ∷ token kind.OpenBrace (codes "{") (ahead 7 rest) ∷ token kind.Word (codes "W") (ahead 5 rest) ∷ token kind.Word (codes "w") (ahead 3 rest) ∷ token kind.Semicolon (codes ";") (ahead 2 rest) ∷ cut_up false rest
unfolding cut_up comment_rest note_rest gap_len gaps_from blank_len mark_kind quoted_text word_or_note lexeme
cut_up-pattern rest = simp minus_zero

pub cut_up-vector : (rest : Text) → cut_up false (codes "V { " ++ rest) ≡ token kind.Word (codes "V") (ahead 4 rest) ∷ token kind.OpenBrace (codes "{") (ahead 2 rest) ∷ cut_up false rest
unfolding cut_up comment_rest note_rest gap_len gaps_from blank_len mark_kind quoted_text word_or_note lexeme
cut_up-vector rest = simp minus_zero

pub cut_up-ins_set : (rest : Text) → cut_up false (codes "ins = " ++ rest) ≡ token kind.Word (codes "ins") (ahead 6 rest) ∷ token kind.Equals (codes "=") (ahead 2 rest) ∷ cut_up false rest
unfolding cut_up comment_rest note_rest gap_len gaps_from blank_len mark_kind quoted_text word_or_note lexeme
cut_up-ins_set rest = simp minus_zero

pub cut_up-outs_set : (rest : Text) → cut_up false (codes "; outs = " ++ rest) ≡ token kind.Semicolon (codes ";") (ahead 9 rest) ∷ token kind.Word (codes "outs") (ahead 7 rest) ∷ token kind.Equals (codes "=") (ahead 2 rest) ∷ cut_up false rest
unfolding cut_up comment_rest note_rest gap_len gaps_from blank_len mark_kind quoted_text word_or_note lexeme
cut_up-outs_set rest = simp minus_zero

pub cut_up-vector_end : (rest : Text) → cut_up false (codes "; }\n" ++ rest) ≡ token kind.Semicolon (codes ";") (ahead 4 rest) ∷ token kind.CloseBrace (codes "}") (ahead 2 rest) ∷ cut_up false rest
unfolding cut_up comment_rest note_rest gap_len gaps_from blank_len mark_kind quoted_text word_or_note lexeme
cut_up-vector_end rest = simp minus_zero

pub cut_up-end : cut_up false (codes "}\n") ≡ token kind.CloseBrace (codes "}") 2 ∷ []
unfolding cut_up comment_rest note_rest gap_len gaps_from blank_len mark_kind quoted_text word_or_note lexeme
cut_up-end = refl

-- ---- tokens in front

-- the tokens of a text that begins with one
front_token : (quoted : Bool) (text : Text) → blank_len text ≡ 0
    → front quoted text ≡ Cut (token_of (lexeme quoted text) text) (lexeme quoted text).len (quoted_behind (lexeme quoted text).kind quoted)
front_token quoted text e =
    ap (λ k. cond (eqb k 0) (Cut (token_of (lexeme quoted text) text) (lexeme quoted text).len (quoted_behind (lexeme quoted text).kind quoted)) (Blank k)) e

cut_front : (quoted : Bool) (text : Text) (l : Lexeme) → blank_len text ≡ 0 → lexeme quoted text ≡ l → 0 < length text → 0 < l.len
    → cut_up quoted text ≡ token_of l text ∷ cut_up (quoted_behind l.kind quoted) (drop l.len text)
unfolding cut_up
cut_front quoted text l e cut full moves =
    let token : front quoted text ≡ Cut (token_of l text) l.len (quoted_behind l.kind quoted) =
    front_token quoted text e ∙ ap (λ (m : Lexeme). Cut (token_of m text) m.len (quoted_behind m.kind quoted)) cut in
    tokens_from-cut front quoted text (token_of l text) l.len (quoted_behind l.kind quoted) full moves token

prefix_len-over : (p : ℕ → Bool) (xs rest : Text) → list_all p xs ≡ true → length xs ≤ prefix_len p (xs ++ rest)
prefix_len-over p [] rest all = omega arith
prefix_len-over p (x ∷ xs) rest all =
    let parts = and_parts (p x) (list_all p xs) all in
    let ih = prefix_len-over p xs rest parts.1 in
    let e : prefix_len p (x ∷ (xs ++ rest)) ≡ 1 + prefix_len p (xs ++ rest) = ap (λ t. cond t (1 + prefix_len p (xs ++ rest)) 0) parts.0 in
    omega arith

drop-behind : (xs : Text) (b : ℕ) (rest : Text) → drop (suc (length xs)) (xs ++ b ∷ rest) ≡ rest
drop-behind [] b rest = refl
drop-behind (x ∷ xs) b rest = drop-behind xs b rest

-- ---- names in double quotes

all_pass : (p : ℕ → Bool) → ((b : ℕ) → 33 ≤ b → b ≤ 126 → (b ≡ 34 → ⊥) → p b ≡ true) → (name : Text) → IsQuotable name → list_all p name ≡ true
all_pass p passes name n = list_all-from_AllPass p name (λ k d lt. let h = n.name.each k d lt in passes (get_or name k d) h.0 h.1 (n.unquoted k d lt))

no_quote : (b : ℕ) → 33 ≤ b → b ≤ 126 → (b ≡ 34 → ⊥) → not (eqb b 34) ≡ true
no_quote b low high other = grind (arith, nat_tests, other)

printed : (b : ℕ) → 33 ≤ b → b ≤ 126 → (b ≡ 34 → ⊥) → is_printed b ≡ true
printed b low high other = grind (arith, nat_tests)

-- a name in double quotes
abbrev quoted_lexeme : Text → Lexeme
quoted_lexeme name = record { kind = kind.Quoted; len = suc (suc (length name)); prefix = 1; end = suc (length name); at = 0 }

closed-name : (len seen : ℕ) → 0 < len → len ≤ seen → closed_quote len seen ≡ record { kind = kind.Quoted; len = suc (suc len); prefix = 1; end = suc len; at = 0 }
closed-name len seen some all =
    let few : eqb len 0 ≡ false = grind (arith, nat_tests) in
    let full : ltb seen len ≡ false = grind (arith, nat_tests) in
    let two : 2 + len ≡ suc (suc len) = omega arith in
    let one : 1 + len ≡ suc len = omega arith in
    rw (few, full, two, one) refl

quoted_text-name : (name rest : Text) → IsQuotable name → quoted_text (name ++ 34 ∷ rest) ≡ quoted_lexeme name
unfolding quoted_text
quoted_text-name name rest n =
    let to : to_quote (name ++ 34 ∷ rest) ≡ length name = prefix_len-run (λ b. not (eqb b 34)) name 34 rest (all_pass (λ b. not (eqb b 34)) no_quote name n) refl in
    let over = prefix_len-over is_printed name (34 ∷ rest) (all_pass is_printed printed name n) in
    let inside : ltb (length name) (length (name ++ 34 ∷ rest)) ≡ true = grind (arith, nat_tests, length-append name (34 ∷ rest)) in
    rw (to, inside) (closed-name (length name) (prefix_len is_printed (name ++ 34 ∷ rest)) n.name.some over)

no_blank_quote : (text : Text) → blank_len (34 ∷ text) ≡ 0
unfolding blank_len gap_len comment_rest
no_blank_quote text = refl

lexeme-quote : (quoted : Bool) (text : Text) → lexeme quoted (34 ∷ text) ≡ quoted_text text
unfolding lexeme
lexeme-quote quoted text = refl

pub cut_up-name : (quoted : Bool) (name rest : Text) → IsQuotable name → cut_up quoted (34 ∷ (name ++ 34 ∷ rest)) ≡ token kind.Quoted name (suc (length (name ++ 34 ∷ rest))) ∷ cut_up quoted rest
cut_up-name quoted name rest n =
    cut_front quoted (34 ∷ (name ++ 34 ∷ rest)) (quoted_lexeme name) (no_blank_quote (name ++ 34 ∷ rest)) (lexeme-quote quoted (name ++ 34 ∷ rest) ∙ quoted_text-name name rest n) (omega arith) (omega arith)
    ∙ rw (take-append_seam name (34 ∷ rest), drop-behind name 34 rest, minus_zero (suc (length (name ++ 34 ∷ rest)))) refl

-- ---- runs of characters

-- each of these acts has a letter
abbrev pub AllTold : List Act → Type 0
AllTold [] = Unit {0}
AllTold (a ∷ acts) = IsTold a × AllTold acts

-- the kind of a run of characters that begins with the letter of this act
abbrev pub run_kind : Act → TokenKind
run_kind Low = kind.Number
run_kind High = kind.Number
run_kind _ = kind.Word

pub letter_passes : (a : Act) → IsTold a → is_ascii_alphanumeric (letter a) ≡ true
letter_passes Unset h = absurd h
letter_passes Low h = refl
letter_passes High h = refl
letter_passes Pulse h = refl
letter_passes ExpectLow h = refl
letter_passes ExpectHigh h = refl
letter_passes Ignore h = refl

letters_pass : (p : ℕ → Bool) → ((c : ℕ) → is_ascii_alphanumeric c ≡ true → p c ≡ true) → (acts : List Act) → AllTold acts → list_all p (map letter acts) ≡ true
letters_pass p passes [] h = refl
letters_pass p passes (a ∷ acts) h = and_from (p (letter a)) _ (passes (letter a) (letter_passes a h.0)) (letters_pass p passes acts h.1)

in_number : (c : ℕ) → is_ascii_alphanumeric c ≡ true → is_in_number false c ≡ true
in_number c h = grind (arith, nat_tests)

in_name : (c : ℕ) → is_ascii_alphanumeric c ≡ true → continues_name c ≡ true
in_name c h = or_left (is_ascii_alphanumeric c) _ h

-- the text of a run, and a semicolon behind it
abbrev pub run_text : Act → List Act → Text → Text
run_text a acts rest = map letter (a ∷ acts) ++ 59 ∷ rest

number_len : (a : Act) (acts : List Act) (rest : Text) → AllTold (a ∷ acts) → prefix_len (is_in_number false) (run_text a acts rest) ≡ suc (length (map letter acts))
number_len a acts rest h = prefix_len-run (is_in_number false) (map letter (a ∷ acts)) 59 rest (letters_pass (is_in_number false) in_number (a ∷ acts) h) refl

name_len : (a : Act) (acts : List Act) (rest : Text) → AllTold (a ∷ acts) → prefix_len continues_name (run_text a acts rest) ≡ suc (length (map letter acts))
name_len a acts rest h = prefix_len-run continues_name (map letter (a ∷ acts)) 59 rest (letters_pass continues_name in_name (a ∷ acts) h) refl

no_index : (xs rest : Text) (n : ℕ) → n ≡ length xs → index_len (drop n (xs ++ 59 ∷ rest)) ≡ 0
no_index xs rest n e = rw (e, drop-append_seam xs (59 ∷ rest)) refl

run_len : (a : Act) (acts : List Act) (rest : Text) → AllTold (a ∷ acts) → word_len (run_text a acts rest) ≡ suc (length (map letter acts))
run_len a acts rest h =
    let len = name_len a acts rest h in
    let none = no_index (map letter (a ∷ acts)) rest (prefix_len continues_name (run_text a acts rest)) len in
    omega (arith, len, none)

run_no_blank : (a : Act) (text : Text) → IsTold a → blank_len (letter a ∷ text) ≡ 0
unfolding blank_len gap_len comment_rest
run_no_blank Unset text h = absurd h
run_no_blank Low text h = refl
run_no_blank High text h = refl
run_no_blank Pulse text h = refl
run_no_blank ExpectLow text h = refl
run_no_blank ExpectHigh text h = refl
run_no_blank Ignore text h = refl

run_lexeme : (a : Act) (acts : List Act) (rest : Text) → AllTold (a ∷ acts) → lexeme false (run_text a acts rest) ≡ plain (run_kind a) (suc (length (map letter acts)))
unfolding lexeme word_or_note
run_lexeme Unset acts rest h = absurd h.0
run_lexeme Low acts rest h = ap (plain kind.Number) (number_len Low acts rest h)
run_lexeme High acts rest h = ap (plain kind.Number) (number_len High acts rest h)
run_lexeme Pulse acts rest h = ap (plain kind.Word) (run_len Pulse acts rest h)
run_lexeme ExpectLow acts rest h = ap (plain kind.Word) (run_len ExpectLow acts rest h)
run_lexeme ExpectHigh acts rest h = ap (plain kind.Word) (run_len ExpectHigh acts rest h)
run_lexeme Ignore acts rest h = ap (plain kind.Word) (run_len Ignore acts rest h)

run_mode : (a : Act) → quoted_behind (run_kind a) false ≡ false
run_mode Unset = refl
run_mode Low = refl
run_mode High = refl
run_mode Pulse = refl
run_mode ExpectLow = refl
run_mode ExpectHigh = refl
run_mode Ignore = refl

pub cut_up-run : (a : Act) (acts : List Act) (rest : Text) → AllTold (a ∷ acts)
    → cut_up false (run_text a acts rest) ≡ token (run_kind a) (map letter (a ∷ acts)) (length (run_text a acts rest)) ∷ cut_up false (59 ∷ rest)
cut_up-run a acts rest h =
    cut_front false (run_text a acts rest) (plain (run_kind a) (suc (length (map letter acts)))) (run_no_blank a (map letter acts ++ 59 ∷ rest) h.0) (run_lexeme a acts rest h) (omega arith) (omega arith)
    ∙ rw (take-append_seam (map letter (a ∷ acts)) (59 ∷ rest), drop-append_seam (map letter (a ∷ acts)) (59 ∷ rest), minus_zero (length (run_text a acts rest)), run_mode a) refl

-- ---- notes

-- what a line begins with: a vector, an annotation or the end
pub data Opening : Type 0 where
  AVector : Opening
  ANote : Opening
  AnEnd : Opening

-- the byte that begins such a line
abbrev pub opening : Opening → ℕ
opening AVector = 86
opening ANote = 65
opening AnEnd = 125

-- the text begins with a line
pub record IsLine (text : Text) : Type 0 where
  pub what : Opening
  pub more : Text
  pub is : text ≡ opening what ∷ more

-- the byte does not begin the end of an annotation
abbrev no_star : ℕ → Bool
no_star b = not (eqb b 42)

no_star-glyph : (d : ℕ) → no_star (digit_glyph false d) ≡ true
no_star-glyph d = by (ltb d 10) d where
  by : (t : Bool) (d : ℕ) → no_star (cond t (48 + d) (87 + d)) ≡ true
  by true d = grind (arith, nat_tests)
  by false d = grind (arith, nat_tests)

no_star-digits : (k n : ℕ) (acc : Text) → list_all no_star acc ≡ true → list_all no_star (digits_onto k 10 false n acc) ≡ true
no_star-digits zero n acc h = h
no_star-digits (suc k) n acc h =
    let one : list_all no_star (digit_glyph false (n % 10) ∷ acc) ≡ true = and_from (no_star (digit_glyph false (n % 10))) _ (no_star-glyph (n % 10)) h in
    by (eqb (n / 10) 0) (digit_glyph false (n % 10) ∷ acc) (digits_onto k 10 false (n / 10) (digit_glyph false (n % 10) ∷ acc)) one (no_star-digits k (n / 10) (digit_glyph false (n % 10) ∷ acc) one) where
      by : (t : Bool) (xs ys : Text) → list_all no_star xs ≡ true → list_all no_star ys ≡ true → list_all no_star (cond t xs ys) ≡ true
      by true xs ys f g = f
      by false xs ys f g = g

no_star-words : (w : NoteKind) → list_all no_star (note_words w) ≡ true
unfolding digits
no_star-words SetUp = refl
no_star-words (Pattern n) = no_star-digits 64 n [] refl
no_star-words Unload = refl

begins_star : (x : ℕ) (text : Text) → no_star x ≡ true → begins_with (codes "*}") (x ∷ text) ≡ false
begins_star x text h = let e : eqb 42 x ≡ false = grind (arith, nat_tests) in rw e refl

note_rest-passed : (xs rest : Text) → list_all no_star xs ≡ true → note_rest (xs ++ 32 ∷ 42 ∷ 125 ∷ rest) ≡ Some (suc (suc (suc (length xs))))
unfolding note_rest
note_rest-passed [] rest h = refl
note_rest-passed (x ∷ xs) rest h =
    let parts = and_parts (no_star x) (list_all no_star xs) h in
    rw (begins_star x (xs ++ 32 ∷ 42 ∷ 125 ∷ rest) parts.0, note_rest-passed xs rest parts.1) refl

-- an annotation, a line feed and what follows
abbrev note_text : Text → Text → Text
note_text words rest = codes "Ann {* " ++ (words ++ 32 ∷ 42 ∷ 125 ∷ 10 ∷ rest)

no_semicolon : (what : Opening) (more : Text) → semicolon_len (10 ∷ opening what ∷ more) ≡ 0
unfolding gaps_from gap_len comment_rest
no_semicolon AVector more = refl
no_semicolon ANote more = refl
no_semicolon AnEnd more = refl

note_opens : (text : Text) → note_opening (codes "Ann {* " ++ text) ≡ Some 6
unfolding gaps_from gap_len comment_rest
note_opens text = refl

note_len : (words rest : Text) (k : ℕ) → note_rest (32 ∷ (words ++ 32 ∷ 42 ∷ 125 ∷ 10 ∷ rest)) ≡ Some k → blank_len (note_text words rest) ≡ 6 + k + semicolon_len (drop (6 + k) (note_text words rest))
unfolding blank_len
note_len words rest k e = rw (note_opens (words ++ 32 ∷ 42 ∷ 125 ∷ 10 ∷ rest)) (rw e refl)

drop-words : (words rest : Text) → drop (suc (suc (suc (length words)))) (words ++ 32 ∷ 42 ∷ 125 ∷ rest) ≡ rest
drop-words [] rest = refl
drop-words (x ∷ words) rest = drop-words words rest

note_ends : (words rest : Text) (k : ℕ) → k ≡ 10 + length words → drop k (note_text words rest) ≡ 10 ∷ rest
note_ends words rest k e =
    let n : k ≡ suc (suc (suc (suc (suc (suc (suc (suc (suc (suc (length words)))))))))) = omega arith in
    ap (λ n. drop n (note_text words rest)) n ∙ drop-words words (10 ∷ rest)

front_blank : (text : Text) (k : ℕ) → blank_len text ≡ k → 0 < k → front false text ≡ Blank k
front_blank text k e some =
    let few : eqb k 0 ≡ false = grind (arith, nat_tests) in
    rw (e, few) refl

cut_up-line : (rest : Text) → cut_up false (10 ∷ rest) ≡ cut_up false rest
unfolding cut_up blank_len gap_len comment_rest
cut_up-line rest = refl

note_passed : (words rest : Text) (what : Opening) (more : Text) → rest ≡ opening what ∷ more → list_all no_star words ≡ true → cut_up false (note_text words rest) ≡ cut_up false rest
unfolding cut_up
note_passed words rest what more is free =
    let inside : note_rest (32 ∷ (words ++ 32 ∷ 42 ∷ 125 ∷ 10 ∷ rest)) ≡ Some (suc (suc (suc (suc (length words))))) = note_rest-passed (32 ∷ words) (10 ∷ rest) free in
    let size : 6 + suc (suc (suc (suc (length words)))) ≡ 10 + length words = omega arith in
    let ends = note_ends words rest (6 + suc (suc (suc (suc (length words))))) size in
    let semi : semicolon_len (drop (6 + suc (suc (suc (suc (length words))))) (note_text words rest)) ≡ 0 = ap semicolon_len (ends ∙ ap (λ t. 10 ∷ t) is) ∙ no_semicolon what more in
    let len : blank_len (note_text words rest) ≡ 10 + length words = note_len words rest _ inside ∙ (omega arith) in
    tokens_from-blank front false (note_text words rest) (10 + length words) (omega arith) (omega arith) (front_blank (note_text words rest) (10 + length words) len (omega arith))
    ∙ ap (tokens_from front false 0) (note_ends words rest (10 + length words) refl) ∙ cut_up-line rest

note_parts : (n : Note) (rest : Text) → note_line n ++ rest ≡ note_text (note_words n.what) rest
unfolding note_line
note_parts n rest = ap (λ t. codes "Ann {* " ++ t) (append_assoc (note_words n.what) (codes " *}\n") rest)

pub cut_up-note : (n : Note) (rest : Text) → IsLine rest → cut_up false (note_line n ++ rest) ≡ cut_up false rest
cut_up-note n rest l = ap (cut_up false) (note_parts n rest) ∙ note_passed (note_words n.what) rest l.what l.more l.is (no_star-words n.what)

pub note_is_line : (n : Note) (rest : Text) → IsLine (note_line n ++ rest)
unfolding note_line
note_is_line n rest = record { what = ANote; more = codes "nn {* " ++ ((note_words n.what ++ codes " *}\n") ++ rest); is = refl }
