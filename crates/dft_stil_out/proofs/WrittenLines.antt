-- The written lines of vectors and notes are read.
use Rattle.std.proofs.Common.{◌≡◌, ℕ, zero, suc, ◌+◌, ◌<◌, ◌≤◌, false, List, [], ◌∷◌, ◌++◌, length, map, flat_map, take, drop, codes, Some, Ok, inl, inr, ◌⊎◌, refl, sym, ap, subst, ◌∙◌, arith, length-append, append_assoc, append-nil}
use Rattle.std.proofs.lemmas.List.{take-append-drop, length-take, length-drop}
use Rattle.std.proofs.Math.Seq.{take-append_seam, drop-append_seam}
use Rattle.dft_base.specs.Lexing.{Text}
use Rattle.dft_base.specs.declared.dir.Dir.TheVariants.{Input, Output}
use Rattle.dft_patterns.specs.declared.act.Act.{Act}
use Rattle.dft_patterns.specs.declared.notes.Note.{Note}
use Rattle.dft_patterns.specs.declared.signal.StilSignal.{StilSignal}
use Rattle.dft_stil_tokens.specs.declared.text.TokenKind.TheVariants as kind
use Rattle.dft_stil_out.specs.Letters.{letter}
use Rattle.dft_stil_tokens.specs.Lexemes.{Token}
use Rattle.dft_stil_tokens.specs.Steps.{kind_of, bytes, next, sees, sees_word, after}
use Rattle.dft_stil_text.specs.SignalGroups.{Names}
use Rattle.dft_stil_text.specs.WaveformTables.{Waveforms, WaveformTables}
use Rattle.dft_stil_text.specs.Statements.{PatternBlock, vector, statement, statements_from}
use Rattle.dft_stil_out.specs.Written.{vector_line, note_line, due, noted_lines}
use Rattle.dft_stil_out.specs.Written as form
use Rattle.dft_stil_out.proofs.WrittenTokens.{cut_up, token, ahead, run_text, cut_up-vector, cut_up-end, IsLine, AVector, cut_up-note, note_is_line}
use Rattle.dft_stil_out.proofs.WrittenGroups.{grouped}
use Rattle.dft_stil_out.proofs.WrittenVectors.{AllActs, Means, so_far, one_table, inputs_read, both_read}

-- ---- one vector

-- the acts of a vector, those of inputs before those of outputs
pub record Parted (ins outs : List StilSignal) (acts : List Act) : Type 0 where
  pub first : List Act
  pub others : List Act
  pub is : acts ≡ first ++ others
  pub inputs : AllActs Input first
  pub outputs : AllActs Output others
  pub count : length first ≡ length ins
  pub rest : length others ≡ length outs

line-inputs : (x : Act) (xs : List Act) (rest : Text) → vector_line (suc (length xs)) ((x ∷ xs) ++ []) ++ rest ≡ codes "V { " ++ (codes "ins = " ++ run_text x xs (codes " }\n" ++ rest))
unfolding vector_line
line-inputs x xs rest =
    ap (λ a. codes "V { " ++ ((form.assignment_text (codes "ins = ") a ++ (form.assignment_text (codes "; outs = ") (drop (suc (length xs)) ((x ∷ xs) ++ [])) ++ codes "; }\n")) ++ rest)) (take-append_seam (x ∷ xs) [])
    ∙ ap (λ b. codes "V { " ++ ((form.assignment_text (codes "ins = ") (x ∷ xs) ++ (form.assignment_text (codes "; outs = ") b ++ codes "; }\n")) ++ rest)) (drop-append_seam (x ∷ xs) [])
    ∙ ap (λ t. codes "V { ins = " ++ t) (append_assoc (map letter (x ∷ xs)) (codes "; }\n") rest)

line-both : (x : Act) (xs : List Act) (y : Act) (ys : List Act) (rest : Text)
    → vector_line (suc (length xs)) ((x ∷ xs) ++ (y ∷ ys)) ++ rest ≡ codes "V { " ++ (codes "ins = " ++ run_text x xs (codes " outs = " ++ run_text y ys (codes " }\n" ++ rest)))
unfolding vector_line
line-both x xs y ys rest =
    ap (λ a. codes "V { " ++ ((form.assignment_text (codes "ins = ") a ++ (form.assignment_text (codes "; outs = ") (drop (suc (length xs)) ((x ∷ xs) ++ (y ∷ ys))) ++ codes "; }\n")) ++ rest)) (take-append_seam (x ∷ xs) (y ∷ ys))
    ∙ ap (λ b. codes "V { " ++ ((form.assignment_text (codes "ins = ") (x ∷ xs) ++ (form.assignment_text (codes "; outs = ") b ++ codes "; }\n")) ++ rest)) (drop-append_seam (x ∷ xs) (y ∷ ys))
    ∙ ap (λ t. codes "V { ins = " ++ t) (append_assoc (map letter (x ∷ xs)) (codes "; outs = " ++ (map letter (y ∷ ys) ++ codes "; }\n")) rest
    ∙ ap (λ t. map letter (x ∷ xs) ++ (codes "; outs = " ++ t)) (append_assoc (map letter (y ∷ ys)) (codes "; }\n") rest))

line_by : (most : ℕ) (ins outs : List StilSignal) (waveforms : Waveforms) (xs ys olds others : List Act) (vectors : List (List Act)) (rest : Text) → Means (Some waveforms) Input 0 (length ins) → Means (Some waveforms) Output (length ins) (length outs)
    → 0 < length ins → AllActs Input xs → AllActs Output ys → length xs ≡ length ins → length ys ≡ length outs → length olds ≡ length ins → length others ≡ length outs → length vectors < most
    → vector most (grouped ins outs) (one_table waveforms) (so_far (olds ++ others) vectors) (cut_up false (vector_line (length xs) (xs ++ ys) ++ rest)) ≡ Ok (so_far (xs ++ ys) (vectors ++ (xs ++ ys) ∷ []), cut_up false rest)
line_by most [] outs waveforms xs ys olds others vectors rest mi mo some hi ho ci co ki ko room = absurd (omega arith)
line_by most (i ∷ ins) outs waveforms [] ys olds others vectors rest mi mo some hi ho ci co ki ko room = absurd (omega arith)
line_by most (i ∷ ins) [] waveforms (x ∷ xs) (y ∷ ys) olds others vectors rest mi mo some hi ho ci co ki ko room = absurd (omega arith)
line_by most (i ∷ ins) [] waveforms (x ∷ xs) [] olds (o ∷ others) vectors rest mi mo some hi ho ci co ki ko room = absurd (omega arith)
line_by most (i ∷ ins) [] waveforms (x ∷ xs) [] olds [] vectors rest mi mo some hi ho ci co ki ko room =
    ap (λ t. vector most (grouped (i ∷ ins) []) (one_table waveforms) (so_far (olds ++ []) vectors) (cut_up false t)) (line-inputs x xs rest)
    ∙ ap (λ (o : List Act). vector most (grouped (i ∷ ins) []) (one_table waveforms) (so_far o vectors) (cut_up false (codes "V { " ++ (codes "ins = " ++ run_text x xs (codes " }\n" ++ rest))))) (append-nil olds)
    ∙ inputs_read most i ins waveforms x xs olds vectors rest mi hi (omega arith) ki room
    ∙ ap (λ (a : List Act). Ok (so_far a (vectors ++ a ∷ []), cut_up false rest)) (sym (append-nil (x ∷ xs)))
line_by most (i ∷ ins) (o ∷ outs) waveforms (x ∷ xs) [] olds others vectors rest mi mo some hi ho ci co ki ko room = absurd (omega arith)
line_by most (i ∷ ins) (o ∷ outs) waveforms (x ∷ xs) (y ∷ ys) olds others vectors rest mi mo some hi ho ci co ki ko room =
    ap (λ t. vector most (grouped (i ∷ ins) (o ∷ outs)) (one_table waveforms) (so_far (olds ++ others) vectors) (cut_up false t)) (line-both x xs y ys rest)
    ∙ both_read most i ins o outs waveforms x xs y ys olds others vectors rest mi mo hi ho (omega arith) (omega arith) ki ko room

line_read : (most : ℕ) (ins outs : List StilSignal) (waveforms : Waveforms) (acts olds : List Act) (vectors : List (List Act)) (rest : Text) → Means (Some waveforms) Input 0 (length ins) → Means (Some waveforms) Output (length ins) (length outs)
    → 0 < length ins → Parted ins outs acts → length olds ≡ length ins + length outs → length vectors < most
    → vector most (grouped ins outs) (one_table waveforms) (so_far olds vectors) (cut_up false (vector_line (length ins) acts ++ rest)) ≡ Ok (so_far acts (vectors ++ acts ∷ []), cut_up false rest)
line_read most ins outs waveforms acts olds vectors rest mi mo some p old room =
    let n : ℕ = length ins in
    let N : Names = grouped ins outs in
    ap (λ k. vector most N (one_table waveforms) (so_far olds vectors) (cut_up false (vector_line k acts ++ rest))) (sym p.count)
    ∙ ap (λ (a : List Act). vector most N (one_table waveforms) (so_far olds vectors) (cut_up false (vector_line (length p.first) a ++ rest))) p.is
    ∙ ap (λ (o : List Act). vector most N (one_table waveforms) (so_far o vectors) (cut_up false (vector_line (length p.first) (p.first ++ p.others) ++ rest))) (sym (take-append-drop n olds))
    ∙ line_by most ins outs waveforms p.first p.others (take n olds) (drop n olds) vectors rest mi mo some p.inputs p.outputs p.count p.rest (omega (arith, length-take n olds)) (omega (arith, length-drop n olds)) room
    ∙ ap (λ (a : List Act). Ok (so_far a (vectors ++ a ∷ []), cut_up false rest)) (sym p.is)

-- ---- statements

statements_from-more : (k most : ℕ) (names : Names) (tables : WaveformTables) (p new : PatternBlock) (l : ℕ) (ts us : List Token) → vector most names tables p (token kind.Word (codes "V") l ∷ ts) ≡ Ok (new, us)
    → statements_from (suc k) most names tables p (token kind.Word (codes "V") l ∷ ts) ≡ statements_from k most names tables new us
unfolding statements_from statement sees_word sees kind_of bytes after
statements_from-more k most names tables p new l ts us e = rw e refl

statements_from-end : (k most : ℕ) (names : Names) (tables : WaveformTables) (p : PatternBlock) (word : Text) (l : ℕ) (ts : List Token) → statements_from (suc k) most names tables p (token kind.CloseBrace word l ∷ ts) ≡ Ok (p, ts)
unfolding statements_from sees kind_of after next
statements_from-end k most names tables p word l ts = refl

-- the tokens of a line begin with `V`
record Begun (acts : List Act) (count : ℕ) (rest : Text) : Type 0 where
  l : ℕ
  ts : List Token
  at : cut_up false (vector_line count acts ++ rest) ≡ token kind.Word (codes "V") l ∷ ts

begun_at : (acts : List Act) (count : ℕ) (rest : Text) → Begun acts count rest
unfolding vector_line
begun_at acts count rest =
    let behind : Text = (form.assignment_text (codes "ins = ") (take count acts) ++ (form.assignment_text (codes "; outs = ") (drop count acts) ++ codes "; }\n")) ++ rest in
    record { l = ahead 4 behind; ts = token kind.OpenBrace (codes "{") (ahead 2 behind) ∷ cut_up false behind; at = cut_up-vector behind }

vector_is_line : (acts : List Act) (count : ℕ) (rest : Text) → IsLine (vector_line count acts ++ rest)
unfolding vector_line
vector_is_line acts count rest = record { what = AVector; more = codes " { " ++ ((form.assignment_text (codes "ins = ") (take count acts) ++ (form.assignment_text (codes "; outs = ") (drop count acts) ++ codes "; }\n")) ++ rest); is = refl }

vector_some : (acts : List Act) (count : ℕ) → 0 < length (vector_line count acts)
unfolding vector_line
vector_some acts count = omega arith

-- ---- notes

notes_line : (notes : List Note) (rest : Text) → IsLine rest → IsLine (flat_map note_line notes ++ rest)
notes_line [] rest l = l
notes_line (n ∷ notes) rest l = subst IsLine (sym (append_assoc (note_line n) (flat_map note_line notes) rest)) (note_is_line n (flat_map note_line notes ++ rest))

notes_passed : (notes : List Note) (rest : Text) → IsLine rest → cut_up false (flat_map note_line notes ++ rest) ≡ cut_up false rest
notes_passed [] rest l = refl
notes_passed (n ∷ notes) rest l =
    ap (cut_up false) (append_assoc (note_line n) (flat_map note_line notes) rest) ∙ cut_up-note n (flat_map note_line notes ++ rest) (notes_line notes rest l) ∙ notes_passed notes rest l

-- ---- all lines

-- what ends the text
abbrev pub end_text : Text
end_text = codes "}\n"

lines-none : (count place : ℕ) (notes : List Note) → noted_lines count place [] notes ++ end_text ≡ end_text
unfolding noted_lines
lines-none count place notes = refl

lines-more : (count place : ℕ) (acts : List Act) (vectors : List (List Act)) (notes : List Note)
    → noted_lines count place (acts ∷ vectors) notes ++ end_text ≡ flat_map note_line (take (due place notes) notes) ++ (vector_line count acts ++ (noted_lines count (suc place) vectors (drop (due place notes) notes) ++ end_text))
unfolding noted_lines
lines-more count place acts vectors notes =
    append_assoc (flat_map note_line (take (due place notes) notes)) (vector_line count acts ++ noted_lines count (suc place) vectors (drop (due place notes) notes)) end_text
    ∙ ap (λ t. flat_map note_line (take (due place notes) notes) ++ t) (append_assoc (vector_line count acts) (noted_lines count (suc place) vectors (drop (due place notes) notes)) end_text)

pub lines_long : (count place : ℕ) (vectors : List (List Act)) (notes : List Note) → length vectors ≤ length (noted_lines count place vectors notes ++ end_text)
lines_long count place [] notes = omega arith
lines_long count place (acts ∷ vectors) notes =
    let later : Text = noted_lines count (suc place) vectors (drop (due place notes) notes) ++ end_text in
    let ih = lines_long count (suc place) vectors (drop (due place notes) notes) in
    let some = vector_some acts count in
    let whole = ap length (lines-more count place acts vectors notes) in
    omega (arith, length-append (flat_map note_line (take (due place notes) notes)) (vector_line count acts ++ later), length-append (vector_line count acts) later)

-- the acts of the last vector, or those before the first
pub last_acts : List Act → List (List Act) → List Act
last_acts acts [] = acts
last_acts acts (v ∷ vectors) = last_acts v vectors

-- each vector has acts for inputs and outputs
abbrev pub AllParted : (ins outs : List StilSignal) → List (List Act) → Type 0
AllParted ins outs [] = Unit {0}
AllParted ins outs (acts ∷ vectors) = Parted ins outs acts × AllParted ins outs vectors

parted-length : (ins outs : List StilSignal) (acts : List Act) → Parted ins outs acts → length acts ≡ length ins + length outs
parted-length ins outs acts p = omega (arith, ap length p.is, length-append p.first p.others, p.count, p.rest)

some_input : (acts : List Act) (vectors : List (List Act)) (n : ℕ) → ((acts ∷ vectors ≡ []) ⊎ (0 < n)) → 0 < n
some_input acts vectors n (inl e) = let h = ap length e in absurd (omega arith)
some_input acts vectors n (inr h) = h

pub lines_read : (k most : ℕ) (ins outs : List StilSignal) (waveforms : Waveforms) (place : ℕ) (vectors : List (List Act)) (notes : List Note) (olds : List Act) (done : List (List Act)) → Means (Some waveforms) Input 0 (length ins) → Means (Some waveforms) Output (length ins) (length outs)
    → ((vectors ≡ []) ⊎ (0 < length ins)) → AllParted ins outs vectors → length olds ≡ length ins + length outs → length done + length vectors ≤ most → length vectors ≤ k
    → statements_from (suc k) most (grouped ins outs) (one_table waveforms) (so_far olds done) (cut_up false (noted_lines (length ins) place vectors notes ++ end_text)) ≡ Ok (so_far (last_acts olds vectors) (done ++ vectors), [])
unfolding last_acts
lines_read k most ins outs waveforms place [] notes olds done mi mo some parted old room fuel =
    ap (λ t. statements_from (suc k) most (grouped ins outs) (one_table waveforms) (so_far olds done) (cut_up false t)) (lines-none (length ins) place notes)
    ∙ ap (statements_from (suc k) most (grouped ins outs) (one_table waveforms) (so_far olds done)) cut_up-end
    ∙ statements_from-end k most (grouped ins outs) (one_table waveforms) (so_far olds done) (codes "}") 2 [] ∙ ap (λ vs. Ok (so_far olds vs, [])) (sym (append-nil done))
lines_read zero most ins outs waveforms place (acts ∷ vectors) notes olds done mi mo some parted old room fuel = absurd (omega arith)
lines_read (suc k) most ins outs waveforms place (acts ∷ vectors) notes olds done mi mo some parted old room fuel =
    let N : Names = grouped ins outs in
    let n : ℕ = length ins in
    let later_notes : List Note = drop (due place notes) notes in
    let later : Text = noted_lines n (suc place) vectors later_notes ++ end_text in
    let line : Text = vector_line n acts ++ later in
    let b = begun_at acts n later in
    let there : 0 < length ins = some_input acts vectors (length ins) some in
    let step : vector most N (one_table waveforms) (so_far olds done) (token kind.Word (codes "V") b.l ∷ b.ts) ≡ Ok (so_far acts (done ++ acts ∷ []), cut_up false later) =
    ap (vector most N (one_table waveforms) (so_far olds done)) (sym b.at) ∙ line_read most ins outs waveforms acts olds done later mi mo there parted.0 old (omega arith) in
    ap (λ t. statements_from (suc (suc k)) most N (one_table waveforms) (so_far olds done) (cut_up false t)) (lines-more n place acts vectors notes)
    ∙ ap (statements_from (suc (suc k)) most N (one_table waveforms) (so_far olds done)) (notes_passed (take (due place notes) notes) line (vector_is_line acts n later) ∙ b.at)
    ∙ statements_from-more (suc k) most N (one_table waveforms) (so_far olds done) (so_far acts (done ++ acts ∷ [])) b.l b.ts (cut_up false later) step
    ∙ lines_read k most ins outs waveforms (suc place) vectors later_notes acts (done ++ acts ∷ []) mi mo (inr there) parted.1 (parted-length ins outs acts parted.0) (omega (arith, length-append done (acts ∷ []))) (omega arith)
    ∙ ap (λ vs. Ok (so_far (last_acts acts vectors) vs, [])) (append_assoc done (acts ∷ []) vectors)
