-- Lines of words between blanks, cut as they were written.
use Rattle.std.proofs.Common.{ℕ, suc, ◌-◌, ◌<◌, ◌≡◌, ◌==◌, Bool, true, false, cond, List, [], ◌∷◌, ◌++◌, length, take, get_or, Option, Some, Ok, Result, refl, sym, ap, ap₂, arith, ◌∙◌}
use Rattle.std.specs.Prelude.{nat_le}
use Rattle.std.specs.List.{list_all, onto_first, slice_split, AllByRecursion}
use Rattle.std.proofs.lemmas.Bool.Decides.{nat_tests}
use Rattle.std.proofs.lemmas.List.{append-nil, append_assoc}
use Rattle.std.proofs.lemmas.Bool.{and_parts}
use Rattle.dft_base.specs.Lexing.{Text}
use Rattle.dft_report.specs.declared.report.Report.{Report}
use Rattle.dft_report_reader.specs.declared.error.ReadError.{ReadError}
use Rattle.dft_report_reader.specs.Words.{lines_of, words_of}
use Rattle.dft_report_reader.specs.Saying.{said_of}
use Rattle.dft_report_reader.specs.Reading.{Reading, nothing_read, read_lines, report_by, report_of, then_ended, then_lines, with_said}
use Rattle.dft_report_reader.proofs.NumberLemmas.{IsFine}

-- words with a blank before each, and what stands behind them
abbrev pub behind : List Text → (rest : Text) → Text
behind [] rest = rest
behind (word ∷ words) rest = 32 ∷ (word ++ behind words rest)

pub behind_append : (words : List Text) (rest more : Text) → behind words rest ++ more ≡ behind words (rest ++ more)
behind_append [] rest more = refl
behind_append (word ∷ words) rest more = ap (λ (text : Text). 32 ∷ text) (append_assoc word (behind words rest) more ∙ ap (λ (text : Text). word ++ text) (behind_append words rest more))

-- ---- cutting

not_this : (c b : ℕ) → c < 33 → nat_le 33 b ≡ true → (b == c) ≡ false
not_this c b less h = grind (arith, nat_tests)

-- a text without the byte goes to the first part
front_split : (c : ℕ) (word text first : Text) (more : List Text) → c < 33 → IsFine word → slice_split (λ b. b == c) text ≡ first ∷ more → slice_split (λ b. b == c) (word ++ text) ≡ (word ++ first) ∷ more
front_split c [] text first more less fine e = e
front_split c (b ∷ word) text first more less fine e =
    let r = and_parts (nat_le 33 b) (list_all (λ k. nat_le 33 k) word) fine in
    ap (λ (t : Bool). cond t ([] ∷ slice_split (λ k. k == c) (word ++ text)) (onto_first b (slice_split (λ k. k == c) (word ++ text)))) (not_this c b less r.0)
    ∙ ap (λ (parts : List Text). onto_first b parts) (front_split c word text first more less r.1 e)

words_behind : (words : List Text) → AllByRecursion IsFine words → slice_split (λ b. b == 32) (behind words []) ≡ [] ∷ words
words_behind [] fine = refl
words_behind (word ∷ words) fine =
    ap (λ (parts : List Text). [] ∷ parts) (front_split 32 word (behind words []) [] words (omega arith) fine.0 (words_behind words fine.1) ∙ ap (λ (first : Text). first ∷ words) (append-nil word))

-- the words of a line
line_words : (word : Text) (words : List Text) → IsFine word → AllByRecursion IsFine words → words_of (word ++ behind words []) ≡ word ∷ words
line_words word words fine each = front_split 32 word (behind words []) [] words (omega arith) fine (words_behind words each) ∙ ap (λ (first : Text). first ∷ words) (append-nil word)

lines_behind : (words : List Text) (rest : Text) → AllByRecursion IsFine words → lines_of (behind words (10 ∷ rest)) ≡ behind words [] ∷ lines_of rest
lines_behind [] rest fine = refl
lines_behind (word ∷ words) rest fine =
    ap (λ (parts : List Text). onto_first 32 parts) (front_split 10 word (behind words (10 ∷ rest)) (behind words []) (lines_of rest) (omega arith) fine.0 (lines_behind words rest fine.1))

first_line : (word : Text) (words : List Text) (rest : Text) → IsFine word → AllByRecursion IsFine words → lines_of (word ++ behind words (10 ∷ rest)) ≡ (word ++ behind words []) ∷ lines_of rest
first_line word words rest fine each = front_split 10 word (behind words (10 ∷ rest)) (behind words []) (lines_of rest) (omega arith) fine (lines_behind words rest each)

onto_some : (b : ℕ) (parts : List Text) → (first : Text) × (more : List Text) × (parts ≡ first ∷ more) → (first : Text) × (more : List Text) × (onto_first b parts ≡ first ∷ more)
onto_some b parts h = (b ∷ h.0, h.1, ap (λ (ps : List Text). onto_first b ps) h.2)

split_by : (t : Bool) (b : ℕ) (parts : List Text) → (first : Text) × (more : List Text) × (parts ≡ first ∷ more) → (first : Text) × (more : List Text) × (cond t ([] ∷ parts) (onto_first b parts) ≡ first ∷ more)
split_by true b parts h = ([], parts, refl)
split_by false b parts h = onto_some b parts h

-- a text has a line
pub lines_some : (text : Text) → (first : Text) × (more : List Text) × (lines_of text ≡ first ∷ more)
lines_some [] = ([], [], refl)
lines_some (b ∷ text) = split_by (b == 10) b (lines_of text) (lines_some text)

-- ---- reading line by line

unfoldable pub front : List Text → List Text
front [] = []
front (line ∷ []) = []
front (line ∷ next ∷ lines) = line ∷ front (next ∷ lines)

unfoldable pub last : List Text → Text
last [] = []
last (line ∷ []) = line
last (line ∷ next ∷ lines) = last (next ∷ lines)

-- what comes of a text from some reading on, behind so many lines; the number is that of the last line
unfoldable pub read_on : (number : ℕ) → Reading → (k : ℕ) → List Text → Result Report ReadError
read_on number r k lines = then_ended number (last lines) (read_lines r k (front lines))

next_line : (number k : ℕ) (r s : Reading) (line next : Text) (lines : List Text) → with_said r (said_of (words_of line)) ≡ Some s → read_on number r k (line ∷ next ∷ lines) ≡ read_on number s (suc k) (next ∷ lines)
unfolding read_on front last
next_line number k r s line next lines e = ap (λ (o : Option Reading). then_ended number (last (next ∷ lines)) (then_lines (suc k) o (λ t. read_lines t (suc k) (front (next ∷ lines))))) e

-- A text brings one reading to another: what comes of the rest from there on comes of the whole.
pub Brings : Reading → Text → Reading → Type 0
Brings r text s = (number k : ℕ) (rest : Text) (result : Result Report ReadError) → ((j : ℕ) → read_on number s j (lines_of rest) ≡ result) → read_on number r k (lines_of (text ++ rest)) ≡ result

pub brings_none : (r : Reading) → Brings r [] r
unfolding Brings
brings_none r number k rest result h = h k

pub brings_both : (r s t : Reading) (a b : Text) → Brings r a s → Brings s b t → Brings r (a ++ b) t
unfolding Brings
brings_both r s t a b f g number k rest result h = ap (λ (text : Text). read_on number r k (lines_of text)) (append_assoc a b rest) ∙ f number k (b ++ rest) result (λ j. g number j rest result h)

-- a line does, by what it says
pub brings_line : (r s : Reading) (word : Text) (words : List Text) → IsFine word → AllByRecursion IsFine words → with_said r (said_of (word ∷ words)) ≡ Some s → Brings r (word ++ behind words (10 ∷ [])) s
unfolding Brings
brings_line r s word words fine each said number k rest result h =
    let line : Text = word ++ behind words [] in
    let some = lines_some rest in
    let text : (word ++ behind words (10 ∷ [])) ++ rest ≡ word ++ behind words (10 ∷ rest) = append_assoc word (behind words (10 ∷ [])) rest ∙ ap (λ (t : Text). word ++ t) (behind_append words (10 ∷ []) rest) in
    let cut : lines_of ((word ++ behind words (10 ∷ [])) ++ rest) ≡ line ∷ some.0 ∷ some.1 = ap (λ (t : Text). lines_of t) text ∙ first_line word words rest fine each ∙ ap (λ (ls : List Text). line ∷ ls) some.2 in
    let heard : with_said r (said_of (words_of line)) ≡ Some s = ap (λ (ws : List Text). with_said r (said_of ws)) (line_words word words fine each) ∙ said in
    ap (read_on number r k) cut ∙ next_line number k r s line some.0 some.1 heard ∙ ap (read_on number s (suc k)) (sym some.2) ∙ h (suc k)

-- ---- the whole

front_taken : (line : Text) (lines : List Text) → take (length lines) (line ∷ lines) ≡ front (line ∷ lines)
unfolding front
front_taken line [] = refl
front_taken line (next ∷ lines) = ap (λ (ls : List Text). line ∷ ls) (front_taken next lines)

last_got : (line : Text) (lines : List Text) → get_or (line ∷ lines) (length lines) [] ≡ last (line ∷ lines)
unfolding last
last_got line [] = refl
last_got line (next ∷ lines) = last_got next lines

pub by_lines : (line : Text) (lines : List Text) → report_by (line ∷ lines) ≡ read_on (suc (length lines)) nothing_read 0 (line ∷ lines)
unfolding read_on
by_lines line lines =
    let count : length (line ∷ lines) - 1 ≡ length lines = omega arith in
    ap (λ (n : ℕ). then_ended (suc n) (get_or (line ∷ lines) n []) (read_lines nothing_read 0 (take n (line ∷ lines)))) count
    ∙ ap₂ (λ (l : Text) (ls : List Text). then_ended (suc (length lines)) l (read_lines nothing_read 0 ls)) (last_got line lines) (front_taken line lines)

-- a text that brings the empty reading to one at which a report may end
pub whole_read : (text : Text) (s : Reading) (result : Result Report ReadError) → Brings nothing_read text s → ((number : ℕ) → then_ended number [] (Ok s) ≡ result) → report_of text ≡ result
unfolding Brings read_on front last
whole_read text s result f ends =
    let some = lines_some text in
    let whole : text ++ [] ≡ text = append-nil text in
    ap report_by some.2 ∙ by_lines some.0 some.1 ∙ ap (read_on (suc (length some.1)) nothing_read 0) (sym some.2 ∙ ap (λ (t : Text). lines_of t) (sym whole)) ∙ f (suc (length some.1)) 0 [] result (λ j. ends (suc (length some.1)))
