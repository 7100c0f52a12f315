-- The lines of written cubes and their words.
use Rattle.std.proofs.Common.{◌≡◌, ℕ, suc, ◌≤◌, Bool, true, false, cond, eqb, List, [], ◌∷◌, ◌++◌, refl, ap, ◌∙◌, arith}
use Rattle.std.specs.Prelude.{◌||◌}
use Rattle.std.specs.List.{All, list_all}
use Rattle.std.proofs.lemmas.Bool.Decides.{nat_tests}
use Rattle.std.proofs.lemmas.Bool.{and_parts}
use Rattle.dft_base.proofs.TextLemmas.{printed_byte}
use Rattle.dft_base.specs.Lexing.{Text}
use Rattle.dft_base.specs.Bytes.{is_printed}
use Rattle.dft_word_lines.specs.Lines.{lines_of, onto_first, words_from, words_of, is_printed_word}
use Rattle.dft_word_lines.specs.Lines.{is_gap}
use Rattle.dft_cubes_out.specs.Laws.{IsWord}

-- ---- bytes

no_gap : (b : ℕ) → is_printed b ≡ true → is_gap b ≡ false
no_gap b h = grind (arith, nat_tests)

stays : (b : ℕ) → is_printed b ≡ true → eqb b 10 ≡ false
stays b h = grind (arith, nat_tests)

-- bytes of a line: of words, or a blank
abbrev pub is_of_line : ℕ → Bool
is_of_line b = is_printed b || eqb b 32

line_stays : (b : ℕ) → is_of_line b ≡ true → eqb b 10 ≡ false
line_stays b h = grind (arith, nat_tests)

of_line : (t : Bool) (b : ℕ) → is_printed b ≡ t → t ≡ true → is_of_line b ≡ true
of_line true b is h = rw is refl
of_line false b is h = absurd (let f : ⊥ = cc in f)

-- ---- a word

-- all its bytes are printed_byte, and the first one, which it has, is no `#`
abbrev pub Stands : Text → Type 0
Stands [] = ⊥
Stands (x ∷ w) = (eqb x 35 ≡ false) × (list_all is_printed (x ∷ w) ≡ true)

all_printed : (w : Text) → All (λ b. (33 ≤ b) × (b ≤ 126)) w → list_all is_printed w ≡ true
all_printed [] each = refl
all_printed (x ∷ w) each =
    let first = each 0 0 (omega arith) in
    rw (printed_byte x first.0 first.1) (all_printed w (λ k d lt. each (suc k) d (omega (arith, lt))))

no_mark : (t : Bool) (x : ℕ) → eqb x 35 ≡ t → (x ≡ 35 → ⊥) → t ≡ false
no_mark true x is other = absurd (other (let e : x ≡ 35 = grind (arith, nat_tests) in e))
no_mark false x is other = refl

pub stands : (w : Text) → IsWord w → Stands w
stands [] is = let some = is.name.some in absurd (omega arith)
stands (x ∷ w) is = (no_mark (eqb x 35) x refl is.plain, all_printed (x ∷ w) is.name.each)

pub printed_word : (w : Text) → Stands w → is_printed_word w ≡ true
printed_word [] h = absurd h
printed_word (x ∷ w) h = h.1

-- the rest of a word up to a blank, and to the end of the line
word_rest : (w rest : Text) → list_all is_printed w ≡ true → words_from true (w ++ 32 ∷ rest) ≡ w ∷ words_from false rest
unfolding words_from
word_rest [] rest h = refl
word_rest (x ∷ w) rest h =
    let p = and_parts (is_printed x) (list_all is_printed w) h in
    ap (λ t. cond t ([] ∷ words_from false (w ++ 32 ∷ rest)) (onto_first x (words_from true (w ++ 32 ∷ rest)))) (no_gap x p.0) ∙ ap (onto_first x) (word_rest w rest p.1)

word_end : (w : Text) → list_all is_printed w ≡ true → words_from true w ≡ w ∷ []
unfolding words_from
word_end [] h = refl
word_end (x ∷ w) h =
    let p = and_parts (is_printed x) (list_all is_printed w) h in
    ap (λ t. cond t ([] ∷ words_from false w) (onto_first x (words_from true w))) (no_gap x p.0) ∙ ap (onto_first x) (word_end w p.1)

begins : (x : ℕ) (text : Text) → is_printed x ≡ true → eqb x 35 ≡ false → words_from false (x ∷ text) ≡ onto_first x (words_from true text)
unfolding words_from
begins x text h plain =
    ap (λ t. cond t (words_from false text) (cond (eqb x 35) [] (onto_first x (words_from true text)))) (no_gap x h) ∙ ap (λ t. cond t [] (onto_first x (words_from true text))) plain

pub word_front : (w rest : Text) → Stands w → words_from false (w ++ 32 ∷ rest) ≡ w ∷ words_from false rest
word_front [] rest h = absurd h
word_front (x ∷ w) rest h = let p = and_parts (is_printed x) (list_all is_printed w) h.1 in begins x (w ++ 32 ∷ rest) p.0 h.0 ∙ ap (onto_first x) (word_rest w rest p.1)

pub word_last : (w : Text) → Stands w → words_from false w ≡ w ∷ []
word_last [] h = absurd h
word_last (x ∷ w) h = let p = and_parts (is_printed x) (list_all is_printed w) h.1 in begins x w p.0 h.0 ∙ ap (onto_first x) (word_end w p.1)

-- three words in a line
pub three_words : (a b c : Text) → Stands a → Stands b → Stands c → words_of (a ++ 32 ∷ (b ++ 32 ∷ c)) ≡ a ∷ b ∷ c ∷ []
three_words a b c p q r = word_front a (b ++ 32 ∷ c) p ∙ ap (λ (ws : List Text). a ∷ ws) (word_front b c q ∙ ap (λ (ws : List Text). b ∷ ws) (word_last c r))

-- ---- lines

pub line_first : (line rest : Text) → list_all is_of_line line ≡ true → lines_of (line ++ 10 ∷ rest) ≡ line ∷ lines_of rest
unfolding lines_of
line_first [] rest h = refl
line_first (x ∷ line) rest h =
    let p = and_parts (is_of_line x) (list_all is_of_line line) h in
    ap (λ t. cond t ([] ∷ lines_of (line ++ 10 ∷ rest)) (onto_first x (lines_of (line ++ 10 ∷ rest)))) (line_stays x p.0) ∙ ap (onto_first x) (line_first line rest p.1)

line_of_bytes : (w : Text) → list_all is_printed w ≡ true → list_all is_of_line w ≡ true
line_of_bytes [] h = refl
line_of_bytes (x ∷ w) h = let p = and_parts (is_printed x) (list_all is_printed w) h in rw (of_line (is_printed x) x refl p.0) (line_of_bytes w p.1)

line_of_word : (w : Text) → Stands w → list_all is_of_line w ≡ true
line_of_word [] h = absurd h
line_of_word (x ∷ w) h = line_of_bytes (x ∷ w) h.1

line_append : (xs ys : Text) → list_all is_of_line xs ≡ true → list_all is_of_line ys ≡ true → list_all is_of_line (xs ++ ys) ≡ true
line_append [] ys a b = b
line_append (x ∷ xs) ys a b = let p = and_parts (is_of_line x) (list_all is_of_line xs) a in rw (p.0) (line_append xs ys p.1 b)

pub three_line : (x y z : Text) → Stands x → Stands y → Stands z → list_all is_of_line (x ++ 32 ∷ (y ++ 32 ∷ z)) ≡ true
three_line x y z a b c = line_append x (32 ∷ (y ++ 32 ∷ z)) (line_of_word x a) (line_append y (32 ∷ z) (line_of_word y b) (line_of_word z c))
