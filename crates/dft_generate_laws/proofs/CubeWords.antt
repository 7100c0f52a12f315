-- The lines of generated cubes and their words.
use Rattle.std.proofs.Common.{◌≡◌, ℕ, ◌<◌, ◌≤◌, ◌^◌, Bool, true, false, cond, eqb, List, [], ◌∷◌, ◌++◌, get_or, decimal, refl, ap, ◌∙◌, arith}
use Rattle.std.specs.Prelude.{◌||◌, ◌&&◌, nat_le}
use Rattle.std.specs.List.{list_all}
use Rattle.std.proofs.lemmas.Bool.Decides.{nat_tests}
use Rattle.std.proofs.lemmas.Bool.{and_parts}
use Rattle.std.proofs.lemmas.List.Sums.{list_all-from_AllPass}
use Rattle.std.proofs.lemmas.List.Elements.{All-from_get_or}
use Rattle.std.proofs.lemmas.Fmt.{digits_decimal}
use Rattle.std.proofs.lemmas.Str.Parse.{numerals_by_value, tells_by_index}
use Rattle.dft_base.specs.Lexing.{Text}
use Rattle.dft_base.specs.Bytes.{is_printed}
use Rattle.dft_word_lines.specs.Lines.{lines_of, onto_first, words_from, words_of, is_gap, is_printed_word}

-- a digit or a letter: no blank, no line end, and no `#`
abbrev pub is_inside : ℕ → Bool
is_inside b = nat_le 48 b && nat_le b 122

inside : (b : ℕ) → 48 ≤ b → b ≤ 122 → is_inside b ≡ true
inside b low high = grind (arith, nat_tests)

no_gap : (b : ℕ) → is_inside b ≡ true → is_gap b ≡ false
no_gap b h = grind (arith, nat_tests)

no_end : (b : ℕ) → is_inside b ≡ true → eqb b 10 ≡ false
no_end b h = grind (arith, nat_tests)

no_comment : (b : ℕ) → is_inside b ≡ true → eqb b 35 ≡ false
no_comment b h = grind (arith, nat_tests)

is_print : (b : ℕ) → is_inside b ≡ true → is_printed b ≡ true
is_print b h = grind (arith, nat_tests)

-- a word of such bytes
pub digits_inside : (n : ℕ) → n < 2 ^ 64 → list_all is_inside (decimal n) ≡ true
digits_inside n small =
    list_all-from_AllPass is_inside (decimal n) (All-from_get_or (λ b. is_inside b ≡ true) (decimal n) 0 (λ i within. let d = digits_decimal (numerals_by_value _ tells_by_index) n small i within in inside (get_or (decimal n) i 0) (omega (arith, d.0)) (omega (arith, d.1))))

pub inside_append : (xs ys : Text) → list_all is_inside xs ≡ true → list_all is_inside ys ≡ true → list_all is_inside (xs ++ ys) ≡ true
inside_append [] ys a b = b
inside_append (x ∷ xs) ys a b = let p = and_parts (is_inside x) (list_all is_inside xs) a in rw (p.0) (inside_append xs ys p.1 b)

pub printed_word : (w : Text) → list_all is_inside w ≡ true → is_printed_word w ≡ true
printed_word [] h = refl
printed_word (x ∷ w) h = let p = and_parts (is_inside x) (list_all is_inside w) h in rw (is_print x p.0) (printed_word w p.1)

-- ---- words

-- the rest of a word up to a blank, and to the end of the line
word_rest : (w rest : Text) → list_all is_inside w ≡ true → words_from true (w ++ 32 ∷ rest) ≡ w ∷ words_from false rest
unfolding words_from
word_rest [] rest h = refl
word_rest (x ∷ w) rest h =
    let p = and_parts (is_inside x) (list_all is_inside w) h in
    ap (λ t. cond t ([] ∷ words_from false (w ++ 32 ∷ rest)) (onto_first x (words_from true (w ++ 32 ∷ rest)))) (no_gap x p.0) ∙ ap (onto_first x) (word_rest w rest p.1)

word_end : (w : Text) → list_all is_inside w ≡ true → words_from true w ≡ w ∷ []
unfolding words_from
word_end [] h = refl
word_end (x ∷ w) h =
    let p = and_parts (is_inside x) (list_all is_inside w) h in
    ap (λ t. cond t ([] ∷ words_from false w) (onto_first x (words_from true w))) (no_gap x p.0) ∙ ap (onto_first x) (word_end w p.1)

begins : (x : ℕ) (text : Text) → is_inside x ≡ true → words_from false (x ∷ text) ≡ onto_first x (words_from true text)
unfolding words_from
begins x text h =
    ap (λ t. cond t (words_from false text) (cond (eqb x 35) [] (onto_first x (words_from true text)))) (no_gap x h) ∙ ap (λ t. cond t [] (onto_first x (words_from true text))) (no_comment x h)

pub word_front : (x : ℕ) (w rest : Text) → list_all is_inside (x ∷ w) ≡ true → words_from false ((x ∷ w) ++ 32 ∷ rest) ≡ (x ∷ w) ∷ words_from false rest
word_front x w rest h = let p = and_parts (is_inside x) (list_all is_inside w) h in begins x (w ++ 32 ∷ rest) p.0 ∙ ap (onto_first x) (word_rest w rest p.1)

pub word_last : (x : ℕ) (w : Text) → list_all is_inside (x ∷ w) ≡ true → words_from false (x ∷ w) ≡ (x ∷ w) ∷ []
word_last x w h = let p = and_parts (is_inside x) (list_all is_inside w) h in begins x w p.0 ∙ ap (onto_first x) (word_end w p.1)

-- three words in a line
pub three_words : (a b c : ℕ) (x y z : Text) → list_all is_inside (a ∷ x) ≡ true → list_all is_inside (b ∷ y) ≡ true → list_all is_inside (c ∷ z) ≡ true
    → words_of ((a ∷ x) ++ 32 ∷ ((b ∷ y) ++ 32 ∷ (c ∷ z))) ≡ (a ∷ x) ∷ (b ∷ y) ∷ (c ∷ z) ∷ []
three_words a b c x y z p q r =
    word_front a x ((b ∷ y) ++ 32 ∷ (c ∷ z)) p ∙ ap (λ (ws : List Text). (a ∷ x) ∷ ws) (word_front b y (c ∷ z) q ∙ ap (λ (ws : List Text). (b ∷ y) ∷ ws) (word_last c z r))

-- ---- lines

-- bytes of a line: of words, or a blank
abbrev pub is_of_line : ℕ → Bool
is_of_line b = is_inside b || eqb b 32

stays : (b : ℕ) → is_of_line b ≡ true → eqb b 10 ≡ false
stays b h = grind (arith, nat_tests)

pub line_first : (line rest : Text) → list_all is_of_line line ≡ true → lines_of (line ++ 10 ∷ rest) ≡ line ∷ lines_of rest
unfolding lines_of
line_first [] rest h = refl
line_first (x ∷ line) rest h =
    let p = and_parts (is_of_line x) (list_all is_of_line line) h in
    ap (λ t. cond t ([] ∷ lines_of (line ++ 10 ∷ rest)) (onto_first x (lines_of (line ++ 10 ∷ rest)))) (stays x p.0) ∙ ap (onto_first x) (line_first line rest p.1)

of_line : (t : Bool) (b : ℕ) → is_inside b ≡ t → t ≡ true → is_of_line b ≡ true
of_line true b is h = rw is refl
of_line false b is h = absurd (let f : ⊥ = cc in f)

pub line_of_word : (w : Text) → list_all is_inside w ≡ true → list_all is_of_line w ≡ true
line_of_word [] h = refl
line_of_word (x ∷ w) h = let p = and_parts (is_inside x) (list_all is_inside w) h in rw (of_line (is_inside x) x refl p.0) (line_of_word w p.1)

pub line_append : (xs ys : Text) → list_all is_of_line xs ≡ true → list_all is_of_line ys ≡ true → list_all is_of_line (xs ++ ys) ≡ true
line_append [] ys a b = b
line_append (x ∷ xs) ys a b = let p = and_parts (is_of_line x) (list_all is_of_line xs) a in rw (p.0) (line_append xs ys p.1 b)

pub three_line : (x y z : Text) → list_all is_inside x ≡ true → list_all is_inside y ≡ true → list_all is_inside z ≡ true → list_all is_of_line (x ++ 32 ∷ (y ++ 32 ∷ z)) ≡ true
three_line x y z a b c = line_append x (32 ∷ (y ++ 32 ∷ z)) (line_of_word x a) (line_append y (32 ∷ z) (line_of_word y b) (line_of_word z c))

-- behind the last line end stands an empty line
pub no_line : lines_of [] ≡ [] ∷ []
unfolding lines_of
no_line = refl
