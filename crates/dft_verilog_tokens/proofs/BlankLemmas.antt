-- A text that begins with a `#` or a grave accent, and with no blank.
use Rattle.std.proofs.Common.{◌≡◌, ℕ, suc, ◌<◌, ◌&&◌, ◌==◌, not, [], ◌∷◌, length, Bool, true, false, cond, get_or, refl, sym, ap, ◌∙◌, subst, arith}
use Rattle.std.proofs.lemmas.Bool.Decides.{nat_tests}
use Rattle.dft_base.specs.Lexing.{Text}
use Rattle.std.specs.Prelude.{codes, take, drop}
use Rattle.std.specs.List.{prefix_len}
use Rattle.std.proofs.lemmas.Bool.{and_left}
use Rattle.dft_netlist_text.specs.Lexemes.{is_space, begins_with, comment_rest, attribute_rest, closed_len, word_len, is_passed_over, blank_len, begins_blank, is_passed_directive, directive_len, to_blank}
use Rattle.dft_verilog_tokens.specs.Classes.{is_plain, is_lone_paren}

unpassed : (t : Bool) (len : ℕ) → 0 < len → cond t len 0 ≡ 0 → t ≡ false
unpassed true len some none = absurd (omega arith)
unpassed false len some none = refl

grave : (text : Text) → blank_len (96 ∷ text) ≡ 0 → begins_blank (96 ∷ text) ≡ false
unfolding blank_len begins_blank
grave text none = unpassed (is_passed_directive (96 ∷ text)) (directive_len (96 ∷ text)) (omega arith) none

hash : (text : Text) → begins_blank (35 ∷ text) ≡ false
unfolding begins_blank
hash text = refl

at_grave : (b : ℕ) (text : Text) → b ≡ 96 → blank_len (b ∷ text) ≡ 0 → begins_blank (b ∷ text) ≡ false
at_grave b text e = subst (λ (n : ℕ). blank_len (n ∷ text) ≡ 0 → begins_blank (n ∷ text) ≡ false) (sym e) (grave text)

-- no blank begins at a grave accent that opens none
pub grave_begins : (text : Text) (d : ℕ) → 0 < length text → get_or text 0 d ≡ 96 → blank_len text ≡ 0 → begins_blank text ≡ false
grave_begins [] d some e none = absurd (omega arith)
grave_begins (b ∷ text) d some e none = at_grave b text e none

-- no blank begins at a `#`
pub hash_begins : (text : Text) (d : ℕ) → 0 < length text → get_or text 0 d ≡ 35 → begins_blank text ≡ false
hash_begins [] d some e = absurd (omega arith)
hash_begins (b ∷ text) d some e = ap (λ n. begins_blank (n ∷ text)) e ∙ hash text

goes_on : (t : Bool) (len : ℕ) → t ≡ false → 0 < cond t 0 (suc len)
goes_on true len e = absurd (cc)
goes_on false len e = omega arith

-- a text that begins with no blank has a byte before the next one
pub to_blank_moves : (text : Text) → 0 < length text → begins_blank text ≡ false → 0 < to_blank text
unfolding to_blank
to_blank_moves [] some e = absurd (omega arith)
to_blank_moves (b ∷ text) some e = goes_on (begins_blank (b ∷ text)) _ e

in_none : (s a b c p : Bool) (x y z w : ℕ) → s ≡ false → a ≡ false → b ≡ false → c ≡ false → p ≡ false → 0 ≡ cond s 1 (cond a x (cond b y (cond c z (cond p w 0))))
in_none true a b c p x y z w e f g h i = absurd (cc)
in_none false true b c p x y z w e f g h i = absurd (cc)
in_none false false true c p x y z w e f g h i = absurd (cc)
in_none false false false true p x y z w e f g h i = absurd (cc)
in_none false false false false true x y z w e f g h i = absurd (cc)
in_none false false false false false x y z w e f g h i = refl

nor_second : (a b c : Bool) → b ≡ false → (a && (b && c)) ≡ false
nor_second true b c e = and_left b c e
nor_second false b c e = refl

plain_in : (b : ℕ) (text : Text) → is_plain b ≡ true → 0 ≡ blank_len (b ∷ text)
unfolding blank_len
plain_in b text e =
    let whole = b ∷ text in
    let space : is_space b ≡ false = grind (arith, nat_tests) in
    let slash : (47 == b) ≡ false = grind (arith, nat_tests) in
    let paren : (40 == b) ≡ false = grind (arith, nat_tests) in
    let accent : (b == 96) ≡ false = grind (arith, nat_tests) in
    let line : begins_with (codes "//") whole ≡ false = and_left (47 == b) (begins_with (codes "/") text) slash in
    let comment : begins_with (codes "/*") whole ≡ false = and_left (47 == b) (begins_with (codes "*") text) slash in
    let attribute : begins_with (codes "(*") whole ≡ false = and_left (40 == b) (begins_with (codes "*") text) paren in
    let directive : is_passed_directive whole ≡ false = and_left (b == 96) (is_passed_over (take (word_len text) text)) accent in
    in_none (is_space b) (begins_with (codes "//") whole) (begins_with (codes "/*") whole) (begins_with (codes "(*") whole) (is_passed_directive whole)
    (prefix_len (λ c. not (c == 10)) whole) (closed_len (comment_rest (drop 1 text))) (closed_len (attribute_rest false (drop 1 text))) (directive_len whole)
    space line comment attribute directive

paren_in : (b d : ℕ) (text : Text) → is_lone_paren b d ≡ true → 0 ≡ blank_len (b ∷ d ∷ text)
unfolding blank_len
paren_in b d text e =
    let whole = b ∷ d ∷ text in
    let space : is_space b ≡ false = grind (arith, nat_tests) in
    let star : (42 == d) ≡ false = grind (arith, nat_tests) in
    let slash : (47 == b) ≡ false = grind (arith, nat_tests) in
    let accent : (b == 96) ≡ false = grind (arith, nat_tests) in
    let line : begins_with (codes "//") whole ≡ false = and_left (47 == b) (begins_with (codes "/") (d ∷ text)) slash in
    let comment : begins_with (codes "/*") whole ≡ false = and_left (47 == b) (begins_with (codes "*") (d ∷ text)) slash in
    let attribute : begins_with (codes "(*") whole ≡ false = nor_second (40 == b) (42 == d) (begins_with [] text) star in
    let directive : is_passed_directive whole ≡ false = and_left (b == 96) (is_passed_over (take (word_len (d ∷ text)) (d ∷ text))) accent in
    in_none (is_space b) (begins_with (codes "//") whole) (begins_with (codes "/*") whole) (begins_with (codes "(*") whole) (is_passed_directive whole)
    (prefix_len (λ c. not (c == 10)) whole) (closed_len (comment_rest text)) (closed_len (attribute_rest false text)) (directive_len whole)
    space line comment attribute directive

-- no blank begins at a plain byte
pub plain_begins : (text : Text) (d : ℕ) → 0 < length text → is_plain (get_or text 0 d) ≡ true → 0 ≡ blank_len text
plain_begins [] d some e = absurd (omega arith)
plain_begins (b ∷ text) d some e = plain_in b text e

-- no blank begins at a bracket that opens no attribute
pub paren_begins : (text : Text) (d e : ℕ) → 1 < length text → is_lone_paren (get_or text 0 d) (get_or text 1 e) ≡ true → 0 ≡ blank_len text
paren_begins [] d e some h = absurd (omega arith)
paren_begins (b ∷ []) d e some h = absurd (omega arith)
paren_begins (b ∷ c ∷ text) d e some h = paren_in b c text h

one_if : (t : Bool) (n : ℕ) → t ≡ true → 1 ≡ cond t 1 n
one_if true n e = refl
one_if false n e = absurd (cc)

space_in : (b : ℕ) (text : Text) → is_space b ≡ true → 1 ≡ blank_len (b ∷ text)
unfolding blank_len
space_in b text e = one_if (is_space b) _ e

-- a space is a blank of one byte
pub space_begins : (text : Text) (d : ℕ) → 0 < length text → is_space (get_or text 0 d) ≡ true → 1 ≡ blank_len text
space_begins [] d some e = absurd (omega arith)
space_begins (b ∷ text) d some e = space_in b text e

pub ruleset no_blank_begins = (plain_begins, paren_begins, space_begins)

pub ruleset no_blank = (grave_begins, hash_begins)

pub ruleset before_blank = (to_blank_moves)
