-- The table of the classes of bytes, and the kinds of marks.
use Rattle.std.proofs.Common.{◌≡◌, ℕ, zero, suc, ◌+◌, ◌-◌, ◌<◌, ◌≤◌, Bool, true, false, not, ◌&&◌, ◌||◌, cond, eqb, nat_le, nat_lt, List, [], ◌∷◌, length, get_or, refl, ap, ◌∙◌, sym, subst, arith}
use Rattle.std.specs.List.{list_any, AllByRecursion}
use Rattle.std.proofs.lemmas.Bool.Decides.{nat_tests}
use Rattle.std.proofs.lemmas.Bool.{and_parts, and_left}
use Rattle.dft_base.specs.Lexing.{Text}
use Rattle.dft_base.specs.Words.{begins_word, continues_word}
use Rattle.dft_netlist_text.specs.declared.text.TokenKind.{TokenKind}
use Rattle.dft_netlist_text.specs.declared.text.TokenKind.TheVariants as kind
use Rattle.dft_netlist_text.specs.Lexemes.{mark_kind, lexeme, plain, begins_with}
use Rattle.dft_verilog_tokens.specs.Classes.{marks, is_mark, is_plain, is_lone_paren}
use Rattle.dft_verilog_tokens.specs.Cut.{carries_name}

abbrev is_same : Bool → Bool → Bool
is_same true b = b
is_same false b = not b

same : (a b : Bool) → is_same a b ≡ true → a ≡ b
same true true e = refl
same true false e = absurd (cc)
same false true e = absurd (cc)
same false false e = refl

-- whether a test of the table's entries from this byte on says what is meant of each byte
abbrev agree_from : (ℕ → Bool) → (ℕ → Bool) → ℕ → List ℕ → Bool
agree_from shown meant from [] = true
agree_from shown meant from (x ∷ xs) = is_same (shown x) (meant from) && agree_from shown meant (suc from) xs

agrees_at : (shown meant : ℕ → Bool) (from : ℕ) (xs : List ℕ) (k : ℕ) → agree_from shown meant from xs ≡ true → k < length xs → shown (get_or xs k 0) ≡ meant (from + k)
agrees_at shown meant from [] k all lt = absurd (omega arith)
agrees_at shown meant from (x ∷ xs) zero all lt =
    let here : from ≡ from + 0 = omega arith in
    same (shown x) (meant from) ((and_parts (is_same (shown x) (meant from)) (agree_from shown meant (suc from) xs) all).0) ∙ ap meant here
agrees_at shown meant from (x ∷ xs) (suc k) all lt =
    let there : suc from + k ≡ from + suc k = omega arith in
    agrees_at shown meant (suc from) xs k ((and_parts (is_same (shown x) (meant from)) (agree_from shown meant (suc from) xs) all).1) (omega arith) ∙ ap meant there

-- the class of each byte
abbrev pub byte_classes : List ℕ
byte_classes = 0 ∷ 0 ∷ 0 ∷ 0 ∷ 0 ∷ 0 ∷ 0 ∷ 0 ∷ 0 ∷ 0 ∷ 0 ∷ 0 ∷ 0 ∷ 0 ∷ 0 ∷ 0 ∷ 0 ∷ 0 ∷ 0 ∷ 0 ∷ 0 ∷ 0 ∷ 0 ∷ 0 ∷ 0 ∷ 0 ∷ 0 ∷ 0 ∷ 0 ∷ 0 ∷ 0 ∷ 0 ∷ 0 ∷ 1 ∷ 1 ∷ 1 ∷ 12 ∷ 1 ∷ 1 ∷ 1 ∷ 0 ∷ 2 ∷ 1 ∷ 1 ∷ 3 ∷ 1 ∷ 5 ∷ 0 ∷ 12 ∷ 12 ∷ 12 ∷ 12 ∷ 12 ∷ 12 ∷ 12 ∷ 12 ∷ 12 ∷ 12 ∷ 9 ∷ 4 ∷ 1 ∷ 6 ∷ 1 ∷ 1 ∷ 1 ∷ 13 ∷ 13 ∷ 13 ∷ 13 ∷ 13 ∷ 13 ∷ 13 ∷ 13 ∷ 13 ∷ 13 ∷ 13 ∷ 13 ∷ 13 ∷ 13 ∷ 13 ∷ 13 ∷ 13 ∷ 13 ∷ 13 ∷ 13 ∷ 13 ∷ 13 ∷ 13 ∷ 13 ∷ 13 ∷ 13 ∷ 7 ∷ 1 ∷ 8 ∷ 1 ∷ 13 ∷ 0 ∷ 13 ∷ 13 ∷ 13 ∷ 13 ∷ 13 ∷ 13 ∷ 13 ∷ 13 ∷ 13 ∷ 13 ∷ 13 ∷ 13 ∷ 13 ∷ 13 ∷ 13 ∷ 13 ∷ 13 ∷ 13 ∷ 13 ∷ 13 ∷ 13 ∷ 13 ∷ 13 ∷ 13 ∷ 13 ∷ 13 ∷ 10 ∷ 1 ∷ 11 ∷ 1 ∷ 0 ∷ 0 ∷ 0 ∷ 0 ∷ 0 ∷ 0 ∷ 0 ∷ 0 ∷ 0 ∷ 0 ∷ 0 ∷ 0 ∷ 0 ∷ 0 ∷ 0 ∷ 0 ∷ 0 ∷ 0 ∷ 0 ∷ 0 ∷ 0 ∷ 0 ∷ 0 ∷ 0 ∷ 0 ∷ 0 ∷ 0 ∷ 0 ∷ 0 ∷ 0 ∷ 0 ∷ 0 ∷ 0 ∷ 0 ∷ 0 ∷ 0 ∷ 0 ∷ 0 ∷ 0 ∷ 0 ∷ 0 ∷ 0 ∷ 0 ∷ 0 ∷ 0 ∷ 0 ∷ 0 ∷ 0 ∷ 0 ∷ 0 ∷ 0 ∷ 0 ∷ 0 ∷ 0 ∷ 0 ∷ 0 ∷ 0 ∷ 0 ∷ 0 ∷ 0 ∷ 0 ∷ 0 ∷ 0 ∷ 0 ∷ 0 ∷ 0 ∷ 0 ∷ 0 ∷ 0 ∷ 0 ∷ 0 ∷ 0 ∷ 0 ∷ 0 ∷ 0 ∷ 0 ∷ 0 ∷ 0 ∷ 0 ∷ 0 ∷ 0 ∷ 0 ∷ 0 ∷ 0 ∷ 0 ∷ 0 ∷ 0 ∷ 0 ∷ 0 ∷ 0 ∷ 0 ∷ 0 ∷ 0 ∷ 0 ∷ 0 ∷ 0 ∷ 0 ∷ 0 ∷ 0 ∷ 0 ∷ 0 ∷ 0 ∷ 0 ∷ 0 ∷ 0 ∷ 0 ∷ 0 ∷ 0 ∷ 0 ∷ 0 ∷ 0 ∷ 0 ∷ 0 ∷ 0 ∷ 0 ∷ 0 ∷ 0 ∷ 0 ∷ 0 ∷ 0 ∷ 0 ∷ 0 ∷ 0 ∷ 0 ∷ 0 ∷ 0 ∷ 0 ∷ 0 ∷ 0 ∷ []

agrees : (shown meant : ℕ → Bool) (b : ℕ) → agree_from shown meant 0 byte_classes ≡ true → b < 256 → shown (get_or byte_classes b 0) ≡ meant b
agrees shown meant b all lt = let same_byte : 0 + b ≡ b = omega arith in agrees_at shown meant 0 byte_classes b all lt ∙ ap meant same_byte

pub classes-begins_word : (b : ℕ) → b < 256 → eqb (get_or byte_classes b 0) 13 ≡ begins_word b
classes-begins_word b lt = agrees (λ x. eqb x 13) begins_word b refl lt

pub classes-in_word : (b : ℕ) → b < 256 → nat_le 12 (get_or byte_classes b 0) ≡ continues_word b
classes-in_word b lt = agrees (nat_le 12) continues_word b refl lt

pub classes-mark : (b : ℕ) → b < 256 → (nat_le 2 (get_or byte_classes b 0) && nat_le (get_or byte_classes b 0) 11) ≡ is_mark b
classes-mark b lt = agrees (λ x. nat_le 2 x && nat_le x 11) is_mark b refl lt

first_holds : (t u m : Bool) → (t && u) ≡ m → t ≡ true → u ≡ m
first_holds true u m e h = e
first_holds false u m e h = absurd (cc)

first_fails : (t u m : Bool) → (t && u) ≡ m → t ≡ false → t ≡ m
first_fails true u m e h = absurd (cc)
first_fails false u m e h = e

pub mark-from : (x : ℕ) (m : Bool) → (nat_le 2 x && nat_le x 11) ≡ m → 2 ≤ x → nat_le x 11 ≡ m
mark-from x m e le = first_holds (nat_le 2 x) (nat_le x 11) m e (grind (arith, nat_tests))

pub mark-below : (x : ℕ) (m : Bool) → (nat_le 2 x && nat_le x 11) ≡ m → x < 2 → nat_le 2 x ≡ m
mark-below x m e lt = first_fails (nat_le 2 x) (nat_le x 11) m e (grind (arith, nat_tests))

pub classes-plain : (b : ℕ) → b < 256 → nat_lt 0 (get_or byte_classes b 0) ≡ is_plain b
classes-plain b lt = agrees (nat_lt 0) is_plain b refl lt

-- ---- marks

is_one : (P : ℕ → Type 0) (t : Bool) (b mark : ℕ) (rest : Bool) → eqb b mark ≡ t → P mark → (rest ≡ true → P b) → (t || rest) ≡ true → P b
is_one P true b mark rest e here more h = let is : mark ≡ b = grind (arith, nat_tests) in subst P is here
is_one P false b mark rest e here more h = more h

-- what holds of each of these holds of a byte that is one
one_of : (P : ℕ → Type 0) (b : ℕ) (all : List ℕ) → AllByRecursion P all → list_any (λ mark. eqb b mark) all ≡ true → P b
one_of P b [] each h = absurd (cc)
one_of P b (mark ∷ all) each h = is_one P (eqb b mark) b mark (list_any (λ m. eqb b m) all) refl each.0 (one_of P b all each.1) h

-- the kinds of the marks, by their class less 2
abbrev pub mark_kinds : List TokenKind
mark_kinds = kind.CloseParen ∷ kind.Comma ∷ kind.Semicolon ∷ kind.Point ∷ kind.Equals ∷ kind.OpenBracket ∷ kind.CloseBracket ∷ kind.Colon ∷ kind.OpenBrace ∷ kind.CloseBrace ∷ []

pub mark_kinds-at : (b : ℕ) (d : TokenKind) → is_mark b ≡ true → get_or mark_kinds (get_or byte_classes b 0 - 2) d ≡ mark_kind b
unfolding mark_kind
mark_kinds-at b d h = one_of (λ n. get_or mark_kinds (get_or byte_classes n 0 - 2) d ≡ mark_kind n) b marks (refl, (refl, (refl, (refl, (refl, (refl, (refl, (refl, (refl, (refl, tt)))))))))) h

-- no mark is the kind of a name
pub marks-carry_none : (b : ℕ) → is_mark b ≡ true → carries_name (mark_kind b) ≡ false
unfolding mark_kind
marks-carry_none b h = one_of (λ n. carries_name (mark_kind n) ≡ false) b marks (refl, (refl, (refl, (refl, (refl, (refl, (refl, (refl, (refl, (refl, tt)))))))))) h

mark_lexeme : (behind : Bool) (b : ℕ) (text : Text) → is_mark b ≡ true → lexeme behind (b ∷ text) ≡ plain (mark_kind b) 1
unfolding lexeme mark_kind
mark_lexeme true b text h = one_of (λ n. lexeme true (n ∷ text) ≡ plain (mark_kind n) 1) b marks (refl, (refl, (refl, (refl, (refl, (refl, (refl, (refl, (refl, (refl, tt)))))))))) h
mark_lexeme false b text h = one_of (λ n. lexeme false (n ∷ text) ≡ plain (mark_kind n) 1) b marks (refl, (refl, (refl, (refl, (refl, (refl, (refl, (refl, (refl, (refl, tt)))))))))) h

-- a mark in front is a token of its own
pub mark_in_front : (behind : Bool) (text : Text) (d : ℕ) → 0 < length text → is_mark (get_or text 0 d) ≡ true → plain (mark_kind (get_or text 0 d)) 1 ≡ lexeme behind text
mark_in_front behind [] d some h = absurd (omega arith)
mark_in_front behind (b ∷ text) d some h = sym (mark_lexeme behind b text h)

opens : (t : Bool) (len : ℕ) → t ≡ false → cond t (record { kind = kind.Unclosed; len = 1; prefix = 0; at = len }) (plain kind.OpenParen 1) ≡ plain kind.OpenParen 1
opens true len e = absurd (cc)
opens false len e = refl

paren_lexeme : (behind : Bool) (c : ℕ) (text : Text) → eqb 42 c ≡ false → lexeme behind (40 ∷ c ∷ text) ≡ plain kind.OpenParen 1
unfolding lexeme mark_kind
paren_lexeme true c text e = opens (eqb 42 c && begins_with [] text) _ (and_left (eqb 42 c) (begins_with [] text) e)
paren_lexeme false c text e = opens (eqb 42 c && begins_with [] text) _ (and_left (eqb 42 c) (begins_with [] text) e)

paren_at : (behind : Bool) (b c : ℕ) (text : Text) → is_lone_paren b c ≡ true → plain kind.OpenParen 1 ≡ lexeme behind (b ∷ c ∷ text)
paren_at behind b c text h =
    let parts = and_parts (eqb b 40) (not (eqb c 42)) h in
    let is : b ≡ 40 = grind (arith, nat_tests) in
    let other : eqb 42 c ≡ false = grind (arith, nat_tests) in
    sym (ap (λ n. lexeme behind (n ∷ c ∷ text)) is ∙ paren_lexeme behind c text other)

-- a bracket that opens no attribute is one
pub paren_in_front : (behind : Bool) (text : Text) (d e : ℕ) → 1 < length text → is_lone_paren (get_or text 0 d) (get_or text 1 e) ≡ true → plain kind.OpenParen 1 ≡ lexeme behind text
paren_in_front behind [] d e some h = absurd (omega arith)
paren_in_front behind (b ∷ []) d e some h = absurd (omega arith)
paren_in_front behind (b ∷ c ∷ text) d e some h = paren_at behind b c text h

pub ruleset marks_in_front = (mark_in_front, paren_in_front, marks-carry_none)
