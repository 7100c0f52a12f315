-- The written pieces are cut into their tokens.
use Rattle.std.proofs.Common.{◌≡◌, ℕ, suc, ◌+◌, ◌-◌, ◌<◌, ◌≤◌, Bool, true, false, not, cond, eqb, ltb, List, [], ◌∷◌, ◌++◌, length, take, drop, codes, decimal, refl, ap, ◌∙◌, arith, get_or, length-append, append_assoc, leb, Some, None}
use Rattle.std.specs.Prelude.{◌&&◌, ◌||◌}
use Rattle.std.specs.List.{prefix_len, list_all}
use Rattle.std.specs.Char.{is_ascii_digit}
use Rattle.std.proofs.lemmas.Bool.Decides.{nat_tests}
use Rattle.std.proofs.lemmas.List.Sums.{list_all-from_AllPass}
use Rattle.std.proofs.Math.Seq.{take-append_seam, drop-append_seam}
use Rattle.std.specs.Str.Parse.{digits_value}
use Rattle.std.proofs.lemmas.Fmt.{decimal_is_IsNumeral, length-decimal-le, decimal_nonempty, digits_decimal}
use Rattle.std.proofs.lemmas.Str.Parse.{numerals_by_value, tells_by_index}
use Rattle.std.proofs.lemmas.List.Elements.{All-from_get_or}
use Rattle.std.proofs.lemmas.Bool.{and_parts}
use Rattle.dft_netlist_text.specs.Expressions.{small_number}
use Rattle.dft_base.specs.Lexing.{Text, Blank, Cut, tokens_from}
use Rattle.dft_base.specs.Name.{IsName}
use Rattle.dft_base.specs.Words.{begins_word, continues_word, is_reserved, is_word, is_later_reserved, needs_escape}
use Rattle.dft_base.proofs.LexingLemmas.{tokens_from-cut}
use Rattle.dft_base.proofs.NumberLemmas.{minus_zero}
use Rattle.dft_base.proofs.TextLemmas.{prefix_len-run, begins_goes_on, printed_byte}
use Rattle.dft_netlist_text.specs.declared.text.TokenKind.{TokenKind}
use Rattle.dft_netlist_text.specs.declared.text.TokenKind.TheVariants as kind
use Rattle.dft_netlist_text.specs.Lexemes.{Token, Lexeme, tokens, front, lexeme, token_of, blank_len, is_base_kind, word_kind, mark_kind, escaped, quote, is_space, is_printed, word_len}
use Rattle.dft_netlist_text.proofs.WordKinds.{word_kind-free}
use Rattle.dft_verilog_out.specs.Written.{name_text}

-- the tokens of a text, as a word that does not compute
pub cut_up : Text → List Token
cut_up text = tokens text

pub cut_up-is : (text : Text) → cut_up text ≡ tokens text
unfolding cut_up
cut_up-is text = refl

abbrev pub token : TokenKind → Text → ℕ → Token
token k bytes left = record { kind = k; bytes = bytes; left = left }

-- ---- blanks, keywords and marks

pub cut_up-space : (rest : Text) → cut_up (32 ∷ rest) ≡ cut_up rest
unfolding cut_up blank_len
cut_up-space rest = refl

pub cut_up-line : (rest : Text) → cut_up (10 ∷ rest) ≡ cut_up rest
unfolding cut_up blank_len
cut_up-line rest = refl

pub cut_up-module : (rest : Text) → cut_up (codes "module " ++ rest) ≡ token kind.Module (codes "module") (length (codes "module " ++ rest)) ∷ cut_up rest
unfolding cut_up blank_len lexeme word_kind
cut_up-module rest = simp minus_zero

pub cut_up-input : (rest : Text) → cut_up (codes "input " ++ rest) ≡ token kind.Input (codes "input") (length (codes "input " ++ rest)) ∷ cut_up rest
unfolding cut_up blank_len lexeme word_kind
cut_up-input rest = simp minus_zero

pub cut_up-output : (rest : Text) → cut_up (codes "output " ++ rest) ≡ token kind.Output (codes "output") (length (codes "output " ++ rest)) ∷ cut_up rest
unfolding cut_up blank_len lexeme word_kind
cut_up-output rest = simp minus_zero

pub cut_up-wire : (rest : Text) → cut_up (codes "wire " ++ rest) ≡ token kind.Wire (codes "wire") (length (codes "wire " ++ rest)) ∷ cut_up rest
unfolding cut_up blank_len lexeme word_kind
cut_up-wire rest = simp minus_zero

pub cut_up-assign : (rest : Text) → cut_up (codes "assign " ++ rest) ≡ token kind.Assign (codes "assign") (length (codes "assign " ++ rest)) ∷ cut_up rest
unfolding cut_up blank_len lexeme word_kind
cut_up-assign rest = simp minus_zero

pub cut_up-buf : (rest : Text) → cut_up (codes "buf " ++ rest) ≡ token kind.Buf (codes "buf") (length (codes "buf " ++ rest)) ∷ cut_up rest
unfolding cut_up blank_len lexeme word_kind
cut_up-buf rest = simp minus_zero

pub cut_up-not : (rest : Text) → cut_up (codes "not " ++ rest) ≡ token kind.Not (codes "not") (length (codes "not " ++ rest)) ∷ cut_up rest
unfolding cut_up blank_len lexeme word_kind
cut_up-not rest = simp minus_zero

pub cut_up-and : (rest : Text) → cut_up (codes "and " ++ rest) ≡ token kind.And (codes "and") (length (codes "and " ++ rest)) ∷ cut_up rest
unfolding cut_up blank_len lexeme word_kind
cut_up-and rest = simp minus_zero

pub cut_up-nand : (rest : Text) → cut_up (codes "nand " ++ rest) ≡ token kind.Nand (codes "nand") (length (codes "nand " ++ rest)) ∷ cut_up rest
unfolding cut_up blank_len lexeme word_kind
cut_up-nand rest = simp minus_zero

pub cut_up-or : (rest : Text) → cut_up (codes "or " ++ rest) ≡ token kind.Or (codes "or") (length (codes "or " ++ rest)) ∷ cut_up rest
unfolding cut_up blank_len lexeme word_kind
cut_up-or rest = simp minus_zero

pub cut_up-nor : (rest : Text) → cut_up (codes "nor " ++ rest) ≡ token kind.Nor (codes "nor") (length (codes "nor " ++ rest)) ∷ cut_up rest
unfolding cut_up blank_len lexeme word_kind
cut_up-nor rest = simp minus_zero

pub cut_up-xor : (rest : Text) → cut_up (codes "xor " ++ rest) ≡ token kind.Xor (codes "xor") (length (codes "xor " ++ rest)) ∷ cut_up rest
unfolding cut_up blank_len lexeme word_kind
cut_up-xor rest = simp minus_zero

pub cut_up-xnor : (rest : Text) → cut_up (codes "xnor " ++ rest) ≡ token kind.Xnor (codes "xnor") (length (codes "xnor " ++ rest)) ∷ cut_up rest
unfolding cut_up blank_len lexeme word_kind
cut_up-xnor rest = simp minus_zero

pub cut_up-endmodule : cut_up (codes "endmodule\n") ≡ token kind.Endmodule (codes "endmodule") 10 ∷ []
unfolding cut_up blank_len lexeme word_kind
cut_up-endmodule = refl

pub cut_up-close : (rest : Text) → cut_up (41 ∷ rest) ≡ token kind.CloseParen (41 ∷ []) (suc (length rest)) ∷ cut_up rest
unfolding cut_up blank_len lexeme mark_kind
cut_up-close rest = simp minus_zero

pub cut_up-comma : (rest : Text) → cut_up (44 ∷ rest) ≡ token kind.Comma (44 ∷ []) (suc (length rest)) ∷ cut_up rest
unfolding cut_up blank_len lexeme mark_kind
cut_up-comma rest = simp minus_zero

pub cut_up-semicolon : (rest : Text) → cut_up (59 ∷ rest) ≡ token kind.Semicolon (59 ∷ []) (suc (length rest)) ∷ cut_up rest
unfolding cut_up blank_len lexeme mark_kind
cut_up-semicolon rest = simp minus_zero

pub cut_up-point : (rest : Text) → cut_up (46 ∷ rest) ≡ token kind.Point (46 ∷ []) (suc (length rest)) ∷ cut_up rest
unfolding cut_up blank_len lexeme mark_kind
cut_up-point rest = simp minus_zero

pub cut_up-equals : (rest : Text) → cut_up (61 ∷ rest) ≡ token kind.Equals (61 ∷ []) (suc (length rest)) ∷ cut_up rest
unfolding cut_up blank_len lexeme mark_kind
cut_up-equals rest = simp minus_zero

pub cut_up-open_bracket : (rest : Text) → cut_up (91 ∷ rest) ≡ token kind.OpenBracket (91 ∷ []) (suc (length rest)) ∷ cut_up rest
unfolding cut_up blank_len lexeme mark_kind
cut_up-open_bracket rest = simp minus_zero

pub cut_up-close_bracket : (rest : Text) → cut_up (93 ∷ rest) ≡ token kind.CloseBracket (93 ∷ []) (suc (length rest)) ∷ cut_up rest
unfolding cut_up blank_len lexeme mark_kind
cut_up-close_bracket rest = simp minus_zero

pub cut_up-colon : (rest : Text) → cut_up (58 ∷ rest) ≡ token kind.Colon (58 ∷ []) (suc (length rest)) ∷ cut_up rest
unfolding cut_up blank_len lexeme mark_kind
cut_up-colon rest = simp minus_zero

-- a bracket, where no attribute opens
pub cut_up-open : (b : ℕ) (rest : Text) → (b ≡ 42 → ⊥) → cut_up (40 ∷ b ∷ rest) ≡ token kind.OpenParen (40 ∷ []) (suc (suc (length rest))) ∷ cut_up (b ∷ rest)
unfolding cut_up blank_len lexeme mark_kind
cut_up-open b rest other = let e : eqb 42 b ≡ false = grind (arith, nat_tests, other) in rw e (simp minus_zero)

-- the bytes that may stand behind a constant
pub data Ending : Type 0 where
  Close : Ending
  Comma : Ending
  Semicolon : Ending
  Space : Ending

abbrev pub ending : Ending → ℕ
ending Close = 41
ending Comma = 44
ending Semicolon = 59
ending Space = 32

abbrev pub digit : Bool → ℕ
digit false = 48
digit true = 49

-- the tokens of a constant
abbrev pub constant_tokens : (bit : Bool) (more : ℕ) → List Token → List Token
constant_tokens bit more ts =
    token kind.Number (49 ∷ []) (suc (suc (suc (suc more)))) ∷ token kind.Base (39 ∷ 98 ∷ []) (suc (suc (suc more))) ∷ token kind.Digits (digit bit ∷ []) (suc more) ∷ ts

pub cut_up-constant : (bit : Bool) (e : Ending) (rest : Text) → cut_up (49 ∷ 39 ∷ 98 ∷ digit bit ∷ ending e ∷ rest) ≡ constant_tokens bit (suc (length rest)) (cut_up (ending e ∷ rest))
unfolding cut_up blank_len lexeme quote
cut_up-constant false Close rest = simp minus_zero
cut_up-constant false Comma rest = simp minus_zero
cut_up-constant false Semicolon rest = simp minus_zero
cut_up-constant false Space rest = simp minus_zero
cut_up-constant true Close rest = simp minus_zero
cut_up-constant true Comma rest = simp minus_zero
cut_up-constant true Semicolon rest = simp minus_zero
cut_up-constant true Space rest = simp minus_zero

-- ---- names

-- the tokens of a text that begins with one
front_token : (mode : Bool) (text : Text) → blank_len text ≡ 0
    → front mode text ≡ Cut (token_of (lexeme mode text) text) (lexeme mode text).len (is_base_kind (lexeme mode text).kind)
front_token mode text e =
    ap (λ k. cond (eqb k 0) (Cut (token_of (lexeme mode text) text) (lexeme mode text).len (is_base_kind (lexeme mode text).kind)) (Blank k)) e

cut_front : (text : Text) (l : Lexeme) → blank_len text ≡ 0 → lexeme false text ≡ l → 0 < length text → 0 < l.len
    → cut_up text ≡ token_of l text ∷ tokens_from front (is_base_kind l.kind) 0 (drop l.len text)
unfolding cut_up
cut_front text l e cut full moves =
    let token : front false text ≡ Cut (token_of l text) l.len (is_base_kind l.kind) =
    front_token false text e ∙ ap (λ (m : Lexeme). Cut (token_of m text) m.len (is_base_kind m.kind)) cut in
    tokens_from-cut front false text (token_of l text) l.len (is_base_kind l.kind) full moves token

no_blank : (c : ℕ) (text : Text) → begins_word c ≡ true → blank_len (c ∷ text) ≡ 0
unfolding blank_len
no_blank c text begins = grind (arith, nat_tests)

word_lexeme : (c : ℕ) (text : Text) → begins_word c ≡ true → lexeme false (c ∷ text) ≡ record { kind = word_kind (take (word_len (c ∷ text)) (c ∷ text)); len = word_len (c ∷ text); prefix = 0; at = 0 }
unfolding lexeme
word_lexeme c text begins = rw begins refl

all_continue : (c : ℕ) (cs : Text) → is_word (c ∷ cs) ≡ true → (begins_word c ≡ true) × (list_all continues_word (c ∷ cs) ≡ true)
all_continue c cs h =
    let parts = and_parts (begins_word c) (list_all continues_word cs) h in
    (parts.0, rw (begins_goes_on c parts.0) parts.1)

pub cut_up-word : (name : Text) (b : ℕ) (rest : Text) → is_word name ≡ true → is_reserved name ≡ false → continues_word b ≡ false
    → cut_up (name ++ b ∷ rest) ≡ token kind.Name name (length (name ++ b ∷ rest)) ∷ cut_up (b ∷ rest)
unfolding cut_up
cut_up-word [] b rest shape free ends = absurd (cc)
cut_up-word (c ∷ cs) b rest shape free ends =
    let all = all_continue c cs shape in
    let len : word_len (c ∷ (cs ++ b ∷ rest)) ≡ length (c ∷ cs) = prefix_len-run continues_word (c ∷ cs) b rest all.1 ends in
    let front_is : take (word_len (c ∷ (cs ++ b ∷ rest))) (c ∷ (cs ++ b ∷ rest)) ≡ c ∷ cs = ap (λ n. take n (c ∷ (cs ++ b ∷ rest))) len ∙ take-append_seam (c ∷ cs) (b ∷ rest) in
    let known : lexeme false (c ∷ (cs ++ b ∷ rest)) ≡ record { kind = kind.Name; len = length (c ∷ cs); prefix = 0; at = 0 } =
    word_lexeme c (cs ++ b ∷ rest) all.0 ∙ rw (front_is, len, word_kind-free (c ∷ cs) free) refl in
    cut_front (c ∷ (cs ++ b ∷ rest)) (record { kind = kind.Name; len = length (c ∷ cs); prefix = 0; at = 0 }) (no_blank c (cs ++ b ∷ rest) all.0) known (omega arith) (omega arith)
    ∙ rw (take-append_seam (c ∷ cs) (b ∷ rest), drop-append_seam (c ∷ cs) (b ∷ rest), minus_zero (length (c ∷ (cs ++ b ∷ rest)))) refl

-- ---- names behind a backslash

all_pass : (p : ℕ → Bool) → ((b : ℕ) → 33 ≤ b → b ≤ 126 → p b ≡ true) → (name : Text) → IsName name → list_all p name ≡ true
all_pass p passes name n = list_all-from_AllPass p name (λ k d lt. let h = n.each k d lt in passes (get_or name k d) h.0 h.1)

no_space : (b : ℕ) → 33 ≤ b → b ≤ 126 → not (is_space b) ≡ true
no_space b low high = grind (arith, nat_tests)

prefix_len-all : (p : ℕ → Bool) (xs : Text) → list_all p xs ≡ true → prefix_len p xs ≡ length xs
prefix_len-all p [] all = refl
prefix_len-all p (x ∷ xs) all =
    let parts = and_parts (p x) (list_all p xs) all in
    ap (λ t. cond t (1 + prefix_len p xs) 0) parts.0 ∙ (let ih = prefix_len-all p xs parts.1 in omega arith)

escaped-is : (name rest : Text) (len : ℕ) → IsName name → prefix_len (λ b. not (is_space b)) (name ++ 32 ∷ rest) ≡ len → len ≡ length name
    → escaped (name ++ 32 ∷ rest) ≡ record { kind = kind.Name; len = 1 + length name; prefix = 1; at = 0 }
unfolding escaped
escaped-is name rest len n at is =
    let some = n.some in
    let few : eqb (length name) 0 ≡ false = grind (arith, nat_tests) in
    let all : prefix_len is_printed name ≡ length name = prefix_len-all is_printed name (all_pass is_printed printed_byte name n) in
    let full : ltb (length name) (length name) ≡ false = grind (arith, nat_tests) in
    rw (at, is, few, take-append_seam name (32 ∷ rest), all, full) refl

no_blank_escaped : (text : Text) → blank_len (92 ∷ text) ≡ 0
unfolding blank_len
no_blank_escaped text = refl

lexeme-escaped : (text : Text) → lexeme false (92 ∷ text) ≡ escaped text
unfolding lexeme
lexeme-escaped text = refl

pub cut_up-escaped : (name rest : Text) → IsName name → cut_up (92 ∷ (name ++ 32 ∷ rest)) ≡ token kind.Name name (suc (length (name ++ 32 ∷ rest))) ∷ cut_up rest
unfolding cut_up
cut_up-escaped name rest n =
    let text : Text = name ++ 32 ∷ rest in
    let len : prefix_len (λ b. not (is_space b)) text ≡ length name = prefix_len-run (λ b. not (is_space b)) name 32 rest (all_pass (λ b. not (is_space b)) no_space name n) refl in
    let known : lexeme false (92 ∷ text) ≡ record { kind = kind.Name; len = suc (length name); prefix = 1; at = 0 } =
    lexeme-escaped text ∙ escaped-is name rest (length name) n len refl ∙ ap (λ k. record { kind = kind.Name; len = k; prefix = 1; at = 0 }) (omega arith) in
    cut_front (92 ∷ text) (record { kind = kind.Name; len = suc (length name); prefix = 1; at = 0 }) (no_blank_escaped text) known (omega arith) (omega arith)
    ∙ rw (take-append_seam name (32 ∷ rest), drop-append_seam name (32 ∷ rest), minus_zero (suc (length text))) (ap (λ ts. token kind.Name name (suc (length text)) ∷ ts) (cut_up-space rest))

-- ---- numbers

no_blank_digit : (c : ℕ) (text : Text) → is_ascii_digit c ≡ true → blank_len (c ∷ text) ≡ 0
unfolding blank_len
no_blank_digit c text digit = grind (arith, nat_tests)

no_letter : (c : ℕ) → is_ascii_digit c ≡ true → begins_word c ≡ false
no_letter c digit = grind (arith, nat_tests)

digits_lexeme : (c : ℕ) (text : Text) → is_ascii_digit c ≡ true → lexeme false (c ∷ text) ≡ record { kind = kind.Number; len = prefix_len is_ascii_digit (c ∷ text); prefix = 0; at = 0 }
unfolding lexeme
digits_lexeme c text digit = rw (no_letter c digit, digit) refl

pub cut_up-number : (number : Text) (b : ℕ) (rest : Text) → 0 < length number → list_all is_ascii_digit number ≡ true → is_ascii_digit b ≡ false
    → cut_up (number ++ b ∷ rest) ≡ token kind.Number number (length (number ++ b ∷ rest)) ∷ cut_up (b ∷ rest)
unfolding cut_up
cut_up-number [] b rest some all ends = absurd (omega arith)
cut_up-number (c ∷ cs) b rest some all ends =
    let first = (and_parts (is_ascii_digit c) (list_all is_ascii_digit cs) all).0 in
    let len : prefix_len is_ascii_digit (c ∷ (cs ++ b ∷ rest)) ≡ length (c ∷ cs) = prefix_len-run is_ascii_digit (c ∷ cs) b rest all ends in
    let known : lexeme false (c ∷ (cs ++ b ∷ rest)) ≡ record { kind = kind.Number; len = length (c ∷ cs); prefix = 0; at = 0 } =
    digits_lexeme c (cs ++ b ∷ rest) first ∙ ap (λ k. record { kind = kind.Number; len = k; prefix = 0; at = 0 }) len in
    cut_front (c ∷ (cs ++ b ∷ rest)) (record { kind = kind.Number; len = length (c ∷ cs); prefix = 0; at = 0 }) (no_blank_digit c (cs ++ b ∷ rest) first) known (omega arith) (omega arith)
    ∙ rw (take-append_seam (c ∷ cs) (b ∷ rest), drop-append_seam (c ∷ cs) (b ∷ rest), minus_zero (length (c ∷ (cs ++ b ∷ rest)))) refl

-- ---- names as they are written

-- where a name is written, it is the token
pub record NameAt (name rest : Text) : Type 0 where
  pub left : ℕ
  pub at : cut_up (name_text name ++ rest) ≡ token kind.Name name (suc left) ∷ cut_up rest
  pub size : length (name_text name ++ rest) ≡ suc left

abbrev text_by : Bool → Text → Text
text_by t name = cond t (92 ∷ (name ++ 32 ∷ [])) name

simple_parts : (w r l : Bool) → (not (w && not r) || l) ≡ false → (w ≡ true) × (r ≡ false)
simple_parts true true l h = absurd (cc)
simple_parts true false l h = (refl, refl)
simple_parts false r l h = absurd (cc)

name_by : (t : Bool) (name : Text) (b : ℕ) (rest : Text) → needs_escape name ≡ t → IsName name → continues_word b ≡ false → NameAt name (b ∷ rest)
name_by true name b rest e n ends =
    let whole : name_text name ++ b ∷ rest ≡ 92 ∷ (name ++ 32 ∷ (b ∷ rest)) =
    ap (λ t. text_by t name ++ b ∷ rest) e ∙ ap (λ text. 92 ∷ text) (append_assoc name (32 ∷ []) (b ∷ rest)) in
    record {
      left = length (name ++ 32 ∷ (b ∷ rest));
      at = ap cut_up whole ∙ cut_up-escaped name (b ∷ rest) n;
      size = ap length whole;
    }
name_by false name b rest e n ends =
    let whole : name_text name ++ b ∷ rest ≡ name ++ b ∷ rest = ap (λ t. text_by t name ++ b ∷ rest) e in
    let parts = simple_parts (is_word name) (is_reserved name) (is_later_reserved name) e in
    let size : length (name ++ b ∷ rest) ≡ suc (length (name ++ b ∷ rest) - 1) = omega (arith, length-append name (b ∷ rest)) in
    record {
      left = length (name ++ b ∷ rest) - 1;
      at = ap cut_up whole ∙ cut_up-word name b rest parts.0 parts.1 ends ∙ ap (λ k. token kind.Name name k ∷ cut_up (b ∷ rest)) size;
      size = ap length whole ∙ size;
    }

pub name_at : (name : Text) (b : ℕ) (rest : Text) → IsName name → continues_word b ≡ false → NameAt name (b ∷ rest)
name_at name b rest n ends = name_by (needs_escape name) name b rest refl n ends

-- a number in decimal
abbrev pub IsSmall : ℕ → Type 0
IsSmall n = n < 65536

is_digit : (c : ℕ) → 48 ≤ c → c ≤ 57 → is_ascii_digit c ≡ true
is_digit c low high = grind (arith, nat_tests)

decimal_digits : (n : ℕ) → IsSmall n → list_all is_ascii_digit (decimal n) ≡ true
decimal_digits n small = list_all-from_AllPass is_ascii_digit (decimal n) (All-from_get_or (λ c. is_ascii_digit c ≡ true) (decimal n) 0 (λ i within.
    let d = digits_decimal (numerals_by_value _ tells_by_index) n (omega arith) i within in is_digit (get_or (decimal n) i 0) (omega (arith, d.0)) (omega (arith, d.1))))

pub record NumberAt (n : ℕ) (rest : Text) : Type 0 where
  pub left : ℕ
  pub at : cut_up (decimal n ++ rest) ≡ token kind.Number (decimal n) left ∷ cut_up rest
  pub value : small_number (decimal n) ≡ Some n

small_by : (few little : Bool) (n v : ℕ) → few ≡ true → little ≡ true → v ≡ n → cond (few && little) (Some v) None ≡ Some n
small_by true true n v f l e = ap Some e
small_by true false n v f l e = absurd (cc)
small_by false little n v f l e = absurd (cc)

pub number_at : (n b : ℕ) (rest : Text) → IsSmall n → is_ascii_digit b ≡ false → NumberAt n (b ∷ rest)
number_at n b rest small ends =
    let numeral = decimal_is_IsNumeral n (omega arith) in
    let few : length (decimal n) ≤ 5 = length-decimal-le 5 n (omega arith) (omega arith) (omega arith) in
    record {
      left = length (decimal n ++ b ∷ rest);
      at = cut_up-number (decimal n) b rest (decimal_nonempty n (omega arith)) (decimal_digits n small) ends;
      value = small_by (leb (length (decimal n)) 5) (leb (digits_value 10 (decimal n)) 65535) n (digits_value 10 (decimal n)) (grind (arith, nat_tests)) (grind (arith, nat_tests)) numeral.1;
    }

-- the bracket behind `(` is no star
pub record Opens (text : Text) : Type 0 where
  pub first : ℕ
  pub others : Text
  pub is : text ≡ first ∷ others
  pub other : first ≡ 42 → ⊥

pub cut_up-opened : (text : Text) → Opens text → cut_up (40 ∷ text) ≡ token kind.OpenParen (40 ∷ []) (suc (length text)) ∷ cut_up text
cut_up-opened text o = rw (o.is) (cut_up-open o.first o.others o.other)
