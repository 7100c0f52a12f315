-- From a token of a text on there are no more tokens than bytes.
use Rattle.std.proofs.Common.{◌≡◌, inl, inr, ℕ, zero, suc, ◌+◌, ◌-◌, ◌≤◌, ◌==◌, ◌&&◌, ◌||◌, Bool, true, false, true≢false, cond, not, List, [], ◌∷◌, length, drop, take, nat_lt, refl, sym, ap, ◌∙◌, arith, codes}
use Rattle.std.specs.List.{prefix_len}
use Rattle.std.specs.Char.{is_ascii_digit}
use Rattle.dft_base.specs.Words.{begins_word}
use Rattle.dft_base.specs.Lexing.{Text, Front, Blank, Cut, spread, tokens_from}
use Rattle.dft_netlist_text.specs.declared.text.TokenKind.{TokenKind}
use Rattle.dft_netlist_text.specs.declared.text.TokenKind.TheVariants as kind
use Rattle.dft_netlist_text.specs.Lexemes.{Token, Lexeme, plain, with_printed, escaped, quote, directive, lexeme, token_of, is_base_kind, begins_with, word_len, is_base, is_printed, is_space, is_in_digits, word_kind, mark_kind, to_blank, blank_len, front, tokens}
use Rattle.dft_netlist_text.specs.Steps.{kind_of, left}
use Rattle.dft_netlist_laws.proofs.NextTokens.{Fronts}

-- a token whose place may lie behind its begin
abbrev is_lost : TokenKind → Bool
is_lost kind.Illegal = true
is_lost kind.Unclosed = true
is_lost _ = false

-- the place of another token is its begin
abbrev IsPlaced : Lexeme → Type 0
IsPlaced l = is_lost l.kind ≡ false → l.at ≡ 0

either : (b : Bool) (x y : Lexeme) → IsPlaced x → IsPlaced y → IsPlaced (cond b x y)
either true x y hx hy = hx
either false x y hx hy = hy

plain_placed : (k : TokenKind) (len : ℕ) → IsPlaced (plain k len)
plain_placed k len h = refl

lost : (l : Lexeme) → is_lost l.kind ≡ true → IsPlaced l
lost l h other = absurd (true≢false (sym h ∙ other))

printed_by : (b : Bool) (at : ℕ) (l : Lexeme) → IsPlaced l → IsPlaced (cond b (record l { kind = kind.Illegal; at = at }) l)
printed_by true at l h = lost (record l { kind = kind.Illegal; at = at }) refl
printed_by false at l h = h

printed : (bytes : Text) (l : Lexeme) → IsPlaced l → IsPlaced (with_printed bytes l)
printed bytes l h = printed_by (nat_lt (prefix_len is_printed bytes) (length bytes)) (l.prefix + prefix_len is_printed bytes) l h

escaped_placed : (text : Text) → IsPlaced (escaped text)
unfolding escaped
escaped_placed text =
    let len : ℕ = prefix_len (λ b. not (is_space b)) text in
    let name : Lexeme = record { kind = kind.Name; len = 1 + len; prefix = 1; at = 0 } in
    either (len == 0) (plain kind.Other 1) (with_printed (take len text) name) (plain_placed kind.Other 1) (printed (take len text) name (λ h. refl))

quote_placed : (text : Text) → IsPlaced (quote text)
unfolding quote
quote_placed [] = lost (record { kind = kind.Unclosed; len = 1; prefix = 0; at = 1 }) refl
quote_placed (b ∷ text) = either (is_base b) (plain kind.Base 2) (plain kind.Other 1) (plain_placed kind.Base 2) (plain_placed kind.Other 1)

directive_placed : (text : Text) → IsPlaced (directive text)
unfolding directive
directive_placed text = printed (take (to_blank text) text) (plain kind.Directive (to_blank text)) (plain_placed kind.Directive (to_blank text))

-- marks, and what no text closes
abbrev by_mark : ℕ → Text → Lexeme
by_mark b text =
    cond (begins_with (codes "/*") (b ∷ text) || begins_with (codes "(*") (b ∷ text)) (record { kind = kind.Unclosed; len = 1; prefix = 0; at = length (b ∷ text) }) (plain (mark_kind b) 1)

mark_placed : (b : ℕ) (text : Text) → IsPlaced (by_mark b text)
mark_placed b text =
    either (begins_with (codes "/*") (b ∷ text) || begins_with (codes "(*") (b ∷ text)) (record { kind = kind.Unclosed; len = 1; prefix = 0; at = length (b ∷ text) }) (plain (mark_kind b) 1)
    (lost (record { kind = kind.Unclosed; len = 1; prefix = 0; at = length (b ∷ text) }) refl) (plain_placed (mark_kind b) 1)

abbrev by_sign : ℕ → Text → Lexeme
by_sign b text = cond (b == 92) (escaped text) (cond (b == 39) (quote text) (cond (b == 35 || b == 96) (directive (b ∷ text)) (by_mark b text)))

sign_placed : (b : ℕ) (text : Text) → IsPlaced (by_sign b text)
sign_placed b text =
    either (b == 92) (escaped text) (cond (b == 39) (quote text) (cond (b == 35 || b == 96) (directive (b ∷ text)) (by_mark b text))) (escaped_placed text)
    (either (b == 39) (quote text) (cond (b == 35 || b == 96) (directive (b ∷ text)) (by_mark b text)) (quote_placed text)
    (either (b == 35 || b == 96) (directive (b ∷ text)) (by_mark b text) (directive_placed (b ∷ text)) (mark_placed b text)))

abbrev word : ℕ → Text → Lexeme
word b text = plain (word_kind (take (word_len (b ∷ text)) (b ∷ text))) (word_len (b ∷ text))

abbrev number : ℕ → Text → Lexeme
number b text = plain kind.Number (prefix_len is_ascii_digit (b ∷ text))

lexeme_placed : (behind_base : Bool) (text : Text) → IsPlaced (lexeme behind_base text)
unfolding lexeme
lexeme_placed behind_base [] = plain_placed kind.End 0
lexeme_placed behind_base (b ∷ text) =
    either (behind_base && is_in_digits b) (plain kind.Digits (prefix_len is_in_digits (b ∷ text))) (cond (begins_word b) (word b text) (cond (is_ascii_digit b) (number b text) (by_sign b text)))
    (plain_placed kind.Digits (prefix_len is_in_digits (b ∷ text)))
    (either (begins_word b) (word b text) (cond (is_ascii_digit b) (number b text) (by_sign b text)) (plain_placed (word_kind (take (word_len (b ∷ text)) (b ∷ text))) (word_len (b ∷ text)))
    (either (is_ascii_digit b) (number b text) (by_sign b text) (plain_placed kind.Number (prefix_len is_ascii_digit (b ∷ text))) (sign_placed b text)))

-- ---- how many tokens there are

abbrev at_front : (mode : Bool) → Text → Bool → Front TokenKind Bool
at_front mode text b = cond b (Cut (token_of (lexeme mode text) text) (lexeme mode text).len (is_base_kind (lexeme mode text).kind)) (Blank (blank_len text))

spread_few : (mode : Bool) (b : ℕ) (text : Text) (blank : Bool) → ((m : Bool) (n : ℕ) → length (tokens_from front m n text) ≤ length text) →
    length (spread (at_front mode (b ∷ text) blank) mode (λ m n. tokens_from front m n text)) ≤ suc (length text)
spread_few mode b text true h = omega (arith, h (is_base_kind (lexeme mode (b ∷ text)).kind) ((lexeme mode (b ∷ text)).len - 1))
spread_few mode b text false h = omega (arith, h mode (blank_len (b ∷ text) - 1))

few : (text : Text) (mode : Bool) (n : ℕ) → length (tokens_from front mode n text) ≤ length text
few [] mode zero = omega arith
few [] mode (suc n) = omega arith
few (b ∷ text) mode (suc n) = omega (arith, few text mode n)
few (b ∷ text) mode zero = omega (arith, spread_few mode b text (blank_len (b ∷ text) == 0) (λ m n. few text m n))

-- ---- from a token on

abbrev HasRoom : List Token → Type 0
HasRoom ts = is_lost (kind_of ts) ≡ false → length ts ≤ left ts

none : (k : ℕ) → HasRoom (drop k [])
none zero h = omega arith
none (suc k) h = omega arith

cut_room : (mode : Bool) (b : ℕ) (text : Text) (rest : List Token) → length rest ≤ length text → HasRoom (token_of (lexeme mode (b ∷ text)) (b ∷ text) ∷ rest)
unfolding kind_of left
cut_room mode b text rest h other =
    let start = lexeme_placed mode (b ∷ text) other in
    omega (arith, start, h)

spread_room : (mode : Bool) (b : ℕ) (text : Text) (k : ℕ) (blank : Bool) → ((m : Bool) (n k : ℕ) → HasRoom (drop k (tokens_from front m n text))) →
    HasRoom (drop k (spread (at_front mode (b ∷ text) blank) mode (λ m n. tokens_from front m n text)))
spread_room mode b text k false h = h mode (blank_len (b ∷ text) - 1) k
spread_room mode b text zero true h =
    cut_room mode b text (tokens_from front (is_base_kind (lexeme mode (b ∷ text)).kind) ((lexeme mode (b ∷ text)).len - 1) text)
    (few text (is_base_kind (lexeme mode (b ∷ text)).kind) ((lexeme mode (b ∷ text)).len - 1))
spread_room mode b text (suc k) true h = h (is_base_kind (lexeme mode (b ∷ text)).kind) ((lexeme mode (b ∷ text)).len - 1) k

room : (text : Text) (mode : Bool) (n k : ℕ) → HasRoom (drop k (tokens_from front mode n text))
room [] mode zero k = none k
room [] mode (suc n) k = none k
room (b ∷ text) mode (suc n) k = room text mode n k
room (b ∷ text) mode zero k = spread_room mode b text k (blank_len (b ∷ text) == 0) (λ m n j. room text m n j)

not_lost : (ts : List Token) → Fronts ts → is_lost (kind_of ts) ≡ false
not_lost ts (inl is) = ap is_lost is
not_lost ts (inr (inl is)) = ap is_lost is
not_lost ts (inr (inr is)) = ap is_lost is

pub enough : (text : Text) (k : ℕ) → Fronts (drop k (tokens text)) → length (drop k (tokens text)) ≤ left (drop k (tokens text))
enough text k h = room text false 0 k (not_lost (drop k (tokens text)) h)
