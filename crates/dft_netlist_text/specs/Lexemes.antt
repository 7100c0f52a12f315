-- The tokens of a netlist text (IEEE 1364, lexical conventions), and the blanks between them.
use Rattle.std.specs.Prelude.{ℕ, suc, ◌+◌, ◌-◌, Bool, true, false, not, ◌&&◌, ◌||◌, ◌==◌, nat_lt, if◌then◌else◌, List, [], ◌∷◌, length, take, drop, codes, Option, Some, None, option_map, slice_index}
use Rattle.std.specs.List.{prefix_len}
use Rattle.std.specs.Char.{is_ascii_digit}
use Rattle.std.specs.Str.{bytes_eq}
use Rattle.dft_base.specs.Lexing.{Text, Front, Cut, tokens_from}
use Rattle.dft_base.specs.Lexing as lexing
use Rattle.dft_base.specs.Words.{begins_word, continues_word, is_reserved}
pub use Rattle.dft_lexing.specs.Blanks.{is_space, is_printed, begins_with, closed_len}
unfoldable pub use Rattle.dft_lexing.specs.Blanks.{comment_rest}
use Rattle.dft_lexing.specs.Blanks.{is_word_byte, blank_or}
use Rattle.dft_netlist_text.specs.declared.text.TokenKind.{TokenKind}
use Rattle.dft_netlist_text.specs.declared.text.TokenKind.TheVariants as kind

-- a token of a netlist text
abbrev pub Token : Type 0
Token = lexing.Token TokenKind

-- ---- bytes

-- what may stand in a line behind a directive
abbrev pub is_in_line : ℕ → Bool
is_in_line b = not (b == 10) && (is_space b || is_printed b)

-- what may stand in the digits behind a base
abbrev pub is_in_digits : ℕ → Bool
is_in_digits b = is_word_byte b

-- ---- blanks

-- how many bytes an attribute has from behind its opening to behind the next `*)` that stands in no quotes
unfoldable pub attribute_rest : (quoted : Bool) → Text → Option ℕ
attribute_rest quoted [] = None
attribute_rest true (b ∷ text) = option_map suc (attribute_rest (not (b == 34)) text)
attribute_rest false (b ∷ text) =
    if begins_with (codes "*)") (b ∷ text) then Some 2 else option_map suc (attribute_rest (b == 34) text)

-- how many bytes the word at the front has; a text may begin with none
abbrev pub word_len : Text → ℕ
word_len text = prefix_len continues_word text

-- a directive that says nothing of a netlist: it is passed over with the rest of its line
abbrev pub is_passed_over : Text → Bool
is_passed_over word =
    bytes_eq word (codes "timescale") || bytes_eq word (codes "celldefine") || bytes_eq word (codes "endcelldefine") || bytes_eq word (codes "resetall")

-- whether such a directive begins here; the text begins with a byte that is told apart
abbrev pub is_passed_directive : Text → Bool
is_passed_directive text = slice_index text 0 == 96 && is_passed_over (take (word_len (drop 1 text)) (drop 1 text))

-- the name of a directive, and the rest of its line
abbrev pub directive_len : Text → ℕ
directive_len text = 1 + word_len (drop 1 text) + prefix_len is_in_line (drop (1 + word_len (drop 1 text)) text)

-- How many bytes of blank stand at the front: a space, a comment, an attribute, or a directive that is passed over.
unfoldable pub blank_len : Text → ℕ
blank_len [] = 0
blank_len (b ∷ text) =
    if is_space b then 1
    else (if begins_with (codes "//") (b ∷ text) then prefix_len (λ c. not (c == 10)) (b ∷ text)
    else (if begins_with (codes "/*") (b ∷ text) then closed_len (comment_rest (drop 1 text))
    else (if begins_with (codes "(*") (b ∷ text) then closed_len (attribute_rest false (drop 1 text))
    else (if is_passed_directive (b ∷ text) then directive_len (b ∷ text) else 0))))

-- whether a blank begins here, closed or not
unfoldable pub begins_blank : Text → Bool
begins_blank text =
    is_space (slice_index text 0) || begins_with (codes "//") text || begins_with (codes "/*") text || begins_with (codes "(*") text || is_passed_directive text

-- how many bytes stand before the next blank
unfoldable pub to_blank : Text → ℕ
to_blank [] = 0
to_blank (b ∷ text) = if begins_blank (b ∷ text) then 0 else suc (to_blank text)

-- ---- tokens

-- The token at the front of a text: what it is, how many bytes it has, how many of them stand before its name,
-- and how far from its begin its place is.
pub record Lexeme : Type 0 where
  pub kind : TokenKind
  pub len : ℕ
  pub prefix : ℕ
  pub at : ℕ

-- a token of a kind and a length, whose place is its begin
abbrev pub plain : TokenKind → ℕ → Lexeme
plain k len = record { kind = k; len = len; prefix = 0; at = 0 }

-- a token with a byte that may not stand in it is refused at this byte
abbrev pub with_printed : Text → Lexeme → Lexeme
with_printed bytes lexeme =
    if nat_lt (prefix_len is_printed bytes) (length bytes) then record lexeme { kind = kind.Illegal; at = lexeme.prefix + prefix_len is_printed bytes } else lexeme

-- the word of this text: a keyword, another reserved word, or a name
unfoldable pub word_kind : Text → TokenKind
word_kind word =
    if bytes_eq word (codes "module") then kind.Module
    else (if bytes_eq word (codes "endmodule") then kind.Endmodule
    else (if bytes_eq word (codes "input") then kind.Input
    else (if bytes_eq word (codes "output") then kind.Output
    else (if bytes_eq word (codes "inout") then kind.Inout
    else (if bytes_eq word (codes "wire") then kind.Wire
    else (if bytes_eq word (codes "assign") then kind.Assign
    else (if bytes_eq word (codes "and") then kind.And
    else (if bytes_eq word (codes "nand") then kind.Nand
    else (if bytes_eq word (codes "or") then kind.Or
    else (if bytes_eq word (codes "nor") then kind.Nor
    else (if bytes_eq word (codes "xor") then kind.Xor
    else (if bytes_eq word (codes "xnor") then kind.Xnor
    else (if bytes_eq word (codes "buf") then kind.Buf
    else (if bytes_eq word (codes "not") then kind.Not
    else (if is_reserved word then kind.Reserved else kind.Name)))))))))))))))

-- the kind of a byte that stands for itself
unfoldable pub mark_kind : ℕ → TokenKind
mark_kind b =
    if b == 40 then kind.OpenParen
    else (if b == 41 then kind.CloseParen
    else (if b == 44 then kind.Comma
    else (if b == 59 then kind.Semicolon
    else (if b == 46 then kind.Point
    else (if b == 61 then kind.Equals
    else (if b == 91 then kind.OpenBracket
    else (if b == 93 then kind.CloseBracket
    else (if b == 58 then kind.Colon
    else (if b == 123 then kind.OpenBrace
    else (if b == 125 then kind.CloseBrace
    else (if is_printed b then kind.Other else kind.Illegal)))))))))))

-- a name behind a backslash goes to the next space, and has a byte at least
unfoldable pub escaped : (behind : Text) → Lexeme
escaped behind =
    let len = prefix_len (λ b. not (is_space b)) behind in
    if len == 0 then plain kind.Other 1 else with_printed (take len behind) (record { kind = kind.Name; len = 1 + len; prefix = 1; at = 0 })

-- the letter of a base
abbrev pub is_base : ℕ → Bool
is_base b = b == 98 || b == 66 || b == 111 || b == 79 || b == 100 || b == 68 || b == 104 || b == 72

-- a quote, with the letter of a base behind it; at the end of the text a quote waits for one
unfoldable pub quote : (behind : Text) → Lexeme
quote [] = record { kind = kind.Unclosed; len = 1; prefix = 0; at = 1 }
quote (b ∷ text) = if is_base b then plain kind.Base 2 else plain kind.Other 1

-- a `#` or another directive goes to the next blank
unfoldable pub directive : Text → Lexeme
directive text = with_printed (take (to_blank text) text) (plain kind.Directive (to_blank text))

-- The token at the front of a text that begins with no blank. Behind a base a run of letters, digits and `_` is one token.
unfoldable pub lexeme : (behind_base : Bool) → Text → Lexeme
lexeme behind_base [] = plain kind.End 0
lexeme behind_base (b ∷ text) =
    if behind_base && is_in_digits b then plain kind.Digits (prefix_len is_in_digits (b ∷ text))
    else (if begins_word b then plain (word_kind (take (word_len (b ∷ text)) (b ∷ text))) (word_len (b ∷ text))
    else (if is_ascii_digit b then plain kind.Number (prefix_len is_ascii_digit (b ∷ text))
    else (if b == 92 then escaped text
    else (if b == 39 then quote text
    else (if b == 35 || b == 96 then directive (b ∷ text)
    else (if begins_with (codes "/*") (b ∷ text) || begins_with (codes "(*") (b ∷ text) then record { kind = kind.Unclosed; len = 1; prefix = 0; at = length (b ∷ text) }
    else plain (mark_kind b) 1))))))

-- the token that a lexeme is at the front of this text; its place is where it is refused
abbrev pub token_of : Lexeme → Text → Token
token_of l text = record { kind = l.kind; bytes = drop l.prefix (take l.len text); left = length text - l.at }

-- whether digits come behind a token of this kind
abbrev pub is_base_kind : TokenKind → Bool
is_base_kind kind.Base = true
is_base_kind _ = false

-- what stands at the front
abbrev pub front : (behind_base : Bool) → Text → Front TokenKind Bool
front behind_base text = blank_or (blank_len text) (Cut (token_of (lexeme behind_base text) text) (lexeme behind_base text).len (is_base_kind (lexeme behind_base text).kind))

-- the tokens of a text, in order
abbrev pub tokens : Text → List Token
tokens text = tokens_from front false 0 text
