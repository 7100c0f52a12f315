-- The tokens of a pattern text (IEEE 1450-1999, in a subset of its forms), and the blanks between them.
use Rattle.std.specs.Prelude.{ℕ, zero, suc, ◌+◌, ◌-◌, Bool, true, false, not, ◌&&◌, ◌||◌, ◌==◌, nat_lt, if◌then◌else◌, List, [], ◌∷◌, length, take, drop, codes, Option, Some, None, is_some, slice_index}
use Rattle.std.specs.List.{prefix_len}
use Rattle.std.specs.Char.{is_ascii_digit, is_ascii_alphanumeric}
use Rattle.dft_base.specs.Lexing.{Text, Front, Cut, tokens_from}
use Rattle.dft_base.specs.Lexing as lexing
use Rattle.dft_base.specs.Words.{begins_word}
pub use Rattle.dft_lexing.specs.Blanks.{is_printed, begins_with}
unfoldable pub use Rattle.dft_lexing.specs.Blanks.{comment_rest}
use Rattle.dft_lexing.specs.Blanks.{is_space, is_word_byte, blank_or, closed_len, rest_to}
use Rattle.dft_stil_tokens.specs.declared.text.TokenKind.{TokenKind}
use Rattle.dft_stil_tokens.specs.declared.text.TokenKind.TheVariants as kind

-- a token of a pattern text
abbrev pub Token : Type 0
Token = lexing.Token TokenKind

-- ---- bytes

-- what may stand in a word behind its first letter
abbrev pub continues_name : ℕ → Bool
continues_name b = is_word_byte b

-- what may stand in a number behind its first digit
abbrev pub is_in_number : (quoted : Bool) → ℕ → Bool
is_in_number true b = is_ascii_digit b
is_in_number false b = is_ascii_alphanumeric b || b == 95 || b == 46

-- ---- words

-- how many bytes digits in brackets have; none where the text does not begin with such
abbrev pub index_len : Text → ℕ
index_len text =
    if slice_index text 0 == 91 && nat_lt 0 (prefix_len is_ascii_digit (drop 1 text)) && slice_index (drop 1 text) (prefix_len is_ascii_digit (drop 1 text)) == 93
    then 2 + prefix_len is_ascii_digit (drop 1 text) else 0

-- how many bytes the word at the front has; a text may begin with none
abbrev pub word_len : Text → ℕ
word_len text = prefix_len continues_name text + index_len (drop (prefix_len continues_name text) text)

-- ---- blanks

-- how many bytes an annotation has from behind its opening to behind the next `*}`
unfoldable pub note_rest : Text → Option ℕ
note_rest text = rest_to (codes "*}") text

-- how many bytes a space or a comment at the front has
unfoldable pub gap_len : Text → ℕ
gap_len [] = 0
gap_len (b ∷ text) =
    if is_space b then 1
    else (if begins_with (codes "//") (b ∷ text) then prefix_len (λ c. not (c == 10)) (b ∷ text)
    else (if begins_with (codes "/*") (b ∷ text) then closed_len (comment_rest (drop 1 text)) else 0))

-- how many bytes stand before the first that is in no space and in no comment. The number counts the bytes that are left of one.
unfoldable pub gaps_from : ℕ → Text → ℕ
gaps_from n [] = 0
gaps_from (suc n) (b ∷ text) = suc (gaps_from n text)
gaps_from zero (b ∷ text) = if gap_len (b ∷ text) == 0 then 0 else suc (gaps_from (gap_len (b ∷ text) - 1) text)

-- how many bytes of spaces and comments stand at the front
abbrev pub gaps : Text → ℕ
gaps text = gaps_from 0 text

-- how many bytes the opening of an annotation has whose word has three, if `{*` stands behind the word
abbrev pub opening_behind : (behind : Text) → Option ℕ
opening_behind behind = if begins_with (codes "{*") (drop (gaps behind) behind) then Some (5 + gaps behind) else None

-- how many bytes the opening of an annotation has, if one begins here: the word `Ann`, and `{*`
abbrev pub note_opening : Text → Option ℕ
note_opening text = if begins_with (codes "Ann") text && word_len text == 3 then opening_behind (drop 3 text) else None

-- how many bytes stand to behind a semicolon that follows; none where none follows
abbrev pub semicolon_len : Text → ℕ
semicolon_len text = if begins_with (codes ";") (drop (gaps text) text) then gaps text + 1 else 0

-- what an annotation has whose opening has so many bytes, with its semicolon; none where the text does not close it
abbrev pub closed_note_len : Text → ℕ → Option ℕ → ℕ
closed_note_len text opening None = 0
closed_note_len text opening (Some rest) = opening + rest + semicolon_len (drop (opening + rest) text)

-- how many bytes of blank stand at the front, where an annotation begins here or none: it goes to the next `*}`, and a semicolon goes with it
abbrev pub blank_behind : Text → Option ℕ → ℕ
blank_behind text None = gap_len text
blank_behind text (Some opening) = closed_note_len text opening (note_rest (drop opening text))

-- How many bytes of blank stand at the front: a space, a comment or an annotation.
unfoldable pub blank_len : Text → ℕ
blank_len text = blank_behind text (note_opening text)

-- ---- tokens

-- The token at the front of a text: what it is, how many bytes it has, where in it its name stands, and how far from its begin its place is.
pub record Lexeme : Type 0 where
  pub kind : TokenKind
  pub len : ℕ
  pub prefix : ℕ
  pub end : ℕ
  pub at : ℕ

-- a token of a kind and a length, whose place is its begin
abbrev pub plain : TokenKind → ℕ → Lexeme
plain k len = record { kind = k; len = len; prefix = 0; end = len; at = 0 }

-- a token that the text does not close: all so many bytes to its end, refused behind so many of them
abbrev pub unclosed : (len at : ℕ) → Lexeme
unclosed len at = record { kind = kind.Unclosed; len = len; prefix = 0; end = len; at = at }

-- the kind of a byte that stands for itself
unfoldable pub mark_kind : ℕ → TokenKind
mark_kind b =
    if b == 123 then kind.OpenBrace
    else (if b == 125 then kind.CloseBrace
    else (if b == 59 then kind.Semicolon
    else (if b == 58 then kind.Colon
    else (if b == 61 then kind.Equals
    else (if b == 43 then kind.Plus
    else (if b == 39 then kind.Quote
    else (if b == 92 then kind.Backslash
    else (if is_printed b then kind.Other else kind.Illegal))))))))

-- how many bytes stand before the next double quote
abbrev pub to_quote : Text → ℕ
to_quote behind = prefix_len (λ b. not (b == 34)) behind

-- a text in double quotes with so many bytes, of which so many at the front are printed: it is a name, or is refused at the first byte that no name has
abbrev pub closed_quote : (len printed : ℕ) → Lexeme
closed_quote len printed =
    if len == 0 then record { kind = kind.Text; len = 2; prefix = 1; end = 1; at = 0 }
    else (if nat_lt printed len then record { kind = kind.Text; len = 2 + len; prefix = 1; end = 1 + len; at = 1 + printed }
    else record { kind = kind.Quoted; len = 2 + len; prefix = 1; end = 1 + len; at = 0 })

-- a double quote and the next one; where the text has none, it is refused at the first byte that no name has, or else at its end
unfoldable pub quoted_text : (behind : Text) → Lexeme
quoted_text behind =
    if nat_lt (to_quote behind) (length behind) then closed_quote (to_quote behind) (prefix_len is_printed behind)
    else unclosed (1 + length behind) (1 + prefix_len is_printed behind)

-- a word, or an annotation that the text does not close
unfoldable pub word_or_note : Text → Lexeme
word_or_note text = if is_some (note_opening text) then unclosed (length text) (length text) else plain kind.Word (word_len text)

-- The token at the front of a text that begins with no blank. Between single quotes a number has digits alone.
unfoldable pub lexeme : (quoted : Bool) → Text → Lexeme
lexeme quoted [] = plain kind.End 0
lexeme quoted (b ∷ text) =
    if begins_with (codes "/*") (b ∷ text) then unclosed (length (b ∷ text)) (length (b ∷ text))
    else (if b == 34 then quoted_text text
    else (if begins_word b then word_or_note (b ∷ text)
    else (if is_ascii_digit b then plain kind.Number (prefix_len (is_in_number quoted) (b ∷ text))
    else plain (mark_kind b) 1)))

-- the token that a lexeme is at the front of this text; its place is where it is refused
abbrev pub token_of : Lexeme → Text → Token
token_of l text = record { kind = l.kind; bytes = drop l.prefix (take l.end text); left = length text - l.at }

-- whether single quotes are open behind a token of this kind
abbrev pub quoted_behind : TokenKind → Bool → Bool
quoted_behind kind.Quote quoted = not quoted
quoted_behind kind.Semicolon quoted = false
quoted_behind kind.OpenBrace quoted = false
quoted_behind kind.CloseBrace quoted = false
quoted_behind _ quoted = quoted

-- what stands at the front
abbrev pub front : (quoted : Bool) → Text → Front TokenKind Bool
front quoted text = blank_or (blank_len text) (Cut (token_of (lexeme quoted text) text) (lexeme quoted text).len (quoted_behind (lexeme quoted text).kind quoted))

-- the tokens of a text, in order
abbrev pub tokens : Text → List Token
tokens text = tokens_from front false 0 text
