-- The bytes of texts, and the comments between tokens: those of netlist texts (IEEE 1364) and of pattern texts (IEEE 1450) are the same.
use Rattle.std.specs.Prelude.{ℕ, suc, ◌+◌, Bool, ◌||◌, ◌==◌, nat_eq, if◌then◌else◌, [], ◌∷◌, codes, Option, Some, None, option_map, length}
use Rattle.std.specs.List.{starts_with}
use Rattle.std.specs.Char.{is_ascii_alphanumeric}
pub use Rattle.dft_base.specs.Bytes.{is_printed}
use Rattle.dft_base.specs.Lexing.{Text, Front, Blank}

-- a tab, a line feed, a form feed, a carriage return or a space
abbrev pub is_space : ℕ → Bool
is_space b = b == 9 || b == 10 || b == 12 || b == 13 || b == 32

-- a letter, a digit or `_`
abbrev pub is_word_byte : ℕ → Bool
is_word_byte b = is_ascii_alphanumeric b || b == 95

-- whether a text begins with this word
abbrev pub begins_with : Text → Text → Bool
begins_with word text = starts_with nat_eq text word

-- how many bytes stand to behind the first place where a text has this word; none where it has none
abbrev pub rest_to : (word : Text) → Text → Option ℕ
rest_to word [] = None
rest_to word (b ∷ text) = if begins_with word (b ∷ text) then Some (length word) else option_map suc (rest_to word text)

-- how many bytes a comment has from behind its opening to behind the next `*/`
unfoldable pub comment_rest : Text → Option ℕ
comment_rest text = rest_to (codes "*/") text

-- what a comment (or another blank that is closed) has with its opening of two bytes; none where the text does not close it
abbrev pub closed_len : Option ℕ → ℕ
closed_len None = 0
closed_len (Some rest) = 2 + rest

-- a blank of so many bytes in front, or, where there is none, what is cut there
abbrev pub blank_or : {Kind Mode : Type 0} → ℕ → Front Kind Mode → Front Kind Mode
blank_or len cut = if len == 0 then cut else Blank len
