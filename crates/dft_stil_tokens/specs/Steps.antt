-- The steps of the rules of pattern texts. A rule looks at the next token; the first token that no rule takes is refused.
use Rattle.std.specs.Prelude.{ℕ, ◌+◌, ◌*◌, ◌-◌, Bool, ◌&&◌, ◌||◌, ◌==◌, nat_lt, nat_le, codes, List, [], ◌∷◌, length, take, if◌then◌else◌, slice_index, Ok, Err}
use Rattle.std.specs.List.{list_any, prefix_len}
use Rattle.std.specs.Char.{is_ascii_alphabetic, is_ascii_alphanumeric}
use Rattle.std.specs.Str.{bytes_eq}
use denote.Enum.Bare.{sameb}
use Rattle.dft_base.specs.Lexing.{Text}
use Rattle.dft_base.specs.Parser as parser
unfoldable pub use Rattle.dft_lexing.specs.Steps.{bytes, left, next}
use Rattle.dft_lexing.specs.Steps as steps
use Rattle.dft_stil_tokens.specs.contracts.text.TokenKind.{the_type}
use Rattle.dft_stil_tokens.specs.declared.text.TokenKind.{TokenKind}
use Rattle.dft_stil_tokens.specs.declared.text.TokenKind.TheVariants as kind
use Rattle.dft_stil_tokens.specs.declared.text.Cause.{Cause}
use Rattle.dft_stil_tokens.specs.declared.text.Cause.TheVariants as cause
use Rattle.dft_stil_tokens.specs.declared.text.Fault.{Fault}
use Rattle.dft_stil_tokens.specs.Lexemes.{Token}

-- what a rule gives: a value and the tokens after it, or a fault
abbrev pub Outcome : Type 0 → Type 0
Outcome A = parser.Outcome Token Fault A

-- a rule of pattern texts
abbrev pub Rule : Type 0 → Type 0
Rule A = parser.Parser Token Fault A

-- what the next token is; at the end of the text, the end
unfoldable pub kind_of : List Token → TokenKind
kind_of ts = steps.kind_or kind.End ts

-- whether a token of this kind comes next
unfoldable pub sees : TokenKind → List Token → Bool
sees k ts = sameb the_type (kind_of ts) k

-- whether this word comes next, without quotes
unfoldable pub sees_word : Text → List Token → Bool
sees_word word ts = sees kind.Word ts && bytes_eq (bytes ts) word

-- a fault at a place
abbrev pub fault : Cause → ℕ → Fault
fault why place = record { cause = why; left = place }

-- ---- refused tokens

-- the words that the profile leaves out
unfoldable pub left_out : List Text
left_out =
    codes "Procedures" ∷ codes "MacroDefs" ∷ codes "Loop" ∷ codes "Call" ∷ codes "ScanStructures" ∷ codes "Include" ∷
    codes "InOut" ∷ codes "Pseudo" ∷ codes "Stop" ∷ codes "Macro" ∷ codes "C" ∷ codes "F" ∷ []

-- some word that the profile leaves out has these bytes
abbrev pub is_left_out : Text → Bool
is_left_out word = list_any (λ known. bytes_eq known word) left_out

-- whether such a word comes next, without quotes
unfoldable pub sees_left_out : List Token → Bool
sees_left_out ts = sees kind.Word ts && is_left_out (bytes ts)

-- a capital letter
abbrev pub is_capital : ℕ → Bool
is_capital b = nat_le 65 b && nat_le b 90

-- whether a word comes next that begins with a capital letter, without quotes
unfoldable pub sees_capital : List Token → Bool
sees_capital ts = sees kind.Word ts && is_capital (slice_index (bytes ts) 0)

-- the next token fits no rule, whatever it is
abbrev pub no_token : List Token → Fault
no_token ts = fault cause.Token (left ts)

-- the next token is left out by the profile
abbrev pub unsupported : List Token → Fault
unsupported ts = fault (cause.Unsupported (bytes ts)) (left ts)

-- no rule takes the next token, where a name might come, or a character
abbrev pub refuse : {A : Type 0} → Rule A
refuse = λ ts. Err (no_token ts)

-- no rule takes the next token, where a mark must come
unfoldable pub mark_refusal : List Token → Fault
mark_refusal ts = if sees_left_out ts then unsupported ts else no_token ts

-- no rule takes the next token, where a keyword might come, and no name
unfoldable pub keyword_refusal : List Token → Fault
keyword_refusal ts = if sees_capital ts then unsupported ts else no_token ts

-- ---- taken tokens

-- takes a token of this kind, which must come next
unfoldable pub expect : TokenKind → Rule Text
expect k = steps.take_if (sees k) mark_refusal

-- the tokens behind a token of this kind, if it comes next
unfoldable pub after : TokenKind → List Token → List Token
after k ts = steps.behind_if (sees k) ts

-- takes a token of this kind, if it comes next
abbrev pub eat : TokenKind → Rule Bool
eat k = λ ts. Ok (sees k ts, after k ts)

-- the tokens behind this word, if it comes next
unfoldable pub after_word : Text → List Token → List Token
after_word word ts = steps.behind_if (sees_word word) ts

-- takes this keyword, if it comes next
abbrev pub eat_word : Text → Rule Bool
eat_word word = λ ts. Ok (sees_word word ts, after_word word ts)

-- takes this keyword, which must come next
unfoldable pub keyword : Text → Rule Text
keyword word = steps.take_if (sees_word word) keyword_refusal

-- whether a name comes next, with quotes or without
unfoldable pub sees_name : List Token → Bool
sees_name ts = sees kind.Word ts || sees kind.Quoted ts

-- takes a name, which must come next
unfoldable pub name : Rule Text
name = steps.take_if sees_name no_token

-- what must hold, or else a meaning is refused at this place
abbrev pub needed : {A : Type 0} → Cause → ℕ → Bool → Rule A → Rule A
needed why place = steps.needed (fault why place)

-- what a check gives, or its fault
abbrev pub checked : {A : Type 0} → parser.Checked Fault A → Rule A
checked = steps.checked

-- ---- characters

-- the letters and digits that the next token begins with, whatever byte follows them
abbrev pub run : List Token → Text
run ts = take (prefix_len is_ascii_alphanumeric (bytes ts)) (bytes ts)

-- whether such a run comes next, without quotes
unfoldable pub sees_run : List Token → Bool
sees_run ts = (sees kind.Word ts || sees kind.Number ts) && nat_lt 0 (length (run ts))

-- the one letter or digit that comes next, which is not taken yet; a run of more is left out by the profile
unfoldable pub one_character : Rule ℕ
one_character = λ ts.
    if sees_run ts then (if length (run ts) == 1 then Ok (slice_index (run ts) 0, ts) else Err (fault (cause.Unsupported (run ts)) (left ts))) else refuse ts

-- the one letter that comes next, which is not taken yet; a run of more letters or digits is left out by the profile
unfoldable pub one_letter : Rule ℕ
one_letter = λ ts. if sees_run ts && (nat_lt 1 (length (run ts)) || is_ascii_alphabetic (slice_index (run ts) 0)) then one_character ts else refuse ts

-- takes the letter or digit that comes next; what follows it in its token, as `_`, `.` or `[`, fits no rule
unfoldable pub single : Rule Text
single = λ ts. if length (bytes ts) == 1 then Ok (bytes ts, next ts) else Err (fault cause.Token (left ts - 1))

-- ---- times

-- the value of decimal digits behind a value
unfoldable pub number_from : ℕ → Text → ℕ
number_from value [] = value
number_from value (b ∷ digits) = number_from (value * 10 + (b - 48)) digits

-- takes a whole number below 10 ^ 9
unfoldable pub small_number : Rule ℕ
small_number = λ ts.
    if sees kind.Number ts then (if nat_lt (number_from 0 (bytes ts)) 1000000000 then Ok (number_from 0 (bytes ts), next ts) else refuse ts)
    else Err (mark_refusal ts)

-- takes a unit: how many picoseconds it has
unfoldable pub unit : Rule ℕ
unit = λ ts.
    if sees_word (codes "ns") ts then Ok (1000, next ts)
    else (if sees_word (codes "ps") ts then Ok (1, next ts) else Err (keyword_refusal ts))
