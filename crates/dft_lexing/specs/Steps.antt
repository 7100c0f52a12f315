-- What a rule sees of the tokens ahead, and how it refuses them. The kinds of tokens and the faults are each reader's own.
use Rattle.std.specs.Prelude.{ℕ, Bool, true, false, if◌then◌else◌, List, [], ◌∷◌, Ok, Err}
use Rattle.dft_base.specs.Lexing.{Text, Token}
use Rattle.dft_base.specs.Parser as parser

-- what the next token is; at the end of the text, this kind
abbrev pub kind_or : {Kind : Type 0} → Kind → List (Token Kind) → Kind
kind_or end [] = end
kind_or end (t ∷ ts) = t.kind

-- the bytes of the next token
unfoldable pub bytes : {Kind : Type 0} → List (Token Kind) → Text
bytes [] = []
bytes (t ∷ ts) = t.bytes

-- how many bytes there are from the next token's place on
unfoldable pub left : {Kind : Type 0} → List (Token Kind) → ℕ
left [] = 0
left (t ∷ ts) = t.left

-- the tokens behind the next one
unfoldable pub next : {Kind : Type 0} → List (Token Kind) → List (Token Kind)
next [] = []
next (t ∷ ts) = ts

-- takes the next token, for which this test must hold, or else it is refused
abbrev pub take_if : {Kind Fault : Type 0} → (List (Token Kind) → Bool) → (List (Token Kind) → Fault) → parser.Parser (Token Kind) Fault Text
take_if test refusal = λ ts. if test ts then Ok (bytes ts, next ts) else Err (refusal ts)

-- the tokens behind the next one, if this test holds for it
abbrev pub behind_if : {Kind : Type 0} → (List (Token Kind) → Bool) → List (Token Kind) → List (Token Kind)
behind_if test ts = if test ts then next ts else ts

-- what must hold, or else a meaning is refused with this fault
abbrev pub needed : {Token Fault A : Type 0} → Fault → Bool → parser.Parser Token Fault A → parser.Parser Token Fault A
needed fault true rule = rule
needed fault false rule = λ ts. Err fault

-- what a check gives, or its fault
abbrev pub checked : {Token Fault A : Type 0} → parser.Checked Fault A → parser.Parser Token Fault A
checked (Ok a) = parser.pure a
checked (Err f) = λ ts. Err f
