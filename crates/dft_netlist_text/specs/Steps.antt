-- The steps of the rules of netlist texts. A rule looks at the next token; the first token that no rule takes is refused.
use Rattle.std.specs.Prelude.{ℕ, Bool, List, Ok, Err}
use denote.Enum.Bare.{sameb}
use Rattle.dft_base.specs.Lexing.{Text}
use Rattle.dft_base.specs.Parser as parser
unfoldable pub use Rattle.dft_lexing.specs.Steps.{bytes, left, next}
use Rattle.dft_lexing.specs.Steps as steps
use Rattle.dft_netlist_text.specs.contracts.text.TokenKind.{the_type}
use Rattle.dft_netlist_text.specs.declared.text.TokenKind.{TokenKind}
use Rattle.dft_netlist_text.specs.declared.text.TokenKind.TheVariants as kind
use Rattle.dft_netlist_text.specs.declared.text.Cause.{Cause}
use Rattle.dft_netlist_text.specs.declared.text.Cause.TheVariants as cause
use Rattle.dft_netlist_text.specs.declared.text.Fault.{Fault}
use Rattle.dft_netlist_text.specs.Lexemes.{Token}

-- what a rule gives: a value and the tokens after it, or a fault
abbrev pub Outcome : Type 0 → Type 0
Outcome A = parser.Outcome Token Fault A

-- a rule of netlist texts
abbrev pub Rule : Type 0 → Type 0
Rule A = parser.Parser Token Fault A

-- what the next token is; at the end of the text, the end
unfoldable pub kind_of : List Token → TokenKind
kind_of ts = steps.kind_or kind.End ts

-- whether two kinds are the same
unfoldable pub same_kind : TokenKind → TokenKind → Bool
same_kind = sameb the_type

-- whether a token of this kind comes next
unfoldable pub sees : TokenKind → List Token → Bool
sees k ts = same_kind (kind_of ts) k

-- why no rule takes a token of this kind: any word that is reserved, and any directive, is one that the profile leaves out
abbrev pub cause_of : TokenKind → Text → Cause
cause_of kind.Illegal word = cause.Byte
cause_of kind.Unclosed word = cause.Ended
cause_of kind.End word = cause.Ended
cause_of kind.Inout word = cause.Inout
cause_of kind.Module word = cause.Unsupported word
cause_of kind.Endmodule word = cause.Unsupported word
cause_of kind.Input word = cause.Unsupported word
cause_of kind.Output word = cause.Unsupported word
cause_of kind.Wire word = cause.Unsupported word
cause_of kind.Assign word = cause.Unsupported word
cause_of kind.And word = cause.Unsupported word
cause_of kind.Nand word = cause.Unsupported word
cause_of kind.Or word = cause.Unsupported word
cause_of kind.Nor word = cause.Unsupported word
cause_of kind.Xor word = cause.Unsupported word
cause_of kind.Xnor word = cause.Unsupported word
cause_of kind.Buf word = cause.Unsupported word
cause_of kind.Not word = cause.Unsupported word
cause_of kind.Reserved word = cause.Unsupported word
cause_of kind.Directive word = cause.Unsupported word
cause_of _ word = cause.Token

-- a fault at a place
abbrev pub fault : Cause → ℕ → Fault
fault why place = record { cause = why; left = place }

-- no rule takes the next token
unfoldable pub refusal : List Token → Fault
refusal ts = fault (cause_of (kind_of ts) (bytes ts)) (left ts)

-- the rule that takes no token
abbrev pub refuse : {A : Type 0} → Rule A
refuse = λ ts. Err (refusal ts)

-- takes a token of this kind, which must come next
unfoldable pub expect : TokenKind → Rule Text
expect k = steps.take_if (sees k) refusal

-- the tokens behind a token of this kind, if it comes next
unfoldable pub after : TokenKind → List Token → List Token
after k ts = steps.behind_if (sees k) ts

-- takes a token of this kind, if it comes next
abbrev pub eat : TokenKind → Rule Bool
eat k = λ ts. Ok (sees k ts, after k ts)

-- what must hold, or else a meaning is refused at this place
abbrev pub needed : {A : Type 0} → Cause → ℕ → Bool → Rule A → Rule A
needed why place = steps.needed (fault why place)

-- what a check gives, or its fault
abbrev pub checked : {A : Type 0} → parser.Checked Fault A → Rule A
checked = steps.checked
