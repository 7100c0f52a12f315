-- What the code's tokens are in the words of the definitions.
use Rattle.std.specs.Prelude.{Bool, true, false}
use Rattle.dft_stil_tokens.specs.Lexemes as spec
use Rattle.dft_stil_tokens.specs.declared.text.TokenKind.{TokenKind}
use Rattle.dft_stil_tokens.specs.declared.text.TokenKind.TheVariants as kind
use Rattle.dft_stil_tokens.specs.declared.lexeme.Lexeme as code

-- a token in front as the definitions have it
abbrev pub shown : code.Lexeme → spec.Lexeme
shown l = record { kind = l.kind; len = l.len; prefix = l.prefix; end = l.end; at = l.at }

-- whether the bytes of such a token are printed, and some
abbrev pub carries_name : TokenKind → Bool
carries_name kind.Text = false
carries_name kind.Illegal = false
carries_name kind.Unclosed = false
carries_name kind.End = false
carries_name _ = true
