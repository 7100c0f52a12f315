-- What the code's tokens are in the words of the definitions.
use Rattle.std.specs.Prelude.{Bool, true, false}
use Rattle.dft_netlist_text.specs.Lexemes as spec
use Rattle.dft_netlist_text.specs.declared.text.TokenKind.{TokenKind}
use Rattle.dft_netlist_text.specs.declared.text.TokenKind.TheVariants as kind
use Rattle.dft_verilog_tokens.specs.declared.lexeme.Lexeme as code

-- a token in front as the definitions have it
abbrev pub shown : code.Lexeme → spec.Lexeme
shown l = record { kind = l.kind; len = l.len; prefix = l.prefix; at = l.at }

-- whether the bytes of such a token are a name, as those of words, directives and digits are
abbrev pub carries_name : TokenKind → Bool
carries_name kind.Number = false
carries_name kind.Base = false
carries_name kind.OpenParen = false
carries_name kind.CloseParen = false
carries_name kind.Comma = false
carries_name kind.Semicolon = false
carries_name kind.Point = false
carries_name kind.Equals = false
carries_name kind.OpenBracket = false
carries_name kind.CloseBracket = false
carries_name kind.Colon = false
carries_name kind.OpenBrace = false
carries_name kind.CloseBrace = false
carries_name kind.Other = false
carries_name kind.Illegal = false
carries_name kind.Unclosed = false
carries_name kind.End = false
carries_name _ = true
