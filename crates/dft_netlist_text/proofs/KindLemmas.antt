-- Kinds of tokens.
use denote.Enum.Bare.{same_true}
use Rattle.std.proofs.Common.{List, rules, true, ◌≡◌}
use Rattle.dft_netlist_text.specs.Lexemes.{Token}
use Rattle.dft_netlist_text.specs.declared.text.TokenKind.{TokenKind}
use Rattle.dft_netlist_text.specs.Steps.{kind_of, same_kind, sees}
use Rattle.dft_netlist_text.specs.contracts.text.TokenKind.{the_type}

pub kinds_same : (a b : TokenKind) → same_kind a b ≡ true → a ≡ b
unfolding same_kind
kinds_same a b h = same_true the_type (search rules) a b h

pub kind_is : (k : TokenKind) (ts : List Token) → sees k ts ≡ true → kind_of ts ≡ k
unfolding sees same_kind
kind_is k ts h = same_true the_type (search rules) (kind_of ts) k h
