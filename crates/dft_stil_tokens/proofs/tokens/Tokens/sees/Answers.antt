use Rattle.std.proofs.Common.{sym, ◌∙◌, ap, rules}
use denote.Enum.Bare.{same_true}
use Rattle.dft_stil_tokens.specs.contracts.text.TokenKind.{the_type}
use Rattle.dft_stil_tokens.specs.Cut.{carries_name}
use Rattle.dft_stil_tokens.proofs.tokens.Tokens.sees.Goals as goal

pub returns-clause-name : goal.returns-clause-name
returns-clause-name c = λ found carries. c.kind.ensures.name (ap carries_name (same_true the_type (search rules) _ _ (sym c.eq.ensures ∙ found)) ∙ carries)
