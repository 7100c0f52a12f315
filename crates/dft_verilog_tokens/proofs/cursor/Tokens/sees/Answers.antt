use Rattle.std.proofs.Common.{sym, ◌∙◌, rules}
use denote.Enum.Bare.{same_true}
use Rattle.dft_netlist_text.specs.contracts.text.TokenKind.{the_type}
use Rattle.dft_verilog_tokens.proofs.cursor.Tokens.sees.Goals as goal

pub returns-clause-name : goal.returns-clause-name
returns-clause-name c = λ found is. c.kind.ensures.name (same_true the_type (search rules) _ _ (sym c.eq.ensures ∙ found) ∙ is)
