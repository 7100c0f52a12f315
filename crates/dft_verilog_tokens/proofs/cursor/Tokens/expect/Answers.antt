use Rattle.std.proofs.Common.{sym, subst}
use Rattle.dft_base.specs.Lexing.{Text}
use Rattle.dft_base.specs.Name.{IsName}
use Rattle.dft_verilog_tokens.proofs.cursor.Tokens.expect.Goals as goal

pub returns-then-sees-clause-name : goal.returns-then-sees-clause-name
returns-then-sees-clause-name c = λ is. subst (λ (bytes : Text). IsName bytes) (sym c.take.ensures.bytes) (c.sees.ensures.name c.if-sees.true is)
