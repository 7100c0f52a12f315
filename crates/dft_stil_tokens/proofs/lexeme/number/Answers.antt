use Rattle.std.proofs.Common.{take, subst, sym, ap, ◌∙◌}
use Rattle.dft_base.specs.Name.{IsName}
use Rattle.dft_stil_tokens.specs.Lexemes.{Lexeme}
use Rattle.dft_stil_tokens.proofs.NameBytes.{number_is_name}
use Rattle.dft_stil_tokens.proofs.lexeme.number.Goals as goal

pub returns-clause-name : goal.returns-clause-name
returns-clause-name c = λ some begins.
    subst (λ n. IsName (take n c.args.text.now)) (sym (ap (λ (l : Lexeme). l.len) c.plain.ensures ∙ c.number_len.ensures.value)) (number_is_name c.args.quoted c.args.text.now some begins)
