use Rattle.std.proofs.Common.{take, subst, sym, ap, ◌∙◌}
use Rattle.dft_base.specs.Name.{IsName}
use Rattle.dft_netlist_text.specs.Lexemes.{Lexeme}
use Rattle.dft_verilog_tokens.proofs.NameLemmas.{digits_are_name}
use Rattle.dft_verilog_tokens.proofs.lexeme.digits.Goals as goal

pub returns-clause-name : goal.returns-clause-name
returns-clause-name c = λ some begins.
    subst (λ n. IsName (take n c.args.text.now)) (sym (ap (λ (l : Lexeme). l.len) c.plain.ensures ∙ c.word_bytes.ensures.value)) (digits_are_name c.args.text.now some begins)
