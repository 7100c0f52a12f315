use Rattle.dft_netlist_text.specs.declared.text.TokenKind.TheVariants as kind
use Rattle.dft_verilog_tokens.proofs.ClassLemmas.{mark_kinds-at}
use Rattle.dft_verilog_tokens.proofs.classes.lone_mark_kind.Goals as goal

pub returns-clause-value : goal.returns-clause-value
returns-clause-value c = mark_kinds-at c.args.byte kind.Name c.requires
