use Rattle.std.proofs.Common.{sym, ◌∙◌}
use Rattle.dft_cubes.proofs.NameLemmas.{names_there}
use Rattle.dft_cubes.proofs.reader.take_line.Goals as goal

pub said_by-requires-clause-names : goal.said_by-requires-clause-names
said_by-requires-clause-names c = names_there c.args.line.now c.args.words.now c.requires.within (sym c.are_printed.ensures ∙ c.if-not-are_printed.false)
