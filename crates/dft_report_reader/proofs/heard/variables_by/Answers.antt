use Rattle.std.proofs.Common.{map, arith}
use Rattle.std.proofs.lemmas.List.{length-map}
use Rattle.dft_report_reader.proofs.HeardLemmas.{variables_few, variables_many}
use Rattle.dft_report_reader.proofs.heard.variables_by.Goals as goal

pub returns-in_default-clause-said : goal.returns-in_default-clause-said
returns-in_default-clause-said c =
    variables_few c.args.cells.now c.args.chains.now c.args.cycles.now (map (λ word. word.now) c.args.words.now) (omega (arith, c.in_default.len_below, length-map c.args.words.now (λ word. word.now)))

pub returns-in-len3-up-clause-said : goal.returns-in-len3-up-clause-said
returns-in-len3-up-clause-said c =
    variables_many c.args.cells.now c.args.chains.now c.args.cycles.now (map (λ word. word.now) c.args.words.now) (omega (arith, c.in-len3-up.len_at_least, length-map c.args.words.now (λ word. word.now)))
