use Rattle.std.proofs.Common.{map, arith}
use Rattle.std.proofs.lemmas.List.{length-map}
use Rattle.dft_report_reader.proofs.HeardLemmas.{load_one}
use Rattle.dft_report_reader.proofs.heard.load_by.Goals as goal

pub returns-in_default-clause-said : goal.returns-in_default-clause-said
returns-in_default-clause-said c =
    load_one c.args.cells.now c.args.chains.now (map (λ word. word.now) c.args.words.now)
    (omega (arith, c.in_default.len_at_least, length-map c.args.words.now (λ word. word.now))) (omega (arith, c.in_default.len_below, length-map c.args.words.now (λ word. word.now)))
