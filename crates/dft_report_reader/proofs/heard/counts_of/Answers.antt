use Rattle.std.proofs.Common.{map, arith}
use Rattle.std.proofs.lemmas.List.{length-map}
use Rattle.dft_report_reader.proofs.HeardLemmas.{counts_few}
use Rattle.dft_report_reader.proofs.heard.counts_of.Goals as goal

pub returns-in_default-clause-said : goal.returns-in_default-clause-said
returns-in_default-clause-said c = counts_few (map (λ word. word.now) c.args.words.now) (omega (arith, c.in_default.len_below, length-map c.args.words.now (λ word. word.now)))
