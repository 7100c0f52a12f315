use Rattle.std.proofs.Common.{rules, tests}
use Rattle.std.proofs.lemmas.Iterator.Consumers.{map_from_collect}
use Rattle.std.proofs.lemmas.Iterator.Splits.{YieldsList-from_slice_split}
use Rattle.dft_report_reader.proofs.ReadingLemmas.{lines_some, lines_few}
use Rattle.dft_report_reader.proofs.words.lines_of.Goals as goal

pub returns-clause-lines : goal.returns-clause-lines
returns-clause-lines c = map_from_collect _ c.collect.ensures.ran (YieldsList-from_slice_split _ _ c.args.text.now c.split.ensures.rest c.split.ensures.done c.split.ensures.closure (λ x r q k. search (rules, tests)))

pub returns-clause-some : goal.returns-clause-some
returns-clause-some c = lines_some (λ line. line.now) (λ lines. lines.items) c.args.text.now c.collect.result (returns-clause-lines c)

pub returns-clause-few : goal.returns-clause-few
returns-clause-few c = lines_few (λ line. line.now) (λ lines. lines.items) c.args.text.now c.collect.result (returns-clause-lines c)
