use Rattle.std.proofs.Common.{map, arith}
use Rattle.std.proofs.lemmas.List.{length-map}
use Rattle.dft_report_reader.proofs.HeardLemmas.{edge_many}
use Rattle.dft_report_reader.proofs.heard.edge_of.Goals as goal

pub returns-in_default : goal.returns-in_default
returns-in_default c = edge_many (map (λ word. word.now) c.args.words.now) (omega (arith, c.in_default.len_at_least, length-map c.args.words.now (λ word. word.now)))
