use Rattle.dft_stil.proofs.ReaderLemmas.{lengths_read, few_read}
use Rattle.dft_stil.proofs.reader.patterns.Goals as goal

pub returns-clause-lengths : goal.returns-clause-lengths
returns-clause-lengths c = lengths_read _ _ _ _ c.pattern_text.result c.new.ensures c.pattern_text.ensures

pub returns-clause-few : goal.returns-clause-few
returns-clause-few c = few_read _ _ _ _ c.pattern_text.result c.new.ensures c.pattern_text.ensures
