use Rattle.dft_merge.proofs.WordLemmas.{read_bit}
use Rattle.dft_merge.proofs.fills.bit_of_column.Goals as goal

pub returns : goal.returns
returns c = read_bit c.args.words.now c.args.column
