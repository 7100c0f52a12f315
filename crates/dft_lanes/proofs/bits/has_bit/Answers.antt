use Rattle.dft_lanes.proofs.RowLemmas.{read}
use Rattle.dft_lanes.proofs.bits.has_bit.Goals as goal

pub returns : goal.returns
returns c = read c.args.row.now c.args.place
