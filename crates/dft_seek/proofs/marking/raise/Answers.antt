-- The net was not marked.
use Rattle.dft_seek.proofs.MarkLemmas.{raise_one}
use Rattle.dft_seek.proofs.marking.raise.Goals as goal

pub returns : goal.returns
returns c = raise_one c.args.marked.now c.args.net.0 c.if-net-marked.false c.if-marked-net.false
