use Rattle.std.proofs.Common.{sym}
use Rattle.dft_netlist.proofs.NamesLemmas.{named_of}
use Rattle.dft_netlist.proofs.design.Design.named.Goals as goal

pub returns : goal.returns
returns c = rw (← c.self.view_is) (named_of _ _ c.args.name.now c.get.result c.self.invariant.table (sym c.get.ensures))
