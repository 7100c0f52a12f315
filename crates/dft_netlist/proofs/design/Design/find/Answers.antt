use Rattle.std.proofs.Common.{sym, ◌∙◌}
use Rattle.dft_netlist.proofs.FindLemmas.{net_found}
use Rattle.dft_netlist.proofs.design.Design.find.Goals as goal

pub returns : goal.returns
returns c = rw (← c.self.view_is) (c.net_of.ensures ∙ net_found _ _ c.args.name.now c.get.result c.self.invariant.table (sym c.get.ensures))
