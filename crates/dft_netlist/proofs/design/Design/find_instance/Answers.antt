use Rattle.std.proofs.Common.{sym, ◌∙◌}
use Rattle.dft_netlist.proofs.FindLemmas.{instance_found}
use Rattle.dft_netlist.proofs.design.Design.find_instance.Goals as goal

pub returns : goal.returns
returns c = rw (← c.self.view_is) (c.instance_of.ensures ∙ instance_found _ _ c.args.name.now c.get.result c.self.invariant.table (sym c.get.ensures))
