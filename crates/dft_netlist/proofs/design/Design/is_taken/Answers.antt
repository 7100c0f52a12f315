use Rattle.std.proofs.Common.{sym, ◌∙◌}
use Rattle.dft_netlist.proofs.NamesLemmas.{taken_of}
use Rattle.dft_netlist.proofs.design.Design.is_taken.Goals as goal

pub returns : goal.returns
returns c = rw (← c.self.view_is) (c.is_some.ensures ∙ sym (taken_of _ _ c.args.name.now c.get.result c.self.invariant.table (sym c.get.ensures)))
