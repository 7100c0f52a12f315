use Rattle.dft_netlist.proofs.design.Design.module.Goals as goal

pub returns-clause-single : goal.returns-clause-single
returns-clause-single c = rw (← c.self.view_is) c.self.invariant.drivers.single
