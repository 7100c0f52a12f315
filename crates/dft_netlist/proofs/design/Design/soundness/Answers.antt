use Rattle.std.proofs.Common.{refl}
use Rattle.dft_netlist.specs.Orders.{numbers_of}
use Rattle.dft_netlist.proofs.StandLemmas.{order_orderable}
use Rattle.dft_netlist.proofs.design.Design.soundness.Goals as goal

pub returns-clause-single : goal.returns-clause-single
returns-clause-single c = rw (← c.self.view_is) c.self.invariant.drivers.single

pub returns-clause-ordered : goal.returns-clause-ordered
returns-clause-ordered c = rw (← c.self.view_is) (record { order = numbers_of c.self.inside.order.items; is = c.self.invariant.ordered })

pub returns-clause-finished : goal.returns-clause-finished
returns-clause-finished c = rw (← c.self.view_is) (record { same = refl; single = c.self.invariant.drivers.single; orderable = order_orderable _ _ c.self.invariant.ordered })
