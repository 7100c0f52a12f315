use Rattle.dft_netlist.proofs.StandLemmas.{order_orderable}
use Rattle.dft_netlist.proofs.builder.DesignBuilder.finish.Goals as goal

pub returns-clause-ok : goal.returns-clause-ok
returns-clause-ok c = record {
  same = c.self.view_is;
  single = c.in_ok-drivers.ensures.ok.single;
  orderable = order_orderable _ _ c.in_ok-order.ensures.ok;
}
