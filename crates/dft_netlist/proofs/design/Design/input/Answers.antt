use Rattle.std.proofs.Common.{◌∙◌, sym}
use Rattle.dft_netlist.proofs.LookUpLemmas.{net_there}
use Rattle.dft_netlist.proofs.design.Design.input.Goals as goal

pub driver-requires : goal.driver-requires
driver-requires c = net_there c.args.self.now c.args.name.now c.in_ok-net.net (sym c.find.ensures ∙ c.in_ok-net.was)

pub returns-in-Input-clause-live : goal.returns-in-Input-clause-live
returns-in-Input-clause-live c = net_there c.args.self.now c.args.name.now c.in_ok-net.net (sym c.find.ensures ∙ c.in_ok-net.was)
