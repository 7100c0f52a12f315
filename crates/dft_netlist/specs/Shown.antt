-- What a `Design` shows, and what holds of it.
use Rattle.dft_netlist.specs.declared.design.Design.TheInside.{Inside}
use Rattle.dft_netlist.specs.Netlist.{Netlist}
use Rattle.dft_netlist.specs.Finding.{AreDrivers}
use Rattle.dft_netlist.specs.Orders.{IsOrder, numbers_of}
use Rattle.dft_netlist.specs.Sound.{IsNetlist}
use Rattle.dft_netlist.specs.NameTables.{Knows}

-- the netlist of a design
abbrev pub netlist_of : Inside → Netlist
netlist_of d = record { name = d.name; library = d.library; ports = d.ports.items; nets = d.table.nets; instances = d.instances.items; joins = d.joins.items }

-- it is sound, each net has one driver at most, which is at hand, and an order is there
pub record IsDesign (d : Inside) : Type 0 where
  pub netlist : IsNetlist (netlist_of d)
  pub table : Knows d.table.entries (netlist_of d)
  pub drivers : AreDrivers (netlist_of d) d.drivers.items
  pub ordered : IsOrder (netlist_of d) (numbers_of d.order.items)
