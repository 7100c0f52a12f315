-- What a `DesignBuilder` shows, and what holds of it.
use Rattle.dft_netlist.specs.declared.builder.DesignBuilder.TheInside.{Inside}
use Rattle.dft_netlist.specs.Netlist.{Netlist}
use Rattle.dft_netlist.specs.Sound.{IsNetlist}
use Rattle.dft_netlist.specs.NameTables.{Knows}

-- the netlist so far
abbrev pub netlist_so_far : Inside → Netlist
netlist_so_far b = record { name = b.name; library = b.library; ports = b.ports.items; nets = b.table.nets; instances = b.instances.items; joins = b.joins.items }

-- it is sound, and the table knows its names
pub record IsBuilder (b : Inside) : Type 0 where
  pub netlist : IsNetlist (netlist_so_far b)
  pub table : Knows b.table.entries (netlist_so_far b)
