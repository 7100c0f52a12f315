-- What a look-up names.
use Rattle.std.specs.Prelude.{Option, None, Some}
use Rattle.dft_netlist.specs.declared.ids.NetId.{NetId}
use Rattle.dft_netlist.specs.declared.ids.InstanceId.{InstanceId}
use Rattle.dft_netlist.specs.declared.named.Named.{Named}
use Rattle.dft_netlist.specs.declared.named.Named.TheVariants.{Net, Vector, Instance as AnInstance}

-- the net that a look-up gives
abbrev pub net_in : Option Named → Option NetId
net_in None = None
net_in (Some (Net k)) = Some k
net_in (Some (Vector p)) = None
net_in (Some (AnInstance i)) = None

-- the instance that a look-up gives
abbrev pub instance_in : Option Named → Option InstanceId
instance_in None = None
instance_in (Some (Net k)) = None
instance_in (Some (Vector p)) = None
instance_in (Some (AnInstance i)) = Some i
