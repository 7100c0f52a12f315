-- Nets that are there.
use Rattle.std.specs.Prelude.{◌<◌, List, length}
use Rattle.std.specs.List.{All}
use Rattle.dft_netlist.specs.declared.ids.NetId.{NetId}
use Rattle.dft_netlist.specs.Netlist.{Netlist}
use Rattle.dft_parts.specs.declared.edt_ports.EdtPorts.{EdtPorts}
use Rattle.dft_parts.specs.Recipes.{AreThere}
use Rattle.dft_edt.specs.declared.mask_nets.MaskNets.{MaskNets}

-- the nets of a chain's mask bit and hold bit are there
pub record IsMade (n : Netlist) (nets : MaskNets) : Type 0 where
  pub mask : nets.mask.0 < length n.nets
  pub hold : nets.hold.0 < length n.nets

abbrev pub AreMade : Netlist → List MaskNets → Type 0
AreMade n masks = All (IsMade n) masks

-- the ports that masks stand between are there, and `run`
pub record PortsThere (n : Netlist) (ports : EdtPorts) (run : NetId) : Type 0 where
  pub clock : ports.edt_clock.0 < length n.nets
  pub update : ports.edt_update.0 < length n.nets
  pub masks : AreThere n ports.masks
  pub outputs : AreThere n ports.outputs
  pub inverse : run.0 < length n.nets
