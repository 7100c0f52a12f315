-- Nets that are there.
use Rattle.std.specs.Prelude.{◌<◌, ◌≡◌, length}
use Rattle.dft_netlist.specs.Netlist.{Netlist}
use Rattle.dft_config.specs.Config.{Config}
use Rattle.dft_parts.specs.declared.edt_ports.EdtPorts.{EdtPorts}
use Rattle.dft_parts.specs.Recipes.{AreThere}

-- the ports of style Edt are there, as many as configured
pub record EdtThere (n : Netlist) (config : Config) (ports : EdtPorts) : Type 0 where
  pub clock : ports.edt_clock.0 < length n.nets
  pub update : ports.edt_update.0 < length n.nets
  pub channels : AreThere n ports.channels
  pub masks : AreThere n ports.masks
  pub outputs : AreThere n ports.outputs
  pub channel_count : length ports.channels ≡ config.ring.channels
  pub mask_count : length ports.masks ≡ config.compactor.mask_inputs
  pub output_count : length ports.outputs ≡ length config.compactor.groups
