-- What is asked of a design and of a scanned netlist.
use Rattle.std.specs.Prelude.{ℕ, ◌<◌, ◌≡◌, List, length, None}
use Rattle.dft_cells.specs.WellFormed.{IsWellFormed}
use Rattle.dft_netlist.specs.Netlist.{Netlist}
use Rattle.dft_netlist.specs.NetDrivers.{IsSingle}
use Rattle.dft_netlist.specs.Orders.{IsOrder, IsOrderable}
use Rattle.dft_netlist.specs.Sound.{IsNetlist}
use Rattle.dft_config.specs.Config.{Config}
use Rattle.dft_config.specs.Range.{IsInRange}
use Rattle.dft_rules.specs.Refusals as rules

-- a finished design that the scan rules pass
pub record IsReady (n : Netlist) (config : Config) : Type 0 where
  pub netlist : IsNetlist n
  pub library : IsWellFormed n.library
  pub single : IsSingle n
  pub order : List ℕ
  pub ordered : IsOrder n order
  pub range : IsInRange config
  pub passed : rules.refusal n config ≡ None

-- no net has two drivers, and every net can be ordered
pub record CanFinish (n : Netlist) : Type 0 where
  pub single : IsSingle n
  pub orderable : (net : ℕ) → net < length n.nets → IsOrderable n net
