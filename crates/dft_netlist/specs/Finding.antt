-- What drives each net, as a list by the numbers of the nets.
use Rattle.std.specs.Prelude.{ℕ, ◌≡◌, Some, List, length, slice_get}
use Rattle.dft_netlist.specs.declared.net_driver.NetDriver.{NetDriver}
use Rattle.dft_netlist.specs.Netlist.{Netlist}
use Rattle.dft_netlist.specs.Drivers.{driver}
use Rattle.dft_netlist.specs.NetDrivers.{IsSingle, driver_at, Drives}

-- no net has two drivers, and these are what drives the nets
pub record AreDrivers (n : Netlist) (found : List NetDriver) : Type 0 where
  pub single : IsSingle n
  pub covered : length found ≡ length n.nets
  pub driven : (net : ℕ) (by : NetDriver) → slice_get found net ≡ Some by → driver n net ≡ driver_at n by
  pub drives : (net : ℕ) (by : NetDriver) → slice_get found net ≡ Some by → Drives n by net
