-- Laws of designs: their drivers and their orders.
use Rattle.std.specs.Prelude.{ℕ, ◌≡◌, ◌<◌, List, Some, slice_get, length}
use Rattle.dft_netlist.specs.Netlist.{Netlist}
use Rattle.dft_netlist.specs.Drivers.{Driven, driver, all_driven, IsOrdered}
use Rattle.dft_netlist.specs.NetDrivers.{IsSingle}
use Rattle.dft_netlist.specs.Orders.{IsOrder, IsOrderable}
use Rattle.dft_netlist.specs.Sound.{IsNetlist}

-- Where no net has two drivers, whatever is listed as a net's driver drives it.
abbrev pub ListedDrives : Type 0
ListedDrives = (n : Netlist) (place : ℕ) (driven : Driven) → IsSingle n → slice_get (all_driven n) place ≡ Some driven → driver n driven.0 ≡ driven.1

-- An order of a netlist's nets ranks them.
abbrev pub OrderRanks : Type 0
OrderRanks = (n : Netlist) (order : List ℕ) → IsNetlist n → IsOrder n order → (rank : ℕ → ℕ) × IsOrdered n rank

-- Every net of an order can be ordered.
abbrev pub OrderedIsOrderable : Type 0
OrderedIsOrderable = (n : Netlist) (order : List ℕ) → IsOrder n order → (net : ℕ) → net < length n.nets → IsOrderable n net
