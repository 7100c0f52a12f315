-- What holds of every design with a stuck net, and of every fault that is listed.
use Rattle.std.specs.Prelude.{ℕ, ◌≡◌, ◌<◌, ◌==◌, Bool, List, Some, length, slice_get, if◌then◌else◌}
use Rattle.dft_netlist.specs.Netlist.{Netlist}
use Rattle.dft_netlist.specs.Drivers.{Driver, Joined, Tied, driver, IsOrdered}
use Rattle.dft_netlist.specs.NetDrivers.{IsSingle}
use Rattle.dft_netlist.specs.Orders.{IsOrderable}
use Rattle.dft_scan_frame.specs.Statements.{CanFinish}
use Rattle.dft_faults.specs.declared.fault.Fault.{Fault}
use Rattle.dft_faults.specs.Faulty.{faulty, IsFault}
use Rattle.dft_faults.specs.Faults.{faults}

-- The stuck net has the constant, and every other net has the driver that it had. A gate's inputs, a flip-flop and a lock-up stay what they were.
abbrev pub DriversStay : Type 0
DriversStay = (n : Netlist) (f : Fault) (net : ℕ) → IsFault n f → driver (faulty n f) net ≡ (if net == f.net.0 then Joined (Tied f.value) else driver n net)

-- No net of a design with a stuck net has two drivers, and every net can be ordered: it is never refused.
abbrev pub FaultyCanFinish : Type 0
FaultyCanFinish =
    (n : Netlist) (f : Fault) → IsFault n f → IsSingle n → ((net : ℕ) → net < length n.nets → IsOrderable n net) → CanFinish (faulty n f)

-- An order of the design's nets is one of the design with a stuck net.
abbrev pub OrderStays : Type 0
OrderStays = (n : Netlist) (f : Fault) (rank : ℕ → ℕ) → IsFault n f → IsOrdered n rank → IsOrdered (faulty n f) rank

-- Each fault that is listed is one.
abbrev pub ListedAreFaults : Type 0
ListedAreFaults = (n : Netlist) (is_clock : ℕ → Bool) (place : ℕ) (f : Fault) → slice_get (faults n is_clock) place ≡ Some f → IsFault n f
