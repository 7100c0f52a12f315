-- Laws of designs: an order gives one settled assignment, and walks find the roots.
use Rattle.std.specs.Prelude.{ℕ, Bool, false, not, ◌≡◌, Some, if◌then◌else◌}
use Rattle.dft_cells.specs.declared.kind.Role.TheVariants as role
use Rattle.dft_netlist.specs.Netlist.{Netlist}
use Rattle.dft_netlist.specs.Drivers.{Source, pins_of, IsOrdered}
use Rattle.dft_behavior.specs.Traces.{Root, Port, Constant, Traces, root_of}
use Rattle.dft_behavior.specs.ClockRoots.{ClockRoot, ClockRooted, clock_root_of}
use Rattle.dft_netlist.specs.Connections.{pin_of}
use Rattle.dft_behavior.specs.Logic.{Logic, Ports, Lockup, logic_of, IsRanked}
use Rattle.dft_behavior.specs.Settled.{Sources, bit_from, IsSettled}

-- An order of a design's nets is one of what they mean, whatever its clock and reset ports.
abbrev pub OrderIsRank : Type 0
OrderIsRank = (n : Netlist) (ports : Ports) (rank : ℕ → ℕ) → IsOrdered n rank → IsRanked (logic_of n ports) rank

-- There is exactly one settled assignment.
abbrev pub SettledIsOne : Type 0
SettledIsOne = (l : Logic) (rank : ℕ → ℕ) (s : Sources) → IsRanked l rank →
    (bits : ℕ → Bool) × (IsSettled l s bits × ((others : ℕ → Bool) → IsSettled l s others → (net : ℕ) → others net ≡ bits net))

-- The walk back gives the root that a source traces to, and a root that it gives is one.
abbrev pub WalkFindsRoot : Type 0
WalkFindsRoot = (n : Netlist) (rank : ℕ → ℕ) (source : Source) (root : Root) → IsOrdered n rank → Traces n source root → root_of n source ≡ root

abbrev pub PortIsFound : Type 0
PortIsFound = (n : Netlist) (source : Source) (net : ℕ) → root_of n source ≡ Port net → Traces n source (Port net)

abbrev pub ConstantIsFound : Type 0
ConstantIsFound = (n : Netlist) (source : Source) (bit : Bool) → root_of n source ≡ Constant bit → Traces n source (Constant bit)

-- What traces to a port has the port's bit, and what traces to a constant is it.
abbrev pub TracedBit : Type 0
TracedBit = (n : Netlist) (ports : Ports) (s : Sources) (bits : ℕ → Bool) (source : Source) (net : ℕ) → IsSettled (logic_of n ports) s bits → Traces n source (Port net) → bit_from s bits source ≡ bits net

abbrev pub TracedConstant : Type 0
TracedConstant = (n : Netlist) (ports : Ports) (s : Sources) (bits : ℕ → Bool) (source : Source) (bit : Bool) → IsSettled (logic_of n ports) s bits → Traces n source (Constant bit) → bit_from s bits source ≡ bit

-- The walk back gives the clock that a source shows, and a clock that it gives is shown.
abbrev pub WalkFindsClock : Type 0
WalkFindsClock = (n : Netlist) (rank : ℕ → ℕ) (source : Source) (port : ℕ) (inverted : Bool) → IsOrdered n rank → ClockRooted n source port inverted → clock_root_of n source ≡ Some (record { port = port; inverted = inverted })

abbrev pub ClockIsFound : Type 0
ClockIsFound = (n : Netlist) (source : Source) (root : ClockRoot) → clock_root_of n source ≡ Some root → ClockRooted n source root.port root.inverted

-- What shows a clock has the port's bit or its inverse.
abbrev pub ClockBit : Type 0
ClockBit = (n : Netlist) (ports : Ports) (s : Sources) (bits : ℕ → Bool) (source : Source) (port : ℕ) (inverted : Bool) → IsSettled (logic_of n ports) s bits → ClockRooted n source port inverted →
    bit_from s bits source ≡ (if inverted then not (bits port) else bits port)

-- A lock-up on a clock port shows its input while the net at its clock pin is 0, and what it holds while that is 1, be that clock inverted or not.
abbrev pub LockupByPin : Type 0
LockupByPin =
    (n : Netlist) (ports : Ports) (s : Sources) (bits : ℕ → Bool) (net c e : ℕ) (high : Bool) (source : Source) → IsSettled (logic_of n ports) s bits → (logic_of n ports).net net ≡ Lockup c e high source →
    (pin : Source) × (pin_of role.Clock c (pins_of n c) ≡ Some pin) × (bits net ≡ (if bit_from s bits pin then s.flops c else bit_from s bits source))

-- What traces to a port shows it.
abbrev pub TracedIsClock : Type 0
TracedIsClock = (n : Netlist) (source : Source) (port : ℕ) → root_of n source ≡ Port port → clock_root_of n source ≡ Some (record { port = port; inverted = false })
