-- The clocks that sources show, and the bits there.
use Rattle.std.proofs.Common.{ℕ, Bool, true, false, Some, ◌≡◌, refl, ap}
use Rattle.dft_netlist.specs.Netlist.{Netlist}
use Rattle.dft_netlist.specs.Drivers.{Source, Input, driver}
use Rattle.dft_behavior.specs.NetRoots.{NetRoot, Port, Constant, Other, turned_root, Rooted, AtPort, AtConstant, AtTie, ThroughGate, ThroughJoin, net_root_of}
use Rattle.dft_behavior.specs.Traces.{straight_root}
use Rattle.dft_behavior.specs.Traces as traces
use Rattle.dft_behavior.specs.ClockRoots.{ClockRoot, ClockRooted, clock_of}
use Rattle.dft_behavior.specs.Laws.{WalkFindsClock, ClockIsFound, ClockBit, TracedIsClock}
use Rattle.dft_behavior.proofs.Walks.{IsRoot, root_finds, root_found, rooted_bit}

pub walk_finds_clock : WalkFindsClock
walk_finds_clock n rank source port inverted order rooted = ap clock_of (root_finds n rank source (Port port inverted rooted.straight) order rooted.rooted)

-- ---- a clock that the walk gives is shown

by_root : (n : Netlist) (source : Source) (whole : NetRoot) (root : ClockRoot) → (IsRoot whole → Rooted n source whole) → clock_of whole ≡ Some root → ClockRooted n source root.port root.inverted
by_root n source (Port net inverted straight) root rooted is =
    let port : net ≡ root.port = cc in
    let turned : inverted ≡ root.inverted = cc in
    record { straight = straight; rooted = rw (← port, ← turned) (rooted tt) }
by_root n source (Constant bit) root rooted is = absurd cc
by_root n source Other root rooted is = absurd cc

pub clock_found : ClockIsFound
clock_found n source root is = by_root n source (net_root_of n source) root (root_found n source (net_root_of n source) refl) is

-- the port that a root is at
abbrev PortDriven : Netlist → NetRoot → Type 0
PortDriven n (Port net inverted straight) = driver n net ≡ Input
PortDriven n (Constant bit) = Unit {0}
PortDriven n Other = Unit {0}

turned_driven : (n : Netlist) (turns : Bool) (root : NetRoot) → PortDriven n root → PortDriven n (turned_root turns root)
turned_driven n false root is = is
turned_driven n true (Port net inverted straight) is = is
turned_driven n true (Constant bit) is = tt
turned_driven n true Other is = tt

port_driven : (n : Netlist) (source : Source) (root : NetRoot) → Rooted n source root → PortDriven n root
port_driven n source root (AtPort is) = is
port_driven n source root AtConstant = tt
port_driven n source root (AtTie is passes) = tt
port_driven n source root (ThroughGate {source = from} {turns = turns} {root = far} is passes rest) = turned_driven n turns far (port_driven n from far rest)
port_driven n source root (ThroughJoin {source = from} is rest) = port_driven n from root rest

-- the port that a clock comes from
pub clock_driven : (n : Netlist) {source : Source} {port : ℕ} {inverted : Bool} → ClockRooted n source port inverted → driver n port ≡ Input
clock_driven n {source = source} {port = port} {inverted = inverted} rooted = port_driven n source (Port port inverted rooted.straight) rooted.rooted

-- ---- the bit there

pub clock_bit : ClockBit
clock_bit n ports s bits source port inverted settled rooted = (rooted_bit n ports s bits source (Port port inverted rooted.straight) settled rooted.rooted).0

-- ---- what traces to a port shows it

-- a straight root is not inverted
abbrev IsStraight : NetRoot → Type 0
IsStraight (Port net inverted straight) = straight ≡ true → inverted ≡ false
IsStraight (Constant bit) = Unit {0}
IsStraight Other = Unit {0}

turned_straight : (turns : Bool) (root : NetRoot) → IsStraight root → IsStraight (turned_root turns root)
turned_straight false root is = is
turned_straight true (Port net inverted straight) is = λ e. absurd cc
turned_straight true (Constant bit) is = tt
turned_straight true Other is = tt

rooted_straight : (n : Netlist) (source : Source) (root : NetRoot) → Rooted n source root → IsStraight root
rooted_straight n source root (AtPort is) = λ e. refl
rooted_straight n source root AtConstant = tt
rooted_straight n source root (AtTie is passes) = tt
rooted_straight n source root (ThroughGate {source = from} {turns = turns} {root = far} is passes rest) = turned_straight turns far (rooted_straight n from far rest)
rooted_straight n source root (ThroughJoin {source = from} is rest) = rooted_straight n from root rest

clock_by : (whole : NetRoot) (port : ℕ) → (IsRoot whole → IsStraight whole) → straight_root whole ≡ traces.Port port → clock_of whole ≡ Some (record { port = port; inverted = false })
clock_by (Port net inverted true) port holds is =
    let same : net ≡ port = cc in
    let none : inverted ≡ false = holds tt refl in
    λ t. Some (record { port = same t; inverted = none t })
clock_by (Port net inverted false) port holds is = absurd cc
clock_by (Constant bit) port holds is = absurd cc
clock_by Other port holds is = absurd cc

pub traced_clock : TracedIsClock
traced_clock n source port is = clock_by (net_root_of n source) port (λ root. rooted_straight n source (net_root_of n source) (root_found n source (net_root_of n source) refl root)) is
