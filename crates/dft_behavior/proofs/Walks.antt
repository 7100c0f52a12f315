-- Walks back, the roots that they find, and the bits there.
use Rattle.std.proofs.Common.{ℕ, Bool, true, false, not, List, [], ◌∷◌, ◌≡◌, ◌<◌, zero, suc, refl, sym, ap, subst, arith, map, length, ◌∙◌}
use Rattle.std.specs.Prelude.{if◌then◌else◌}
use Rattle.dft_cells.specs.declared.kind.Gate.{Gate as GateKind}
use Rattle.dft_cells.specs.declared.kind.Gate.TheVariants.{Buf, Inv, Tie0, Tie1}
use Rattle.dft_cells.specs.Gates.{bit_of}
use Rattle.dft_netlist.specs.Netlist.{Netlist}
use Rattle.dft_netlist.specs.Drivers.{Source, Net, Tied, Loose, Driver, Input, Gate, Joined, Flop, Lockup, Free, driver, nets_of, nets_read, AreBelow, IsOrdered}
use Rattle.dft_behavior.specs.NetRoots.{NetRoot, Port, Constant, Other, Passed, From, Bit, Nothing, passed_by_one, passed_by_gate, turned, turned_root, Rooted, AtPort, AtConstant, AtTie, ThroughGate, ThroughJoin, root_of_passed, root_of_driver, root_within, net_root_of}
use Rattle.dft_behavior.specs.Traces.{straight_root}
use Rattle.dft_behavior.specs.Traces as traces
use Rattle.dft_behavior.specs.Logic.{Ports, meaning_of, logic_of}
use Rattle.dft_behavior.specs.Settled.{Sources, bit_from, bit_given, IsSettled}
use Rattle.dft_behavior.specs.Laws.{WalkFindsRoot, PortIsFound, ConstantIsFound, TracedBit, TracedConstant}

-- ---- what a gate passes on

one_below : (rank : ℕ → ℕ) (r : ℕ) (turned turns : Bool) (inputs : List Source) (source : Source) → passed_by_one turned inputs ≡ From source turns → AreBelow rank r (nets_of inputs) → AreBelow rank r (nets_of (source ∷ []))
one_below rank r turned turns [] source is below = absurd cc
one_below rank r turned turns (input ∷ []) source is below = let e : input ≡ source = cc in rw e at below
one_below rank r turned turns (input ∷ more ∷ inputs) source is below = absurd cc

passed_below : (rank : ℕ → ℕ) (r : ℕ) (kind : GateKind) (inputs : List Source) (source : Source) (turns : Bool) → passed_by_gate kind inputs ≡ From source turns → AreBelow rank r (nets_of inputs) → AreBelow rank r (nets_of (source ∷ []))
passed_below rank r Buf inputs source turns is below = one_below rank r false turns inputs source is below
passed_below rank r Inv inputs source turns is below = one_below rank r true turns inputs source is below
passed_below rank r _ inputs source turns is below = absurd cc

passed_bit : (f : Source → Bool) (kind : GateKind) (inputs : List Source) (source : Source) (turns : Bool) → passed_by_gate kind inputs ≡ From source turns → bit_of kind (map f inputs) ≡ turned turns (f source)
passed_bit f Buf [] source turns is = absurd cc
passed_bit f Buf (input ∷ []) source turns is = let e : input ≡ source = cc in let b : false ≡ turns = cc in λ t. turned (b t) (f (e t))
passed_bit f Buf (input ∷ more ∷ inputs) source turns is = absurd cc
passed_bit f Inv [] source turns is = absurd cc
passed_bit f Inv (input ∷ []) source turns is = let e : input ≡ source = cc in let b : true ≡ turns = cc in λ t. turned (b t) (f (e t))
passed_bit f Inv (input ∷ more ∷ inputs) source turns is = absurd cc
passed_bit f _ inputs source turns is = absurd cc

pub one_no_bit : (turns : Bool) (inputs : List Source) (bit : Bool) → passed_by_one turns inputs ≡ Bit bit → ⊥
one_no_bit turns [] bit is = cc
one_no_bit turns (input ∷ []) bit is = cc
one_no_bit turns (input ∷ more ∷ inputs) bit is = cc

passed_constant : (f : Source → Bool) (kind : GateKind) (inputs : List Source) (bit : Bool) → passed_by_gate kind inputs ≡ Bit bit → bit_of kind (map f inputs) ≡ bit
passed_constant f Buf inputs bit is = absurd (one_no_bit false inputs bit is)
passed_constant f Inv inputs bit is = absurd (one_no_bit true inputs bit is)
passed_constant f Tie0 inputs bit is = cc
passed_constant f Tie1 inputs bit is = cc
passed_constant f _ inputs bit is = absurd cc

-- ---- the walk finds the root

gate_below : (n : Netlist) (rank : ℕ → ℕ) (r : ℕ) (d : Driver) (kind : GateKind) (inputs : List Source) (source : Source) (turns : Bool) → d ≡ Gate kind inputs → passed_by_gate kind inputs ≡ From source turns → AreBelow rank r (nets_read n d) → AreBelow rank r (nets_of (source ∷ []))
gate_below n rank r d kind inputs source turns is passes below = passed_below rank r kind inputs source turns passes (rw is at below)

pub join_below : (n : Netlist) (rank : ℕ → ℕ) (r : ℕ) (d : Driver) (source : Source) → d ≡ Joined source → AreBelow rank r (nets_read n d) → AreBelow rank r (nets_of (source ∷ []))
join_below n rank r d source is below = rw is at below

-- a source that stands below so many steps
abbrev pub IsWithin : (ℕ → ℕ) → ℕ → Source → Type 0
IsWithin rank steps source = AreBelow rank steps (nets_of (source ∷ []))

pub weaker : (rank : ℕ → ℕ) (r q : ℕ) (source : Source) → r < suc q → IsWithin rank r source → IsWithin rank q source
weaker rank r q (Net net) less below = (omega arith, tt)
weaker rank r q (Tied bit) less below = tt
weaker rank r q (Loose i pin) less below = tt

finds : (n : Netlist) (rank : ℕ → ℕ) (steps : ℕ) (source : Source) (root : NetRoot) → IsOrdered n rank → IsWithin rank steps source → Rooted n source root → root_within n steps source ≡ root
finds n rank zero source root order within AtConstant = refl
finds n rank zero source root order within (AtPort is) = absurd (let h = within.0 in omega arith)
finds n rank zero source root order within (AtTie is passes) = absurd (let h = within.0 in omega arith)
finds n rank zero source root order within (ThroughGate is passes rest) = absurd (let h = within.0 in omega arith)
finds n rank zero source root order within (ThroughJoin is rest) = absurd (let h = within.0 in omega arith)
finds n rank (suc steps) source root order within AtConstant = refl
finds n rank (suc steps) source root order within (AtPort is) = rw is refl
finds n rank (suc steps) source root order within (AtTie is passes) = rw (is, passes) refl
finds n rank (suc steps) source root order within (ThroughGate {net = net} {kind = kind} {inputs = inputs} {source = from} {turns = turns} {root = far} is passes rest) =
    let below = gate_below n rank (rank net) (driver n net) kind inputs from turns is passes (order.after net) in
    rw (is, passes) (ap (turned_root turns) (finds n rank steps from far order (weaker rank (rank net) steps from within.0 below) rest))
finds n rank (suc steps) source root order within (ThroughJoin {net = net} {source = from} is rest) =
    let below = join_below n rank (rank net) (driver n net) from is (order.after net) in
    rw is (finds n rank steps from root order (weaker rank (rank net) steps from within.0 below) rest)

pub start_within : (n : Netlist) (rank : ℕ → ℕ) (source : Source) → IsOrdered n rank → IsWithin rank (suc (length n.nets)) source
start_within n rank (Net net) order = (let h = order.within net in omega arith, tt)
start_within n rank (Tied bit) order = tt
start_within n rank (Loose i pin) order = tt

pub root_finds : (n : Netlist) (rank : ℕ → ℕ) (source : Source) (root : NetRoot) → IsOrdered n rank → Rooted n source root → net_root_of n source ≡ root
root_finds n rank source root order rooted = finds n rank (suc (length n.nets)) source root order (start_within n rank source order) rooted

pub walk_finds : WalkFindsRoot
walk_finds n rank source root order traces = ap straight_root (root_finds n rank source traces.whole order traces.rooted) ∙ traces.straight

-- ---- a root that the walk gives is one

-- a root that is no want of one
abbrev pub IsRoot : NetRoot → Type 0
IsRoot (Port net inverted straight) = Unit {0}
IsRoot (Constant bit) = Unit {0}
IsRoot Other = ⊥

-- what is a root behind an inverter is one before it
turned_from : (turns : Bool) (root : NetRoot) → IsRoot (turned_root turns root) → IsRoot root
turned_from false root is = is
turned_from true (Port net inverted straight) is = tt
turned_from true (Constant bit) is = tt
turned_from true Other is = is

passed_found : (n : Netlist) (walk : Source → NetRoot) (net : ℕ) (kind : GateKind) (inputs : List Source) (p : Passed) → driver n net ≡ Gate kind inputs → passed_by_gate kind inputs ≡ p →
    ((source : Source) → IsRoot (walk source) → Rooted n source (walk source)) → IsRoot (root_of_passed walk p) → Rooted n (Net net) (root_of_passed walk p)
passed_found n walk net kind inputs (From source turns) is passes ih root = ThroughGate is passes (ih source (turned_from turns (walk source) root))
passed_found n walk net kind inputs (Bit bit) is passes ih root = AtTie is passes
passed_found n walk net kind inputs Nothing is passes ih root = absurd root

driver_found : (n : Netlist) (walk : Source → NetRoot) (net : ℕ) (d : Driver) → driver n net ≡ d → ((source : Source) → IsRoot (walk source) → Rooted n source (walk source)) →
    IsRoot (root_of_driver walk net d) → Rooted n (Net net) (root_of_driver walk net d)
driver_found n walk net Input is ih root = AtPort is
driver_found n walk net (Gate kind inputs) is ih root = passed_found n walk net kind inputs (passed_by_gate kind inputs) is refl ih root
driver_found n walk net (Joined source) is ih root = ThroughJoin is (ih source root)
driver_found n walk net (Flop i inverted) is ih root = absurd root
driver_found n walk net (Lockup i) is ih root = absurd root
driver_found n walk net Free is ih root = absurd root

found : (n : Netlist) (steps : ℕ) (source : Source) → IsRoot (root_within n steps source) → Rooted n source (root_within n steps source)
found n steps (Tied bit) root = AtConstant
found n steps (Loose i pin) root = absurd root
found n zero (Net net) root = absurd root
found n (suc steps) (Net net) root = driver_found n (root_within n steps) net (driver n net) refl (found n steps) root

pub root_found : (n : Netlist) (source : Source) (root : NetRoot) → net_root_of n source ≡ root → IsRoot root → Rooted n source root
root_found n source root is holds = subst (Rooted n source) is (found n (suc (length n.nets)) source (subst IsRoot (sym is) holds))

-- a root that is traced to is one
straight_is : (whole : NetRoot) (net : ℕ) → straight_root whole ≡ traces.Port net → IsRoot whole
straight_is (Port port inverted straight) net is = tt
straight_is (Constant bit) net is = tt
straight_is Other net is = cc

straight_bit : (whole : NetRoot) (bit : Bool) → straight_root whole ≡ traces.Constant bit → IsRoot whole
straight_bit (Port port inverted straight) bit is = tt
straight_bit (Constant other) bit is = tt
straight_bit Other bit is = cc

pub port_found : PortIsFound
port_found n source net is = record { whole = net_root_of n source; rooted = root_found n source (net_root_of n source) refl (straight_is (net_root_of n source) net is); straight = is }

pub constant_found : ConstantIsFound
constant_found n source bit is = record { whole = net_root_of n source; rooted = root_found n source (net_root_of n source) refl (straight_bit (net_root_of n source) bit is); straight = is }

-- ---- the bit there

-- what a root says of a bit: it is the port's bit or its inverse, itself where it is straight; or the constant
abbrev pub RootBit : (bits : ℕ → Bool) → NetRoot → Bool → Type 0
RootBit bits (Port net inverted straight) bit = (bit ≡ (if inverted then not (bits net) else bits net)) × (straight ≡ true → inverted ≡ false)
RootBit bits (Constant b) bit = bit ≡ b
RootBit bits Other bit = Unit {0}

inverse_bit : (inverted bit : Bool) → not (if inverted then not bit else bit) ≡ (if not inverted then not bit else bit)
inverse_bit false bit = refl
inverse_bit true true = refl
inverse_bit true false = refl

turned_bit : (bits : ℕ → Bool) (turns : Bool) (root : NetRoot) (bit : Bool) → RootBit bits root bit → RootBit bits (turned_root turns root) (turned turns bit)
turned_bit bits false root bit is = is
turned_bit bits true (Port net inverted straight) bit is = (ap not is.0 ∙ inverse_bit inverted (bits net), λ e. absurd cc)
turned_bit bits true (Constant b) bit is = tt
turned_bit bits true Other bit is = tt

pub rooted_bit : (n : Netlist) (ports : Ports) (s : Sources) (bits : ℕ → Bool) (source : Source) (root : NetRoot) → IsSettled (logic_of n ports) s bits → Rooted n source root → RootBit bits root (bit_from s bits source)
rooted_bit n ports s bits source root settled (AtPort is) = (refl, λ e. refl)
rooted_bit n ports s bits source root settled AtConstant = refl
rooted_bit n ports s bits source root settled (AtTie {net = k} {kind = kind} {inputs = inputs} {bit = bit} is passes) =
    settled k ∙ ap (λ (d : Driver). bit_given s bits k (meaning_of n ports k d)) is ∙ passed_constant (bit_from s bits) kind inputs bit passes
rooted_bit n ports s bits source root settled (ThroughGate {net = k} {kind = kind} {inputs = inputs} {source = from} {turns = turns} {root = far} is passes rest) =
    let e : bits k ≡ turned turns (bit_from s bits from) = settled k ∙ ap (λ (d : Driver). bit_given s bits k (meaning_of n ports k d)) is ∙ passed_bit (bit_from s bits) kind inputs from turns passes in
    rw e (turned_bit bits turns far (bit_from s bits from) (rooted_bit n ports s bits from far settled rest))
rooted_bit n ports s bits source root settled (ThroughJoin {net = k} {source = from} is rest) =
    let e : bits k ≡ bit_from s bits from = settled k ∙ ap (λ (d : Driver). bit_given s bits k (meaning_of n ports k d)) is in
    rw e (rooted_bit n ports s bits from root settled rest)

port_bit : (bits : ℕ → Bool) (whole : NetRoot) (net : ℕ) (bit : Bool) → straight_root whole ≡ traces.Port net → RootBit bits whole bit → bit ≡ bits net
port_bit bits (Port port inverted true) net bit is told = let e : port ≡ net = cc in told.0 ∙ ap (λ (b : Bool). if b then not (bits port) else bits port) (told.1 refl) ∙ ap bits e
port_bit bits (Port port inverted false) net bit is told = absurd cc
port_bit bits (Constant b) net bit is told = absurd cc
port_bit bits Other net bit is told = absurd cc

constant_bit : (bits : ℕ → Bool) (whole : NetRoot) (b bit : Bool) → straight_root whole ≡ traces.Constant b → RootBit bits whole bit → bit ≡ b
constant_bit bits (Port port inverted true) b bit is told = absurd cc
constant_bit bits (Port port inverted false) b bit is told = absurd cc
constant_bit bits (Constant other) b bit is told = let e : other ≡ b = cc in told ∙ e
constant_bit bits Other b bit is told = absurd cc

pub traced_bit : TracedBit
traced_bit n ports s bits source net settled traces = port_bit bits traces.whole net (bit_from s bits source) traces.straight (rooted_bit n ports s bits source traces.whole settled traces.rooted)

pub traced_constant : TracedConstant
traced_constant n ports s bits source bit settled traces = constant_bit bits traces.whole bit (bit_from s bits source) traces.straight (rooted_bit n ports s bits source traces.whole settled traces.rooted)
