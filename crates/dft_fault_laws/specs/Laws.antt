-- What a stuck net does to a design's logic, and the round of a vector from one assignment for its rises and one for its falls.
use Rattle.std.specs.Prelude.{ℕ, Bool, false, ◌≡◌}
use Rattle.dft_base.specs.declared.tri.Tri.{Tri}
use Rattle.dft_netlist.specs.Netlist.{Netlist}
use Rattle.dft_behavior.specs.Logic.{Logic, Ports, logic_of, IsRanked}
use Rattle.dft_behavior.specs.Runs.{Vector}
use Rattle.dft_abstract.specs.Cycle.{Pulse, changes, after_pulse, rise_of, IsLeast, Round, IsRound, after_round}
use Rattle.dft_takings.specs.Shows.{Shown, IsShownOn}
use Rattle.dft_faults.specs.declared.fault.Fault.{Fault}
use Rattle.dft_faults.specs.Faulty.{faulty, IsFault}
use Rattle.dft_fault_laws.specs.Stuck.{with_fault, IsApart}
use Rattle.dft_fault_laws.specs.Rounds.{every, IsBound, IsPass, IsRise, passed, falls_of}

-- Where no clock, reset or set comes by the stuck net, the design with it does what the design does, but for the constant at the net.
abbrev pub FaultyMeans : Type 0
FaultyMeans = (n : Netlist) (f : Fault) (ports : Ports) → IsFault n f → IsApart n f → logic_of (faulty n f) ports ≡ with_fault f.net.0 f.value (logic_of n ports)

-- An order of the nets is one with the constant too.
abbrev pub RankStays : Type 0
RankStays = (l : Logic) (rank : ℕ → ℕ) (stuck : ℕ) (value : Bool) → IsRanked l rank → IsRanked (with_fault stuck value l) rank

-- What a net shows without the constant bounds what it shows with it.
abbrev pub StillStays : Type 0
StillStays =
    (l : Logic) (rank : ℕ → ℕ) (p : Pulse) (stuck : ℕ) (value : Bool) (shown : ℕ → Shown) → IsRanked l rank → IsShownOn l p every shown → IsBound (with_fault stuck value l) p shown

-- A phase whose cells all read what is still, by a bound, has one pass.
abbrev pub PassOfBound : Type 0
PassOfBound =
    (l : Logic) (rank : ℕ → ℕ) (p : Pulse) (bound : ℕ → Shown) (values : ℕ → Tri) → IsRanked l rank → IsPass l p bound values →
    (poss : ℕ → Tri) × ((view : ℕ → ℕ → Tri) × (IsLeast l p poss view × ((c : ℕ) → after_pulse l p view c ≡ passed l p values c)))

-- A vector whose rises and falls are of one pass has a round with the strobe's values, and its cells have after it what the two passes give.
abbrev pub RoundOfPasses : Type 0
RoundOfPasses =
    (l : Logic) (rank : ℕ → ℕ) (x : Vector) (old : ℕ → Tri) (rise fall : ℕ → Shown) (values later : ℕ → Tri) → IsRanked l rank → IsRise l x old rise values →
    IsPass l (falls_of l x old values) fall later →
    (r : Round) × ((r.strobe ≡ values) × (IsRound l x old r × ((c : ℕ) → after_round l x old r c ≡ passed l (falls_of l x old values) later c)))

-- Where no cell takes a value in its falls, they have what the rises give.
abbrev pub RoundOfRises : Type 0
RoundOfRises =
    (l : Logic) (rank : ℕ → ℕ) (x : Vector) (old : ℕ → Tri) (rise : ℕ → Shown) (values : ℕ → Tri) → IsRanked l rank → IsRise l x old rise values →
    ((c : ℕ) → changes l (falls_of l x old values) c ≡ false) →
    (r : Round) × ((r.strobe ≡ values) × (IsRound l x old r × ((c : ℕ) → after_round l x old r c ≡ passed l (rise_of l x old) values c)))
