-- Nets with a value in each of 512 lanes, and in each lane a net that is stuck.
use Rattle.std.specs.Prelude.{ℕ, Bool, true, map, ◌&&◌, ◌≡◌, ◌<◌, ◌==◌, List, Option, None, Some, slice_index_or, if◌then◌else◌}
use Rattle.dft_base.specs.declared.tri.Tri.{Tri}
use Rattle.dft_base.specs.declared.tri.Tri.TheVariants.{One}
use Rattle.dft_base.specs.Tri.{known}
use Rattle.dft_cells.specs.Tables.{and_tri, or_tri}
use Rattle.dft_cells.specs.FlipFlops.{tri_forced_by}
use Rattle.dft_behavior.specs.Logic.{Meaning}
use Rattle.dft_netlist.specs.Drivers.{nets_of}
use Rattle.dft_behavior.specs.Settled.{value_from, value_given}
use Rattle.dft_lanes.specs.declared.wide.Wide.{Wide}
use Rattle.dft_evaluator.specs.Wides.{value_in, values_in, IsWide}
use Rattle.dft_logic.specs.declared.circuit.Op.{Op}
use Rattle.dft_behavior.specs.Logic.{Cell}
use Rattle.dft_behavior.specs.Runs.{takes, Vector}
use Rattle.dft_abstract.specs.Cycle.{Round, IsRound, after_round}
use Rattle.dft_logic.specs.declared.circuit.FlipFlop.{FlipFlop}
use Rattle.dft_logic.specs.Circuit.{Circuit, op_at, meaning, flag_at, cell_of, cell_at, next_at, logic_at}
use Rattle.dft_logic.specs.Values.{value_at}
use Rattle.dft_takings.specs.Needs.{HasAll, still_from, next_reads}
use Rattle.dft_takings.specs.Shows.{still_needs}
use Rattle.dft_takings.specs.ShownTables.{shown_at}
use Rattle.dft_takings.specs.declared.shown.Shown.{Shown}
use Rattle.dft_fault_laws.specs.Stuck.{with_fault}
use Rattle.dft_fault_lanes.specs.declared.clamps.Clamp.{Clamp}
use Rattle.dft_fault_lanes.specs.declared.sweeping.Setting.{Setting}

-- ---- stuck nets

-- a value between bounds
abbrev pub between : (most least value : Tri) → Tri
between most least value = or_tri (and_tri value most) least

-- the value of a net in a lane: between the bounds of that lane, where it has some
abbrev pub clamped : Option Clamp → (lane : ℕ) → Tri → Tri
clamped None lane value = value
clamped (Some c) lane value = between (value_in c.most lane) (value_in c.least lane) value

-- a net past the end has no bounds
abbrev pub clamp_at : List (Option Clamp) → (net : ℕ) → Option Clamp
clamp_at clamps net = slice_index_or clamps net None

-- both bounds can be something in each lane
abbrev pub IsClamp : Option Clamp → Type 0
IsClamp None = Unit {0}
IsClamp (Some c) = IsWide c.most (value_in c.most) × IsWide c.least (value_in c.least)

abbrev pub AreClamps : List (Option Clamp) → Type 0
AreClamps clamps = (net : ℕ) → IsClamp (clamp_at clamps net)

-- in a lane this net has a constant, and all others what they are given
abbrev pub IsStuck : List (Option Clamp) → (lane stuck : ℕ) → (value : Bool) → Type 0
IsStuck clamps lane stuck value = (net : ℕ) (given : Tri) → clamped (clamp_at clamps net) lane given ≡ (if net == stuck then known value else given)

-- ---- settled nets

-- the values of input ports, the levels of clocks, what cells hold, and the bounds of nets
pub record Situation : Type 0 where
  pub ports : List Tri
  pub levels : List Bool
  pub cells : List Wide
  pub clamps : List (Option Clamp)

abbrev pub situation_of : Setting → Situation
situation_of s = record { ports = s.ports.now; levels = s.levels.now; cells = s.cells.now.values; clamps = s.clamps.now }

-- what a net has in a lane while clocks have these levels, where nets have these values
abbrev pub lane_given : Situation → (lane : ℕ) → (values : ℕ → Tri) → (net : ℕ) → Meaning → Tri
lane_given s lane values net m =
    clamped (clamp_at s.clamps net) lane (value_given (still_from (flag_at s.levels) (value_at s.ports) (values_in s.cells lane) values) values net m)

-- each net of a set has its driver's value in each lane, and a stuck one its constant
abbrev pub AreSettledOn : List Op → Situation → (needs : (net : ℕ) → Bool) → List Wide → Type 0
AreSettledOn ops s needs wides = (lane net : ℕ) → lane < 512 → needs net ≡ true → values_in wides lane net ≡ lane_given s lane (values_in wides lane) net (meaning (op_at ops net))

-- ---- cells

-- the cell of an instance
abbrev pub flop_at : List FlipFlop → ℕ → Cell
flop_at flops c = cell_at (map cell_of flops) c

-- resets and sets acted on each cell in each lane
abbrev pub AreActedOn : List FlipFlop → (ports : List Tri) → (old new : List Wide) → Type 0
AreActedOn flops ports old new = (lane c : ℕ) → lane < 512 → values_in new lane c ≡ tri_forced_by (flop_at flops c).forces (value_at ports) (values_in old lane c)

-- whether a cell takes a value where these clocks rise, or fall
abbrev pub is_changed : Cell → (rising : Bool) → (pulsed : List Bool) → Bool
is_changed cell rising pulsed = flag_at pulsed cell.domain && takes rising cell.falling

-- in each lane each cell that takes a value has its next one, and each other its old one
abbrev pub AreTaken : List FlipFlop → (rising : Bool) → (pulsed : List Bool) → (ports : List Tri) → (wides old new : List Wide) → Type 0
AreTaken flops rising pulsed ports wides old new =
    (lane c : ℕ) → lane < 512 → values_in new lane c ≡ (if is_changed (flop_at flops c) rising pulsed then next_at (flop_at flops c) (value_at ports) (values_in wides lane) else values_in old lane c)

-- ---- lanes that have one pass

-- a lane is live where its mark is 1
abbrev pub IsLive : Wide → (lane : ℕ) → Type 0
IsLive live lane = value_in live lane ≡ One

-- in the lane each cell that takes a value reads nets of a set that are still, by what they show
abbrev pub AreSteady : List FlipFlop → (rising : Bool) → (pulsed : List Bool) → (needs : (net : ℕ) → Bool) → List Shown → List Wide → (lane : ℕ) → Type 0
AreSteady flops rising pulsed needs shown wides lane =
    (c : ℕ) → is_changed (flop_at flops c) rising pulsed ≡ true → (ports : ℕ → Tri) →
    HasAll (still_needs needs (shown_at shown) (flop_at flops c).domain) (nets_of (next_reads (flop_at flops c) ports (value_from (values_in wides lane))))

-- a lane that is live yet was so before, and its cells read what is still
abbrev pub KeepsSteady : List FlipFlop → (rising : Bool) → (pulsed : List Bool) → (needs : (net : ℕ) → Bool) → List Shown → List Wide → (old new : Wide) → Type 0
KeepsSteady flops rising pulsed needs shown wides old new = (lane : ℕ) → lane < 512 → IsLive new lane → IsLive old lane × AreSteady flops rising pulsed needs shown wides lane

-- ---- a vector

abbrev pub vector_of : (ports : List Tri) → (pulsed : List Bool) → Vector
vector_of ports pulsed = record { ports = value_at ports; pulsed = flag_at pulsed }

-- In the logic in which this net is stuck the vector has a round from the cells of the lane, with these values of a set of nets at the strobe, and its cells have these after it.
abbrev pub HasLaneRound : Circuit → (needs : (net : ℕ) → Bool) → (ports : List Tri) → (pulsed : List Bool) → (before strobe after : List Wide) → (lane stuck : ℕ) → (value : Bool) → Type 0
HasLaneRound x needs ports pulsed before strobe after lane stuck value =
    let l = with_fault stuck value (logic_at x) in
    let v = vector_of ports pulsed in
    (r : Round) × (((net : ℕ) → needs net ≡ true → values_in strobe lane net ≡ r.strobe net) × (IsRound l v (values_in before lane) r × ((c : ℕ) → after_round l v (values_in before lane) r c ≡ values_in after lane c)))
