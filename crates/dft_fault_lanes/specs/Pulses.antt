-- A pulse in each lane: its rises, and its falls where a cell takes a value at one.
use Rattle.std.specs.Prelude.{ℕ, Bool, false, ◌≡◌, ◌<◌, ◌⊎◌, List, [], Option}
use Rattle.dft_base.specs.declared.tri.Tri.{Tri}
use Rattle.dft_lanes.specs.declared.wide.Wide.{Wide}
use Rattle.dft_takings.specs.declared.shown.Shown.{Shown}
use Rattle.dft_logic.specs.Circuit.{Circuit, logic_at, flag_at}
use Rattle.dft_takings.specs.Shows.{IsShownOn}
use Rattle.dft_takings.specs.ShownTables.{shown_at, edges_of}
use Rattle.dft_fault_laws.specs.Rounds.{every}
use Rattle.dft_fault_lanes.specs.declared.clamps.Clamp.{Clamp}
use Rattle.dft_fault_lanes.specs.Lanes.{Situation, AreSettledOn, AreActedOn, AreTaken, IsStuck, IsLive, KeepsSteady, HasLaneRound, flop_at, is_changed}

-- the lanes stay live in which each cell reads what is still, and the cells take their next values from these values of nets
pub record IsPhase (x : Circuit) (needs : (net : ℕ) → Bool) (rising : Bool) (ports : List Tri) (pulsed : List Bool) (wides old new : List Wide) (before after : Wide) : Type 0 where
  pub shown : List Shown
  pub shows : IsShownOn (logic_at x) (edges_of rising (flag_at pulsed)) every (shown_at shown)
  pub steady : KeepsSteady x.flops rising pulsed needs shown wides before after
  pub taken : AreTaken x.flops rising pulsed ports wides old new

-- no cell takes a value at the fall of a clock that pulses
abbrev pub NoneFalls : Circuit → (pulsed : List Bool) → Type 0
NoneFalls x pulsed = (c : ℕ) → is_changed (flop_at x.flops c) false pulsed ≡ false

-- what is settled while clocks have these levels
abbrev pub at_levels : (ports : List Tri) → (levels : List Bool) → (cells : List Wide) → List (Option Clamp) → Situation
at_levels ports levels cells clamps = record { ports = ports; levels = levels; cells = cells; clamps = clamps }

-- Either nothing changes, as no cell takes a value at a fall, or nets are settled with the clocks up, and the cells take their values from them.
abbrev pub IsFall : Circuit → (needs : (net : ℕ) → Bool) → (ports : List Tri) → (pulsed : List Bool) → List (Option Clamp) → (old new : List Wide) → (before after : Wide) → Type 0
IsFall x needs ports pulsed clamps old new before after =
    (NoneFalls x pulsed × ((new ≡ old) × (after ≡ before)))
    ⊎ ((wides : List Wide) × (AreSettledOn x.ops (at_levels ports pulsed old clamps) needs wides × IsPhase x needs false ports pulsed wides old new before after))

-- the nets of a set are settled for a strobe, once resets and sets acted on the cells
pub record IsStrobeOf (x : Circuit) (needs : (net : ℕ) → Bool) (ports : List Tri) (clamps : List (Option Clamp)) (before held wides : List Wide) : Type 0 where
  pub acted : AreActedOn x.flops ports before held
  pub settled : AreSettledOn x.ops (at_levels ports [] held clamps) needs wides

-- From each strobe, a lane that is live after the pulse was live before it, and has a round with the strobe's values and these cells.
abbrev pub ArePulsed : Circuit → (needs : (net : ℕ) → Bool) → (ports : List Tri) → (pulsed : List Bool) → List (Option Clamp) → (strobe held new : List Wide) → (live still : Wide) → Type 0
ArePulsed x needs ports pulsed clamps strobe held new live still =
    (before : List Wide) (lane stuck : ℕ) (value : Bool) → IsStrobeOf x needs ports clamps before held strobe → lane < 512 → IsStuck clamps lane stuck value → IsLive still lane →
    IsLive live lane × HasLaneRound x needs ports pulsed before strobe new lane stuck value
