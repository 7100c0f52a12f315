-- What one vector does to the hardware, for the values of the flip-flops before and after it.
use Rattle.std.specs.Prelude.{ℕ, zero, suc, ◌<◌, ◌≡◌, Bool, true, false, not, ◌&&◌, List, map, length, Some, if◌then◌else◌}
use Rattle.dft_base.specs.declared.tri.Tri.{Tri}
use Rattle.dft_base.specs.declared.tri.Tri.TheVariants.{Zero, One}
use Rattle.dft_base.specs.Tri.{known}
use Rattle.dft_netlist.specs.declared.ids.InstanceId.{InstanceId}
use Rattle.dft_behavior.specs.Logic.{Logic, Ports, IsRanked}
use Rattle.dft_behavior.specs.Settled.{IsTriSettled}
use Rattle.dft_behavior.specs.Runs.{Now, Vector, Turn, IsTurn, after_turn, AreLow}
use Rattle.dft_abstract.specs.Cycle.{rise_of, strobe_sources, Halves, AreHalves, after_halves}
use Rattle.dft_abstract.specs.Laws.{bits, shown}
use Rattle.dft_config.specs.Config.{Config}
use Rattle.dft_config.specs.Range.{IsInRange}
use Rattle.dft_config.specs.Ring.{step, sum_of, phase_of, phase_sum}
use Rattle.dft_stitch.specs.Plans.{cell_at}
use Rattle.dft_chains.specs.Hardware.{ChainNets}
use Rattle.dft_chains.specs.Shifts.{IsShift, at_strobe}
use Rattle.dft_edt.specs.Feeds.{at_feed, feeds}
use Rattle.dft_parts.specs.SumTrees.{tri_sum}
use Rattle.dft_edt.specs.Hardware.{EdtNets, HasRing, HeadsAre, HasCompactor, before_in, group_of}
use Rattle.dft_config.specs.Segments.{segment_length, chain_in}
use Rattle.dft_edt.specs.Parts.{shown_by}

-- a shift vector: scan_enable and all resets are 1, edt_update is 0, every domain and edt_clock pulse; other inputs are anything
pub record IsEdtShift (ports : Ports) (w : ChainNets) (hw : EdtNets) (x : Vector) : Type 0 where
  pub shift : IsShift ports w.enable x
  pub update : x.ports hw.update ≡ Zero
  pub clock : x.pulsed hw.clock ≡ true

-- a clearing vector pulses edt_clock with edt_update 1; all else in it is anything
pub record IsClearing (hw : EdtNets) (x : Vector) : Type 0 where
  pub update : x.ports hw.update ≡ One
  pub clock : x.pulsed hw.clock ≡ true

-- the channels carry these bits
abbrev pub Carries : Config → EdtNets → (ℕ → Bool) → Vector → Type 0
Carries config hw row x = (j : ℕ) → j < config.ring.channels → x.ports (hw.channel j) ≡ known (row j)

-- ---- what a vector does

-- A shift vector: each stage takes the sum of its feeds, the first cell of each chain its phase sum, of the stages before the vector where
-- it is rising and of those after it where it is falling, each other cell what the one before it had.
pub record Shifts (config : Config) (chains : List (List InstanceId)) (hw : EdtNets) (falling : ℕ → Bool) (channels old new : ℕ → Tri) : Type 0 where
  pub stages : (i : ℕ) → i < config.ring.stages → new (hw.stage i) ≡ tri_sum (map (at_feed (λ k. old (hw.stage k)) channels) (feeds config.ring i))
  pub firsts : (chain : ℕ) (cell : InstanceId) → cell_at chains chain zero ≡ Some cell → new cell.0 ≡ tri_sum (map (λ k. (if falling chain then new else old) (hw.stage k)) (phase_of config.ring chain))
  pub others : (chain place : ℕ) (cell next : InstanceId) → cell_at chains chain place ≡ Some cell → cell_at chains chain (suc place) ≡ Some next → new next.0 ≡ old cell.0

-- a clearing vector
abbrev pub Clears : Config → EdtNets → (new : ℕ → Tri) → Type 0
Clears config hw new = (i : ℕ) → i < config.ring.stages → new (hw.stage i) ≡ Zero

-- each mask bit takes the one before it in its segment, or what is given to the segment's port
abbrev pub MasksMove : Config → EdtNets → (given old new : ℕ → Tri) → Type 0
MasksMove config hw given old new =
    (m k : ℕ) → m < config.compactor.mask_inputs → k < segment_length config m →
    new (hw.mask (chain_in config m k)) ≡ before_in config given (λ chain. old (hw.mask chain)) m k

-- the hold bits stay, or take the mask bits
abbrev pub HoldsStay : Config → EdtNets → (old new : ℕ → Tri) → Type 0
HoldsStay config hw old new = (chain : ℕ) → chain < config.chains → new (hw.hold chain) ≡ old (hw.hold chain)

abbrev pub HoldsTake : Config → EdtNets → (old new : ℕ → Tri) → Type 0
HoldsTake config hw old new = (chain : ℕ) → chain < config.chains → new (hw.hold chain) ≡ old (hw.mask chain)

-- ---- the law of one vector on the abstract cycle, for any halves

abbrev pub ShiftLaw : Type 0
ShiftLaw =
    (l : Logic) (ports : Ports) (config : Config) (chains : List (List InstanceId)) (w : ChainNets) (hw : EdtNets) (falling : ℕ → Bool) (x : Vector) (old : ℕ → Tri) (h : Halves) →
    HasRing l ports config chains w hw → HeadsAre l chains falling → IsInRange config → IsEdtShift ports w hw x → AreHalves l x old h →
    Shifts config chains hw falling (λ j. x.ports (hw.channel j)) old (after_halves l x old h)

abbrev pub ClearLaw : Type 0
ClearLaw =
    (l : Logic) (ports : Ports) (config : Config) (chains : List (List InstanceId)) (w : ChainNets) (hw : EdtNets) (x : Vector) (old : ℕ → Tri) (h : Halves) →
    HasRing l ports config chains w hw → IsClearing hw x → AreHalves l x old h → Clears config hw (after_halves l x old h)

-- mask bits move in every vector in which edt_clock pulses
abbrev pub MaskLaw : Type 0
MaskLaw =
    (l : Logic) (config : Config) (chains : List (List InstanceId)) (hw : EdtNets) (x : Vector) (old : ℕ → Tri) (h : Halves) →
    HasCompactor l config chains hw → x.pulsed hw.clock ≡ true → AreHalves l x old h → MasksMove config hw (λ m. x.ports (hw.mask_port m)) old (after_halves l x old h)

abbrev pub HoldLaw : Type 0
HoldLaw =
    (l : Logic) (ports : Ports) (config : Config) (chains : List (List InstanceId)) (w : ChainNets) (hw : EdtNets) (x : Vector) (old : ℕ → Tri) (h : Halves) →
    HasRing l ports config chains w hw → HasCompactor l config chains hw → IsInRange config → x.pulsed hw.clock ≡ true → AreHalves l x old h →
    (x.ports hw.update ≡ Zero → HoldsStay config hw old (after_halves l x old h))
    × (x.ports hw.update ≡ One → HoldsTake config hw old (after_halves l x old h))

-- in a vector in which edt_clock does not pulse, ring, mask bits and hold bits stay
abbrev pub RestLaw : Type 0
RestLaw =
    (l : Logic) (ports : Ports) (config : Config) (chains : List (List InstanceId)) (w : ChainNets) (hw : EdtNets) (x : Vector) (old : ℕ → Tri) (h : Halves) →
    HasRing l ports config chains w hw → HasCompactor l config chains hw → IsInRange config → x.pulsed hw.clock ≡ false →
    ((i : ℕ) → i < config.ring.stages → after_halves l x old h (hw.stage i) ≡ old (hw.stage i))
    × ((chain : ℕ) → chain < config.chains → after_halves l x old h (hw.mask chain) ≡ old (hw.mask chain))
    × HoldsStay config hw old (after_halves l x old h)

-- At the strobe of every vector an output sums, over its group, the last cells whose hold bit is 0; a reset or set acts on them at once.
abbrev pub OutputLaw : Type 0
OutputLaw =
    (l : Logic) (config : Config) (chains : List (List InstanceId)) (hw : EdtNets) (x : Vector) (old values : ℕ → Tri) →
    (has : HasCompactor l config chains hw) → IsInRange config → IsTriSettled l (strobe_sources l x old values) values →
    (last : ℕ → Tri) → ((chain : ℕ) (less : chain < config.chains) → last chain ≡ (rise_of l x old).old ((has.ends chain less).cell.0)) → (j : ℕ) → j < length config.compactor.groups →
    values (hw.output j) ≡ tri_sum (map (λ chain. shown_by (old (hw.hold chain)) (last chain)) (group_of config j))

-- ---- in every run

-- What a shift vector leaves in a run's bits: where its channels carry a row, each stage has its step from the stages before. Whatever they
-- carry, the first cell of each chain has its phase sum, of the stages before the vector where it is rising and of those after it where it is
-- falling, and each other cell what the one before it had.
pub record ShiftedBits (config : Config) (chains : List (List InstanceId)) (hw : EdtNets) (falling : ℕ → Bool) (x : Vector) (old new : ℕ → Bool) : Type 0 where
  pub stages : (row : ℕ → Bool) → Carries config hw row x → (i : ℕ) → i < config.ring.stages → new (hw.stage i) ≡ step config.ring row (λ k. old (hw.stage k)) i
  pub firsts : (chain : ℕ) (cell : InstanceId) → cell_at chains chain zero ≡ Some cell → new cell.0 ≡ phase_sum config.ring chain (λ k. (if falling chain then new else old) (hw.stage k))
  pub others : (chain place : ℕ) (cell next : InstanceId) → cell_at chains chain place ≡ Some cell → cell_at chains chain (suc place) ≡ Some next → new next.0 ≡ old cell.0

abbrev pub ShiftInRuns : Type 0
ShiftInRuns =
    (l : Logic) (rank : ℕ → ℕ) (ports : Ports) (config : Config) (chains : List (List InstanceId)) (w : ChainNets) (hw : EdtNets) (falling : ℕ → Bool) (x : Vector) (now : Now) (t : Turn) →
    IsRanked l rank → HasRing l ports config chains w hw → HeadsAre l chains falling → IsInRange config → IsEdtShift ports w hw x → AreLow now.state → IsTurn l x now t →
    ShiftedBits config chains hw falling x now.state.flops (after_turn l x now t).state.flops

-- a clearing vector
abbrev pub ClearInRuns : Type 0
ClearInRuns =
    (l : Logic) (rank : ℕ → ℕ) (ports : Ports) (config : Config) (chains : List (List InstanceId)) (w : ChainNets) (hw : EdtNets) (x : Vector) (now : Now) (t : Turn) →
    IsRanked l rank → HasRing l ports config chains w hw → IsClearing hw x → AreLow now.state → IsTurn l x now t → Clears config hw (bits (after_turn l x now t).state)

-- the mask ports get these bits
abbrev pub Sends : Config → EdtNets → (ℕ → Bool) → Vector → Type 0
Sends config hw row x = (m : ℕ) → m < config.compactor.mask_inputs → x.ports (hw.mask_port m) ≡ known (row m)

abbrev pub MasksInRuns : Type 0
MasksInRuns =
    (l : Logic) (rank : ℕ → ℕ) (config : Config) (chains : List (List InstanceId)) (hw : EdtNets) (row : ℕ → Bool) (x : Vector) (now : Now) (t : Turn) →
    IsRanked l rank → HasCompactor l config chains hw → x.pulsed hw.clock ≡ true → Sends config hw row x → AreLow now.state → IsTurn l x now t →
    MasksMove config hw (λ m. known (row m)) (bits now.state) (bits (after_turn l x now t).state)

abbrev pub HoldsInRuns : Type 0
HoldsInRuns =
    (l : Logic) (rank : ℕ → ℕ) (ports : Ports) (config : Config) (chains : List (List InstanceId)) (w : ChainNets) (hw : EdtNets) (x : Vector) (now : Now) (t : Turn) →
    IsRanked l rank → HasRing l ports config chains w hw → HasCompactor l config chains hw → IsInRange config → x.pulsed hw.clock ≡ true → AreLow now.state → IsTurn l x now t →
    (x.ports hw.update ≡ Zero → HoldsStay config hw (bits now.state) (bits (after_turn l x now t).state))
    × (x.ports hw.update ≡ One → HoldsTake config hw (bits now.state) (bits (after_turn l x now t).state))

-- at every strobe, where the last cells have these bits
abbrev pub OutputInRuns : Type 0
OutputInRuns =
    (l : Logic) (config : Config) (chains : List (List InstanceId)) (hw : EdtNets) (x : Vector) (now : Now) (t : Turn) →
    (has : HasCompactor l config chains hw) → IsInRange config → IsTurn l x now t →
    (last : ℕ → Bool) → ((chain : ℕ) (less : chain < config.chains) → last chain ≡ (at_strobe l x now t).flops ((has.ends chain less).cell.0)) → (j : ℕ) → j < length config.compactor.groups →
    shown t (hw.output j) ≡ sum_of (λ chain. not (now.state.flops (hw.hold chain)) && last chain) (group_of config j)
