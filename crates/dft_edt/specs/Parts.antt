-- What the parts compute in every settled assignment, over bits and over three-valued bits.
use Rattle.std.specs.Prelude.{ℕ, zero, ◌<◌, ◌≡◌, ◌&&◌, Bool, not, List, map, length, Some, if◌then◌else◌}
use Rattle.dft_base.specs.declared.tri.Tri.{Tri}
use Rattle.dft_base.specs.declared.tri.Tri.TheVariants.{Zero, One, Unknown}
use Rattle.dft_netlist.specs.declared.ids.InstanceId.{InstanceId}
use Rattle.dft_behavior.specs.Logic.{Logic, Ports}
use Rattle.dft_behavior.specs.Settled.{Sources, bit_from, IsSettled, TriSources, value_from, IsTriSettled}
use Rattle.dft_config.specs.Config.{Config}
use Rattle.dft_config.specs.Range.{IsInRange}
use Rattle.dft_config.specs.Ring.{sum_of, step, phase_of, phase_sum}
use Rattle.dft_stitch.specs.Plans.{cell_at}
use Rattle.dft_chains.specs.Hardware.{ChainNets}
use Rattle.dft_edt.specs.Feeds.{at_feed, feeds}
use Rattle.dft_parts.specs.SumTrees.{tri_sum}
use Rattle.dft_edt.specs.Hardware.{EdtNets, HasRing, HasCompactor, group_of}

-- ---- bits

-- The next bit of a stage is the step of the ring where edt_update is 0, and else 0.
abbrev pub StageBits : Type 0
StageBits =
    (l : Logic) (ports : Ports) (config : Config) (chains : List (List InstanceId)) (w : ChainNets) (hw : EdtNets) (s : Sources) (bits : ℕ → Bool) →
    HasRing l ports config chains w hw → IsSettled l s bits → (i : ℕ) → i < config.ring.stages →
    bit_from s bits (l.cell (hw.stage i)).takes.input ≡ (not (bits hw.update) && step config.ring (λ j. bits (hw.channel j)) (λ k. bits (hw.stage_net k)) i)

-- A chain's phase net is its phase sum.
abbrev pub PhaseBits : Type 0
PhaseBits =
    (l : Logic) (ports : Ports) (config : Config) (chains : List (List InstanceId)) (w : ChainNets) (hw : EdtNets) (s : Sources) (bits : ℕ → Bool) →
    (has : HasRing l ports config chains w hw) → IsSettled l s bits → (chain : ℕ) (cell : InstanceId) (stands : cell_at chains chain zero ≡ Some cell) →
    bits (has.phases chain cell stands).sum ≡ phase_sum config.ring chain (λ k. bits (hw.stage_net k))

-- The next hold bit is the mask bit where edt_update is 1, and else the hold bit.
abbrev pub HoldBits : Type 0
HoldBits =
    (l : Logic) (ports : Ports) (config : Config) (chains : List (List InstanceId)) (w : ChainNets) (hw : EdtNets) (s : Sources) (bits : ℕ → Bool) →
    HasRing l ports config chains w hw → HasCompactor l config chains hw → IsSettled l s bits → (chain : ℕ) → chain < config.chains →
    bit_from s bits (l.cell (hw.hold chain)).takes.input ≡ (if bits hw.update then bits (hw.mask_net chain) else bits (hw.hold_net chain))

-- An output is the sum over its group of the ends whose hold bit is 0.
abbrev pub OutputBits : Type 0
OutputBits =
    (l : Logic) (config : Config) (chains : List (List InstanceId)) (hw : EdtNets) (s : Sources) (bits : ℕ → Bool) →
    HasCompactor l config chains hw → IsInRange config → IsSettled l s bits → (j : ℕ) → j < length config.compactor.groups →
    bits (hw.output j) ≡ sum_of (λ chain. not (bits (hw.hold_net chain)) && bits (hw.end_net chain)) (group_of config j)

-- ---- three-valued bits

abbrev pub StageValues : Type 0
StageValues =
    (l : Logic) (ports : Ports) (config : Config) (chains : List (List InstanceId)) (w : ChainNets) (hw : EdtNets) (s : TriSources) (values : ℕ → Tri) →
    HasRing l ports config chains w hw → IsTriSettled l s values → (i : ℕ) → i < config.ring.stages →
    (values hw.update ≡ Zero → value_from values (l.cell (hw.stage i)).takes.input ≡ tri_sum (map (at_feed (λ k. values (hw.stage_net k)) (λ j. values (hw.channel j))) (feeds config.ring i)))
    × (values hw.update ≡ One → value_from values (l.cell (hw.stage i)).takes.input ≡ Zero)

abbrev pub PhaseValues : Type 0
PhaseValues =
    (l : Logic) (ports : Ports) (config : Config) (chains : List (List InstanceId)) (w : ChainNets) (hw : EdtNets) (s : TriSources) (values : ℕ → Tri) →
    (has : HasRing l ports config chains w hw) → IsTriSettled l s values → (chain : ℕ) (cell : InstanceId) (stands : cell_at chains chain zero ≡ Some cell) →
    values (has.phases chain cell stands).sum ≡ tri_sum (map (λ k. values (hw.stage_net k)) (phase_of config.ring chain))

abbrev pub HoldValues : Type 0
HoldValues =
    (l : Logic) (ports : Ports) (config : Config) (chains : List (List InstanceId)) (w : ChainNets) (hw : EdtNets) (s : TriSources) (values : ℕ → Tri) →
    HasRing l ports config chains w hw → HasCompactor l config chains hw → IsTriSettled l s values → (chain : ℕ) → chain < config.chains →
    (values hw.update ≡ Zero → value_from values (l.cell (hw.hold chain)).takes.input ≡ values (hw.hold_net chain))
    × (values hw.update ≡ One → value_from values (l.cell (hw.hold chain)).takes.input ≡ values (hw.mask_net chain))

-- what the compactor takes of a chain, by its hold bit
abbrev pub shown_by : Tri → Tri → Tri
shown_by One t = Zero
shown_by Zero t = t
shown_by Unknown Zero = Zero
shown_by Unknown One = Unknown
shown_by Unknown Unknown = Unknown

abbrev pub OutputValues : Type 0
OutputValues =
    (l : Logic) (config : Config) (chains : List (List InstanceId)) (hw : EdtNets) (s : TriSources) (values : ℕ → Tri) →
    HasCompactor l config chains hw → IsInRange config → IsTriSettled l s values → (j : ℕ) → j < length config.compactor.groups →
    values (hw.output j) ≡ tri_sum (map (λ chain. shown_by (values (hw.hold_net chain)) (values (hw.end_net chain))) (group_of config j))
