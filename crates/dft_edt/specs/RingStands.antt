-- What the parts of the ring are in a finished netlist, and what they compute there.
use Rattle.std.specs.Prelude.{ℕ, ◌+◌, ◌<◌, ◌≡◌, ◌&&◌, Bool, not, List, [], ◌∷◌, map}
use Rattle.std.specs.List.{range_with_len}
use Rattle.dft_base.specs.declared.tri.Tri.{Tri}
use Rattle.dft_base.specs.declared.tri.Tri.TheVariants.{Zero, One}
use Rattle.dft_cells.specs.declared.kind.Gate.TheVariants.{Inv}
use Rattle.dft_cells.specs.WellFormed.{IsWellFormed}
use Rattle.dft_netlist.specs.declared.ids.NetId.{NetId}
use Rattle.dft_netlist.specs.Drivers.{Net}
use Rattle.dft_behavior.specs.Logic.{Logic, Ports, Gate, logic_of}
use Rattle.dft_netlist.specs.Netlist.{Netlist}
use Rattle.dft_netlist.specs.NetDrivers.{IsSingle}
use Rattle.dft_behavior.specs.Settled.{Sources, bit_from, IsSettled, TriSources, value_from, IsTriSettled}
use Rattle.dft_config.specs.Config.{Config}
use Rattle.dft_config.specs.Range.{IsInRange}
use Rattle.dft_config.specs.Ring.{step, phase_of, phase_sum}
use Rattle.dft_parts.specs.declared.edt_ports.EdtPorts.{EdtPorts}
use Rattle.dft_parts.specs.Growth.{HasParts, instances_in}
use Rattle.dft_parts.specs.Parts.{Part}
use Rattle.dft_parts.specs.Recipes.{Start, behind, each, net_at, nets_made}
use Rattle.dft_parts.specs.Standing.{IsClockNet}
use Rattle.dft_parts.specs.Sums.{a_driving_gate}
use Rattle.dft_parts.specs.SumTrees.{IsSum, tri_sum}
use Rattle.dft_edt.specs.Feeds.{at_feed, feeds}
use Rattle.dft_edt.specs.Hardware.{EdtNets, HasStage}
use Rattle.dft_edt.specs.RingRecipe.{a_stage, a_ring}

-- ---- where the ring's nets and flip-flops stand

-- the parts of `run`
abbrev pub run_parts : EdtPorts → Start → List Part
run_parts ports at = (a_driving_gate Inv (ports.edt_update ∷ []) at).parts

-- the nets of the stages
abbrev pub stage_nets : Config → EdtPorts → Start → List NetId
stage_nets config ports at = (nets_made config.ring.stages (behind at (run_parts ports at))).value

-- where the stages begin
abbrev pub stages_start : Config → EdtPorts → Start → Start
stages_start config ports at = let first = behind at (run_parts ports at) in behind first (nets_made config.ring.stages first).parts

-- the parts of the first stages, so many
abbrev pub first_stages : Config → EdtPorts → Start → (count : ℕ) → List Part
first_stages config ports at count = (each (a_stage config.ring ports (a_ring config ports at).value.run (stage_nets config ports at)) (range_with_len 0 count) (stages_start config ports at)).parts

-- the flip-flop of a stage is the last instance that is made for it; the first instance, that of `run`, has this number
unfoldable pub stage_flop : Config → EdtPorts → Start → (number stage : ℕ) → ℕ
stage_flop config ports at number stage = number + instances_in (first_stages config ports at (stage + 1))

-- the hardware's nets and flip-flops, with those of the ring as its recipe makes them
abbrev pub with_ring : Config → EdtPorts → Start → (number : ℕ) → EdtNets → EdtNets
with_ring config ports at number hw = record hw {
  update = ports.edt_update.0;
  clock = ports.edt_clock.0;
  channel = λ channel. (net_at ports.channels channel).0;
  run = (a_ring config ports at).value.run.0;
  stage = stage_flop config ports at number;
  stage_net = λ stage. (net_at (stage_nets config ports at) stage).0;
}

-- ---- what they are

-- `run`, the stages, and for each chain its phase sum
pub record HasRingParts (l : Logic) (config : Config) (hw : EdtNets) (phase_nets : List NetId) : Type 0 where
  pub run : l.net hw.run ≡ Gate Inv (Net hw.update ∷ [])
  pub stages : (stage : ℕ) → stage < config.ring.stages → HasStage l config.ring hw stage
  pub phases : (chain : ℕ) → chain < config.chains → IsSum l (net_at phase_nets chain).0 (map hw.stage_net (phase_of config.ring chain))

-- In a finished netlist that has the parts of the ring's recipe they are the ring's hardware, whatever other hardware there is.
abbrev pub RingStands : Type 0
RingStands =
    (n : Netlist) (ports : Ports) (config : Config) (edt : EdtPorts) (at : Start) (number : ℕ) (hw : EdtNets) → IsSingle n → IsWellFormed n.library → at.library ≡ n.library → IsClockNet n ports edt.edt_clock.0 → IsInRange config →
    HasParts n number (a_ring config edt at).parts → HasRingParts (logic_of n ports) config (with_ring config edt at number hw) (a_ring config edt at).value.phases

-- ---- what they compute

-- In every settled assignment the next bit of a stage is `run` and the step of the ring, and a chain's phase net has its phase sum.
abbrev pub RingBits : Type 0
RingBits =
    (l : Logic) (config : Config) (hw : EdtNets) (phase_nets : List NetId) (s : Sources) (bits : ℕ → Bool) → HasRingParts l config hw phase_nets → IsSettled l s bits →
    ((stage : ℕ) → stage < config.ring.stages → bit_from s bits (l.cell (hw.stage stage)).takes.input ≡ (bits hw.run && step config.ring (λ channel. bits (hw.channel channel)) (λ k. bits (hw.stage_net k)) stage))
    × (bits hw.run ≡ not (bits hw.update)) × ((chain : ℕ) → chain < config.chains → bits (net_at phase_nets chain).0 ≡ phase_sum config.ring chain (λ k. bits (hw.stage_net k)))

-- So over three values: a stage takes the sum of what feeds it where edt_update is 0, and 0 where it is 1.
abbrev pub RingValues : Type 0
RingValues =
    (l : Logic) (config : Config) (hw : EdtNets) (phase_nets : List NetId) (s : TriSources) (values : ℕ → Tri) → HasRingParts l config hw phase_nets → IsTriSettled l s values →
    ((stage : ℕ) → stage < config.ring.stages →
    (values hw.update ≡ Zero → value_from values (l.cell (hw.stage stage)).takes.input ≡ tri_sum (map (at_feed (λ k. values (hw.stage_net k)) (λ j. values (hw.channel j))) (feeds config.ring stage)))
    × (values hw.update ≡ One → value_from values (l.cell (hw.stage stage)).takes.input ≡ Zero))
    × ((chain : ℕ) → chain < config.chains → values (net_at phase_nets chain).0 ≡ tri_sum (map (λ k. values (hw.stage_net k)) (phase_of config.ring chain)))
