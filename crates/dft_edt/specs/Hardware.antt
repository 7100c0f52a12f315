-- What it is for a design to have the hardware of compression: ring, phase shifter, masks and compactor (Rajski and others, 2004).
use Rattle.std.specs.Prelude.{ℕ, zero, suc, ◌<◌, ◌≡◌, Bool, true, false, List, [], ◌∷◌, map, length, get_or, None, Some}
use Rattle.dft_cells.specs.declared.kind.Gate.TheVariants.{Buf, Inv, And, Or}
use Rattle.dft_netlist.specs.declared.ids.InstanceId.{InstanceId}
use Rattle.dft_netlist.specs.Drivers.{Source, Net}
use Rattle.dft_behavior.specs.Logic.{Logic, Ports, Input, Gate, Flop, Lockup}
use Rattle.dft_config.specs.declared.config.RingConfig.{RingConfig}
use Rattle.dft_config.specs.Config.{Config}
use Rattle.dft_config.specs.Segments.{chain_in, segment_length}
use Rattle.dft_config.specs.Ring.{phase_of}
use Rattle.dft_parts.specs.Standing.{IsFlop}
use Rattle.dft_parts.specs.SumTrees.{IsSum}
use Rattle.dft_runs.specs.WiderPorts.{MeansMore}
use Rattle.dft_stitch.specs.Plans.{cell_at}
use Rattle.dft_chains.specs.Hardware.{ChainNets, HasChains}
use Rattle.dft_edt.specs.Feeds.{at_feed, feeds}

-- the nets and the flip-flops that other parts refer to; what stands between them is a part's own
pub record EdtNets : Type 0 where
  -- the ports edt_update and edt_clock, and those of channels, masks and outputs
  pub update : ℕ
  pub clock : ℕ
  pub channel : ℕ → ℕ
  pub mask_port : ℕ → ℕ
  pub output : ℕ → ℕ
  -- the inverse of edt_update
  pub run : ℕ
  -- by stage: its flip-flop and its net
  pub stage : ℕ → ℕ
  pub stage_net : ℕ → ℕ
  -- by chain: the flip-flops of its mask bit and of its hold bit, and their nets
  pub mask : ℕ → ℕ
  pub mask_net : ℕ → ℕ
  pub hold : ℕ → ℕ
  pub hold_net : ℕ → ℕ
  -- by chain: the net of its last cell, and what the compactor takes of it
  pub end_net : ℕ → ℕ
  pub gated : ℕ → ℕ

-- ---- ring, phase shifter and chains

-- a stage: its flip-flop takes the sum of its feeds where `run` is 1, and else 0
pub record HasStage (l : Logic) (ring : RingConfig) (hw : EdtNets) (i : ℕ) : Type 0 where
  pub sum : ℕ
  pub kept : ℕ
  pub sums : IsSum l sum (map (at_feed hw.stage_net hw.channel) (feeds ring i))
  pub gate : l.net kept ≡ Gate And (Net sum ∷ Net hw.run ∷ [])
  pub flop : IsFlop l hw.clock (hw.stage i) (hw.stage_net i) kept

-- a lock-up on edt_clock takes a net and leads into the chain
pub record IsLatched (l : Logic) (hw : EdtNets) (into : Source) (sum : ℕ) : Type 0 where
  pub lockup : ℕ
  pub entry : ℕ
  pub latch : l.net entry ≡ Lockup lockup hw.clock false (Net sum)
  pub leads : into ≡ Net entry

-- how a chain is entered: a falling first cell takes the sum itself, a rising one through a lock-up
abbrev pub IsEntered : Logic → EdtNets → (into : Source) → (sum : ℕ) → (falling : Bool) → Type 0
IsEntered l hw into sum true = into ≡ Net sum
IsEntered l hw into sum false = IsLatched l hw into sum

-- a chain's phase sum, which enters the chain
pub record HasPhase (l : Logic) (ring : RingConfig) (hw : EdtNets) (into : Source) (falling : Bool) (chain : ℕ) : Type 0 where
  pub sum : ℕ
  pub sums : IsSum l sum (map hw.stage_net (phase_of ring chain))
  pub entered : IsEntered l hw into sum falling

pub record HasRing (l : Logic) (ports : Ports) (config : Config) (chains : List (List InstanceId)) (w : ChainNets) (hw : EdtNets) : Type 0 where
  pub count : length chains ≡ config.chains
  pub chained : HasChains l ports chains w
  pub update : l.net hw.update ≡ Input
  pub channels : (j : ℕ) → j < config.ring.channels → l.net (hw.channel j) ≡ Input
  pub run : l.net hw.run ≡ Gate Inv (Net hw.update ∷ [])
  pub stages : (i : ℕ) → i < config.ring.stages → HasStage l config.ring hw i
  -- by whether the first cell of the chain is falling
  pub phases : (chain : ℕ) (cell : InstanceId) → cell_at chains chain zero ≡ Some cell → HasPhase l config.ring hw (w.into chain zero) (l.cell cell.0).falling chain

-- which chains begin with a falling cell
abbrev pub HeadsAre : Logic → (chains : List (List InstanceId)) → (falling : ℕ → Bool) → Type 0
HeadsAre l chains falling = (chain : ℕ) (cell : InstanceId) → cell_at chains chain zero ≡ Some cell → (l.cell cell.0).falling ≡ falling chain

-- ---- masks and compactor

-- what there is before a place of a segment, by what there is for ports and for chains
abbrev pub before_in : {T : Type 0} → Config → (ports chains : ℕ → T) → (segment place : ℕ) → T
before_in config ports chains m zero = ports m
before_in config ports chains m (suc k) = chains (chain_in config m k)

-- a hold bit takes the mask bit where edt_update is 1, and else stays
pub record HasHold (l : Logic) (hw : EdtNets) (chain : ℕ) : Type 0 where
  pub taken : ℕ
  pub kept : ℕ
  pub next : ℕ
  pub take : l.net taken ≡ Gate And (Net hw.update ∷ Net (hw.mask_net chain) ∷ [])
  pub keep : l.net kept ≡ Gate And (Net hw.run ∷ Net (hw.hold_net chain) ∷ [])
  pub either : l.net next ≡ Gate Or (Net taken ∷ Net kept ∷ [])
  pub flop : IsFlop l hw.clock (hw.hold chain) (hw.hold_net chain) next

-- the last cell of a chain goes to the compactor where its hold bit is 0
pub record HasEnd (l : Logic) (chains : List (List InstanceId)) (hw : EdtNets) (chain : ℕ) : Type 0 where
  pub place : ℕ
  pub cell : InstanceId
  pub here : cell_at chains chain place ≡ Some cell
  pub last : cell_at chains chain (suc place) ≡ None
  pub shown : ℕ
  pub end : l.net (hw.end_net chain) ≡ Flop cell.0 false
  pub show : l.net shown ≡ Gate Inv (Net (hw.hold_net chain) ∷ [])
  pub gate : l.net (hw.gated chain) ≡ Gate And (Net shown ∷ Net (hw.end_net chain) ∷ [])

-- the chains that an output sums
abbrev pub group_of : Config → ℕ → List ℕ
group_of config j = get_or config.compactor.groups j []

pub record HasOutput (l : Logic) (config : Config) (hw : EdtNets) (j : ℕ) : Type 0 where
  pub sum : ℕ
  pub sums : IsSum l sum (map hw.gated (group_of config j))
  pub buffer : l.net (hw.output j) ≡ Gate Buf (Net sum ∷ [])

pub record HasCompactor (l : Logic) (config : Config) (chains : List (List InstanceId)) (hw : EdtNets) : Type 0 where
  pub ports : (m : ℕ) → m < config.compactor.mask_inputs → l.net (hw.mask_port m) ≡ Input
  pub masks : (m k : ℕ) → m < config.compactor.mask_inputs → k < segment_length config m →
      IsFlop l hw.clock (hw.mask (chain_in config m k)) (hw.mask_net (chain_in config m k)) (before_in config hw.mask_port hw.mask_net m k)
  pub holds : (chain : ℕ) → chain < config.chains → HasHold l hw chain
  pub ends : (chain : ℕ) → chain < config.chains → HasEnd l chains hw chain
  pub outputs : (j : ℕ) → j < length config.compactor.groups → HasOutput l config hw j

-- all of it
pub record IsEdt (l : Logic) (ports : Ports) (config : Config) (chains : List (List InstanceId)) (w : ChainNets) (hw : EdtNets) : Type 0 where
  pub ring : HasRing l ports config chains w hw
  pub compactor : HasCompactor l config chains hw

-- ---- under wider ports

-- The hardware of a logic stands in every logic that means as much or more.
abbrev pub HardwareStays : Type 0
HardwareStays =
    (l m : Logic) (ports : Ports) (config : Config) (chains : List (List InstanceId)) (w : ChainNets) (hw : EdtNets) → MeansMore l m →
    (HasRing l ports config chains w hw → HasRing m ports config chains w hw) × (HasCompactor l config chains hw → HasCompactor m config chains hw)
