-- What one vector does to the compression hardware of a scanned netlist of style Edt (Rajski and others, 2004).
use Rattle.std.specs.Prelude.{ℕ, zero, suc, ◌-◌, ◌<◌, ◌≡◌, ◌&&◌, Bool, true, false, not, List, [], length, map, get_or, Some, if◌then◌else◌}
use Rattle.dft_base.specs.declared.tri.Tri.{Tri}
use Rattle.dft_base.specs.declared.tri.Tri.TheVariants.{Zero, One}
use Rattle.dft_base.specs.Tri.{known}
use Rattle.dft_netlist.specs.declared.ids.InstanceId.{InstanceId}
use Rattle.dft_behavior.specs.Logic.{Logic, Ports, logic_of}
use Rattle.dft_netlist.specs.Netlist.{Netlist}
use Rattle.dft_behavior.specs.Settled.{IsTriSettled}
use Rattle.dft_behavior.specs.Runs.{Now, Vector, Turn, IsTurn, after_turn, AreLow}
use Rattle.dft_abstract.specs.Cycle.{rise_of, strobe_sources, Halves, AreHalves, after_halves}
use Rattle.dft_abstract.specs.Laws.{shown}
use Rattle.dft_config.specs.Config.{Config}
use Rattle.dft_config.specs.Ring.{step, phase_sum, sum_of}
use Rattle.dft_runs.specs.WiderPorts.{Suits}
use Rattle.dft_stitch.specs.Chains.{plan_of}
use Rattle.dft_stitch.specs.Plans.{cell_at, falling_head}
use Rattle.dft_chains.specs.Shifts.{at_strobe}
use Rattle.dft_parts.specs.SumTrees.{tri_sum}
use Rattle.dft_edt.specs.Hardware.{IsEdt, group_of}
use Rattle.dft_config.specs.Segments.{segment_length, chain_in}
use Rattle.dft_edt.specs.Parts.{shown_by}
use Rattle.dft_edt.specs.Vectors.{IsEdtShift, IsClearing, Carries, Shifts, Clears, MasksMove, HoldsStay, HoldsTake}
use Rattle.dft_scan_frame.specs.Statements.{IsReady}
use Rattle.dft_insert.specs.declared.style.Style.TheVariants.{Edt}
use Rattle.dft_insert.specs.Statements.{scanned}
use Rattle.dft_insert.specs.Agreeing.{ports_in}
use Rattle.dft_scan_behavior.specs.Facts.{chain_nets, edt_hardware}

-- ---- ports that suit

-- ports with the clocks of the configuration and edt_clock, under which each of its resets is a reset, as those of a pattern set are
abbrev pub SuitsEdt : Netlist → Config → Ports → Type 0
SuitsEdt n config ports = Suits (ports_in Edt n config) ports

-- the scanned netlist of style Edt under these ports
abbrev pub edt_logic : Netlist → Config → Ports → Logic
edt_logic n config ports = logic_of (scanned Edt n config) ports

-- Under all ports that suit it has all of the hardware.
abbrev pub HasEdtUnder : Type 0
HasEdtUnder =
    (n : Netlist) (config : Config) (ports : Ports) → IsReady n config → SuitsEdt n config ports →
    IsEdt (edt_logic n config ports) (ports_in Edt n config) config (plan_of n config).chains (chain_nets Edt n config) (edt_hardware n config)

-- a shift vector: scan_enable and all resets are 1, edt_update is 0, every domain and edt_clock pulse
abbrev pub IsShift : Netlist → Config → Vector → Type 0
IsShift n config x = IsEdtShift (ports_in Edt n config) (chain_nets Edt n config) (edt_hardware n config) x

-- ---- in every run

-- What a shift vector leaves in the cells, whatever its channels carry: the first cell of a chain has the chain's phase sum, of the stages
-- before the vector where it is rising and of those after it where it is falling; each other cell has what the one before it had.
pub record AreShifted (n : Netlist) (config : Config) (old new : ℕ → Bool) : Type 0 where
  pub firsts : (chain : ℕ) (cell : InstanceId) → cell_at (plan_of n config).chains chain zero ≡ Some cell →
      new cell.0 ≡ phase_sum config.ring chain (λ k. (if falling_head (plan_of n config) chain then new else old) ((edt_hardware n config).stage k))
  pub others : (chain place : ℕ) (cell next : InstanceId) → cell_at (plan_of n config).chains chain place ≡ Some cell → cell_at (plan_of n config).chains chain (suc place) ≡ Some next → new next.0 ≡ old cell.0

-- And where its channels carry a row of bits each stage of the ring has its step from the stages before.
abbrev pub AreStepped : Netlist → Config → (row old new : ℕ → Bool) → Type 0
AreStepped n config row old new = (i : ℕ) → i < config.ring.stages → new ((edt_hardware n config).stage i) ≡ step config.ring row (λ k. old ((edt_hardware n config).stage k)) i

-- each mask bit has what the one before it in its segment had
abbrev pub AreMoved : Netlist → Config → (old new : ℕ → Bool) → Type 0
AreMoved n config old new =
    (m k : ℕ) → m < config.compactor.mask_inputs → suc k < segment_length config m → new ((edt_hardware n config).mask (chain_in config m (suc k))) ≡ old ((edt_hardware n config).mask (chain_in config m k))

-- and the first of a segment has what was sent to the segment's port
abbrev pub HasSent : Netlist → Config → (segment : ℕ) → Bool → (new : ℕ → Bool) → Type 0
HasSent n config m bit new = m < config.compactor.mask_inputs → zero < segment_length config m → new ((edt_hardware n config).mask (chain_in config m zero)) ≡ bit

-- the ring, the mask bits and the hold bits are as they were
pub record AreAsBefore {T : Type 0} (n : Netlist) (config : Config) (old new : ℕ → T) : Type 0 where
  pub stages : (i : ℕ) → i < config.ring.stages → new ((edt_hardware n config).stage i) ≡ old ((edt_hardware n config).stage i)
  pub masks : (chain : ℕ) → chain < config.chains → new ((edt_hardware n config).mask chain) ≡ old ((edt_hardware n config).mask chain)
  pub holds : (chain : ℕ) → chain < config.chains → new ((edt_hardware n config).hold chain) ≡ old ((edt_hardware n config).hold chain)

-- the last cell of a chain
abbrev pub last_cell : List (List InstanceId) → (chain : ℕ) → InstanceId
last_cell chains chain = let cells = get_or chains chain [] in get_or cells (length cells - 1) (record { 0 = 0 })

-- One vector, for every order of its edges and all free bits, while the clocks are low before it.
pub record ActsInRuns (n : Netlist) (config : Config) (ports : Ports) : Type 0 where
  pub shift : (x : Vector) (now : Now) (t : Turn) → IsShift n config x → AreLow now.state → IsTurn (edt_logic n config ports) x now t → AreShifted n config now.state.flops (after_turn (edt_logic n config ports) x now t).state.flops
  pub step : (row : ℕ → Bool) (x : Vector) (now : Now) (t : Turn) → IsShift n config x → Carries config (edt_hardware n config) row x → AreLow now.state → IsTurn (edt_logic n config ports) x now t →
      AreStepped n config row now.state.flops (after_turn (edt_logic n config ports) x now t).state.flops
  -- after a clearing vector the ring is 0
  pub clear : (x : Vector) (now : Now) (t : Turn) → IsClearing (edt_hardware n config) x → AreLow now.state → IsTurn (edt_logic n config ports) x now t →
      (i : ℕ) → i < config.ring.stages → (after_turn (edt_logic n config ports) x now t).state.flops ((edt_hardware n config).stage i) ≡ false
  -- where edt_clock pulses the mask bits move; each hold bit stays where edt_update is 0, and is its chain's mask bit of before where it is 1
  pub masks : (x : Vector) (now : Now) (t : Turn) → x.pulsed (edt_hardware n config).clock ≡ true → AreLow now.state → IsTurn (edt_logic n config ports) x now t →
      AreMoved n config now.state.flops (after_turn (edt_logic n config ports) x now t).state.flops
  pub sent : (m : ℕ) (bit : Bool) (x : Vector) (now : Now) (t : Turn) → x.pulsed (edt_hardware n config).clock ≡ true → x.ports ((edt_hardware n config).mask_port m) ≡ known bit → AreLow now.state → IsTurn (edt_logic n config ports) x now t →
      HasSent n config m bit (after_turn (edt_logic n config ports) x now t).state.flops
  pub stay : (x : Vector) (now : Now) (t : Turn) → x.pulsed (edt_hardware n config).clock ≡ true → x.ports (edt_hardware n config).update ≡ Zero → AreLow now.state → IsTurn (edt_logic n config ports) x now t →
      (chain : ℕ) → chain < config.chains → (after_turn (edt_logic n config ports) x now t).state.flops ((edt_hardware n config).hold chain) ≡ now.state.flops ((edt_hardware n config).hold chain)
  pub take : (x : Vector) (now : Now) (t : Turn) → x.pulsed (edt_hardware n config).clock ≡ true → x.ports (edt_hardware n config).update ≡ One → AreLow now.state → IsTurn (edt_logic n config ports) x now t →
      (chain : ℕ) → chain < config.chains → (after_turn (edt_logic n config ports) x now t).state.flops ((edt_hardware n config).hold chain) ≡ now.state.flops ((edt_hardware n config).mask chain)
  -- where edt_clock does not pulse all of it rests
  pub rest : (x : Vector) (now : Now) (t : Turn) → x.pulsed (edt_hardware n config).clock ≡ false → AreLow now.state → IsTurn (edt_logic n config ports) x now t →
      AreAsBefore n config now.state.flops (after_turn (edt_logic n config ports) x now t).state.flops
  -- at every strobe an output is the sum, over its group, of the last cells of the chains whose hold bit is 0
  pub strobe : (x : Vector) (now : Now) (t : Turn) → IsTurn (edt_logic n config ports) x now t → (j : ℕ) → j < length config.compactor.groups →
      shown t ((edt_hardware n config).output j)
      ≡ sum_of (λ chain. not (now.state.flops ((edt_hardware n config).hold chain)) && (at_strobe (edt_logic n config ports) x now t).flops (last_cell (plan_of n config).chains chain).0) (group_of config j)

-- So it is for every ready design, under all ports that suit.
abbrev pub VectorsActInRuns : Type 0
VectorsActInRuns = (n : Netlist) (config : Config) (ports : Ports) → IsReady n config → SuitsEdt n config ports → ActsInRuns n config ports

-- ---- on the abstract cycle, for any halves

pub record Acts (n : Netlist) (config : Config) (ports : Ports) : Type 0 where
  pub shift : (x : Vector) (old : ℕ → Tri) (h : Halves) → IsShift n config x → AreHalves (edt_logic n config ports) x old h →
      Shifts config (plan_of n config).chains (edt_hardware n config) (falling_head (plan_of n config)) (λ j. x.ports ((edt_hardware n config).channel j)) old (after_halves (edt_logic n config ports) x old h)
  pub clear : (x : Vector) (old : ℕ → Tri) (h : Halves) → IsClearing (edt_hardware n config) x → AreHalves (edt_logic n config ports) x old h →
      Clears config (edt_hardware n config) (after_halves (edt_logic n config ports) x old h)
  pub masks : (x : Vector) (old : ℕ → Tri) (h : Halves) → x.pulsed (edt_hardware n config).clock ≡ true → AreHalves (edt_logic n config ports) x old h →
      MasksMove config (edt_hardware n config) (λ m. x.ports ((edt_hardware n config).mask_port m)) old (after_halves (edt_logic n config ports) x old h)
  pub stay : (x : Vector) (old : ℕ → Tri) (h : Halves) → x.pulsed (edt_hardware n config).clock ≡ true → x.ports (edt_hardware n config).update ≡ Zero →
      AreHalves (edt_logic n config ports) x old h → HoldsStay config (edt_hardware n config) old (after_halves (edt_logic n config ports) x old h)
  pub take : (x : Vector) (old : ℕ → Tri) (h : Halves) → x.pulsed (edt_hardware n config).clock ≡ true → x.ports (edt_hardware n config).update ≡ One →
      AreHalves (edt_logic n config ports) x old h → HoldsTake config (edt_hardware n config) old (after_halves (edt_logic n config ports) x old h)
  pub rest : (x : Vector) (old : ℕ → Tri) (h : Halves) → x.pulsed (edt_hardware n config).clock ≡ false → AreAsBefore n config old (after_halves (edt_logic n config ports) x old h)
  -- a reset or set acts on the last cells at once
  pub strobe : (x : Vector) (old values : ℕ → Tri) → IsTriSettled (edt_logic n config ports) (strobe_sources (edt_logic n config ports) x old values) values → (j : ℕ) → j < length config.compactor.groups →
      values ((edt_hardware n config).output j)
      ≡ tri_sum (map (λ chain. shown_by (old ((edt_hardware n config).hold chain)) ((rise_of (edt_logic n config ports) x old).old (last_cell (plan_of n config).chains chain).0)) (group_of config j))

-- So it is for every ready design, under all ports that suit.
abbrev pub VectorsAct : Type 0
VectorsAct = (n : Netlist) (config : Config) (ports : Ports) → IsReady n config → SuitsEdt n config ports → Acts n config ports
