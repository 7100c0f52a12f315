-- What the abstract cycle shows while patterns are loaded, capture and are unloaded (Rajski and others, 2004).
use Rattle.std.specs.Prelude.{ℕ, ◌<◌, ◌≡◌, List, [], ◌∷◌, drop, length, Option, None, Some, slice_get}
use Rattle.dft_base.specs.declared.tri.Tri.{Tri}
use Rattle.dft_base.specs.Tri.{known, AboveTri}
use Rattle.dft_netlist.specs.declared.ids.NetId.{NetId}
use Rattle.dft_behavior.specs.Logic.{Ports}
use Rattle.dft_netlist.specs.Netlist.{Netlist}
use Rattle.dft_behavior.specs.Runs.{Vector}
use Rattle.dft_abstract.specs.Cycle.{Round, IsRound, after_round}
use Rattle.dft_config.specs.Config.{Config}
use Rattle.dft_config.specs.Ring.{Table}
use Rattle.dft_runs.specs.Passes.{AreRounds, after_rounds}
use Rattle.dft_stitch.specs.Chains.{plan_of}
use Rattle.dft_stitch.specs.Plans.{falling_head}
use Rattle.dft_edt.specs.Hardware.{group_of}
use Rattle.dft_edt.specs.Vectors.{IsClearing}
use Rattle.dft_expect.specs.Captures.{output_bits}
use Rattle.dft_expect.specs.Expected.{output_bit}
use Rattle.dft_expect.specs.Masks.{by_chain}
use Rattle.dft_scan_frame.specs.Statements.{IsReady}
use Rattle.dft_insert.specs.declared.style.Style.TheVariants.{Edt}
use Rattle.dft_insert.specs.Agreeing.{places_in}
use Rattle.dft_scan_behavior.specs.EdtVectors.{SuitsEdt, edt_logic}
use Rattle.dft_scan_behavior.specs.Experiments.{Carry}
use Rattle.dft_scan_behavior.specs.Facts.{edt_hardware}
use Rattle.dft_pattern_behavior.specs.Given.{AreCapturesOf, Pattern, IsPattern, IsLoadOf}

-- ---- what is shown

-- while a load with this table runs, each output of the compactor shows in each cycle what is expected of the pattern before it
abbrev pub ShowsUnload : Netlist → Config → Pattern → (running : Table) → List Round → Type 0
ShowsUnload n config p running rs =
    (t : ℕ) (r : Round) → slice_get rs t ≡ Some r → (j : ℕ) → j < length config.compactor.groups →
    r.strobe ((edt_hardware n config).output j) ≡ known (output_bit config.ring running (falling_head (plan_of n config)) p.masks (by_chain (plan_of n config).chains p.response.cells) t (group_of config j))

-- before the first pattern nothing is expected
abbrev pub ShowsBefore : Netlist → Config → Option Pattern → (running : Table) → List Round → Type 0
ShowsBefore n config None running rs = Unit {0}
ShowsBefore n config (Some p) running rs = ShowsUnload n config p running rs

-- at a capture vector each output port of the design shows no other value than the captured one, where that is known
abbrev pub ShowsCapture : Netlist → Config → (outputs : List Tri) → Round → Type 0
ShowsCapture n config outputs r =
    (k : ℕ) (net : NetId) (value : Tri) → slice_get (output_bits n.ports) k ≡ Some net → slice_get outputs k ≡ Some value → AboveTri value (r.strobe ((places_in Edt n config).moved net.0))

-- so it is at each of a pattern's capture vectors, each with its own of the captured values
abbrev pub ShowsCaptures : Netlist → Config → (outputs : List Tri) → List Round → Type 0
ShowsCaptures n config outputs [] = Unit {0}
ShowsCaptures n config outputs (r ∷ rs) = ShowsCapture n config outputs r × ShowsCaptures n config (drop (length (output_bits n.ports)) outputs) rs

-- ---- one pattern

-- Behind a clearing vector the load of a pattern, and its captures, show this; and whatever load comes next shows what was captured.
pub record LoadShown (n : Netlist) (config : Config) (ports : Ports) (p : Pattern) (old : ℕ → Tri) (load caught : List Vector) (rs ts : List Round) : Type 0 where
  pub captures : ShowsCaptures n config p.response.outputs ts
  pub unloads : (running : Table) (xs : List Vector) (qs : List Round) → Carry n config running xs → AreRounds (edt_logic n config ports) (after_rounds (edt_logic n config ports) (after_rounds (edt_logic n config ports) old load rs) caught ts) xs qs →
      ShowsUnload n config p running qs

abbrev pub LoadsShow : Type 0
LoadsShow =
    (n : Netlist) (config : Config) (ports : Ports) (p : Pattern) (clear : Vector) (before : ℕ → Tri) (c : Round) (load captures : List Vector) (rs ts : List Round) →
    let l = edt_logic n config ports in
    let old = after_round l clear before c in
    IsReady n config → SuitsEdt n config ports → IsPattern n config p → IsClearing (edt_hardware n config) clear → IsRound l clear before c →
    IsLoadOf n config p load → AreCapturesOf n config p captures → AreRounds l old load rs → AreRounds l (after_rounds l old load rs) captures ts → LoadShown n config ports p old load captures rs ts

-- ---- one pattern after another

-- a pattern with its load and its captures, and their rounds
pub record Played : Type 0 where
  pub pattern : Pattern
  pub load : List Vector
  pub captures : List Vector
  pub rounds : List Round
  pub capturing : List Round

-- the last load, which unloads the last pattern
pub record LastLoad : Type 0 where
  pub table : Table
  pub load : List Vector
  pub rounds : List Round

-- patterns are played, one after another, from these values, and then the last load
abbrev pub ArePlayed : Netlist → Config → Ports → (old : ℕ → Tri) → List Played → LastLoad → Type 0
ArePlayed n config ports old [] end = Carry n config end.table end.load × AreRounds (edt_logic n config ports) old end.load end.rounds
ArePlayed n config ports old (p ∷ more) end =
    let l = edt_logic n config ports in
    let loaded = after_rounds l old p.load p.rounds in
    IsPattern n config p.pattern × IsLoadOf n config p.pattern p.load × AreCapturesOf n config p.pattern p.captures × AreRounds l old p.load p.rounds × AreRounds l loaded p.captures p.capturing
    × ArePlayed n config ports (after_rounds l loaded p.captures p.capturing) more end

-- each load shows what the pattern before it captured, and each capture what it knows
abbrev pub AreShown : Netlist → Config → (before : Option Pattern) → List Played → LastLoad → Type 0
AreShown n config before [] end = ShowsBefore n config before end.table end.rounds
AreShown n config before (p ∷ more) end = ShowsBefore n config before p.pattern.table p.rounds × ShowsCaptures n config p.pattern.response.outputs p.capturing × AreShown n config (Some p.pattern) more end

-- Behind a set-up vector that clears, patterns that are played show what is expected of them, in every load and at every capture.
abbrev pub PatternsShow : Type 0
PatternsShow =
    (n : Netlist) (config : Config) (ports : Ports) (clear : Vector) (before : ℕ → Tri) (c : Round) (played : List Played) (end : LastLoad) →
    let l = edt_logic n config ports in
    IsReady n config → SuitsEdt n config ports → IsClearing (edt_hardware n config) clear → IsRound l clear before c → ArePlayed n config ports (after_round l clear before c) played end →
    AreShown n config None played end
