-- Vectors of a scanned netlist of style Edt that do what compiled patterns list.
use Rattle.std.specs.Prelude.{ℕ, ◌≡◌, ◌==◌, false, not, List, [], ◌∷◌, Option}
use Rattle.std.specs.List.{list_any}
use Rattle.dft_base.specs.declared.tri.Tri.{Tri}
use Rattle.dft_base.specs.declared.tri.Tri.TheVariants.{Zero, One, Unknown}
use Rattle.dft_netlist.specs.declared.ids.NetId.{NetId}
use Rattle.dft_behavior.specs.Logic.{Ports}
use Rattle.dft_netlist.specs.Netlist.{Netlist}
use Rattle.dft_behavior.specs.Runs.{Vector}
use Rattle.dft_config.specs.Config.{Config}
use Rattle.dft_stitch.specs.Chains.{plan_of}
use Rattle.dft_edt.specs.Vectors.{IsClearing}
use Rattle.dft_patterns.specs.declared.act.Act.{Act}
use Rattle.dft_patterns.specs.declared.act.Act.TheVariants.{Unset, Low, High, Pulse, ExpectLow, ExpectHigh, Ignore}
use Rattle.dft_patterns.specs.Steadiness.{is_pulse}
use Rattle.dft_scan_frame.specs.Statements.{IsReady}
use Rattle.dft_insert.specs.declared.style.Style.TheVariants.{Edt}
use Rattle.dft_insert.specs.Statements.{scanned}
use Rattle.dft_scan_behavior.specs.EdtVectors.{SuitsEdt}
use Rattle.dft_scan_behavior.specs.Facts.{edt_hardware}
use Rattle.dft_pattern_behavior.specs.Given.{AreCapturesFrom, Pattern, IsLoadOf}
use Rattle.dft_vectors.specs.PatternData.{PatternData}
use Rattle.dft_vectors.specs.Signals.{input_bits}
use Rattle.dft_vectors.specs.VectorList.{set_up_acts, load_vectors, captures_with, vectors_of}

-- ---- what acts do

-- what an act leaves an input at
abbrev pub set_by : Act → Tri
set_by Low = Zero
set_by High = One
set_by Pulse = Zero
set_by Unset = Unknown
set_by ExpectLow = Unknown
set_by ExpectHigh = Unknown
set_by Ignore = Unknown

-- a vector does these acts at these nets; the acts behind them are of other signals
abbrev pub DoesAt : Vector → List NetId → List Act → Type 0
DoesAt x [] acts = Unit {0}
DoesAt x (net ∷ nets) [] = ⊥
DoesAt x (net ∷ nets) (act ∷ acts) = ((x.ports net.0 ≡ set_by act) × (x.pulsed net.0 ≡ is_pulse act)) × DoesAt x nets acts

-- a vector does these acts at the bits of the input ports, and nothing else pulses
pub record Does (n : Netlist) (acts : List Act) (x : Vector) : Type 0 where
  pub inputs : DoesAt x (input_bits n.ports) acts
  pub others : (net : ℕ) → list_any (λ k. k.0 == net) (input_bits n.ports) ≡ false → x.pulsed net ≡ false

abbrev pub AllDo : Netlist → List (List Act) → List Vector → Type 0
AllDo n [] [] = Unit {0}
AllDo n [] (x ∷ xs) = ⊥
AllDo n (acts ∷ vectors) [] = ⊥
AllDo n (acts ∷ vectors) (x ∷ xs) = Does n acts x × AllDo n vectors xs

-- ---- the listed vectors

-- The set-up vector clears.
abbrev pub SetUpClears : Type 0
SetUpClears = (n : Netlist) (config : Config) (x : Vector) → IsReady n config → Does (scanned Edt n config) (set_up_acts n config) x → IsClearing (edt_hardware n config) x

-- The vectors of a load, whatever they compare, load a pattern.
abbrev pub LoadsLoad : Type 0
LoadsLoad =
    (n : Netlist) (config : Config) (p : Pattern) (before : Option PatternData) (xs : List Vector) → IsReady n config →
    AllDo (scanned Edt n config) (load_vectors n config (plan_of n config) p.table p.masks before) xs → IsLoadOf n config p xs

-- The capture vectors of a pattern from a domain on capture, whatever they compare.
abbrev pub CapturesCapture : Type 0
CapturesCapture =
    (n : Netlist) (config : Config) (p : Pattern) (domain : ℕ) (later : List ℕ) (outputs : List Tri) (xs : List Vector) → IsReady n config → AllDo (scanned Edt n config) (captures_with n config p.merged domain later outputs) xs → AreCapturesFrom n config p domain later xs

-- ---- ports

-- the ports of some vectors: what pulses in one of them is a clock, and all else may be a reset
abbrev pub ports_by : List Vector → Ports
ports_by xs = record { is_clock = λ net. list_any (λ x. x.pulsed net) xs; is_reset = λ net. not (list_any (λ x. x.pulsed net) xs) }

-- The ports of the vectors of some patterns suit those of the configuration.
abbrev pub SetSuits : Type 0
SetSuits =
    (n : Netlist) (config : Config) (p : PatternData) (patterns : List PatternData) (xs : List Vector) → IsReady n config →
    AllDo (scanned Edt n config) (vectors_of n config (plan_of n config) (p ∷ patterns)) xs → SuitsEdt n config (ports_by xs)
