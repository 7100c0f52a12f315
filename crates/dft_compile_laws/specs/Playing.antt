-- Where the vectors of compiled patterns load and capture a pattern (Rajski and others, 2004).
use Rattle.std.specs.Prelude.{ℕ, ◌+◌, ◌≡◌, Bool, List, ◌∷◌, ◌++◌, map, Some, slice_get, take, drop}
use Rattle.dft_behavior.specs.Logic.{Logic, Ports}
use Rattle.dft_netlist.specs.Netlist.{Netlist}
use Rattle.dft_behavior.specs.Runs.{Now, Vector, Turn, IsRun}
use Rattle.dft_config.specs.Config.{Config}
use Rattle.dft_config.specs.Ring.{Table}
use Rattle.dft_runs.specs.Passes.{after_turns}
use Rattle.dft_stitch.specs.Chains.{plan_of}
use Rattle.dft_edt.specs.Vectors.{IsClearing}
use Rattle.dft_scan_frame.specs.Statements.{IsReady}
use Rattle.dft_insert.specs.declared.style.Style.TheVariants.{Edt}
use Rattle.dft_insert.specs.Statements.{scanned}
use Rattle.dft_scan_behavior.specs.EdtVectors.{edt_logic}
use Rattle.dft_scan_behavior.specs.Facts.{edt_hardware}
use Rattle.dft_pattern_behavior.specs.Given.{AreCapturesOf, Pattern, IsLoadOf}
use Rattle.dft_vectors.specs.PatternData.{PatternData, load_of, merged_of}
use Rattle.dft_vectors.specs.VectorList.{captures_in, first_vector, vectors_of}
use Rattle.dft_pattern_behavior.specs.Doing.{AllDo}
use Rattle.dft_pattern_behavior.specs.Listed.{pattern_of}
use Rattle.dft_load_laws.specs.Loading.{LoadRun, after_load}

-- the number of the first capture vector of a pattern among these: its load stands before it, and before that the load and the captures of
-- each pattern before it, and the set-up vector
abbrev pub capture_number : Netlist → Config → List PatternData → (pattern : ℕ) → ℕ
capture_number n config patterns p = first_vector (plan_of n config).cycles (captures_in (map merged_of patterns)) p + (plan_of n config).cycles

-- these vectors stand from this number on
pub record StandFrom (xs : List Vector) (v : ℕ) (ys : List Vector) : Type 0 where
  pub rest : List Vector
  pub is : drop v xs ≡ ys ++ rest

-- the vectors from this number on capture the pattern, and those before it end with a clearing vector and the pattern's load
pub record IsPlayedAt (n : Netlist) (config : Config) (p : Pattern) (xs : List Vector) (v : ℕ) : Type 0 where
  pub before : List Vector
  pub clear : Vector
  pub load : List Vector
  pub front : take v xs ≡ before ++ (clear ∷ load)
  pub clearing : IsClearing (edt_hardware n config) clear
  pub loads : IsLoadOf n config p load
  pub captures : List Vector
  pub at : StandFrom xs v captures
  pub captured : AreCapturesOf n config p captures

-- Vectors that do what is listed for some patterns play each of them.
abbrev pub PatternsPlay : Type 0
PatternsPlay =
    (n : Netlist) (config : Config) (patterns : List PatternData) (xs : List Vector) → IsReady n config → AllDo (scanned Edt n config) (vectors_of n config (plan_of n config) patterns) xs →
    (p : ℕ) (d : PatternData) → slice_get patterns p ≡ Some d → IsPlayedAt n config (pattern_of config d) xs (capture_number n config patterns p)

-- ---- runs

-- the bits of the flip-flops where the vector with this number begins, in a run
abbrev pub flops_before : Logic → List Vector → Now → List Turn → (v : ℕ) → ℕ → Bool
flops_before l xs start ts v = (after_turns l start (take v xs) (take v ts)).state.flops

-- up to there it is a run of a load with the table
pub record EndsLoad (n : Netlist) (config : Config) (ports : Ports) (table : Table) (xs : List Vector) (start : Now) (ts : List Turn) (v : ℕ) : Type 0 where
  pub run : LoadRun n config ports table
  pub same : after_load n config ports table run ≡ flops_before (edt_logic n config ports) xs start ts v

-- A run over such vectors is, up to the first capture vector of a pattern, a run of the pattern's load.
abbrev pub RunsLoad : Type 0
RunsLoad =
    (n : Netlist) (config : Config) (ports : Ports) (patterns : List PatternData) (xs : List Vector) (start : Now) (ts : List Turn) → IsReady n config →
    AllDo (scanned Edt n config) (vectors_of n config (plan_of n config) patterns) xs → IsRun (edt_logic n config ports) xs start ts →
    (p : ℕ) (d : PatternData) → slice_get patterns p ≡ Some d → EndsLoad n config ports (load_of config d) xs start ts (capture_number n config patterns p)
