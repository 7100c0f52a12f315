-- A replay of compiled patterns on the scanned netlist passes, and how many bits it compares.
use Rattle.std.specs.Prelude.{ℕ, ◌+◌, ◌*◌, ◌≡◌, List, length, count_by, sum_by, None}
use Rattle.dft_base.specs.Tri.{is_known}
use Rattle.dft_netlist.specs.Netlist.{Netlist}
use Rattle.dft_netlist.specs.Orders.{IsOrder}
use Rattle.dft_behavior.specs.Runs.{Now, Turn}
use Rattle.dft_netlist.specs.Sound.{IsNetlist}
use Rattle.dft_config.specs.Config.{Config}
use Rattle.dft_stitch.specs.Chains.{plan_of}
use Rattle.dft_stitch.specs.Plans.{Plan}
use Rattle.dft_replay.specs.declared.verdict.Verdict.TheVariants.{Pass}
use Rattle.dft_replay.specs.Fits.{first_misfit}
use Rattle.dft_replay.specs.Laws.{AllShow, IsRunOf}
use Rattle.dft_replay.specs.Rows.{rows_of}
use Rattle.dft_replay.specs.Verdicts.{HasVerdict}
use Rattle.dft_scan_frame.specs.Statements.{IsReady}
use Rattle.dft_insert.specs.declared.style.Style.TheVariants.{Edt}
use Rattle.dft_insert.specs.Statements.{scanned}
use Rattle.dft_vectors.specs.PatternData.{PatternData}
use Rattle.dft_pattern_behavior.specs.Listed.{ArePatterns}
use Rattle.dft_compile_laws.specs.Passing.{set_of}

-- ---- how many bits are compared

-- of a pattern: the output bits that its captures know, and each output of the compactor in each cycle of its unload
abbrev pub compared_of : Config → Plan → PatternData → ℕ
compared_of config plan p = count_by is_known p.response.outputs + plan.cycles * length config.compactor.groups

-- of all patterns of a set
abbrev pub all_compared : Config → Plan → List PatternData → ℕ
all_compared config plan patterns = sum_by (compared_of config plan) patterns

-- ---- the verdict

-- Each signal of the set is a bit of a port with its direction; a replay passes, which compares these bits and no other; and every run
-- shows each of them as printed.
pub record Passes (n : Netlist) (config : Config) (patterns : List PatternData) : Type 0 where
  pub fits : first_misfit (scanned Edt n config) (set_of n config patterns).signals ≡ None
  pub verdict : HasVerdict (scanned Edt n config) (set_of n config patterns) (Pass (all_compared config (plan_of n config) patterns))
  pub shows : (start : Now) (turns : List Turn) → IsRunOf (scanned Edt n config) (set_of n config patterns) start turns → AllShow (rows_of (scanned Edt n config) (set_of n config patterns)) turns

-- So it is for patterns of every ready design, where the scanned netlist is one whose nets have an order, as one that was made is.
abbrev pub WrittenPass : Type 0
WrittenPass =
    (n : Netlist) (config : Config) (patterns : List PatternData) (order : List ℕ) → IsReady n config → IsNetlist (scanned Edt n config) → IsOrder (scanned Edt n config) order → ArePatterns n config patterns →
    Passes n config patterns
