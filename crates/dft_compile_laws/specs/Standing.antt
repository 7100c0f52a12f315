-- What is asked of compiled patterns, of each by its number.
use Rattle.std.specs.Prelude.{ℕ, ◌<◌, ◌≡◌, List, length, Some, slice_get}
use Rattle.std.specs.List.{AllByRecursion}
use Rattle.dft_netlist.specs.Netlist.{Netlist}
use Rattle.dft_config.specs.Config.{Config}
use Rattle.dft_stitch.specs.Chains.{plan_of}
use Rattle.dft_stitch.specs.Plans.{falling_head}
use Rattle.dft_expect.specs.Captures.{IsCapture, captured_domains}
use Rattle.dft_expect.specs.Loaded.{loaded_of}
use Rattle.dft_expect.specs.Masks.{always_of, by_chain, masks_of}
use Rattle.dft_scan_frame.specs.Statements.{IsReady}
use Rattle.dft_vectors.specs.PatternData.{PatternData, load_of}
use Rattle.dft_pattern_behavior.specs.Listed.{ArePatterns}

-- It captures what its load leaves, by domains of the configuration, and masks the chains in which something captured is unknown, and those
-- that always are.
pub record Captures (n : Netlist) (config : Config) (p : PatternData) : Type 0 where
  pub captured : IsCapture n config (plan_of n config).chains p.merged (loaded_of config.ring (load_of config p) (plan_of n config).cycles (falling_head (plan_of n config)) (plan_of n config).chains) p.response
  pub masks : p.masks ≡ masks_of (always_of config) (by_chain (plan_of n config).chains p.response.cells)
  pub domains : AllByRecursion (λ domain. domain < length config.domains) (captured_domains p.merged)

-- Where each does so they are patterns: in a ready design each domain has a clock.
abbrev pub PatternsStand : Type 0
PatternsStand =
    (n : Netlist) (config : Config) (patterns : List PatternData) → IsReady n config → ((number : ℕ) (p : PatternData) → slice_get patterns number ≡ Some p → Captures n config p) → ArePatterns n config patterns
