-- A configuration, as clauses see it.
use Rattle.std.specs.Prelude.{ℕ, List}
use Rattle.dft_config.specs.declared.config.FillRule.{FillRule}
use Rattle.dft_config.specs.declared.config.RingConfig.{RingConfig}
use Rattle.dft_config.specs.declared.config.CompactorConfig.{CompactorConfig}
use Rattle.dft_config.specs.declared.config.PortNames.{PortNames}

pub record Config : Type 0 where
  -- the clock ports, the reset ports, and the flip-flops that are not scanned
  pub domains : List (List ℕ)
  pub resets : List (List ℕ)
  pub keep : List (List ℕ)
  pub chains : ℕ
  -- the cycles before a load reaches the longest chain
  pub warm : ℕ
  -- the patterns that a cube may still join
  pub window : ℕ
  pub fill : FillRule
  -- the chains that are masked in each pattern
  pub always_masked : List ℕ
  pub ring : RingConfig
  pub compactor : CompactorConfig
  pub names : PortNames
