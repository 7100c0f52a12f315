-- A made configuration is taken: its text is read, and no check of a compilation before its cubes fails.
use Rattle.std.specs.Prelude.{ℕ, ◌≡◌, List, [], ◌∷◌, None, option_map}
use Rattle.dft_netlist.specs.Netlist.{Netlist}
use Rattle.dft_config_text.specs.declared.error.ConfigError.{ConfigError}
use Rattle.dft_config.specs.Config.{Config}
use Rattle.dft_config_text.specs.Refusals.{IsConfig, IsRefused}
use Rattle.dft_config_out_laws.specs.Texts.{IsForMemory}
use Rattle.dft_stitch.specs.Chains.{plan_of}
use Rattle.dft_insert.specs.declared.style.Style.TheVariants.{Plain}
use Rattle.dft_insert.specs.Refusals as insert
use Rattle.dft_scan.specs.declared.error.ScanError.TheVariants.{Insert, Report}
use Rattle.dft_scan.specs.Refusals as scan
use Rattle.dft_scan.specs.Scans.{report_text}
use Rattle.dft_compile.specs.Refusals.{first_refusal}
use Rattle.dft_configuring.specs.declared.configuring.Configured.{Configured}
use Rattle.dft_configuring.specs.declared.wanted.Wanted.{Wanted}
use Rattle.dft_configuring.specs.Configured.{IsConfigured}

-- the text gives the configuration, and no other, and is refused for want of memory alone
pub record IsTaken (text : List ℕ) (config : Config) : Type 0 where
  pub read : IsConfig text config
  pub alone : (other : Config) → IsConfig text other → other ≡ config
  pub refused : (error : ConfigError) → IsRefused text error → IsForMemory error

-- So it is with the text of a made configuration.
abbrev pub TextsAreTaken : Type 0
TextsAreTaken = (n : Netlist) (wanted : Wanted) (configured : Configured) → IsConfigured n wanted configured → IsTaken configured.text.items configured.config

-- No check of a compilation of the netlist before its cubes fails: of the scan rules, of the plan, and of what is inserted.
abbrev pub CompilesPass : Type 0
CompilesPass = (n : Netlist) (wanted : Wanted) (configured : Configured) → IsConfigured n wanted configured → first_refusal n configured.config ≡ None

-- A scan of it is refused by its insertion or its report alone.
abbrev pub ScansPass : Type 0
ScansPass =
    (n : Netlist) (wanted : Wanted) (configured : Configured) → IsConfigured n wanted configured →
    scan.refusal n configured.config ≡ scan.first_failing (option_map Insert (insert.refusal Plain n configured.config (plan_of n configured.config)) ∷ option_map Report (scan.too_long (report_text n configured.config)) ∷ [])
