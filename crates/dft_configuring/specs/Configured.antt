-- A made configuration.
use Rattle.std.specs.Prelude.{◌≡◌, ◌≤◌, length, None}
use Rattle.dft_netlist.specs.Netlist.{Netlist}
use Rattle.dft_config.specs.Config.{Config}
use Rattle.dft_config.specs.Range.{IsInRange}
use Rattle.dft_config_text.specs.Refusals.{IsConfig}
use Rattle.dft_config_out.specs.declared.made.Made.{Made}
use Rattle.dft_config_out.specs.Written.{config_of, made_text}
use Rattle.dft_rules.specs.Refusals as rules
use Rattle.dft_stitch.specs.Chains.{plan_of}
use Rattle.dft_stitch.specs.Limits as limits
use Rattle.dft_insert.specs.declared.style.Style.TheVariants.{Edt}
use Rattle.dft_insert.specs.Refusals as insert
use Rattle.dft_configuring.specs.declared.configuring.Configured.{Configured}
use Rattle.dft_configuring.specs.declared.wanted.Wanted.{Wanted}
use Rattle.dft_configuring.specs.Counted.{counts_of}
use Rattle.dft_configuring.specs.Refusals.{early}
use Rattle.dft_configuring.specs.Rooted.{cell_count}
use Rattle.dft_configuring.specs.Searching.{IsChosen}

-- no check of a compilation before its cubes refuses the netlist under a configuration: of the scan rules, of the plan, of the insertion
pub record Passes (n : Netlist) (config : Config) : Type 0 where
  pub scanned : rules.refusal n config ≡ None
  pub planned : limits.refusal n config ≡ None
  pub inserted : insert.refusal Edt n config (plan_of n config) ≡ None

-- It is the chosen configuration; its text is the one of the stated form, which is read as it; and no check before the cubes of a compilation refuses it.
pub record IsConfigured (n : Netlist) (wanted : Wanted) (configured : Configured) : Type 0 where
  pub made : Made
  pub passed : early n wanted ≡ None
  pub chosen : IsChosen n wanted made
  pub config : configured.config ≡ config_of made
  pub text : configured.text.items ≡ made_text (cell_count n) made
  pub read : IsConfig configured.text.items configured.config
  pub range : IsInRange configured.config
  pub short : length configured.text.items ≤ 67108864
  pub passes : Passes n configured.config
  pub counts : configured.counts ≡ counts_of n configured.config
