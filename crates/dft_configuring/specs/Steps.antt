-- What the steps of the making hold.
use Rattle.std.specs.Prelude.{ℕ, ◌≡◌, ◌<◌, ◌≤◌, Bool, true, false, length, Option, None, Some}
use Rattle.dft_netlist.specs.Netlist.{Netlist}
use Rattle.dft_config.specs.Config.{Config}
use Rattle.dft_config_text.specs.Refusals.{IsConfig}
use Rattle.dft_config_out.specs.declared.made.Made.{Made}
use Rattle.dft_config_out.specs.Written.{config_of, made_text}
use Rattle.dft_rules.specs.Refusals as rules
use Rattle.dft_stitch.specs.Limits as limits
use Rattle.dft_configure.specs.Found.{AreChosen}
use Rattle.dft_configure.specs.Roots.{domains_of}
use Rattle.dft_configuring.specs.declared.checking.Base.{Base}
use Rattle.dft_configuring.specs.declared.reading.Written.{Written}
use Rattle.dft_configuring.specs.declared.wanted.Wanted.{Wanted}
use Rattle.dft_configuring.specs.Made.{output_count}
use Rattle.dft_configuring.specs.Refusals.{early, many_masks}
use Rattle.dft_configuring.specs.Rooted.{cell_count, chain_count, rooted}
use Rattle.dft_configuring.specs.Searching.{IsBad, IsChosen, IsGood}

-- the checks before a ring is sought pass
pub record IsAccepted (n : Netlist) (wanted : Wanted) : Type 0 where
  pub none : early n wanted ≡ None
  pub clocks : 0 < length (domains_of n)
  pub few : (1 ≤ chain_count n wanted) × (chain_count n wanted ≤ 1024)
  pub scanned : rules.refusal n (rooted n (chain_count n wanted)) ≡ None
  pub outputs : output_count n wanted ≤ chain_count n wanted
  pub masks : many_masks (chain_count n wanted) wanted.masks ≡ None

-- what is found before a ring is sought
pub record IsBase (n : Netlist) (wanted : Wanted) (base : Base) : Type 0 where
  pub roots : AreChosen n base.roots
  pub cells : base.cells ≡ cell_count n
  pub chains : base.chains ≡ chain_count n wanted
  pub few : base.cells ≤ 262144
  pub accepted : IsAccepted n wanted

-- this is the text of a made configuration, and what it is read as
pub record IsWritten (cells : ℕ) (made : Made) (written : Written) : Type 0 where
  pub config : written.config ≡ config_of made
  pub text : written.text.items ≡ made_text cells made
  pub read : IsConfig written.text.items written.config
  pub short : length written.text.items ≤ 67108864

-- the load equations are good, or not
abbrev pub IsGoodWhere : Netlist → Config → (good : Bool) → Type 0
IsGoodWhere n config true = IsGood n config
IsGoodWhere n config false = IsBad n config

-- what is made, tried: its text where its load equations are good
abbrev pub IsTried : Netlist → (cells : ℕ) → Made → Option Written → Type 0
IsTried n cells made None = IsBad n (config_of made)
IsTried n cells made (Some written) = IsWritten cells made written × IsGood n (config_of made)

-- a chosen configuration is found, with its text
pub record IsFound (n : Netlist) (wanted : Wanted) (found : Written) : Type 0 where
  pub made : Made
  pub accepted : IsAccepted n wanted
  pub chosen : IsChosen n wanted made
  pub written : IsWritten (cell_count n) made found
  pub fits : limits.refusal n found.config ≡ None
