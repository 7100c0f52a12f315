-- The configurations that a `Config` and a draft of one hold.
use Rattle.dft_config.specs.declared.config.Config.TheInside.{Inside}
use Rattle.dft_config.specs.declared.draft.Draft.{Draft}
use Rattle.dft_config.specs.Config.{Config}
use Rattle.dft_config.specs.Range.{IsInRange}

abbrev pub config_in : Inside → Config
config_in c = record {
  domains = c.domains;
  resets = c.resets;
  keep = c.keep;
  chains = c.chains;
  warm = c.warm;
  window = c.window;
  fill = c.fill;
  always_masked = c.always_masked;
  ring = c.ring;
  compactor = c.compactor;
  names = c.names;
}

-- what holds of a `Config`: it is in range
abbrev pub IsConfigInside : Inside → Type 0
IsConfigInside c = IsInRange (config_in c)

abbrev pub drafted : Draft → Config
drafted d = record {
  domains = d.clocking.domains;
  resets = d.clocking.resets;
  keep = d.clocking.keep;
  chains = d.loading.chains;
  warm = d.loading.warm;
  window = d.loading.window;
  fill = d.loading.fill;
  always_masked = d.loading.always_masked;
  ring = d.ring;
  compactor = d.compactor;
  names = d.names;
}
