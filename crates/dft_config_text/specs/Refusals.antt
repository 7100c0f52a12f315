-- What bytes give: a configuration, or a refusal.
use Rattle.std.specs.Prelude.{◌≡◌, ℕ, List, Ok, Err}
use Rattle.toml.specs.Data.{Members}
use Rattle.dft_toml.specs.Text.{IsTable, IsNoTable}
use Rattle.dft_toml.specs.declared.text.TableError.{TableError}
use Rattle.dft_toml.specs.declared.text.TableError.TheVariants as text
use Rattle.dft_config_text.specs.declared.fault.Fault.{Fault}
use Rattle.dft_config_text.specs.declared.fault.Fault.TheVariants as fault
use Rattle.dft_config_text.specs.declared.error.ConfigError.{ConfigError}
use Rattle.dft_config_text.specs.declared.error.ConfigError.TheVariants.{C1, C2, C3, C4, C5, C6, Memory}
use Rattle.dft_config.specs.Config.{Config}
use Rattle.dft_config_text.specs.Keys.{dotted}
use Rattle.dft_config_text.specs.Reading.{reading}

-- the refusal that tells a fault
abbrev pub told : Fault → ConfigError
told (fault.Missing k) = C2 (dotted k)
told (fault.Outside k z) = C3 (dotted k) z
told (fault.Empty k) = C4 (dotted k)
told (fault.Repeated k) = C6 (dotted k)
told (fault.Unreached chain) = C5 chain
told (fault.Unknown name) = C2 name
told (fault.Memory a) = Memory a

-- the same where the bytes are no table
abbrev pub told_of_text : TableError → ConfigError
told_of_text text.NotToml = C1
told_of_text (text.Memory a) = Memory a

-- the bytes are the text of a table that gives this configuration
abbrev pub IsConfig : List ℕ → Config → Type 0
IsConfig bytes config = (table : Members) × IsTable bytes table × (reading table ≡ Ok config)

-- the bytes are the text of a table whose first fault this refusal tells
abbrev pub TellsFault : List ℕ → ConfigError → Type 0
TellsFault bytes refusal = (table : Members) × (fault : Fault) × IsTable bytes table × (reading table ≡ Err fault) × (refusal ≡ told fault)

-- a refusal tells the first fault of the table, and C1 that there is none, but for want of memory
abbrev pub IsRefused : List ℕ → ConfigError → Type 0
IsRefused bytes C1 = IsNoTable bytes
IsRefused bytes (C2 name) = TellsFault bytes (C2 name)
IsRefused bytes (C3 name z) = TellsFault bytes (C3 name z)
IsRefused bytes (C4 name) = TellsFault bytes (C4 name)
IsRefused bytes (C5 chain) = TellsFault bytes (C5 chain)
IsRefused bytes (C6 name) = TellsFault bytes (C6 name)
IsRefused bytes (Memory a) = Unit {0}
