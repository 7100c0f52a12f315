-- The text of a made configuration, as it is read.
use Rattle.std.specs.Prelude.{◌≡◌, ℕ, ◌<◌, ◌^◌}
use Rattle.dft_config_text.specs.declared.error.ConfigError.{ConfigError}
use Rattle.dft_config_text.specs.declared.error.ConfigError.TheVariants.{C1, C2, C3, C4, C5, C6, Memory}
use Rattle.dft_config.specs.Config.{Config}
use Rattle.dft_config_text.specs.Refusals.{IsConfig, IsRefused}
use Rattle.dft_config_out.specs.declared.made.Made.{Made}
use Rattle.dft_config_out.specs.Written.{config_of, made_text}
use Rattle.dft_config_out_laws.specs.Tables.{IsWritable}

-- the refusal comes for want of memory
abbrev pub IsForMemory : ConfigError → Type 0
IsForMemory C1 = ⊥
IsForMemory (C2 name) = ⊥
IsForMemory (C3 name z) = ⊥
IsForMemory (C4 name) = ⊥
IsForMemory (C5 chain) = ⊥
IsForMemory (C6 name) = ⊥
IsForMemory (Memory a) = Unit {0}

-- The text gives the made configuration.
abbrev pub TextIsRead : Type 0
TextIsRead = (cells : ℕ) (made : Made) → cells < 2 ^ 32 → IsWritable made → IsConfig (made_text cells made) (config_of made)

-- It gives no other one.
abbrev pub NoOtherIsRead : Type 0
NoOtherIsRead = (cells : ℕ) (made : Made) (config : Config) → cells < 2 ^ 32 → IsWritable made → IsConfig (made_text cells made) config → config ≡ config_of made

-- It is refused for want of memory alone.
abbrev pub NoTextIsRefused : Type 0
NoTextIsRefused = (cells : ℕ) (made : Made) (error : ConfigError) → cells < 2 ^ 32 → IsWritable made → IsRefused (made_text cells made) error → IsForMemory error
