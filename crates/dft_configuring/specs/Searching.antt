-- The search for the warm cycles: the fewest with which any two cells can be loaded with any bits.
use Rattle.std.specs.Prelude.{ℕ, suc, ◌≡◌, ◌<◌, ◌≤◌, pos, Result, Ok, Err, Option, None, Some, option_map}
use Rattle.dft_netlist.specs.Netlist.{Netlist}
use Rattle.dft_config.specs.Config.{Config}
use Rattle.dft_config_out.specs.declared.made.Made.{Made}
use Rattle.dft_config_out.specs.Written.{config_of, made_text}
use Rattle.dft_decompressor.specs.Sizes.{rounded_up}
use Rattle.dft_equations.specs.LoadRows.{AreLoadEquations, LoadRows}
use Rattle.dft_stitch.specs.Chains.{plan_of}
use Rattle.dft_stitch.specs.Limits.{refusal}
use Rattle.dft_stitch.specs.Plans.{falling_head, lengths_of}
use Rattle.dft_stitch.specs.declared.error.Counted.TheVariants.{Cycles}
use Rattle.dft_stitch.specs.declared.error.StitchError.TheVariants.{TooMany}
use Rattle.dft_stitch.specs.declared.limits.TheConstants.{MAX_CYCLES}
use Rattle.dft_configure.specs.Good.{AreGood}
use Rattle.dft_configuring.specs.declared.error.ConfigureError.{ConfigureError}
use Rattle.dft_configuring.specs.declared.error.ConfigureError.TheVariants.{Stitch}
use Rattle.dft_configuring.specs.declared.wanted.Wanted.{Wanted}
use Rattle.dft_configuring.specs.Long.{long_text, or_else}
use Rattle.dft_configuring.specs.Made.{IsMade}
use Rattle.dft_configuring.specs.Rooted.{cell_count}

-- the load equations of the chains that are planned under a configuration
abbrev pub AreRows : Netlist → Config → LoadRows → Type 0
AreRows n config rows =
    let plan = plan_of n config in AreLoadEquations config.ring (lengths_of plan.chains) (falling_head plan) plan.cycles rows

-- they are good: none is empty and no two are the same; or they are not
pub record IsGood (n : Netlist) (config : Config) : Type 0 where
  pub rows : LoadRows
  pub are : AreRows n config rows
  pub good : AreGood rows

pub record IsBad (n : Netlist) (config : Config) : Type 0 where
  pub rows : LoadRows
  pub are : AreRows n config rows
  pub bad : AreGood rows → ⊥

-- the search begins with as many warm cycles as bring a bit of a channel to each stage
abbrev pub first_warm : (stages channels : ℕ) → ℕ
first_warm stages channels = rounded_up stages channels

-- What refuses a configuration that is tried: its text is longer than a configuration file may be; its plan passes a limit.
unfoldable pub tried : Netlist → Made → Option ConfigureError
tried n made = or_else (long_text (made_text (cell_count n) made)) (option_map Stitch (refusal n (config_of made)))

-- What the search finds from so many warm cycles on, one more at a time. It ends where what is tried is refused, and otherwise where
-- the load equations are good; a configuration has at most 4,095 warm cycles, and more are too many cycles.
pub data Search (n : Netlist) (wanted : Wanted) : (warm : ℕ) → Result Made ConfigureError → Type 0 where
  Finds : {warm : ℕ} {made : Made} → warm ≤ 4095 → IsMade n wanted made → made.warm ≡ warm → tried n made ≡ None → IsGood n (config_of made) → Search n wanted warm (Ok made)
  GoesOn : {warm : ℕ} {made : Made} {found : Result Made ConfigureError} → warm ≤ 4095 → IsMade n wanted made → made.warm ≡ warm → tried n made ≡ None → IsBad n (config_of made) →
      Search n wanted (suc warm) found → Search n wanted warm found
  Passes : {warm : ℕ} {made : Made} {error : ConfigureError} → warm ≤ 4095 → IsMade n wanted made → made.warm ≡ warm → tried n made ≡ Some error → Search n wanted warm (Err error)
  Ends : {warm : ℕ} → 4095 < warm → Search n wanted warm (Err (Stitch (TooMany Cycles (pos MAX_CYCLES))))

-- the configuration that is chosen: the first that the search finds
pub record IsChosen (n : Netlist) (wanted : Wanted) (made : Made) : Type 0 where
  pub is : IsMade n wanted made
  pub first : Search n wanted (first_warm made.ring.stages wanted.channels) (Ok made)
