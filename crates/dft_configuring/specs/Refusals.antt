-- Why no configuration is made: the first check that fails.
use Rattle.std.specs.Prelude.{ℕ, ◌≡◌, ◌⊎◌, pos, nat_lt, List, [], ◌∷◌, Option, None, Some, option_map, Err, if◌then◌else◌}
use Rattle.dft_netlist.specs.Netlist.{Netlist}
use Rattle.dft_config.specs.declared.config.RingConfig.{RingConfig}
use Rattle.dft_config_out.specs.declared.made.Made.{Made}
use Rattle.dft_config_out.specs.Written.{config_of}
use Rattle.dft_decompressor.specs.Fits.{IsFitting}
use Rattle.dft_rules.specs.Refusals as rules
use Rattle.dft_stitch.specs.Chains.{plan_of}
use Rattle.dft_insert.specs.declared.style.Style.TheVariants.{Edt}
use Rattle.dft_insert.specs.Refusals as insert
use Rattle.dft_scan_frame.specs.declared.error.InsertError as scan
use Rattle.dft_configure.specs.Roots.{domains_of}
use Rattle.dft_configuring.specs.declared.error.Limited.TheVariants.{Chains, Outputs, Masks}
use Rattle.dft_configuring.specs.declared.error.ConfigureError.{ConfigureError}
use Rattle.dft_configuring.specs.declared.error.ConfigureError.TheVariants.{NoClock, TooMany, Rules, NoRing, LongText, Stitch, Insert, Memory}
use Rattle.dft_configuring.specs.declared.wanted.Wanted.{Wanted}
use Rattle.dft_configuring.specs.Long.{long_text, or_else}
use Rattle.dft_configuring.specs.Made.{IsRing, output_count}
use Rattle.dft_configuring.specs.Rooted.{chain_count, rooted, rooted_text}
use Rattle.dft_configuring.specs.Searching.{IsChosen, Search, first_warm}

-- ---- before a ring is sought

-- there is no clock
abbrev pub no_clock : (domains : List ℕ) → Option ConfigureError
no_clock [] = Some NoClock
no_clock (domain ∷ domains) = None

-- there would be more chains than 1,024
abbrev pub many_chains : (chains : ℕ) → Option ConfigureError
many_chains chains = if nat_lt 1024 chains then Some (TooMany Chains (pos 1024)) else None

-- the scan rules with these clocks, resets and so many chains; before them, the configuration by which they are asked is longer than a configuration file may be
abbrev pub asked : Netlist → (chains : ℕ) → Option ConfigureError
asked n chains = or_else (long_text (rooted_text n chains)) (option_map Rules (rules.refusal n (rooted n chains)))

-- there would be more outputs than chains, or more masks
abbrev pub many_outputs : (chains outputs : ℕ) → Option ConfigureError
many_outputs chains outputs = if nat_lt chains outputs then Some (TooMany Outputs (pos chains)) else None

abbrev pub many_masks : (chains : ℕ) → (masks : Option ℕ) → Option ConfigureError
many_masks chains None = None
many_masks chains (Some masks) = if nat_lt chains masks then Some (TooMany Masks (pos chains)) else None

-- The checks in their order: no clock, too many chains, the configuration by which the scan rules are asked is too long, the scan rules, too many outputs, too many masks.
unfoldable pub early : Netlist → Wanted → Option ConfigureError
early n wanted =
    or_else (no_clock (domains_of n)) (or_else (many_chains (chain_count n wanted)) (or_else (asked n (chain_count n wanted))
    (or_else (many_outputs (chain_count n wanted) (output_count n wanted)) (many_masks (chain_count n wanted) wanted.masks))))

-- ---- behind these

-- no size of ring has phase sets
abbrev pub HasNoRing : Netlist → Wanted → Type 0
HasNoRing n wanted = IsFitting (chain_count n wanted) wanted.channels None

-- the search ends with this: a limit of the plan is passed, or the configuration would be too long
pub record IsPassed (n : Netlist) (wanted : Wanted) (error : ConfigureError) : Type 0 where
  pub ring : RingConfig
  pub is : IsRing (chain_count n wanted) wanted.channels ring
  pub search : Search n wanted (first_warm ring.stages wanted.channels) (Err error)

-- what the chosen configuration would add is refused
pub record IsUnfit (n : Netlist) (wanted : Wanted) (error : scan.InsertError) : Type 0 where
  pub made : Made
  pub chosen : IsChosen n wanted made
  pub refused : insert.refusal Edt n (config_of made) (plan_of n (config_of made)) ≡ Some error

-- The error is that of the first check that fails, but for want of memory.
abbrev pub IsRefused : Netlist → Wanted → ConfigureError → Type 0
IsRefused n wanted NoClock = early n wanted ≡ Some NoClock
IsRefused n wanted (TooMany what most) = early n wanted ≡ Some (TooMany what most)
IsRefused n wanted (Rules error) = early n wanted ≡ Some (Rules error)
IsRefused n wanted NoRing = (early n wanted ≡ None) × HasNoRing n wanted
IsRefused n wanted (LongText bytes) = (early n wanted ≡ Some (LongText bytes)) ⊎ ((early n wanted ≡ None) × IsPassed n wanted (LongText bytes))
IsRefused n wanted (Stitch error) = (early n wanted ≡ None) × IsPassed n wanted (Stitch error)
IsRefused n wanted (Insert error) = (early n wanted ≡ None) × IsUnfit n wanted error
IsRefused n wanted (Memory error) = Unit {0}
