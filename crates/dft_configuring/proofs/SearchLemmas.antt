-- What the search from here finds, the whole search finds.
use Rattle.std.proofs.Common.{◌≡◌, ℕ, suc, ◌+◌, ◌<◌, ◌≤◌, Result, Ok, Err, None, Some, pos, arith, subst}
use Rattle.dft_netlist.specs.Netlist.{Netlist}
use Rattle.dft_config_out.specs.declared.made.Made.{Made}
use Rattle.dft_config_out.specs.Written.{config_of}
use Rattle.dft_stitch.specs.declared.error.Counted.TheVariants.{Cycles}
use Rattle.dft_stitch.specs.declared.error.StitchError.TheVariants.{TooMany}
use Rattle.dft_stitch.specs.declared.limits.TheConstants.{MAX_CYCLES}
use Rattle.dft_configuring.specs.declared.error.ConfigureError.{ConfigureError}
use Rattle.dft_configuring.specs.declared.error.ConfigureError.TheVariants.{Stitch}
use Rattle.dft_configuring.specs.declared.wanted.Wanted.{Wanted}
use Rattle.dft_configuring.specs.Made.{IsMade}
use Rattle.dft_configuring.specs.Searching.{Ends, Finds, GoesOn, IsBad, IsGood, Passes, Search, tried}

abbrev pub LeadsOn : (n : Netlist) (wanted : Wanted) (start warm : ℕ) → Type 0
LeadsOn n wanted start warm = (found : Result Made ConfigureError) → Search n wanted warm found → Search n wanted start found

pub leads_one : (n : Netlist) (wanted : Wanted) (start warm : ℕ) (made : Made) → warm ≤ 4095 → IsMade n wanted made → made.warm ≡ warm → tried n made ≡ None → IsBad n (config_of made) → LeadsOn n wanted start warm → LeadsOn n wanted start (warm + 1)
leads_one n wanted start warm made few is at fits bad before found rest =
    let next : warm + 1 ≡ suc warm = omega arith in
    before found (GoesOn few is at fits bad (subst (λ (w : ℕ). Search n wanted w found) next rest))

pub finds_here : (n : Netlist) (wanted : Wanted) (start warm : ℕ) (made : Made) → warm ≤ 4095 → IsMade n wanted made → made.warm ≡ warm → tried n made ≡ None → IsGood n (config_of made) → LeadsOn n wanted start warm → Search n wanted start (Ok made)
finds_here n wanted start warm made few is at fits good before = before (Ok made) (Finds few is at fits good)

pub passes_here : (n : Netlist) (wanted : Wanted) (start warm : ℕ) (made : Made) (error : ConfigureError) → warm ≤ 4095 → IsMade n wanted made → made.warm ≡ warm → tried n made ≡ Some error → LeadsOn n wanted start warm → Search n wanted start (Err error)
passes_here n wanted start warm made error few is at passed before = before (Err error) (Passes few is at passed)

pub ends_here : (n : Netlist) (wanted : Wanted) (start warm : ℕ) → 4095 < warm → LeadsOn n wanted start warm → Search n wanted start (Err (Stitch (TooMany Cycles (pos MAX_CYCLES))))
ends_here n wanted start warm past before = before (Err (Stitch (TooMany Cycles (pos MAX_CYCLES)))) (Ends past)
