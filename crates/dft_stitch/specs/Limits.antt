-- The limits of a plan.
use Rattle.std.specs.Prelude.{ℕ, ◌≡◌, pos, ◌*◌, nat_lt, length, Option, None, Some, if◌then◌else◌}
use Rattle.dft_netlist.specs.Netlist.{Netlist}
use Rattle.dft_config.specs.Config.{Config}
use Rattle.dft_stitch.specs.declared.error.Counted.TheVariants.{Cells, Cycles, Variables}
use Rattle.dft_stitch.specs.declared.error.StitchError.{StitchError}
use Rattle.dft_stitch.specs.declared.error.StitchError.TheVariants.{TooMany, Memory}
use Rattle.dft_stitch.specs.declared.limits.TheConstants.{MAX_CELLS, MAX_CYCLES, MAX_VARIABLES}
use Rattle.dft_stitch.specs.Chains.{cells_of, cycles_of}

-- the first limit that so many scanned cells pass: of the cells, of the cycles of a load, of the variables of the channels
abbrev pub refusal_of : Config → (cells : ℕ) → Option StitchError
refusal_of config cells =
    let cycles = cycles_of config cells in
    if nat_lt MAX_CELLS cells then Some (TooMany Cells (pos MAX_CELLS))
    else (if nat_lt MAX_CYCLES cycles then Some (TooMany Cycles (pos MAX_CYCLES))
    else (if nat_lt MAX_VARIABLES (cycles * config.ring.channels) then Some (TooMany Variables (pos MAX_VARIABLES))
    else None))

-- the first limit that a design passes
abbrev pub refusal : Netlist → Config → Option StitchError
refusal n config = refusal_of config (length (cells_of n config))

-- the error is this refusal, but for want of memory
abbrev pub IsRefusal : Option StitchError → StitchError → Type 0
IsRefusal refused (TooMany what limit) = refused ≡ Some (TooMany what limit)
IsRefusal refused (Memory error) = Unit {0}
