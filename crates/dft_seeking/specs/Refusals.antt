-- Why the cubes of a search are not saved.
use Rattle.std.specs.Prelude.{ℕ, ◌≡◌, ◌≤◌, ◌<◌, ◌+◌, List, ◌++◌, length, nat_lt, pos, Option, None, Some, if◌then◌else◌}
use Rattle.dft_base.specs.Lexing.{Text}
use Rattle.dft_netlist.specs.Netlist.{Netlist}
use Rattle.dft_config.specs.Config.{Config}
use Rattle.dft_cubes.specs.declared.limits.TheConstants.{MAX_CUBES}
use Rattle.dft_report.specs.declared.limits.TheConstants.{MAX_BYTES}
use Rattle.dft_cubes_out.specs.Written.{cubes_text}
use Rattle.dft_seeking.specs.declared.error.SeekError.{SeekError}
use Rattle.dft_seeking.specs.declared.error.SeekError.TheVariants.{TooManyCubes, LongCubes, LongReport, Memory}
use Rattle.dft_seeking.specs.declared.limits.TheConstants.{MAX_TEXT}
use Rattle.dft_seeking.specs.Told.{Told, AreTold, counts_of, cubes_in}
use Rattle.dft_seeking.specs.Written.{fault_lines, report_text}

-- the first of these that comes: more cubes are found than a cube file may have, their text is longer than one may be, the report is longer than its limit
abbrev pub refusal : Netlist → Config → List Told → Option SeekError
refusal n config told =
    if nat_lt MAX_CUBES (counts_of told).cubes then Some TooManyCubes
    else if nat_lt MAX_TEXT (length (cubes_text n config (cubes_in told))) then Some (LongCubes (pos (length (cubes_text n config (cubes_in told)))))
    else if nat_lt MAX_BYTES (length (report_text n told)) then Some (LongReport (pos (length (report_text n told))))
    else None

-- the error is this refusal, but for want of memory
abbrev pub IsCause : Option SeekError → SeekError → Type 0
IsCause refused (Memory error) = Unit {0}
IsCause refused error = refused ≡ Some error

-- no more cubes are found than a cube file may have, and their text is no longer than one may be
pub record CubesFit (n : Netlist) (config : Config) (told : List Told) : Type 0 where
  pub few : (counts_of told).cubes ≤ MAX_CUBES
  pub short : length (cubes_text n config (cubes_in told)) ≤ MAX_TEXT

-- the report behind a head is no longer than its limit
pub record IsReport (n : Netlist) (told : List Told) (head report : Text) : Type 0 where
  pub short : length head + length (fault_lines n told) ≤ MAX_BYTES
  pub is : report ≡ head ++ fault_lines n told

-- it is longer, and its length is told, but for want of memory
abbrev pub IsLong : (n : Netlist) (told : List Told) (head : Text) → SeekError → Type 0
IsLong n told head (Memory error) = Unit {0}
IsLong n told head (LongReport bytes) = (MAX_BYTES < length head + length (fault_lines n told)) × (bytes ≡ pos (length head + length (fault_lines n told)))
IsLong n told head _ = ⊥

-- this is why, by what the searches tell; nothing is said where memory runs out
abbrev pub IsRefused : Netlist → Config → (domain limit : ℕ) → SeekError → Type 0
IsRefused n config domain limit (Memory error) = Unit {0}
IsRefused n config domain limit error = (told : List Told) × (AreTold n config domain limit told × (refusal n config told ≡ Some error))
