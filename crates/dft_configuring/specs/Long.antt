-- Texts that are longer than a configuration file may be, and the first of two refusals.
use Rattle.std.specs.Prelude.{nat_lt, pos, length, Option, None, Some, if◌then◌else◌}
use Rattle.dft_base.specs.Lexing.{Text}
use Rattle.dft_configuring.specs.declared.error.ConfigureError.{ConfigureError}
use Rattle.dft_configuring.specs.declared.error.ConfigureError.TheVariants.{LongText}

-- a text is longer than a configuration file may be
abbrev pub long_text : Text → Option ConfigureError
long_text text = if nat_lt 67108864 (length text) then Some (LongText (pos (length text))) else None

-- the first of two refusals
abbrev pub or_else : Option ConfigureError → Option ConfigureError → Option ConfigureError
or_else None later = later
or_else (Some error) later = Some error
