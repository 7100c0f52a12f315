-- What a reader tells of a refused text.
use Rattle.std.specs.Prelude.{◌≡◌, pos, Some, Err}
use Rattle.dft_base.specs.Lexing.{Text, place_of}
use Rattle.dft_base.specs.declared.place.Place.{Place}
use Rattle.dft_stil_tokens.specs.declared.text.Cause.{Cause}
use Rattle.dft_stil_tokens.specs.declared.text.Cause.TheVariants as cause
use Rattle.dft_patterns.specs.declared.steadiness.Unsteady.{Unsteady}
use Rattle.dft_stil_text.specs.declared.error.StilError.{StilError}
use Rattle.dft_stil_text.specs.declared.error.StilError.TheVariants as told
use Rattle.dft_stil_text.specs.declared.limits.TheConstants.{MAX_VECTORS}
use Rattle.dft_patterns.specs.Patterns.{Patterns}
use Rattle.dft_patterns.specs.Steadiness.{first_unsteady}
use Rattle.dft_stil_text.specs.PatternText.{Refusal, At, Unsteadily, patterns_in, name_of_signal}

-- how a cause is told of this place
abbrev pub told_at : Cause → Place → StilError
told_at cause.Token at = told.P1 at
told_at (cause.Unsupported word) at = told.P2 at word
told_at (cause.Unknown word) at = told.P3 at word
told_at cause.Count at = told.P4 at
told_at cause.NoWaveform at = told.P5 at
told_at cause.Times at = told.P8 at
told_at (cause.Taken word) at = told.P9 at word

-- how a refusal of a text is told: a fault with the line and column of its place
abbrev pub told_of : Text → Refusal → StilError
told_of text (At fault) = told_at fault.cause (place_of text fault.left)
told_of text (Unsteadily vector name) = told.P10 (pos vector) name

-- the first refusal of the text is told so
pub record IsFirstRefusal (text : Text) (error : StilError) : Type 0 where
  pub refusal : Refusal
  pub first : patterns_in MAX_VECTORS text ≡ Err refusal
  pub told : error ≡ told_of text refusal

-- Why a text is refused: by its first refusal, which is never the writer's P6. Nothing is said where memory runs out.
abbrev pub IsRefused : Text → StilError → Type 0
IsRefused text (told.Memory error) = Unit {0}
IsRefused text error = IsFirstRefusal text error

-- the first signal that pulses somewhere and is not low in some vector is told so
pub record IsFirstUnsteady (p : Patterns) (error : StilError) : Type 0 where
  pub found : Unsteady
  pub first : first_unsteady p ≡ Some found
  pub told : error ≡ told.P10 (pos found.vector) (name_of_signal p found.signal)

-- the same, unless memory runs out
abbrev pub IsUnsteadyAs : Patterns → StilError → Type 0
IsUnsteadyAs p (told.Memory error) = Unit {0}
IsUnsteadyAs p error = IsFirstUnsteady p error
