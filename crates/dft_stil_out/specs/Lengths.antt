-- How a text is refused that is too long.
use Rattle.std.specs.Prelude.{◌≡◌, ◌<◌, ℕ, pos, List, length}
use Rattle.dft_stil_text.specs.declared.error.StilError.{StilError}
use Rattle.dft_stil_text.specs.declared.error.StilError.TheVariants.{P6, Memory}
use Rattle.dft_stil_tokens.specs.declared.blanks.TheConstants.{MAX_TEXT}

-- it has so many bytes, and these are more than there may be; nothing is said where memory runs out, and nothing else is told
abbrev pub TellsLength : List ℕ → StilError → Type 0
TellsLength text (P6 first) = (first ≡ pos (length text)) × (MAX_TEXT < length text)
TellsLength text (Memory error) = Unit {0}
TellsLength text error = ⊥
