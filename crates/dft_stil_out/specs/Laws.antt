-- What the written form promises.
use Rattle.std.specs.Prelude.{◌≡◌, ℕ, List, []}
use Rattle.dft_patterns.specs.Patterns.{Patterns, IsWellFormed}
use Rattle.dft_stil_text.specs.PatternText.{StandsFor}
use Rattle.dft_stil_out.specs.Writable.{IsWritable}
use Rattle.dft_stil_out.specs.Written.{noted, written}

-- without notes the two written forms are one
abbrev pub HasOneForm : Type 0
HasOneForm = (p : Patterns) → p.notes ≡ [] → noted p ≡ written p

-- a text that stands for the signals and the vectors of these patterns, where they are well formed and can be written
abbrev pub ReadsBack : Patterns → (text : List ℕ) → Type 0
ReadsBack p text = IsWellFormed p → IsWritable p → StandsFor text (record { signals = p.signals; vectors = p.vectors; notes = [] })
