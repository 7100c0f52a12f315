-- What is known of every pattern text (IEEE 1450-1999, in a subset of its forms).
use Rattle.std.specs.Prelude.{◌≡◌, ◌<◌, ◌≤◌, ◌^◌, ℕ, List, length, Ok, Err}
use Rattle.dft_stil_tokens.specs.declared.text.Cause.TheVariants as cause
use Rattle.dft_stil_tokens.specs.declared.text.Fault.{Fault}
use Rattle.dft_patterns.specs.Patterns.{Patterns, IsWellFormed}
use Rattle.dft_stil_text.specs.PatternText.{At, StandsFor, patterns_in}

-- what a text stands for, with fewer than 2 ^ 32 vectors, is well formed
abbrev pub IsReadWellFormed : Type 0
IsReadWellFormed = (text : List ℕ) (p : Patterns) → StandsFor text p → length p.vectors < 2 ^ 32 → IsWellFormed p

-- a text stands for one set of patterns at most
abbrev pub StandsForOne : Type 0
StandsForOne = (text : List ℕ) (p q : Patterns) → StandsFor text p → StandsFor text q → p ≡ q

-- a reader that takes so many vectors at most gives what the text stands for, with no more than these, and gives all that is such
abbrev pub IsReadWithin : Type 0
IsReadWithin = (most : ℕ) (text : List ℕ) (p : Patterns)
    → (patterns_in most text ≡ Ok p → StandsFor text p × (length p.vectors ≤ most)) × (StandsFor text p → length p.vectors ≤ most → patterns_in most text ≡ Ok p)

-- a text that stands for more vectors than a reader takes is refused for their number, and for nothing else
abbrev pub IsRefusedBeyond : Type 0
IsRefusedBeyond = (most : ℕ) (text : List ℕ) (p : Patterns) → StandsFor text p → most < length p.vectors → (f : Fault) × ((patterns_in most text ≡ Err (At f)) × (f.cause ≡ cause.Count))
