-- What a set of patterns shows.
use Rattle.dft_patterns.specs.declared.pattern_set.PatternSet.TheInside.{Inside}
use Rattle.dft_patterns.specs.Patterns.{Patterns}

abbrev pub patterns_of : Inside → Patterns
patterns_of s = record { signals = s.signals.items; vectors = s.vectors.items; notes = s.notes.items }
