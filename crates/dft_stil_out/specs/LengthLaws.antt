-- The law of the length of the written form.
use Rattle.std.specs.Prelude.{◌≡◌, ◌<◌, length}
use Rattle.std.specs.List.{All}
use Rattle.dft_patterns.specs.Patterns.{Patterns}
use Rattle.dft_patterns.specs.Steadiness.{HaveLength}
use Rattle.dft_stil_out.specs.Written.{noted}
use Rattle.dft_stil_out.specs.WrittenLength.{written_length}

-- The written form of patterns has this length, where each vector has an act for each signal and each note stands before a vector.
abbrev pub HasWrittenLength : Type 0
HasWrittenLength =
    (p : Patterns) → HaveLength (length p.signals) p.vectors → All (λ note. note.before < length p.vectors) p.notes →
    length (noted p) ≡ written_length p.signals (length p.vectors) p.notes
