-- The letters of acts in written patterns.
use Rattle.std.specs.Prelude.{ℕ}
use Rattle.dft_patterns.specs.declared.act.Act.{Act}
use Rattle.dft_patterns.specs.declared.act.Act.TheVariants.{Unset, Low, High, Pulse, ExpectLow, ExpectHigh, Ignore}

-- The letter of an act (IEEE 1450-1999 leaves the choice to the text's table of waveforms).
-- Unset has no letter of its own: a set that is written has no such act.
abbrev pub letter : Act → ℕ
letter Unset = 45
letter Low = 48
letter High = 49
letter Pulse = 80
letter ExpectLow = 76
letter ExpectHigh = 72
letter Ignore = 88
