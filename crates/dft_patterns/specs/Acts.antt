-- What acts belong to which signals.
use Rattle.dft_base.specs.declared.dir.Dir.{Dir}
use Rattle.dft_base.specs.declared.dir.Dir.TheVariants.{Input, Output}
use Rattle.dft_patterns.specs.declared.act.Act.{Act}
use Rattle.dft_patterns.specs.declared.act.Act.TheVariants.{Unset, Low, High, Pulse, ExpectLow, ExpectHigh, Ignore}

-- an input is set and an output is compared, if the signal was ever mentioned
abbrev pub IsActOf : Dir → Act → Type 0
IsActOf Input ExpectLow = ⊥
IsActOf Input ExpectHigh = ⊥
IsActOf Input Ignore = ⊥
IsActOf Output Low = ⊥
IsActOf Output High = ⊥
IsActOf Output Pulse = ⊥
IsActOf _ _ = Unit {0}

-- the signal was mentioned
abbrev pub IsTold : Act → Type 0
IsTold Unset = ⊥
IsTold _ = Unit {0}
