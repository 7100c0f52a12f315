-- Acts with which the values of a strobe agree.
use Rattle.std.specs.Prelude.{ℕ, ◌≡◌, List, [], ◌∷◌, None}
use Rattle.dft_base.specs.declared.tri.Tri.{Tri}
use Rattle.dft_base.specs.declared.tri.Tri.TheVariants.{Zero, One}
use Rattle.dft_patterns.specs.declared.act.Act.{Act}
use Rattle.dft_patterns.specs.declared.act.Act.TheVariants.{Unset, Low, High, Pulse, ExpectLow, ExpectHigh, Ignore}
use Rattle.dft_replay.specs.Rows.{compared_from}
use Rattle.dft_replay.specs.Verdicts.{decided}

-- a compared bit is the net's value
abbrev pub AgreesAct : (values : ℕ → Tri) → (net : ℕ) → Act → Type 0
AgreesAct values net ExpectLow = values net ≡ Zero
AgreesAct values net ExpectHigh = values net ≡ One
AgreesAct values net Unset = Unit {0}
AgreesAct values net Low = Unit {0}
AgreesAct values net High = Unit {0}
AgreesAct values net Pulse = Unit {0}
AgreesAct values net Ignore = Unit {0}

abbrev pub Agrees : (values : ℕ → Tri) → (nets : List ℕ) → List Act → Type 0
Agrees values [] acts = Unit {0}
Agrees values (net ∷ nets) [] = Unit {0}
Agrees values (net ∷ nets) (a ∷ acts) = AgreesAct values net a × Agrees values nets acts

-- Where all compared bits of a vector agree it decides nothing.
abbrev pub AgreedGoesOn : Type 0
AgreedGoesOn = (values : ℕ → Tri) (vector signal : ℕ) (nets : List ℕ) (acts : List Act) → Agrees values nets acts → decided values vector (compared_from signal nets acts) ≡ None
