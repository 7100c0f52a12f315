-- What a `Members` shows.
use Rattle.std.specs.Prelude.{◌≡◌, ◌<◌, ℕ, List, Bool, false, get_or, All}
use Rattle.dft_stil.specs.declared.members.Members.TheInside.{Inside}
use Rattle.dft_stil.specs.declared.members.Meant.{Meant}
use Rattle.dft_stil_text.specs.SignalGroups as spec

abbrev pub members_of : Inside → spec.Members
members_of m = record { signals = m.signals.items; repeated = m.repeated }

-- what a name stands for, where it is kept
abbrev pub meant : Meant → spec.Members
meant m = record { signals = m.signals.now; repeated = m.repeated }

-- the signals of these members are flagged, and no others
abbrev pub Sees : spec.Members → List Bool → Type 0
Sees m seen = (k : ℕ) → get_or seen k false ≡ spec.has_signal m.signals k

-- each of these numbers is below a count
abbrev pub AreBelow : ℕ → List ℕ → Type 0
AreBelow count ns = All (λ n. n < count) ns
