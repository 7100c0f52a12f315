-- What a `Names` shows, and how it finds signals.
use Rattle.std.specs.Prelude.{◌≡◌, ◌<◌, ℕ, List, length, get_or, All}
use Rattle.dft_base.specs.Lexing.{Text}
use Rattle.dft_patterns.specs.declared.signal.StilSignal.{StilSignal}
use Rattle.dft_stil.specs.declared.names.Names.TheInside.{Inside}
use Rattle.dft_stil_text.specs.SignalGroups as spec
use Rattle.dft_stil.specs.MembersShown.{AreBelow}

abbrev pub names_of : Inside → spec.Names
names_of n = record { signals = n.signals.items; group_names = n.group_names; groups = n.groups.items }

-- the names of signals are known in their order, and each signal's number stands at its place
pub record AreNumbered (names : List Text) (signals : List StilSignal) (numbers : List ℕ) : Type 0 where
  pub known : names ≡ spec.names_of_signals signals
  pub count : length numbers ≡ length signals
  pub each : (k : ℕ) → k < length numbers → get_or numbers k 0 ≡ k

-- the signals of each group are there
abbrev pub AreInside : ℕ → List spec.Members → Type 0
AreInside count groups = All (λ (m : spec.Members). AreBelow count m.signals) groups

pub record AreFound (n : Inside) : Type 0 where
  pub numbered : AreNumbered n.signal_names n.signals.items n.numbers.items
  pub inside : AreInside (length n.signals.items) n.groups.items
