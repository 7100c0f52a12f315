-- How the machine plays vectors: nets by signal, clocks by signal, and what a vector comes to.
use Rattle.std.specs.Prelude.{ℕ, ◌≡◌, ◌<◌, ◌≢◌, Bool, true, false, List, [], ◌∷◌, ◌++◌, length, map, filter, AllPairs, Option, None, Some, get_or, slice_get}
use Rattle.std.specs.List.{list_any, range_with_len}
use Rattle.dft_netlist.specs.declared.ids.NetId.{NetId}
use Rattle.dft_base.specs.declared.dir.Dir.{Dir}
use Rattle.dft_netlist.specs.declared.port.Port.{Port}
use Rattle.dft_netlist.specs.Orders.{Has, numbers_of}
use Rattle.dft_abstract.specs.Cycle.{Round, IsRound, after_round}
use Rattle.dft_cycle.specs.Machine.{Machine, value_at, logic}
use Rattle.dft_cycle.specs.MachineLaws.{IsForced}
use Rattle.dft_patterns.specs.declared.act.Act.{Act}
use Rattle.dft_patterns.specs.declared.act.Act.TheVariants.{Unset, Low, High, Pulse, ExpectLow, ExpectHigh, Ignore}
use Rattle.dft_replay.specs.declared.verdict.Unknowns.{Unknowns}
use Rattle.dft_replay.specs.declared.verdict.Verdict.{Verdict}
use Rattle.dft_replay.specs.Rows.{Row, is_pulse}
use Rattle.dft_replay.specs.Verdicts.{bits_decide}

-- ---- ports

-- the direction of each bit of the ports, by its net
abbrev pub dirs_of : List Port → List Dir
dirs_of [] = []
dirs_of (port ∷ ports) = map (λ net. port.dir) port.bits ++ dirs_of ports

-- ---- signals by number

abbrev pub act_at : List Act → (signal : ℕ) → Act
act_at acts signal = get_or acts signal Unset

abbrev pub net_at : List NetId → (signal : ℕ) → NetId
net_at nets signal = get_or nets signal (record { 0 = 0 })

abbrev pub is_compared : Act → Bool
is_compared ExpectLow = true
is_compared ExpectHigh = true
is_compared Unset = false
is_compared Low = false
is_compared High = false
is_compared Pulse = false
is_compared Ignore = false

-- the bit that an act compares
abbrev pub printed : Act → Option Bool
printed ExpectLow = Some false
printed ExpectHigh = Some true
printed Unset = None
printed Low = None
printed High = None
printed Pulse = None
printed Ignore = None

-- ---- clocks

-- the signal with this number pulses in some vector
abbrev pub pulses_at : List (List Act) → (signal : ℕ) → Bool
pulses_at vectors signal = list_any (λ acts. is_pulse (act_at acts signal)) vectors

-- the signals that pulse in some vector, of the first so many
abbrev pub clocks_of : (count : ℕ) → List (List Act) → List ℕ
clocks_of count vectors = filter (pulses_at vectors) (range_with_len 0 count)

-- ---- a vector

-- the nets of signals: they differ, and are nets of the design
pub record AreSignals (count : ℕ) (nets : List NetId) : Type 0 where
  pub differ : AllPairs (λ a b. a ≢ b) (numbers_of nets)
  pub live : (place : ℕ) (net : NetId) → slice_get nets place ≡ Some net → net.0 < count

-- the clocks of a machine are these signals, and all that pulse in this vector are among them
pub record AreClocks (m : Machine) (nets : List NetId) (signals : List ℕ) (acts : List Act) : Type 0 where
  pub clocks : m.clocks ≡ map (net_at nets) signals
  pub live : (signal : ℕ) → Has signals signal → signal < length nets
  pub pulsing : (signal : ℕ) → is_pulse (act_at acts signal) ≡ true → Has signals signal

-- the machine went through a vector, whose strobe decided this
pub record IsPlayed (u : Unknowns) (m : Machine) (x : Row) (vector : ℕ) (decision : Option Verdict) (after : Machine) : Type 0 where
  pub netlist : after.netlist ≡ m.netlist
  pub clocks : after.clocks ≡ m.clocks
  pub inputs : (net : ℕ) → value_at after.inputs net ≡ x.vector.ports net
  pub forced : IsForced after
  pub round : Round
  pub holds : IsRound (logic m) x.vector (value_at m.cells) round
  pub says : decision ≡ bits_decide u round.strobe vector x.compared
  pub cells : (cell : ℕ) → value_at after.cells cell ≡ after_round (logic m) x.vector (value_at m.cells) round cell
