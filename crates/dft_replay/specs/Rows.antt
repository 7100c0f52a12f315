-- What the vectors of patterns do to a design: the bits of its input ports, the domains that pulse, the bits that are compared.
use Rattle.std.specs.Prelude.{ℕ, suc, Bool, true, false, not, List, [], ◌∷◌, length, map, ◌==◌, Option, None, Some, if◌then◌else◌}
use Rattle.std.specs.List.{list_any}
use Rattle.dft_base.specs.declared.tri.Tri.{Tri}
use Rattle.dft_base.specs.declared.tri.Tri.TheVariants.{Zero, One}
use Rattle.dft_netlist.specs.declared.ids.NetId.{NetId}
use Rattle.dft_netlist.specs.Netlist.{Netlist}
use Rattle.dft_netlist.specs.Names.{find_net}
use Rattle.dft_behavior.specs.Logic.{Ports}
use Rattle.dft_behavior.specs.Runs.{Vector}
use Rattle.dft_abstract.specs.Cycle.{all_unknown}
use Rattle.dft_patterns.specs.declared.act.Act.{Act}
use Rattle.dft_patterns.specs.declared.act.Act.TheVariants.{Unset, Low, High, Pulse, ExpectLow, ExpectHigh, Ignore}
use Rattle.dft_patterns.specs.declared.signal.StilSignal.{StilSignal}
use Rattle.dft_patterns.specs.Patterns.{Patterns}

-- ---- nets

-- a number past all nets where there is no net
abbrev pub or_past : (past : ℕ) → Option NetId → ℕ
or_past past None = past
or_past past (Some net) = net.0

-- the net with a name
abbrev pub net_named : Netlist → List ℕ → ℕ
net_named n name = or_past (length n.nets) (find_net n name)

-- the nets of signals: those with their names
abbrev pub nets_of : Netlist → List StilSignal → List ℕ
nets_of n signals = map (λ s. net_named n s.name) signals

-- the act of a vector at a net: that of the signal with this net, and Unset where there is none
abbrev pub act_on : (nets : List ℕ) → List Act → (net : ℕ) → Act
act_on [] acts net = Unset
act_on (first ∷ nets) [] net = Unset
act_on (first ∷ nets) (act ∷ acts) net = if first == net then act else act_on nets acts net

-- ---- acts

-- what an act leaves an input at: an act that sets nothing leaves what an earlier vector set
abbrev pub set_by : Act → (before : Tri) → Tri
set_by Low before = Zero
set_by High before = One
set_by Pulse before = Zero
set_by Unset before = before
set_by ExpectLow before = before
set_by ExpectHigh before = before
set_by Ignore before = before

abbrev pub is_pulse : Act → Bool
is_pulse Pulse = true
is_pulse Unset = false
is_pulse Low = false
is_pulse High = false
is_pulse ExpectLow = false
is_pulse ExpectHigh = false
is_pulse Ignore = false

-- ---- rows

-- a compared bit: the number of its signal, its net, and the bit that is printed
pub record Compared : Type 0 where
  pub signal : ℕ
  pub net : ℕ
  pub bit : Bool

-- a vector, and the bits that are compared at its strobe, in the order of the signals
pub record Row : Type 0 where
  pub vector : Vector
  pub compared : List Compared

abbrev pub compared_at : (signal net : ℕ) → Act → List Compared → List Compared
compared_at i net ExpectLow rest = record { signal = i; net = net; bit = false } ∷ rest
compared_at i net ExpectHigh rest = record { signal = i; net = net; bit = true } ∷ rest
compared_at i net Unset rest = rest
compared_at i net Low rest = rest
compared_at i net High rest = rest
compared_at i net Pulse rest = rest
compared_at i net Ignore rest = rest

-- the compared bits from the signal with a number on
abbrev pub compared_from : (signal : ℕ) → (nets : List ℕ) → List Act → List Compared
compared_from i [] acts = []
compared_from i (net ∷ nets) [] = []
compared_from i (net ∷ nets) (act ∷ acts) = compared_at i net act (compared_from (suc i) nets acts)

-- the row of a vector, where the ports had these values before
abbrev pub row_of : (nets : List ℕ) → (before : ℕ → Tri) → List Act → Row
row_of nets before acts = record {
  vector = record {
    ports = λ net. set_by (act_on nets acts net) (before net);
    pulsed = λ net. is_pulse (act_on nets acts net);
  };
  compared = compared_from 0 nets acts;
}

abbrev pub rows_from : (nets : List ℕ) → (before : ℕ → Tri) → List (List Act) → List Row
rows_from nets before [] = []
rows_from nets before (acts ∷ vectors) = row_of nets before acts ∷ rows_from nets (row_of nets before acts).vector.ports vectors

-- a port that no vector has mentioned yet is Unknown
abbrev pub rows_of : Netlist → Patterns → List Row
rows_of n p = rows_from (nets_of n p.signals) all_unknown p.vectors

-- some vector pulses at this net
abbrev pub pulses : (nets : List ℕ) → List (List Act) → (net : ℕ) → Bool
pulses nets vectors net = list_any (λ acts. is_pulse (act_on nets acts net)) vectors

abbrev pub ports_in : (nets : List ℕ) → List (List Act) → Ports
ports_in nets vectors = record { is_clock = pulses nets vectors; is_reset = λ net. not (pulses nets vectors net) }

-- The ports of patterns: the inputs that pulse in some vector are clocks, and the other inputs may be resets and sets.
abbrev pub ports_of : Netlist → Patterns → Ports
ports_of n p = ports_in (nets_of n p.signals) p.vectors
