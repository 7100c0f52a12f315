-- Worked examples: small designs with their patterns, and the verdicts.
use Rattle.std.specs.Prelude.{codes, ℕ, List, [], ◌∷◌, None, Some}
use Rattle.dft_cells.specs.Standard.{standard_cells}
use Rattle.dft_netlist.specs.declared.ids.NetId.{NetId}
use Rattle.dft_netlist.specs.declared.port.Port.{Port}
use Rattle.dft_base.specs.declared.dir.Dir.{Dir}
use Rattle.dft_base.specs.declared.dir.Dir.TheVariants.{Input, Output}
use Rattle.dft_netlist.specs.declared.instance.Signal.{Signal}
use Rattle.dft_netlist.specs.declared.instance.Signal.TheVariants.{Net, Unconnected}
use Rattle.dft_netlist.specs.declared.instance.CellRef.TheVariants.{Library}
use Rattle.dft_netlist.specs.declared.instance.Instance.{Instance}
use Rattle.dft_netlist.specs.Netlist.{Netlist}
use Rattle.dft_patterns.specs.declared.act.Act.{Act}
use Rattle.dft_patterns.specs.declared.act.Act.TheVariants.{Unset, Low, High, Pulse, ExpectLow, ExpectHigh, Ignore}
use Rattle.dft_patterns.specs.declared.signal.StilSignal.{StilSignal}
use Rattle.dft_patterns.specs.Patterns.{Patterns}
use Rattle.dft_replay.specs.declared.verdict.Verdict.TheVariants.{Pass, Mismatch, Undetermined}
use Rattle.dft_replay.specs.Verdicts.{HasVerdict}

-- ---- parts

abbrev pub id : ℕ → NetId
id net = record { 0 = net }

abbrev pub pin : ℕ → Signal
pin net = Net (id net)

abbrev pub port : List ℕ → Dir → (net : ℕ) → Port
port name dir net = record { name = name; dir = dir; range = None; bits = id net ∷ [] }

-- the standard cells DFF and LOCKUP
abbrev pub flip_flop : List ℕ → (clock data_in : ℕ) → (output : Signal) → Instance
flip_flop name clock data_in output = record { name = Some name; cell = Library (record { 0 = 5 }); pins = pin clock ∷ pin data_in ∷ output ∷ Unconnected ∷ [] }

abbrev pub lockup : List ℕ → (clock data_in output : ℕ) → Instance
lockup name clock data_in output = record { name = Some name; cell = Library (record { 0 = 10 }); pins = pin clock ∷ pin data_in ∷ pin output ∷ [] }

abbrev pub signal : List ℕ → Dir → StilSignal
signal name dir = record { name = name; dir = dir }

-- ---- two domains

-- `module r (ca, cb, d, q)` with the wires n and p
abbrev pub two_domains : List Instance → Netlist
two_domains instances = record {
  name = codes "r";
  library = standard_cells;
  ports = port (codes "ca") Input 0 ∷ port (codes "cb") Input 1 ∷ port (codes "d") Input 2 ∷ port (codes "q") Output 3 ∷ [];
  nets = codes "ca" ∷ codes "cb" ∷ codes "d" ∷ codes "q" ∷ codes "n" ∷ codes "p" ∷ [];
  instances = instances;
  joins = [];
}

abbrev pub two_clocks : List (List Act) → Patterns
two_clocks vectors = record {
  signals = signal (codes "ca") Input ∷ signal (codes "cb") Input ∷ signal (codes "d") Input ∷ signal (codes "q") Output ∷ [];
  vectors = vectors;
  notes = [];
}

-- `DFF a (.CK(ca), .D(d), .Q(n)); DFF b (.CK(cb), .D(n), .Q(q));`
abbrev pub row : Netlist
row = two_domains (flip_flop (codes "a") 0 2 (pin 4) ∷ flip_flop (codes "b") 1 4 (pin 3) ∷ [])

-- the same with `LOCKUP l (.CK(ca), .D(n), .Q(p));` between them
abbrev pub row_with_lockup : Netlist
row_with_lockup = two_domains (flip_flop (codes "a") 0 2 (pin 4) ∷ lockup (codes "l") 0 4 5 ∷ flip_flop (codes "b") 1 5 (pin 3) ∷ [])

-- `PP0 X`, `PP0 X`, `PP1 L`, and a last vector that compares
abbrev pub both_pulse : (last : Act) → Patterns
both_pulse last = two_clocks (
    (Pulse ∷ Pulse ∷ Low ∷ Ignore ∷ [])
    ∷ (Pulse ∷ Pulse ∷ Low ∷ Ignore ∷ [])
    ∷ (Pulse ∷ Pulse ∷ High ∷ ExpectLow ∷ [])
    ∷ (Low ∷ Low ∷ Low ∷ last ∷ [])
    ∷ [])

-- Where both domains pulse, b takes what a had before or what a has after, by the order of the edges. A lock-up holds what a had.
pub record TwoDomains : Type 0 where
  pub races : HasVerdict row (both_pulse ExpectLow) (Undetermined 3 3)
  pub holds : HasVerdict row_with_lockup (both_pulse ExpectLow) (Pass 2)
  pub differs : HasVerdict row_with_lockup (both_pulse ExpectHigh) (Mismatch 3 3)

-- ---- an input that a vector does not mention

-- `P01 X`, then without d `P0 X`, `0P X`, `00 H`
abbrev pub set_once : Patterns
set_once = two_clocks (
    (Pulse ∷ Low ∷ High ∷ Ignore ∷ [])
    ∷ (Pulse ∷ Low ∷ Unset ∷ Ignore ∷ [])
    ∷ (Low ∷ Pulse ∷ Unset ∷ Ignore ∷ [])
    ∷ (Low ∷ Low ∷ Unset ∷ ExpectHigh ∷ [])
    ∷ [])

-- An input keeps what an earlier vector set.
abbrev pub KeptInput : Type 0
KeptInput = HasVerdict row set_once (Pass 1)

-- ---- a lock-up of a domain that does not pulse

-- `DFF a (.CK(ca), .D(d), .Q(n)); LOCKUP l (.CK(cb), .D(n), .Q(p)); DFF b (.CK(ca), .D(p), .Q(q)); DFF z (.CK(cb), .D(d));`
abbrev pub row_with_quiet_lockup : Netlist
row_with_quiet_lockup = two_domains (
    flip_flop (codes "a") 0 2 (pin 4)
    ∷ lockup (codes "l") 1 4 5
    ∷ flip_flop (codes "b") 0 5 (pin 3)
    ∷ flip_flop (codes "z") 1 2 Unconnected
    ∷ [])

-- `P00 X`, `P00 X`, `P01 L`, `000 L`, `0P0 L`
abbrev pub one_pulses : Patterns
one_pulses = two_clocks (
    (Pulse ∷ Low ∷ Low ∷ Ignore ∷ [])
    ∷ (Pulse ∷ Low ∷ Low ∷ Ignore ∷ [])
    ∷ (Pulse ∷ Low ∷ High ∷ ExpectLow ∷ [])
    ∷ (Low ∷ Low ∷ Low ∷ ExpectLow ∷ [])
    ∷ (Low ∷ Pulse ∷ Low ∷ ExpectLow ∷ [])
    ∷ [])

-- A lock-up takes its input from the view of its own domain, also where that does not pulse. There the cells of the pulsed domain may have changed.
abbrev pub QuietLockup : Type 0
QuietLockup = HasVerdict row_with_quiet_lockup one_pulses (Undetermined 3 3)

-- ---- three domains

-- `module r (ca, cb, cc, d, q)` with `DFF a (.CK(ca), .D(d), .Q(n)); DFF b (.CK(cb), .D(n), .Q(m)); DFF c (.CK(cc), .D(m), .Q(q));`
abbrev pub row_of_three : Netlist
row_of_three = record {
  name = codes "r";
  library = standard_cells;
  ports = port (codes "ca") Input 0 ∷ port (codes "cb") Input 1 ∷ port (codes "cc") Input 2 ∷ port (codes "d") Input 3 ∷ port (codes "q") Output 4 ∷ [];
  nets = codes "ca" ∷ codes "cb" ∷ codes "cc" ∷ codes "d" ∷ codes "q" ∷ codes "n" ∷ codes "m" ∷ [];
  instances = flip_flop (codes "a") 0 3 (pin 5) ∷ flip_flop (codes "b") 1 5 (pin 6) ∷ flip_flop (codes "c") 2 6 (pin 4) ∷ [];
  joins = [];
}

-- `PPP0 X` three times, `PPP1 L`, `0000 L`
abbrev pub all_pulse : Patterns
all_pulse = record {
  signals = signal (codes "ca") Input ∷ signal (codes "cb") Input ∷ signal (codes "cc") Input ∷ signal (codes "d") Input ∷ signal (codes "q") Output ∷ [];
  vectors =
      (Pulse ∷ Pulse ∷ Pulse ∷ Low ∷ Ignore ∷ [])
      ∷ (Pulse ∷ Pulse ∷ Pulse ∷ Low ∷ Ignore ∷ [])
      ∷ (Pulse ∷ Pulse ∷ Pulse ∷ Low ∷ Ignore ∷ [])
      ∷ (Pulse ∷ Pulse ∷ Pulse ∷ High ∷ ExpectLow ∷ [])
      ∷ (Low ∷ Low ∷ Low ∷ Low ∷ ExpectLow ∷ [])
      ∷ [];
  notes = [];
}

-- A new bit may pass three flip-flops in one vector, where their clocks rise one after another. This needs a second round.
abbrev pub ThreeDomains : Type 0
ThreeDomains = HasVerdict row_of_three all_pulse (Undetermined 4 4)
