-- Worked examples with inverted clocks: flip-flops of both edges, and lock-ups of both levels.
use Rattle.std.specs.Prelude.{codes, ℕ, List, [], ◌∷◌, Some}
use Rattle.dft_cells.specs.Standard.{standard_cells}
use Rattle.dft_base.specs.declared.dir.Dir.TheVariants.{Input, Output}
use Rattle.dft_netlist.specs.declared.instance.Signal.TheVariants.{Unconnected}
use Rattle.dft_netlist.specs.declared.instance.CellRef.TheVariants.{Library}
use Rattle.dft_netlist.specs.declared.instance.Instance.{Instance}
use Rattle.dft_netlist.specs.Netlist.{Netlist}
use Rattle.dft_patterns.specs.declared.act.Act.TheVariants.{Low, High, Pulse, ExpectLow, ExpectHigh, Ignore}
use Rattle.dft_patterns.specs.Patterns.{Patterns}
use Rattle.dft_replay.specs.declared.verdict.Verdict.TheVariants.{Pass, Undetermined}
use Rattle.dft_replay.specs.Examples.{pin, port, flip_flop, lockup, two_clocks, both_pulse, all_pulse}
use Rattle.dft_replay.specs.Verdicts.{HasVerdict}

-- ---- parts

-- the standard cells INV and DFFR
abbrev pub inverter : List ℕ → (input output : ℕ) → Instance
inverter name input output = record { name = Some name; cell = Library (record { 0 = 8 }); pins = pin input ∷ pin output ∷ [] }

abbrev pub flip_flop_with_reset : List ℕ → (clock data_in reset output : ℕ) → Instance
flip_flop_with_reset name clock data_in reset output = record { name = Some name; cell = Library (record { 0 = 6 }); pins = pin clock ∷ pin data_in ∷ pin reset ∷ pin output ∷ Unconnected ∷ [] }

-- `module r (ca, cb, d, q)` with the wires n and p, and with `INV u (.A(ca), .Y(ka)); INV v (.A(cb), .Y(kb));`: the nets 6 and 7
abbrev pub inverted_too : List Instance → Netlist
inverted_too instances = record {
  name = codes "r";
  library = standard_cells;
  ports = port (codes "ca") Input 0 ∷ port (codes "cb") Input 1 ∷ port (codes "d") Input 2 ∷ port (codes "q") Output 3 ∷ [];
  nets = codes "ca" ∷ codes "cb" ∷ codes "d" ∷ codes "q" ∷ codes "n" ∷ codes "p" ∷ codes "ka" ∷ codes "kb" ∷ [];
  instances = inverter (codes "u") 0 6 ∷ inverter (codes "v") 1 7 ∷ instances;
  joins = [];
}

-- ---- from edge to edge

-- `DFF a (.CK(ca), .D(d), .Q(n)); DFF b (.CK(kb), .D(n), .Q(q));`
abbrev pub fall_behind_rise : Netlist
fall_behind_rise = inverted_too (flip_flop (codes "a") 0 2 (pin 4) ∷ flip_flop (codes "b") 7 4 (pin 3) ∷ [])

-- `PP1 X`, `000 H`
abbrev pub one_bit : Patterns
one_bit = two_clocks ((Pulse ∷ Pulse ∷ High ∷ Ignore ∷ []) ∷ (Low ∷ Low ∷ Low ∷ ExpectHigh ∷ []) ∷ [])

-- `DFF a (.CK(ka), .D(d), .Q(n)); DFF b (.CK(cb), .D(n), .Q(q));`
abbrev pub rise_behind_fall : Netlist
rise_behind_fall = inverted_too (flip_flop (codes "a") 6 2 (pin 4) ∷ flip_flop (codes "b") 1 4 (pin 3) ∷ [])

-- `PP0 X`, `PP1 X`, `000 L`, `PP1 L`, `000 H`
abbrev pub later_bit : Patterns
later_bit = two_clocks (
    (Pulse ∷ Pulse ∷ Low ∷ Ignore ∷ [])
    ∷ (Pulse ∷ Pulse ∷ High ∷ Ignore ∷ [])
    ∷ (Low ∷ Low ∷ Low ∷ ExpectLow ∷ [])
    ∷ (Pulse ∷ Pulse ∷ High ∷ ExpectLow ∷ [])
    ∷ (Low ∷ Low ∷ Low ∷ ExpectHigh ∷ [])
    ∷ [])

-- All rises come before all falls: behind a rising flip-flop a falling one takes its new bit, and behind a falling one a rising one takes its old bit,
-- whatever the order of the domains.
pub record AcrossEdges : Type 0 where
  pub fresh : HasVerdict fall_behind_rise one_bit (Pass 1)
  pub old : HasVerdict rise_behind_fall later_bit (Pass 3)

-- ---- two domains that fall

-- `DFF a (.CK(ka), .D(d), .Q(n)); DFF b (.CK(kb), .D(n), .Q(q));`
abbrev pub falling_row : Netlist
falling_row = inverted_too (flip_flop (codes "a") 6 2 (pin 4) ∷ flip_flop (codes "b") 7 4 (pin 3) ∷ [])

-- the same with `LOCKUP l (.CK(ca), .D(n), .Q(p));` between them, or with one of ka
abbrev pub falling_row_with_lockup : (clock : ℕ) → Netlist
falling_row_with_lockup clock = inverted_too (flip_flop (codes "a") 6 2 (pin 4) ∷ lockup (codes "l") clock 4 5 ∷ flip_flop (codes "b") 7 5 (pin 3) ∷ [])

-- Where both domains fall, b takes what a had before or what a has after. A lock-up of the inverted clock holds what a had; one of the clock itself is a
-- wire from its fall on.
pub record TwoFalls : Type 0 where
  pub races : HasVerdict falling_row (both_pulse ExpectLow) (Undetermined 3 3)
  pub low : HasVerdict (falling_row_with_lockup 0) (both_pulse ExpectLow) (Undetermined 3 3)
  pub high : HasVerdict (falling_row_with_lockup 6) (both_pulse ExpectLow) (Pass 2)

-- ---- what lock-ups show

-- `LOCKUP l (.CK(ka), .D(d), .Q(q));`
abbrev pub high_lockup : Netlist
high_lockup = inverted_too (lockup (codes "l") 6 2 3 ∷ [])

-- `P01 H`
abbrev pub shown_first : Patterns
shown_first = two_clocks ((Pulse ∷ Low ∷ High ∷ ExpectHigh ∷ []) ∷ [])

-- `P01 X`, `000 H`, `P00 H`, `001 L`
abbrev pub shown_held : Patterns
shown_held = two_clocks (
    (Pulse ∷ Low ∷ High ∷ Ignore ∷ [])
    ∷ (Low ∷ Low ∷ Low ∷ ExpectHigh ∷ [])
    ∷ (Pulse ∷ Low ∷ Low ∷ ExpectHigh ∷ [])
    ∷ (Low ∷ Low ∷ High ∷ ExpectLow ∷ [])
    ∷ [])

-- A lock-up of an inverted clock shows at strobes what it held at the last fall, and at first any bit.
pub record HighLockup : Type 0 where
  pub first : HasVerdict high_lockup shown_first (Undetermined 0 3)
  pub held : HasVerdict high_lockup shown_held (Pass 3)

-- `DFF a (.CK(ca), .D(d), .Q(n)); LOCKUP l (.CK(cb), .D(n), .Q(p)); DFF b (.CK(ka), .D(p), .Q(q));`
abbrev pub quiet_low : Netlist
quiet_low = inverted_too (flip_flop (codes "a") 0 2 (pin 4) ∷ lockup (codes "l") 1 4 5 ∷ flip_flop (codes "b") 6 5 (pin 3) ∷ [])

-- `P01 X`, `000 H`, `0P0 H`
abbrev pub low_rests : Patterns
low_rests = two_clocks ((Pulse ∷ Low ∷ High ∷ Ignore ∷ []) ∷ (Low ∷ Low ∷ Low ∷ ExpectHigh ∷ []) ∷ (Low ∷ Pulse ∷ Low ∷ ExpectHigh ∷ []) ∷ [])

-- `DFF a (.CK(ca), .D(d), .Q(n)); LOCKUP l (.CK(kb), .D(n), .Q(p)); DFF b (.CK(ca), .D(p), .Q(q));`
abbrev pub quiet_high : Netlist
quiet_high = inverted_too (flip_flop (codes "a") 0 2 (pin 4) ∷ lockup (codes "l") 7 4 5 ∷ flip_flop (codes "b") 0 5 (pin 3) ∷ [])

-- `P00 X`, `0P0 X`, `P01 X`, `P00 L`, `000 L`
abbrev pub high_rests : Patterns
high_rests = two_clocks (
    (Pulse ∷ Low ∷ Low ∷ Ignore ∷ [])
    ∷ (Low ∷ Pulse ∷ Low ∷ Ignore ∷ [])
    ∷ (Pulse ∷ Low ∷ High ∷ Ignore ∷ [])
    ∷ (Pulse ∷ Low ∷ Low ∷ ExpectLow ∷ [])
    ∷ (Low ∷ Low ∷ Low ∷ ExpectLow ∷ [])
    ∷ [])

-- Where a domain does not pulse, in the falls a lock-up of its clock is a wire, and one of its inverted clock holds.
pub record QuietFalls : Type 0 where
  pub low : HasVerdict quiet_low low_rests (Pass 2)
  pub high : HasVerdict quiet_high high_rests (Pass 2)

-- ---- a reset

-- `DFFR f (.CK(ka), .D(d), .RN(cb), .Q(q));`
abbrev pub falling_with_reset : Netlist
falling_with_reset = inverted_too (flip_flop_with_reset (codes "f") 6 2 1 3 ∷ [])

-- `DFFR f (.CK(ca), .D(d), .RN(cb), .Q(q));`
abbrev pub rising_with_reset : Netlist
rising_with_reset = inverted_too (flip_flop_with_reset (codes "f") 0 2 1 3 ∷ [])

-- `P11 X`, `P01 L`, `011 L`
abbrev pub reset_once : Patterns
reset_once = two_clocks ((Pulse ∷ High ∷ High ∷ Ignore ∷ []) ∷ (Pulse ∷ Low ∷ High ∷ ExpectLow ∷ []) ∷ (Low ∷ High ∷ High ∷ ExpectLow ∷ []) ∷ [])

-- A reset acts before the strobe, and at the edge, the fall or the rise, at which its flip-flop would take another bit.
pub record Resets : Type 0 where
  pub fall : HasVerdict falling_with_reset reset_once (Pass 2)
  pub rise : HasVerdict rising_with_reset reset_once (Pass 2)

-- ---- three domains that fall

-- `module r (ca, cb, cc, d, q)` with `DFF a (.CK(ka), .D(d), .Q(n)); DFF b (.CK(kb), .D(n), .Q(m)); DFF c (.CK(kc), .D(m), .Q(q));`
abbrev pub falling_row_of_three : Netlist
falling_row_of_three = record {
  name = codes "r";
  library = standard_cells;
  ports = port (codes "ca") Input 0 ∷ port (codes "cb") Input 1 ∷ port (codes "cc") Input 2 ∷ port (codes "d") Input 3 ∷ port (codes "q") Output 4 ∷ [];
  nets = codes "ca" ∷ codes "cb" ∷ codes "cc" ∷ codes "d" ∷ codes "q" ∷ codes "n" ∷ codes "m" ∷ codes "ka" ∷ codes "kb" ∷ codes "kc" ∷ [];
  instances =
      inverter (codes "u") 0 7 ∷ inverter (codes "v") 1 8 ∷ inverter (codes "w") 2 9
      ∷ flip_flop (codes "a") 7 3 (pin 5) ∷ flip_flop (codes "b") 8 5 (pin 6) ∷ flip_flop (codes "c") 9 6 (pin 4) ∷ [];
  joins = [];
}

-- A new bit may pass three flip-flops in one vector, where their clocks fall one after another. This needs a second round of the falls.
abbrev pub ThreeFalls : Type 0
ThreeFalls = HasVerdict falling_row_of_three all_pulse (Undetermined 4 4)
