-- What the vectors need that pulse the same clocks at the same value of a scan enable.
use Rattle.std.specs.Prelude.{ℕ, Bool, true, false, ◌≡◌, ◌<◌, ◌⊎◌, ◌==◌, ◌||◌, nat_le, List, [], ◌∷◌, Option, None, Some, length, if◌then◌else◌}
use Rattle.dft_base.specs.declared.tri.Tri.{Tri}
use Rattle.dft_base.specs.declared.tri.Tri.TheVariants.{Unknown}
use Rattle.dft_lanes.specs.declared.wide.Wide.{Wide}
use Rattle.dft_cells.specs.FlipFlops.{Scan}
use Rattle.dft_netlist.specs.declared.ids.NetId.{NetId}
use Rattle.dft_netlist.specs.Drivers.{Source, Net, Tied, Loose, nets_of}
use Rattle.dft_behavior.specs.Logic.{Cell}
use Rattle.dft_netlist.specs.Orders.{Has}
use Rattle.dft_behavior.specs.Settled.{value_from}
use Rattle.dft_patterns.specs.declared.act.Act.{Act}
use Rattle.dft_replay.specs.Vectors.{act_at, net_at, printed}
use Rattle.dft_evaluator.specs.Wides.{values_in}
use Rattle.dft_logic.specs.declared.circuit.FlipFlop.{FlipFlop}
use Rattle.dft_logic.specs.Circuit.{flag_at}
use Rattle.dft_takings.specs.Needs.{HasAll, chosen_reads, next_reads}
use Rattle.dft_fault_lanes.specs.declared.marking.Steer.{Steer}
use Rattle.dft_fault_lanes.specs.Lanes.{flop_at, is_changed}

-- the marked nets of so many, and all past the end
abbrev pub needs_of : (count : ℕ) → (marked : List Bool) → (net : ℕ) → Bool
needs_of count marked net = flag_at marked net || nat_le count net

-- the net has its value, where that is known
abbrev pub Steers : Steer → (values : ℕ → Tri) → Type 0
Steers s values = (s.value ≡ Unknown) ⊎ (values s.net.0 ≡ s.value)

-- the same in each lane
abbrev pub SteersAll : Steer → List Wide → Type 0
SteersAll s wides = (lane : ℕ) → lane < 512 → Steers s (values_in wides lane)

-- a set has the nets that a cell's next value is read from, where the net of scan enables has its value
abbrev pub HasReadsOf : (needs : (net : ℕ) → Bool) → Steer → Cell → Type 0
HasReadsOf needs s cell = (ports values : ℕ → Tri) → Steers s values → HasAll needs (nets_of (next_reads cell ports (value_from values)))

-- these are the cells that take a value where these clocks rise, or fall, but for those that are left out
abbrev pub ArePlaces : List FlipFlop → (rising : Bool) → (pulsed : List Bool) → (left : (cell : ℕ) → Bool) → (places : List ℕ) → Type 0
ArePlaces flops rising pulsed left places =
    ((c : ℕ) → c < length flops → is_changed (flop_at flops c) rising pulsed ≡ true → left c ≡ false → Has places c)
    × ((c : ℕ) → Has places c → (c < length flops) × ((is_changed (flop_at flops c) rising pulsed ≡ true) × (left c ≡ false)))

-- a net is marked for each signal that a vector compares
abbrev pub AreCovered : List NetId → List Act → (marked : List Bool) → Type 0
AreCovered nets acts marked = (signal : ℕ) (bit : Bool) → printed (act_at acts signal) ≡ Some bit → flag_at marked (net_at nets signal).0 ≡ true

-- the value of a scan enable, so far as it is known
abbrev pub enable_at : Steer → Source → Tri
enable_at s (Net net) = if net == s.net.0 then s.value else Unknown
enable_at s (Tied bit) = Unknown
enable_at s (Loose i pin) = Unknown

-- the nets that a cell's next value may be read from
abbrev pub taken_needs : Steer → Option (Scan Source) → (data_in : Source) → List ℕ
taken_needs s None data_in = nets_of (data_in ∷ [])
taken_needs s (Some scan) data_in = nets_of (scan.enable ∷ chosen_reads (enable_at s scan.enable) scan.input data_in)

abbrev pub cell_needs : Steer → Cell → List ℕ
cell_needs s cell = taken_needs s cell.takes.scan cell.takes.input

-- whether a clock pulses, by signals
abbrev pub pulse_on : (nets : List ℕ) → (pulses : List Bool) → (net : ℕ) → Bool
pulse_on [] pulses net = false
pulse_on (first ∷ nets) [] net = false
pulse_on (first ∷ nets) (up ∷ pulses) net = if first == net then up else pulse_on nets pulses net
