-- Ranks of nets: each instance drives nets that stand above those that it reads, so every net can be ordered.
use Rattle.std.specs.Prelude.{ℕ, ◌≡◌, ◌<◌, ◌++◌, false, IsTrue, List, [], ◌∷◌, length, Option, None, Some, slice_get}
use Rattle.std.specs.List.{AllByRecursion}
use Rattle.dft_cells.specs.declared.kind.Gate.{Gate as GateKind}
use Rattle.dft_cells.specs.declared.cell.Cell.{Cell}
use Rattle.dft_cells.specs.WellFormed.{IsWellFormed}
use Rattle.dft_cells.specs.FlipFlops.{is_flip_flop}
use Rattle.dft_netlist.specs.declared.ids.NetId.{NetId}
use Rattle.dft_netlist.specs.declared.instance.Instance.{Instance}
use Rattle.dft_netlist.specs.declared.instance.Signal.TheVariants as signal
use Rattle.dft_netlist.specs.declared.instance.CellRef.TheVariants as cell_ref
use Rattle.dft_netlist.specs.declared.instance.Join.{Join}
use Rattle.dft_netlist.specs.Drivers.{Source, Driver, Input, Gate, Joined, Flop, Lockup, Free, driver_of_kind, inputs_of, lockup_inputs, connections_of, nets_of, shape_of, source_of, IsOrdered}
use Rattle.dft_netlist.specs.Netlist.{Netlist}
use Rattle.dft_netlist.specs.NetDrivers.{IsSingle}
use Rattle.dft_netlist.specs.Orders.{Has, IsOrderable}
use Rattle.dft_parts.specs.Cells.{is_lockup, first_cell, pins_between}
use Rattle.dft_parts.specs.Parts.{Part, ANet, AnInstance, APin, Making, next_instance, pin_joined, with_part, with_parts}
use Rattle.dft_parts.specs.Recipes.{at_nets}
use Rattle.dft_parts.specs.Single.{nets_driven}

-- the nets that a driver reads at the same moment; latch are the sources of a lock-up's clock and input
abbrev pub reads_by : Driver → (latch : List Source) → List ℕ
reads_by Input latch = []
reads_by (Gate kind inputs) latch = nets_of inputs
reads_by (Joined source) latch = nets_of (source ∷ [])
reads_by (Flop i inverted) latch = []
reads_by (Lockup i) latch = nets_of latch
reads_by Free latch = []

-- the nets that an instance reads at the same moment: a gate its inputs, a lock-up its clock and its input, a flip-flop none
abbrev pub read_by : List Cell → (instance : ℕ) → Instance → List ℕ
read_by library i x = let pins = connections_of library x in reads_by (driver_of_kind (shape_of library x.cell).kind i false (inputs_of i pins)) (lockup_inputs i pins)

-- the nets that an instance drives
abbrev pub nets_driven_by : List Cell → Instance → List ℕ
nets_driven_by library x = nets_driven (shape_of library x.cell).roles x.pins

-- each net that the instance reads stands below each that it drives
abbrev pub IsRanked : List Cell → (rank : ℕ → ℕ) → (instance : ℕ) → Instance → Type 0
IsRanked library rank i x = (read net : ℕ) → Has (read_by library i x) read → Has (nets_driven_by library x) net → rank read < rank net

-- so it is of a join (an assignment, IEEE 1364)
abbrev pub IsJoinRanked : (rank : ℕ → ℕ) → Join → Type 0
IsJoinRanked rank join = (read : ℕ) → Has (nets_of (source_of 0 0 join.source ∷ [])) read → rank read < rank join.target.0

pub record AreRanked (n : Netlist) (rank : ℕ → ℕ) : Type 0 where
  pub instances : (i : ℕ) (x : Instance) → slice_get n.instances i ≡ Some x → IsRanked n.library rank i x
  pub joins : (k : ℕ) (join : Join) → slice_get n.joins k ≡ Some join → IsJoinRanked rank join

-- Where all is ranked, every net can be ordered.
abbrev pub RanksOrder : Type 0
RanksOrder = (n : Netlist) (rank : ℕ → ℕ) → AreRanked n rank → (net : ℕ) → IsOrderable n net

-- In a netlist without two drivers of a net an order of its nets ranks all.
abbrev pub OrderRanks : Type 0
OrderRanks = (n : Netlist) (rank : ℕ → ℕ) → IsSingle n → IsOrdered n rank → AreRanked n rank

-- ---- parts

-- an instance whose pin was joined is ranked
abbrev pub IsPinRanked : List Cell → (rank : ℕ → ℕ) → (instance pin : ℕ) → NetId → Option Instance → Type 0
IsPinRanked library rank i pin net None = Unit {0}
IsPinRanked library rank i pin net (Some x) = IsRanked library rank i (record x { pins = pin_joined pin net x.pins })

abbrev pub IsPartRanked : Making → (rank : ℕ → ℕ) → Part → Type 0
IsPartRanked s rank ANet = Unit {0}
IsPartRanked s rank (AnInstance cell pins) = IsRanked s.netlist.library rank (length s.netlist.instances) (next_instance s.made cell pins)
IsPartRanked s rank (APin instance pin net) = IsPinRanked s.netlist.library rank instance.0 pin net (slice_get s.netlist.instances instance.0)

abbrev pub ArePartsRanked : Making → (rank : ℕ → ℕ) → List Part → Type 0
ArePartsRanked s rank [] = Unit {0}
ArePartsRanked s rank (part ∷ parts) = IsPartRanked s rank part × ArePartsRanked (with_part s part) rank parts

-- Parts that are ranked leave all ranked.
abbrev pub PartsRank : Type 0
PartsRank = (s : Making) (rank : ℕ → ℕ) (parts : List Part) → AreRanked s.netlist rank → ArePartsRanked s rank parts → AreRanked (with_parts s parts).netlist rank

-- ---- instances

-- A flip-flop is ranked, whatever its pins are joined to.
abbrev pub FlipFlopRanked : Type 0
FlipFlopRanked = (library : List Cell) (rank : ℕ → ℕ) (i : ℕ) (x : Instance) → IsTrue (is_flip_flop (shape_of library x.cell).kind) → IsRanked library rank i x

-- A gate is ranked whose inputs stand below its output.
abbrev pub GateRanked : Type 0
GateRanked =
    (library : List Cell) (rank : ℕ → ℕ) (i : ℕ) (x : Instance) (kind : GateKind) (inputs : List NetId) (output : NetId) → x.cell ≡ cell_ref.Gate kind (length inputs) → x.pins ≡ at_nets inputs ++ signal.Net output ∷ [] →
    AllByRecursion (λ net. rank net.0 < rank output.0) inputs → IsRanked library rank i x

-- A lock-up is ranked whose clock and input stand below its output.
abbrev pub LockupRanked : Type 0
LockupRanked =
    (library : List Cell) (rank : ℕ → ℕ) (i : ℕ) (x : Instance) (clock input output : NetId) → IsWellFormed library →
    x.cell ≡ cell_ref.Library (first_cell is_lockup library) → x.pins ≡ pins_between library (first_cell is_lockup library) clock input output →
    rank clock.0 < rank output.0 → rank input.0 < rank output.0 → IsRanked library rank i x
