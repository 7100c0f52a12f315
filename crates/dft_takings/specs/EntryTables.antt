-- What nets show of flip-flops, and what flip-flops take, as tables.
use Rattle.std.specs.Prelude.{ℕ, Bool, true, false, ◌≡◌, ◌<◌, ◌++◌, List, [], ◌∷◌, Option, None, Some, length, slice_index_or}
use Rattle.dft_base.specs.declared.tri.Tri.{Tri}
use Rattle.dft_cells.specs.FlipFlops.{Scan}
use Rattle.dft_netlist.specs.declared.ids.InstanceId.{InstanceId}
use Rattle.dft_netlist.specs.Drivers.{Source, nets_of}
use Rattle.dft_behavior.specs.Logic.{Cell}
use Rattle.dft_behavior.specs.Logic as meanings
use Rattle.dft_netlist.specs.Orders.{Has}
use Rattle.dft_abstract.specs.Cycle as Cycle
use Rattle.dft_takings.specs.Shows as shows
use Rattle.dft_takings.specs.Entries as entries
use Rattle.dft_takings.specs.declared.entries.Entry.{Entry}
use Rattle.dft_logic.specs.Circuit.{flag_at}
use Rattle.dft_takings.specs.declared.entries.Entry.TheVariants.{Keeps, Takes, Follows, Reads, Computes}

abbrev pub number_of : Option InstanceId → Option ℕ
number_of None = None
number_of (Some instance) = Some instance.0

-- the flip-flop that the net at a place shows, and none past the end
abbrev pub origin_at : List (Option InstanceId) → ℕ → Option ℕ
origin_at table net = number_of (slice_index_or table net None)

abbrev pub entry_of : Entry → entries.Entry
entry_of Keeps = entries.Keeps
entry_of (Takes value) = entries.Takes value
entry_of (Follows instance) = entries.Follows instance.0
entry_of (Reads net) = entries.Reads net.0
entry_of Computes = entries.Computes

abbrev pub entry_there : Option Entry → Option entries.Entry
entry_there None = None
entry_there (Some entry) = Some (entry_of entry)

-- the entry of one flip-flop
abbrev pub entry_for : Cell → Cycle.Pulse → (origin : ℕ → Option ℕ) → (shown : ℕ → shows.Shown) → (settled : ℕ → Tri) → Option entries.Entry
entry_for cell p origin shown settled = entries.entry_given (record { net = λ net. meanings.Free; cell = λ c. cell }) p origin shown settled 0

-- the entry at a place; past the end a flip-flop keeps its value
abbrev pub entry_at : List Entry → ℕ → entries.Entry
entry_at table c = entry_of (slice_index_or table c Keeps)

-- these nets are marked, so far as there are such nets, and what was marked is
pub record MarksAll (old new : List Bool) (nets : List ℕ) : Type 0 where
  pub size : length new ≡ length old
  pub kept : (k : ℕ) → flag_at old k ≡ true → flag_at new k ≡ true
  pub all : (k : ℕ) → k < length old → Has nets k → flag_at new k ≡ true

-- the nets of the pins that are there for scan
abbrev pub scan_needs : (enable_alone : Bool) → Option (Scan Source) → List ℕ
scan_needs alone None = []
scan_needs true (Some scan) = nets_of (scan.enable ∷ [])
scan_needs false (Some scan) = nets_of (scan.enable ∷ scan.input ∷ [])

-- The nets that have to be settled for a flip-flop with an entry: its scan enable, and what the entry reads.
abbrev pub entry_needs : Cell → entries.Entry → List ℕ
entry_needs cell entries.Keeps = scan_needs true cell.takes.scan
entry_needs cell (entries.Takes value) = scan_needs true cell.takes.scan
entry_needs cell (entries.Follows other) = scan_needs true cell.takes.scan
entry_needs cell (entries.Reads net) = net ∷ scan_needs true cell.takes.scan
entry_needs cell entries.Computes = nets_of (cell.takes.input ∷ []) ++ scan_needs false cell.takes.scan
