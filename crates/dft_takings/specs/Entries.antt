-- What each flip-flop takes in a pulse where nothing that it needs moves: its entry.
use Rattle.std.specs.Prelude.{ℕ, Bool, true, false, ◌&&◌, Option, None, Some, if◌then◌else◌}
use Rattle.dft_base.specs.declared.tri.Tri.{Tri}
use Rattle.dft_base.specs.declared.tri.Tri.TheVariants.{Zero, One, Unknown}
use Rattle.dft_base.specs.Tri.{known}
use Rattle.dft_cells.specs.FlipFlops.{Scan, Forces}
use Rattle.dft_netlist.specs.Drivers.{Source, Net, Tied, Loose}
use Rattle.dft_behavior.specs.Logic.{Logic}
use Rattle.dft_behavior.specs.Settled.{value_from}
use Rattle.dft_abstract.specs.Cycle.{Pulse, changes}
use Rattle.dft_takings.specs.Shows.{Shown, is_still}

pub data Entry : Type 0 where
  -- its own old value, since it takes none
  Keeps : Entry
  Takes : (value : Tri) → Entry
  -- the old value of another flip-flop
  Follows : (cell : ℕ) → Entry
  -- the value of a net at the strobe
  Reads : (net : ℕ) → Entry
  -- its next value from the strobe's values, for a reset, set or scan enable that is unknown
  Computes : Entry

-- the value by an entry, where `next` is the flip-flop's next value from the strobe
abbrev pub entry_value : (old settled : ℕ → Tri) → (next : Tri) → (cell : ℕ) → Entry → Tri
entry_value old settled next c Keeps = old c
entry_value old settled next c (Takes value) = value
entry_value old settled next c (Follows cell) = old cell
entry_value old settled next c (Reads net) = settled net
entry_value old settled next c Computes = next

-- ---- one source

abbrev pub net_entry : Option ℕ → (net : ℕ) → Entry
net_entry None net = Reads net
net_entry (Some cell) net = Follows cell

abbrev pub source_entry : (origin : ℕ → Option ℕ) → Source → Entry
source_entry origin (Net net) = net_entry (origin net) net
source_entry origin (Tied bit) = Takes (known bit)
source_entry origin (Loose i pin) = Takes Unknown

-- whether a source is as at the strobe in the view of a domain
abbrev pub is_still_source : (view : ℕ) → (shown : ℕ → Shown) → Source → Bool
is_still_source d shown (Net net) = is_still d (shown net)
is_still_source d shown (Tied bit) = true
is_still_source d shown (Loose i pin) = true

-- an entry, where what it needs is still
abbrev pub entry_if : (still : Bool) → Option Entry → Option Entry
entry_if still entry = if still then entry else None

-- ---- a flip-flop

abbrev pub chosen_entry : (still : Source → Bool) → (origin : ℕ → Option ℕ) → (enable : Tri) → (scan_in data_in : Source) → Option Entry
chosen_entry still origin Zero scan_in data_in = entry_if (still data_in) (Some (source_entry origin data_in))
chosen_entry still origin One scan_in data_in = entry_if (still scan_in) (Some (source_entry origin scan_in))
chosen_entry still origin Unknown scan_in data_in = entry_if (still scan_in && still data_in) (Some Computes)

abbrev pub taken_entry : (still : Source → Bool) → (origin : ℕ → Option ℕ) → Option (Scan Source) → (at : Source → Tri) → (data_in : Source) → Option Entry
taken_entry still origin None at data_in = entry_if (still data_in) (Some (source_entry origin data_in))
taken_entry still origin (Some scan) at data_in = entry_if (still scan.enable) (chosen_entry still origin (at scan.enable) scan.input data_in)

-- what is taken is one part of the next value
abbrev pub computed : Option Entry → Option Entry
computed None = None
computed (Some entry) = Some Computes

abbrev pub entry_at : (value : Bool) → (port : Tri) → Option Entry → Option Entry
entry_at value Zero entry = Some (Takes (known value))
entry_at value One entry = entry
entry_at value Unknown entry = computed entry

abbrev pub entry_where : (value : Bool) → (pin : Option ℕ) → (ports : ℕ → Tri) → Option Entry → Option Entry
entry_where value None ports entry = entry
entry_where value (Some port) ports entry = entry_at value (ports port) entry

abbrev pub forced_entry : Forces ℕ → (ports : ℕ → Tri) → Option Entry → Option Entry
forced_entry forces ports entry = entry_where false forces.clear ports (entry_where true forces.preset ports entry)

-- The entry of a flip-flop, by the strobe's value of its scan enable; none where something that it needs may move.
abbrev pub entry_given : Logic → Pulse → (origin : ℕ → Option ℕ) → (shown : ℕ → Shown) → (settled : ℕ → Tri) → (cell : ℕ) → Option Entry
entry_given l p origin shown settled c =
    let d = (l.cell c).domain in
    if changes l p c then forced_entry (l.cell c).forces p.ports (taken_entry (is_still_source d shown) origin (l.cell c).takes.scan (value_from settled) (l.cell c).takes.input) else Some Keeps
