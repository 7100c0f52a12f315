-- The recipe of the chains: nets for open outputs, the links between neighbours with lock-ups between domains of one edge, and the scan inputs.
use Rattle.std.specs.Prelude.{ℕ, ◌+◌, ◌-◌, ◌==◌, Bool, true, false, List, [], ◌∷◌, length, Option, None, Some, slice_get, slice_index_or, if◌then◌else◌}
use Rattle.std.specs.List.{range_with_len}
use Rattle.dft_cells.specs.declared.kind.Gate.TheVariants.{Inv}
use Rattle.dft_cells.specs.declared.kind.Role.{Role}
use Rattle.dft_cells.specs.declared.kind.Role.TheVariants.{Output, ScanIn}
use Rattle.dft_cells.specs.declared.cell.Cell.{Cell}
use Rattle.dft_cells.specs.declared.cell.CellId.{CellId}
use Rattle.dft_netlist.specs.declared.ids.NetId.{NetId}
use Rattle.dft_netlist.specs.declared.ids.InstanceId.{InstanceId}
use Rattle.dft_netlist.specs.declared.instance.CellRef.TheVariants.{Library}
use Rattle.dft_netlist.specs.Drivers.{shape_of}
use Rattle.dft_netlist.specs.Connections.{same_role}
use Rattle.dft_netlist.specs.Netlist.{Netlist}
use Rattle.dft_config.specs.Config.{Config}
use Rattle.dft_rules.specs.Rules.{scan_cell_of}
use Rattle.dft_stitch.specs.declared.places.LockupPlace.{LockupPlace}
use Rattle.dft_parts.specs.Recipes.{Recipe, pure, ◌>>=◌, ◌>>◌, each, collect, net_at, a_net, a_lockup, a_pin}
use Rattle.dft_parts.specs.Sums.{a_driving_gate}
use Rattle.dft_scan_frame.specs.Moves.{Gap, moved}
use Rattle.dft_scan_frame.specs.Pins.{domain_in, number_of, own_output}

-- ---- pins of scan cells

-- the roles of the pins of the scan cell that a flip-flop of the design names
abbrev pub roles_of : List Cell → Option CellId → List Role
roles_of library None = []
roles_of library (Some cell) = (shape_of library (Library cell)).roles

abbrev pub scan_roles : Netlist → InstanceId → List Role
scan_roles n cell = roles_of n.library (scan_cell_of n cell.0)

-- an open pin of a scan cell is joined, if it has one of this number
abbrev pub a_numbered_pin : InstanceId → Option ℕ → NetId → Recipe (Unit {0})
a_numbered_pin cell None net = pure tt
a_numbered_pin cell (Some pin) net = a_pin cell pin net

-- the first pin of a role
abbrev pub a_role_pin : Netlist → InstanceId → Role → NetId → Recipe (Unit {0})
a_role_pin n cell role net = a_numbered_pin cell (number_of (same_role role) 0 (scan_roles n cell)) net

-- the scan input of a cell, if there is such a cell
abbrev pub a_scan_in : Netlist → Option InstanceId → NetId → Recipe (Unit {0})
a_scan_in n None net = pure tt
a_scan_in n (Some cell) net = a_role_pin n cell ScanIn net

-- ---- outputs

-- a net for an output that is joined to nothing
unfoldable pub an_open_output : Netlist → InstanceId → Recipe NetId
an_open_output n cell = do
  net ← a_net
  a_role_pin n cell Output net
  pure net

abbrev pub own_or_made : Netlist → Gap → InstanceId → (own : Option ℕ) → Recipe NetId
own_or_made n gap cell None = an_open_output n cell
own_or_made n gap cell (Some net) = pure (record { 0 = moved gap net })

-- the net at the output of a cell: its own, or one that is made for it
abbrev pub an_output : Netlist → Gap → InstanceId → Recipe NetId
an_output n gap cell = own_or_made n gap cell (own_output n cell)

-- those of a chain, and those of all chains
abbrev pub a_row : Netlist → Gap → (cells : List InstanceId) → Recipe (List NetId)
a_row n gap cells = collect (an_output n gap) cells

abbrev pub rows : Netlist → Gap → (chains : List (List InstanceId)) → Recipe (List (List NetId))
rows n gap chains = collect (a_row n gap) chains

-- ---- links

-- what a chain's cells are, and the nets at their outputs
abbrev pub cells_at : List (List InstanceId) → (chain : ℕ) → List InstanceId
cells_at chains chain = slice_index_or chains chain []

abbrev pub row_at : List (List NetId) → (chain : ℕ) → List NetId
row_at outputs chain = slice_index_or outputs chain []

-- what clocks a lock-up: the net of its domain's port, and where the lock-up is high a `not` of it
abbrev pub a_lockup_clock : (port : NetId) → (high : Bool) → Recipe NetId
a_lockup_clock port false = pure port
a_lockup_clock port true = a_driving_gate Inv (port ∷ [])

-- on that clock a lock-up behind the cell at a place: it takes the output of this cell and drives the next scan input
unfoldable pub a_lockup_behind : Netlist → (cells : List InstanceId) → (outputs : List NetId) → (after : ℕ) → (clock : NetId) → Recipe (Unit {0})
a_lockup_behind n cells outputs after clock = do
  net ← a_net
  a_lockup clock (net_at outputs after) net
  a_scan_in n (slice_get cells (after + 1)) net

-- a lock-up between two domains, clocked by the domain of the cell before it
unfoldable pub a_crossing : Netlist → Config → Gap → (cells : List InstanceId) → (outputs : List NetId) → LockupPlace → Recipe (Unit {0})
a_crossing n config gap cells outputs l = do
  clock ← a_lockup_clock (record { 0 = domain_in n gap config l.domain }) l.high
  a_lockup_behind n cells outputs l.after clock

-- where it stands in this chain
abbrev pub crossing_in : Netlist → Config → Gap → (chain : ℕ) → (cells : List InstanceId) → (outputs : List NetId) → LockupPlace → Recipe (Unit {0})
crossing_in n config gap chain cells outputs l = if l.chain == chain then a_crossing n config gap cells outputs l else pure tt

-- a scan input that is still open takes the output of the cell before it
abbrev pub a_step : Netlist → (cells : List InstanceId) → (outputs : List NetId) → (place : ℕ) → Recipe (Unit {0})
a_step n cells outputs place = a_scan_in n (slice_get cells (place + 1)) (net_at outputs place)

-- A chain: the first scan input takes the entry; then along the chain each lock-up between domains of one edge; elsewhere a scan input
-- takes the output of the cell before it.
unfoldable pub a_chain : Netlist → Config → Gap → List LockupPlace → (chain : ℕ) → (cells : List InstanceId) → (outputs : List NetId) → (entry : NetId) → Recipe (Unit {0})
a_chain n config gap lockups chain cells outputs entry = do
  a_scan_in n (slice_get cells 0) entry
  each (crossing_in n config gap chain cells outputs) lockups
  each (a_step n cells outputs) (range_with_len 0 (length cells))

-- A chain behind a lock-up on edt_clock, whose net is the entry.
unfoldable pub a_latched_chain : Netlist → Config → Gap → List LockupPlace → (chain : ℕ) → (cells : List InstanceId) → (outputs : List NetId) → (clock phase : NetId) → Recipe (Unit {0})
a_latched_chain n config gap lockups chain cells outputs clock phase = do
  entry ← a_net
  a_lockup clock phase entry
  a_chain n config gap lockups chain cells outputs entry

-- A chain behind its phase sum: where the first cell is falling the sum itself is the entry, else a lock-up on edt_clock that takes it.
abbrev pub a_fed_chain : (falling : Bool) → Netlist → Config → Gap → List LockupPlace → (chain : ℕ) → (cells : List InstanceId) → (outputs : List NetId) → (clock phase : NetId) → Recipe (Unit {0})
a_fed_chain true n config gap lockups chain cells outputs clock phase = a_chain n config gap lockups chain cells outputs phase
a_fed_chain false n config gap lockups chain cells outputs clock phase = a_latched_chain n config gap lockups chain cells outputs clock phase

-- the net at the end of a chain
abbrev pub last_net : (outputs : List NetId) → NetId
last_net outputs = net_at outputs (length outputs - 1)
