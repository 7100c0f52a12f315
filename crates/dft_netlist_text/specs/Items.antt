-- The items of a module: port and net declarations, continuous assignments, gate instantiations, and module instantiations, which are of cells
-- (IEEE 1364, structural part).
use Rattle.std.specs.Prelude.{ℕ, zero, suc, Bool, true, false, not, ◌==◌, if◌then◌else◌, List, [], ◌∷◌, ◌++◌, length, map, replicate, position, Option, Some, None, slice_get, slice_set, Ok, Err}
use Rattle.std.specs.Str.{bytes_eq}
use Rattle.dft_base.specs.declared.place.Range.{Range}
use Rattle.dft_base.specs.Lexing.{Text}
use Rattle.dft_base.specs.Parser.{pure, ◌>>=◌, ◌>>◌}
use Rattle.dft_cells.specs.declared.kind.Gate.{Gate}
use Rattle.dft_cells.specs.declared.kind.Gate.TheVariants as primitive
use Rattle.dft_cells.specs.declared.cell.CellId.{CellId}
use Rattle.dft_cells.specs.declared.cell.Pin.{Pin}
use Rattle.dft_cells.specs.declared.cell.Cell.{Cell}
use Rattle.dft_cells.specs.Pins.{is_output, takes_inputs}
use Rattle.dft_cells.specs.Cells.{find_cell}
use Rattle.dft_netlist.specs.declared.ids.NetId.{NetId}
use Rattle.dft_base.specs.declared.dir.Dir.{Dir}
use Rattle.dft_base.specs.declared.dir.Dir.TheVariants as dir
use Rattle.dft_netlist.specs.declared.instance.Signal.{Signal}
use Rattle.dft_netlist.specs.declared.instance.Signal.TheVariants as signal
use Rattle.dft_netlist.specs.declared.instance.CellRef.TheVariants as cell_ref
use Rattle.dft_netlist.specs.declared.instance.Instance.{Instance}
use Rattle.dft_netlist_text.specs.declared.text.TokenKind.{TokenKind}
use Rattle.dft_netlist_text.specs.declared.text.TokenKind.TheVariants as kind
use Rattle.dft_netlist_text.specs.declared.text.Cause.TheVariants as cause
use Rattle.dft_netlist_text.specs.declared.text.Site.TheVariants as site
use Rattle.dft_netlist_text.specs.Steps.{Rule, kind_of, left, next, sees, refuse, expect, eat, fault, needed, checked}
use Rattle.dft_netlist_text.specs.Modules.{Draft, declare_port, declare_wire, name_instance, room_for_instance, with_instance, with_join}
use Rattle.dft_netlist_text.specs.Expressions.{range_if_any, expression, drives}

-- ---- port declarations and net declarations

-- what a declaration declares: ports of a direction, or wires
pub data Declaring : Type 0 where
  Ports : (dir : Dir) → Declaring
  Wires : Declaring

-- a name is declared as a port or as a wire
abbrev pub declare : Declaring → ℕ → Text → Option Range → Draft → Rule Draft
declare (Ports dir) place word range d = checked (declare_port place word dir range d)
declare Wires place word range d = checked (declare_wire place word range d)

-- one name is declared; its meaning is tested at the name
unfoldable pub declared_name : Declaring → Option Range → Draft → Rule Draft
declared_name what range d = λ ts. (expect kind.Name >>= (λ word. declare what (left ts) word range d)) ts

-- the names that are left of a list
unfoldable pub declared_names_from : ℕ → Declaring → Option Range → Draft → Rule Draft
declared_names_from zero what range d = refuse
declared_names_from (suc n) what range d = do
  more ← declared_name what range d
  comma ← eat kind.Comma
  if comma then declared_names_from n what range more else pure more

-- names with commas between them. Each takes a byte at least.
unfoldable pub declared_names : Declaring → Option Range → Draft → Rule Draft
declared_names what range d = λ ts. declared_names_from (left ts) what range d ts

-- a range, if any, and names
unfoldable pub declaration : Declaring → Draft → Rule Draft
declaration what d = do
  range ← range_if_any
  more ← declared_names what range d
  expect kind.Semicolon
  pure more

-- `input` or `output`, and perhaps `wire`
unfoldable pub port_item : Dir → Draft → Rule Draft
port_item dir d = λ ts. (eat kind.Wire >>= (λ wire. declaration (Ports dir) d)) (next ts)

-- `wire`, and what it declares
unfoldable pub wire_item : Draft → Rule Draft
wire_item d = λ ts. declaration Wires d (next ts)

-- ---- continuous assignments

-- the net of a signal that is driven; constants are not
abbrev pub driven_net : Signal → NetId
driven_net (signal.Net net) = net
driven_net (signal.Constant bit) = record { 0 = 0 }
driven_net signal.Unconnected = record { 0 = 0 }

-- each bit on the left has the bit on the right, leftmost first
abbrev pub with_joins : List Signal → List Signal → Draft → Draft
with_joins [] sources d = d
with_joins (target ∷ targets) [] d = d
with_joins (target ∷ targets) (source ∷ sources) d = with_joins targets sources (with_join (record { target = driven_net target; source = source }) d)

-- the sides are as wide; the right side is read from this place on
abbrev pub assigned : ℕ → List Signal → List Signal → Draft → Rule Draft
assigned place targets sources d = needed cause.Misfit place (length targets == length sources) (pure (with_joins targets sources d))

-- the right side of an assignment, for these bits on the left
unfoldable pub right_side : List Signal → Draft → Rule Draft
right_side targets d = λ ts. (expression site.Source d >>= (λ o. assigned (left ts) targets o.1 o.0)) ts

-- a left side, `=`, and a right side
unfoldable pub net_assignment : Draft → Rule Draft
net_assignment d = do
  o ← expression site.Target d
  expect kind.Equals
  right_side o.1 o.0

-- the assignments that are left of a list
unfoldable pub net_assignments_from : ℕ → Draft → Rule Draft
net_assignments_from zero d = refuse
net_assignments_from (suc n) d = do
  more ← net_assignment d
  comma ← eat kind.Comma
  if comma then net_assignments_from n more else pure more

-- assignments with commas between them
unfoldable pub net_assignments : Draft → Rule Draft
net_assignments d = λ ts. net_assignments_from (left ts) d ts

-- `assign` and its assignments
unfoldable pub assign_item : Draft → Rule Draft
assign_item d = λ ts. (do
  more ← net_assignments d
  expect kind.Semicolon
  pure more) (next ts)

-- ---- one bit at a pin or a terminal

-- the draft behind an expression of one bit, and the bit
abbrev pub One : Type 0
One = Draft × Signal

-- the one bit of an expression
abbrev pub one_bit : ℕ → Draft → List Signal → Rule One
one_bit place d (bit ∷ []) = pure (d, bit)
one_bit place d [] = λ ts. Err (fault cause.Misfit place)
one_bit place d (bit ∷ more ∷ bits) = λ ts. Err (fault cause.Misfit place)

-- ---- gate instantiations

-- the kind of a gate primitive
abbrev pub gate_kind : TokenKind → Option Gate
gate_kind kind.And = Some primitive.And
gate_kind kind.Nand = Some primitive.Nand
gate_kind kind.Or = Some primitive.Or
gate_kind kind.Nor = Some primitive.Nor
gate_kind kind.Xor = Some primitive.Xor
gate_kind kind.Xnor = Some primitive.Xnor
gate_kind kind.Buf = Some primitive.Buf
gate_kind kind.Not = Some primitive.Inv
gate_kind _ = None

-- a terminal; its width is tested at its first token
unfoldable pub terminal : (drives : Bool) → Draft → Rule One
terminal drives d = λ ts. (expression (site.Terminal drives) d >>= (λ o. one_bit (left ts) o.0 o.1)) ts

-- the terminals behind the first
unfoldable pub input_terminals_from : ℕ → Draft → List Signal → Rule (Draft × List Signal)
input_terminals_from zero d input_terminals = refuse
input_terminals_from (suc n) d input_terminals = do
  comma ← eat kind.Comma
  if comma then (terminal false d >>= (λ o. input_terminals_from n o.0 (input_terminals ++ o.1 ∷ []))) else pure (d, input_terminals)

-- all terminals behind the first
unfoldable pub input_terminals : Draft → Rule (Draft × List Signal)
input_terminals d = λ ts. input_terminals_from (left ts) d [] ts

-- a gate's pins are its inputs, then its output
abbrev pub gate_instance : Gate → Option Text → Signal → List Signal → Instance
gate_instance k word output ins = record { name = word; cell = cell_ref.Gate k (length ins); pins = ins ++ output ∷ [] }

-- the terminals of a gate behind the bracket that stands at this place, where the number of terminals is refused
unfoldable pub terminals : Gate → Option Text → ℕ → Draft → Rule Draft
terminals k word place d = do
  output ← terminal true d
  ins ← input_terminals output.0
  expect kind.CloseParen
  needed cause.Misfit place (takes_inputs k (length ins.1)) (pure (with_instance (gate_instance k word output.1 ins.1) ins.0))

-- a gate with a name
unfoldable pub named_gate : Gate → Draft → Rule Draft
named_gate k d = λ ts. (do
  word ← expect kind.Name
  more ← checked (name_instance (left ts) word d)
  λ us. (expect kind.OpenParen >> terminals k (Some word) (left us) more) us) ts

-- a gate without a name: the room for it is tested at its bracket
unfoldable pub unnamed_gate : Gate → Draft → Rule Draft
unnamed_gate k d = λ ts. (do
  expect kind.OpenParen
  more ← checked (room_for_instance (left ts) d)
  terminals k None (left ts) more) ts

-- a gate with or without a name
unfoldable pub one_gate : Gate → Draft → Rule Draft
one_gate k d = λ ts. if sees kind.Name ts then named_gate k d ts else unnamed_gate k d ts

-- the gates that are left of a list
unfoldable pub gates_from : ℕ → Gate → Draft → Rule Draft
gates_from zero k d = refuse
gates_from (suc n) k d = do
  more ← one_gate k d
  comma ← eat kind.Comma
  if comma then gates_from n k more else pure more

-- gates of one kind with commas between them
unfoldable pub gates : Gate → Draft → Rule Draft
gates k d = λ ts. gates_from (left ts) k d ts

-- the kind of gate and its gates
unfoldable pub gate_item : Gate → Draft → Rule Draft
gate_item k d = λ ts. (do
  more ← gates k d
  expect kind.Semicolon
  pure more) (next ts)

-- ---- module instantiations, of cells

-- what each pin of a cell is joined to, so far
abbrev pub Joined : Type 0
Joined = List (Option Signal)

-- no pin of the cell is joined yet
abbrev pub unjoined : Cell → Joined
unjoined cell = replicate (length cell.pins) None

-- the place of the pin with this name
abbrev pub pin_place : Cell → Text → Option ℕ
pin_place cell word = position (λ (p : Pin). bytes_eq p.name word) cell.pins

-- whether this pin drives its net
abbrev pub pin_drives : Option Pin → Bool
pin_drives None = false
pin_drives (Some pin) = is_output pin.role

-- whether a pin was named before, be it with nothing between the brackets
abbrev pub was_joined : Option (Option Signal) → Bool
was_joined (Some (Some to)) = true
was_joined _ = false

-- the pin of a name; the cell has it, and it was not connected before
abbrev pub found_pin : ℕ → Text → Joined → Option ℕ → Rule ℕ
found_pin place word joined None = λ ts. Err (fault (cause.NoPin word) place)
found_pin place word joined (Some pin) = needed (cause.JoinedTwice word) place (not (was_joined (slice_get joined pin))) (pure pin)

-- the name of a pin, which is tested at itself
unfoldable pub connected_pin : Cell → Joined → Rule ℕ
connected_pin cell joined = λ ts. (expect kind.Name >>= (λ word. found_pin (left ts) word joined (pin_place cell word))) ts

-- the draft behind a connection, and what the pins are joined to then
abbrev pub Connected : Type 0
Connected = Draft × Joined

-- the expression of a pin; its width is tested at this place
unfoldable pub pin_signal : Cell → ℕ → Draft → ℕ → Rule One
pin_signal cell place d pin = do
  o ← expression (site.Pin (pin_drives (slice_get cell.pins pin))) d
  one_bit place o.0 o.1

-- nothing between the brackets leaves the pin unconnected
unfoldable pub pin_content : Cell → ℕ → Draft → ℕ → Rule One
pin_content cell place d pin = λ ts. if sees kind.CloseParen ts then Ok ((d, signal.Unconnected), ts) else pin_signal cell place d pin ts

-- a point, a pin, and what it is joined to; the width is tested at the point
unfoldable pub named_connection : Cell → Connected → Rule Connected
named_connection cell c = λ ts. (do
  expect kind.Point
  pin ← connected_pin cell c.1
  expect kind.OpenParen
  to ← pin_content cell (left ts) c.0 pin
  expect kind.CloseParen
  pure (to.0, slice_set c.1 pin (Some to.1))) ts

-- the connections that are left of a list
unfoldable pub named_connections_from : ℕ → Cell → Connected → Rule Connected
named_connections_from zero cell c = refuse
named_connections_from (suc n) cell c = do
  more ← named_connection cell c
  comma ← eat kind.Comma
  if comma then named_connections_from n cell more else pure more

-- connections with commas between them
unfoldable pub named_connections : Cell → Connected → Rule Connected
named_connections cell c = λ ts. named_connections_from (left ts) cell c ts

-- connections, or none
unfoldable pub connections : Cell → Connected → Rule Connected
connections cell c = λ ts. if sees kind.CloseParen ts then Ok (c, ts) else named_connections cell c ts

-- a pin that was not named is not connected
abbrev pub signal_at : Option Signal → Signal
signal_at None = signal.Unconnected
signal_at (Some to) = to

-- an instance of a cell: each pin in the order of the cell
abbrev pub cell_instance : CellId → Text → Joined → Instance
cell_instance id word joined = record { name = Some word; cell = cell_ref.Library id; pins = map signal_at joined }

-- the name of an instance, which is tested at itself, and its connections
unfoldable pub instance : CellId → Cell → Draft → Rule Draft
instance id cell d = λ ts. (do
  word ← expect kind.Name
  named ← checked (name_instance (left ts) word d)
  expect kind.OpenParen
  c ← connections cell (named, unjoined cell)
  expect kind.CloseParen
  pure (with_instance (cell_instance id word c.1) c.0)) ts

-- the instances that are left of a list
unfoldable pub instances_from : ℕ → CellId → Cell → Draft → Rule Draft
instances_from zero id cell d = refuse
instances_from (suc n) id cell d = do
  more ← instance id cell d
  comma ← eat kind.Comma
  if comma then instances_from n id cell more else pure more

-- instances of one cell with commas between them
unfoldable pub instances : CellId → Cell → Draft → Rule Draft
instances id cell d = λ ts. (do
  more ← instances_from (left ts) id cell d
  expect kind.Semicolon
  pure more) ts

-- the cell of a number
abbrev pub instances_of : CellId → Option Cell → Draft → Rule Draft
instances_of id None d = refuse
instances_of id (Some cell) d = instances id cell d

-- the cell of this name, which the library must have
abbrev pub instances_named : ℕ → Option CellId → Draft → Rule Draft
instances_named place None d = λ ts. Err (fault cause.Token place)
instances_named place (Some id) d = instances_of id (slice_get d.library id.0) d

-- the name of a cell and its instances
unfoldable pub cell_item : Draft → Rule Draft
cell_item d = λ ts. (expect kind.Name >>= (λ word. instances_named (left ts) (find_cell d.library word) d)) ts

-- ---- items

-- gates of a kind, or instances of a cell
abbrev pub gate_or_cell : Option Gate → Draft → Rule Draft
gate_or_cell (Some k) d = gate_item k d
gate_or_cell None d = cell_item d

-- the item that begins with a token of this kind
abbrev pub item_of : TokenKind → Draft → Rule Draft
item_of kind.Input d = port_item dir.Input d
item_of kind.Output d = port_item dir.Output d
item_of kind.Wire d = wire_item d
item_of kind.Assign d = assign_item d
item_of k d = gate_or_cell (gate_kind k) d

-- one item
unfoldable pub item : Draft → Rule Draft
item d = λ ts. item_of (kind_of ts) d ts

-- the items before `endmodule`
unfoldable pub items_from : ℕ → Draft → Rule Draft
items_from zero d = pure d
items_from (suc n) d = λ ts. if sees kind.Endmodule ts then Ok (d, ts) else (item d >>= items_from n) ts

-- each item takes a byte at least
unfoldable pub items : Draft → Rule Draft
items d = λ ts. items_from (left ts) d ts
