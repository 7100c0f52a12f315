-- Whatever a module says, the gates that it has said are joined at every pin.
use Rattle.std.proofs.Common.{◌≡◌, ℕ, zero, suc, Bool, true, false, ◌==◌, if◌then◌else◌, List, [], ◌∷◌, ◌++◌, length, slice_get, Option, Some, None, refl}
use Rattle.std.proofs.lemmas.Bool.{and_from}
use Rattle.dft_base.specs.declared.place.Range.{Range}
use Rattle.dft_base.specs.Lexing.{Text}
use Rattle.dft_base.specs.Parser.{pure, ◌>>=◌, ◌>>◌}
use Rattle.dft_cells.specs.declared.kind.Gate.{Gate}
use Rattle.dft_cells.specs.declared.cell.CellId.{CellId}
use Rattle.dft_cells.specs.declared.cell.Cell.{Cell}
use Rattle.dft_cells.specs.Cells.{find_cell}
use Rattle.dft_cells.specs.Pins.{takes_inputs}
use Rattle.dft_base.specs.declared.dir.Dir.{Dir}
use Rattle.dft_base.specs.declared.dir.Dir.TheVariants as dir
use Rattle.dft_base.proofs.BitLemmas.{and_first}
use Rattle.dft_netlist.specs.declared.instance.Signal.{Signal}
use Rattle.dft_netlist.specs.declared.instance.Instance.{Instance}
use Rattle.dft_netlist_text.specs.declared.text.TokenKind.{TokenKind}
use Rattle.dft_netlist_text.specs.declared.text.TokenKind.TheVariants as kind
use Rattle.dft_netlist_text.specs.declared.text.Site.TheVariants as site
use Rattle.dft_netlist_text.specs.Lexemes.{Token}
use Rattle.dft_netlist_text.specs.Steps.{Rule, kind_of, left, next, sees, expect, eat, checked}
use Rattle.dft_netlist_text.specs.Modules.{Draft, empty_draft, announce, declare_new_port, declare_port, declare_wire, name_instance, room_for_instance, with_instance}
use Rattle.dft_netlist_text.specs.Expressions.{range_if_any, expression}
use Rattle.dft_netlist_text.specs.Items.{Declaring, Ports, Wires, declare, declared_name, declared_names_from, declared_names, declaration, port_item, wire_item, with_joins, right_side, net_assignment, net_assignments_from, net_assignments, assign_item, One, one_bit, gate_kind, terminal, input_terminals_from, input_terminals, gate_instance, terminals, named_gate, unnamed_gate, one_gate, gates_from, gates, gate_item, unjoined, connected_pin, Connected, pin_signal, pin_content, named_connection, named_connections_from, named_connections, connections, cell_instance, instance, instances_from, instances, instances_of, instances_named, cell_item, gate_or_cell, item_of, item, items_from, items}
use Rattle.dft_netlist_text.specs.NetlistText.{announced_name, announced_names_from, announced_names, declared_port, PortDeclaration, port_declaration, declared_ports_from, declared_ports, sees_direction, header_names, header, heading, first_undeclared, all_declared, module_end, end_of_text, module_text}
use Rattle.dft_netlist_text.proofs.ParserLemmas.{Yields, behind, passed, either, of_check, of_need, turns}
use Rattle.dft_verilog_out.specs.Written.{is_joined}
use Rattle.dft_verilog_out.specs.Named.{is_joined_gate}
use Rattle.dft_verilog_out.proofs.JoinedDrafts.{IsJoinedDraft, AreBits, IsJoinedOperand, all_behind, announce_joined, new_port_joined, port_joined, wire_joined, name_joined, room_joined, expression_joined}

-- what one rule does to drafts whose gates are joined
abbrev Keeps : List Cell → (Draft → Rule Draft) → Type 0
Keeps library rule = (d : Draft) → IsJoinedDraft library d → (ts : List Token) → Yields (IsJoinedDraft library) (rule d ts)

-- a list of one thing after another keeps what each of them keeps
listed_keeps : (library : List Cell) (one more : Draft → Rule Draft) → Keeps library one → Keeps library more → (d : Draft) → IsJoinedDraft library d → (ts : List Token)
    → Yields (IsJoinedDraft library) ((one d >>= (λ new. eat kind.Comma >>= (λ comma. if comma then more new else pure new))) ts)
listed_keeps library one more h k d j ts =
    behind (IsJoinedDraft library) (IsJoinedDraft library) (one d ts) _ (h d j ts) (λ new m us.
    passed (IsJoinedDraft library) (eat kind.Comma us) _ (λ comma vs. turns (IsJoinedDraft library) comma new (more new) m (λ ws. k new m ws) vs))

-- and so does a token behind it
closed_keeps : (library : List Cell) (k : TokenKind) (one : Draft → Rule Draft) → Keeps library one → (d : Draft) → IsJoinedDraft library d → (ts : List Token) → Yields (IsJoinedDraft library) ((one d >>= (λ new. expect k >> pure new)) ts)
closed_keeps library k one h d j ts = behind (IsJoinedDraft library) (IsJoinedDraft library) (one d ts) _ (h d j ts) (λ new m us. passed (IsJoinedDraft library) (expect k us) _ (λ w vs. m))

-- ---- the header

announced : (library : List Cell) → Keeps library announced_name
unfolding announced_name
announced library d h ts = passed (IsJoinedDraft library) (expect kind.Name ts) _ (λ word us. of_check (IsJoinedDraft library) (announce (left ts) word d) us (announce_joined library (left ts) word d h))

announced_from : (library : List Cell) (n : ℕ) → Keeps library (announced_names_from n)
unfolding announced_names_from
announced_from library zero d h ts = tt
announced_from library (suc n) d h ts = listed_keeps library announced_name (announced_names_from n) (announced library) (announced_from library n) d h ts

port_new : (library : List Cell) (dir : Dir) (range : Option Range) → Keeps library (declared_port dir range)
unfolding declared_port
port_new library dir range d h ts = passed (IsJoinedDraft library) (expect kind.Name ts) _ (λ word us. of_check (IsJoinedDraft library) (declare_new_port (left ts) word dir range d) us (new_port_joined library (left ts) word dir range d h))

ports_from : (library : List Cell) (n : ℕ) (before : PortDeclaration) → Keeps library (declared_ports_from n before)
unfolding declared_ports_from
ports_from library zero before d h ts = tt
ports_from library (suc n) before d h ts =
    passed (IsJoinedDraft library) (port_declaration before ts) _ (λ here us. listed_keeps library (declared_port here.dir here.range) (declared_ports_from n here) (port_new library here.dir here.range) (ports_from library n here) d h us)

header_names_joined : (library : List Cell) → Keeps library header_names
unfolding header_names declared_ports announced_names
header_names_joined library d h ts =
    either (IsJoinedDraft library) (sees kind.CloseParen ts) _ _ h
    (either (IsJoinedDraft library) (sees_direction ts) _ _ (ports_from library (left ts) (record { dir = dir.Input; range = None }) d h ts) (announced_from library (left ts) d h ts))

header_joined : (library : List Cell) → Keeps library header
unfolding header
header_joined library d h ts = either (IsJoinedDraft library) (sees kind.OpenParen ts) _ _ (closed_keeps library kind.CloseParen header_names (header_names_joined library) d h (next ts)) h

pub heading_joined : (library : List Cell) (ts : List Token) → Yields (IsJoinedDraft library) (heading library ts)
unfolding heading
heading_joined library ts =
    passed (IsJoinedDraft library) (expect kind.Module ts) _ (λ w us.
    passed (IsJoinedDraft library) (expect kind.Name us) _ (λ word vs. closed_keeps library kind.Semicolon header (header_joined library) (empty_draft word library) (refl, refl) vs))

-- ---- declarations

declare_joined : (library : List Cell) (what : Declaring) (place : ℕ) (word : Text) (range : Option Range) → Keeps library (declare what place word range)
declare_joined library (Ports dir) place word range d h ts = of_check (IsJoinedDraft library) (declare_port place word dir range d) ts (port_joined library place word dir range d h)
declare_joined library Wires place word range d h ts = of_check (IsJoinedDraft library) (declare_wire place word range d) ts (wire_joined library place word range d h)

declared : (library : List Cell) (what : Declaring) (range : Option Range) → Keeps library (declared_name what range)
unfolding declared_name
declared library what range d h ts = passed (IsJoinedDraft library) (expect kind.Name ts) _ (λ word us. declare_joined library what (left ts) word range d h us)

declared_from : (library : List Cell) (n : ℕ) (what : Declaring) (range : Option Range) → Keeps library (declared_names_from n what range)
unfolding declared_names_from
declared_from library zero what range d h ts = tt
declared_from library (suc n) what range d h ts = listed_keeps library (declared_name what range) (declared_names_from n what range) (declared library what range) (declared_from library n what range) d h ts

declared_all : (library : List Cell) (what : Declaring) (range : Option Range) → Keeps library (declared_names what range)
unfolding declared_names
declared_all library what range d h ts = declared_from library (left ts) what range d h ts

declaration_joined : (library : List Cell) (what : Declaring) → Keeps library (declaration what)
unfolding declaration
declaration_joined library what d h ts = passed (IsJoinedDraft library) (range_if_any ts) _ (λ range us. closed_keeps library kind.Semicolon (declared_names what range) (declared_all library what range) d h us)

port_item_joined : (library : List Cell) (dir : Dir) → Keeps library (port_item dir)
unfolding port_item
port_item_joined library dir d h ts = passed (IsJoinedDraft library) (eat kind.Wire (next ts)) _ (λ wire us. declaration_joined library (Ports dir) d h us)

wire_item_joined : (library : List Cell) → Keeps library wire_item
unfolding wire_item
wire_item_joined library d h ts = declaration_joined library Wires d h (next ts)

-- ---- assignments

joins_joined : (library : List Cell) (targets sources : List Signal) (d : Draft) → IsJoinedDraft library d → IsJoinedDraft library (with_joins targets sources d)
joins_joined library [] sources d h = h
joins_joined library (target ∷ targets) [] d h = h
joins_joined library (target ∷ targets) (source ∷ sources) d h = joins_joined library targets sources _ h

right_joined : (library : List Cell) (targets : List Signal) → Keeps library (right_side targets)
unfolding right_side
right_joined library targets d h ts =
    behind (IsJoinedOperand library) (IsJoinedDraft library) (expression site.Source d ts) _ (expression_joined library site.Source d h ts) (λ o m us.
    of_need (IsJoinedDraft library) _ (left ts) (length targets == length o.1) _ us (joins_joined library targets o.1 o.0 m.0))

assignment_joined : (library : List Cell) → Keeps library net_assignment
unfolding net_assignment
assignment_joined library d h ts =
    behind (IsJoinedOperand library) (IsJoinedDraft library) (expression site.Target d ts) _ (expression_joined library site.Target d h ts) (λ o m us.
    passed (IsJoinedDraft library) (expect kind.Equals us) _ (λ w vs. right_joined library o.1 o.0 m.0 vs))

assignments_of : (library : List Cell) (n : ℕ) → Keeps library (net_assignments_from n)
unfolding net_assignments_from
assignments_of library zero d h ts = tt
assignments_of library (suc n) d h ts = listed_keeps library net_assignment (net_assignments_from n) (assignment_joined library) (assignments_of library n) d h ts

assignments_all : (library : List Cell) → Keeps library net_assignments
unfolding net_assignments
assignments_all library d h ts = assignments_of library (left ts) d h ts

assign_item_joined : (library : List Cell) → Keeps library assign_item
unfolding assign_item
assign_item_joined library d h ts = closed_keeps library kind.Semicolon net_assignments (assignments_all library) d h (next ts)

-- ---- gates

-- behind a terminal the gates are joined, and its bit is a net or a constant
abbrev IsJoinedBit : List Cell → One → Type 0
IsJoinedBit library o = IsJoinedDraft library o.0 × (is_joined o.1 ≡ true)

one_joined : (library : List Cell) (place : ℕ) (d : Draft) (bits : List Signal) → IsJoinedDraft library d → AreBits bits → (ts : List Token) → Yields (IsJoinedBit library) (one_bit place d bits ts)
one_joined library place d (bit ∷ []) h k ts = (h, and_first (is_joined bit) true k)
one_joined library place d [] h k ts = tt
one_joined library place d (bit ∷ next ∷ bits) h k ts = tt

terminal_joined : (library : List Cell) (drives : Bool) (d : Draft) → IsJoinedDraft library d → (ts : List Token) → Yields (IsJoinedBit library) (terminal drives d ts)
unfolding terminal
terminal_joined library drives d h ts =
    behind (IsJoinedOperand library) (IsJoinedBit library) (expression (site.Terminal drives) d ts) _ (expression_joined library (site.Terminal drives) d h ts) (λ o m us. one_joined library (left ts) o.0 o.1 m.0 m.1 us)

inputs_of : (library : List Cell) (n : ℕ) (d : Draft) (ins : List Signal) → IsJoinedOperand library (d, ins) → (ts : List Token) → Yields (IsJoinedOperand library) (input_terminals_from n d ins ts)
unfolding input_terminals_from
inputs_of library zero d ins h ts = tt
inputs_of library (suc n) d ins h ts =
    passed (IsJoinedOperand library) (eat kind.Comma ts) _ (λ comma us.
    turns (IsJoinedOperand library) comma (d, ins) _ h (λ vs.
    behind (IsJoinedBit library) (IsJoinedOperand library) (terminal false d vs) _ (terminal_joined library false d h.0 vs) (λ o m ws.
    inputs_of library n o.0 (ins ++ o.1 ∷ []) (m.0, all_behind is_joined ins (o.1 ∷ []) h.1 (and_from (is_joined o.1) true m.1 refl)) ws)) us)

inputs_all : (library : List Cell) (d : Draft) → IsJoinedDraft library d → (ts : List Token) → Yields (IsJoinedOperand library) (input_terminals d ts)
unfolding input_terminals
inputs_all library d h ts = inputs_of library (left ts) d [] (h, refl) ts

gate_is_joined : (k : Gate) (word : Option Text) (output : Signal) (ins : List Signal) → is_joined output ≡ true → AreBits ins → is_joined_gate (gate_instance k word output ins) ≡ true
gate_is_joined k word output ins h j = all_behind is_joined ins (output ∷ []) j (and_from (is_joined output) true h refl)

instance_joined : (library : List Cell) (i : Instance) (d : Draft) → is_joined_gate i ≡ true → IsJoinedDraft library d → IsJoinedDraft library (with_instance i d)
instance_joined library i d h j = (all_behind is_joined_gate d.instances (i ∷ []) j.0 (and_from (is_joined_gate i) true h refl), j.1)

terminals_joined : (library : List Cell) (k : Gate) (word : Option Text) (place : ℕ) → Keeps library (terminals k word place)
unfolding terminals
terminals_joined library k word place d h ts =
    behind (IsJoinedBit library) (IsJoinedDraft library) (terminal true d ts) _ (terminal_joined library true d h ts) (λ output m us.
    behind (IsJoinedOperand library) (IsJoinedDraft library) (input_terminals output.0 us) _ (inputs_all library output.0 m.0 us) (λ ins n vs.
    passed (IsJoinedDraft library) (expect kind.CloseParen vs) _ (λ w ws.
    of_need (IsJoinedDraft library) _ place (takes_inputs k (length ins.1)) _ ws (instance_joined library (gate_instance k word output.1 ins.1) ins.0 (gate_is_joined k word output.1 ins.1 m.1 n.1) n.0))))

named_gate_joined : (library : List Cell) (k : Gate) → Keeps library (named_gate k)
unfolding named_gate
named_gate_joined library k d h ts =
    passed (IsJoinedDraft library) (expect kind.Name ts) _ (λ word us.
    behind (IsJoinedDraft library) (IsJoinedDraft library) (checked (name_instance (left ts) word d) us) _ (of_check (IsJoinedDraft library) (name_instance (left ts) word d) us (name_joined library (left ts) word d h)) (λ more m vs.
    passed (IsJoinedDraft library) (expect kind.OpenParen vs) _ (λ w ws. terminals_joined library k (Some word) (left vs) more m ws)))

unnamed_gate_joined : (library : List Cell) (k : Gate) → Keeps library (unnamed_gate k)
unfolding unnamed_gate
unnamed_gate_joined library k d h ts =
    passed (IsJoinedDraft library) (expect kind.OpenParen ts) _ (λ w us.
    behind (IsJoinedDraft library) (IsJoinedDraft library) (checked (room_for_instance (left ts) d) us) _ (of_check (IsJoinedDraft library) (room_for_instance (left ts) d) us (room_joined library (left ts) d h)) (λ more m vs. terminals_joined library k None (left ts) more m vs))

one_gate_joined : (library : List Cell) (k : Gate) → Keeps library (one_gate k)
unfolding one_gate
one_gate_joined library k d h ts = either (IsJoinedDraft library) (sees kind.Name ts) _ _ (named_gate_joined library k d h ts) (unnamed_gate_joined library k d h ts)

gates_of : (library : List Cell) (n : ℕ) (k : Gate) → Keeps library (gates_from n k)
unfolding gates_from
gates_of library zero k d h ts = tt
gates_of library (suc n) k d h ts = listed_keeps library (one_gate k) (gates_from n k) (one_gate_joined library k) (gates_of library n k) d h ts

gates_all : (library : List Cell) (k : Gate) → Keeps library (gates k)
unfolding gates
gates_all library k d h ts = gates_of library (left ts) k d h ts

gate_item_joined : (library : List Cell) (k : Gate) → Keeps library (gate_item k)
unfolding gate_item
gate_item_joined library k d h ts = closed_keeps library kind.Semicolon (gates k) (gates_all library k) d h (next ts)

-- ---- cells

-- the gates of a draft are joined; of the other part nothing is said
abbrev IsJoinedFirst : {B : Type 0} → List Cell → Draft × B → Type 0
IsJoinedFirst library p = IsJoinedDraft library p.0

first_joined : (library : List Cell) (place : ℕ) (d : Draft) (bits : List Signal) → IsJoinedDraft library d → (ts : List Token) → Yields (IsJoinedFirst library) (one_bit place d bits ts)
first_joined library place d (bit ∷ []) h ts = h
first_joined library place d [] h ts = tt
first_joined library place d (bit ∷ next ∷ bits) h ts = tt

pin_signal_joined : (library : List Cell) (cell : Cell) (place : ℕ) (d : Draft) (pin : ℕ) → IsJoinedDraft library d → (ts : List Token) → Yields (IsJoinedFirst library) (pin_signal cell place d pin ts)
unfolding pin_signal
pin_signal_joined library cell place d pin h ts =
    behind (IsJoinedOperand library) (IsJoinedFirst library) (expression _ d ts) _ (expression_joined library _ d h ts) (λ o m us. first_joined library place o.0 o.1 m.0 us)

pin_content_joined : (library : List Cell) (cell : Cell) (place : ℕ) (d : Draft) (pin : ℕ) → IsJoinedDraft library d → (ts : List Token) → Yields (IsJoinedFirst library) (pin_content cell place d pin ts)
unfolding pin_content
pin_content_joined library cell place d pin h ts = either (IsJoinedFirst library) (sees kind.CloseParen ts) _ _ h (pin_signal_joined library cell place d pin h ts)

connection_joined : (library : List Cell) (cell : Cell) (c : Connected) → IsJoinedDraft library c.0 → (ts : List Token) → Yields (IsJoinedFirst library) (named_connection cell c ts)
unfolding named_connection
connection_joined library cell c h ts =
    passed (IsJoinedFirst library) (expect kind.Point ts) _ (λ w us.
    passed (IsJoinedFirst library) (connected_pin cell c.1 us) _ (λ pin vs.
    passed (IsJoinedFirst library) (expect kind.OpenParen vs) _ (λ w ws.
    behind (IsJoinedFirst library) (IsJoinedFirst library) (pin_content cell (left ts) c.0 pin ws) _ (pin_content_joined library cell (left ts) c.0 pin h ws) (λ to m xs.
    passed (IsJoinedFirst library) (expect kind.CloseParen xs) _ (λ w ys. m)))))

connections_of : (library : List Cell) (n : ℕ) (cell : Cell) (c : Connected) → IsJoinedDraft library c.0 → (ts : List Token) → Yields (IsJoinedFirst library) (named_connections_from n cell c ts)
unfolding named_connections_from
connections_of library zero cell c h ts = tt
connections_of library (suc n) cell c h ts =
    behind (IsJoinedFirst library) (IsJoinedFirst library) (named_connection cell c ts) _ (connection_joined library cell c h ts) (λ more m us.
    passed (IsJoinedFirst library) (eat kind.Comma us) _ (λ comma vs. turns (IsJoinedFirst library) comma more (named_connections_from n cell more) m (λ ws. connections_of library n cell more m ws) vs))

connections_joined : (library : List Cell) (cell : Cell) (c : Connected) → IsJoinedDraft library c.0 → (ts : List Token) → Yields (IsJoinedFirst library) (connections cell c ts)
unfolding connections named_connections
connections_joined library cell c h ts = either (IsJoinedFirst library) (sees kind.CloseParen ts) _ _ h (connections_of library (left ts) cell c h ts)

cell_joined : (library : List Cell) (id : CellId) (cell : Cell) → Keeps library (instance id cell)
unfolding instance
cell_joined library id cell d h ts =
    passed (IsJoinedDraft library) (expect kind.Name ts) _ (λ word us.
    behind (IsJoinedDraft library) (IsJoinedDraft library) (checked (name_instance (left ts) word d) us) _ (of_check (IsJoinedDraft library) (name_instance (left ts) word d) us (name_joined library (left ts) word d h)) (λ named m vs.
    passed (IsJoinedDraft library) (expect kind.OpenParen vs) _ (λ w ws.
    behind (IsJoinedFirst library) (IsJoinedDraft library) (connections cell (named, unjoined cell) ws) _ (connections_joined library cell (named, unjoined cell) m ws) (λ c n xs.
    passed (IsJoinedDraft library) (expect kind.CloseParen xs) _ (λ w ys. instance_joined library (cell_instance id word c.1) c.0 refl n)))))

cells_of : (library : List Cell) (n : ℕ) (id : CellId) (cell : Cell) → Keeps library (instances_from n id cell)
unfolding instances_from
cells_of library zero id cell d h ts = tt
cells_of library (suc n) id cell d h ts = listed_keeps library (instance id cell) (instances_from n id cell) (cell_joined library id cell) (cells_of library n id cell) d h ts

cells_all : (library : List Cell) (id : CellId) (cell : Cell) → Keeps library (instances id cell)
unfolding instances
cells_all library id cell d h ts = closed_keeps library kind.Semicolon (instances_from (left ts) id cell) (cells_of library (left ts) id cell) d h ts

cells_by : (library : List Cell) (id : CellId) (cell : Option Cell) → Keeps library (instances_of id cell)
cells_by library id None d h ts = tt
cells_by library id (Some cell) d h ts = cells_all library id cell d h ts

cells_named : (library : List Cell) (place : ℕ) (id : Option CellId) → Keeps library (instances_named place id)
cells_named library place None d h ts = tt
cells_named library place (Some id) d h ts = cells_by library id (slice_get d.library id.0) d h ts

cell_item_joined : (library : List Cell) → Keeps library cell_item
unfolding cell_item
cell_item_joined library d h ts = passed (IsJoinedDraft library) (expect kind.Name ts) _ (λ word us. cells_named library (left ts) (find_cell d.library word) d h us)

-- ---- items

gate_or_cell_joined : (library : List Cell) (k : Option Gate) → Keeps library (gate_or_cell k)
gate_or_cell_joined library (Some k) d h ts = gate_item_joined library k d h ts
gate_or_cell_joined library None d h ts = cell_item_joined library d h ts

pub item_of_joined : (library : List Cell) (k : TokenKind) → Keeps library (item_of k)
item_of_joined library kind.Name d h ts = gate_or_cell_joined library (gate_kind kind.Name) d h ts
item_of_joined library kind.Module d h ts = gate_or_cell_joined library (gate_kind kind.Module) d h ts
item_of_joined library kind.Endmodule d h ts = gate_or_cell_joined library (gate_kind kind.Endmodule) d h ts
item_of_joined library kind.Input d h ts = port_item_joined library dir.Input d h ts
item_of_joined library kind.Output d h ts = port_item_joined library dir.Output d h ts
item_of_joined library kind.Inout d h ts = gate_or_cell_joined library (gate_kind kind.Inout) d h ts
item_of_joined library kind.Wire d h ts = wire_item_joined library d h ts
item_of_joined library kind.Assign d h ts = assign_item_joined library d h ts
item_of_joined library kind.And d h ts = gate_or_cell_joined library (gate_kind kind.And) d h ts
item_of_joined library kind.Nand d h ts = gate_or_cell_joined library (gate_kind kind.Nand) d h ts
item_of_joined library kind.Or d h ts = gate_or_cell_joined library (gate_kind kind.Or) d h ts
item_of_joined library kind.Nor d h ts = gate_or_cell_joined library (gate_kind kind.Nor) d h ts
item_of_joined library kind.Xor d h ts = gate_or_cell_joined library (gate_kind kind.Xor) d h ts
item_of_joined library kind.Xnor d h ts = gate_or_cell_joined library (gate_kind kind.Xnor) d h ts
item_of_joined library kind.Buf d h ts = gate_or_cell_joined library (gate_kind kind.Buf) d h ts
item_of_joined library kind.Not d h ts = gate_or_cell_joined library (gate_kind kind.Not) d h ts
item_of_joined library kind.Reserved d h ts = gate_or_cell_joined library (gate_kind kind.Reserved) d h ts
item_of_joined library kind.Number d h ts = gate_or_cell_joined library (gate_kind kind.Number) d h ts
item_of_joined library kind.Base d h ts = gate_or_cell_joined library (gate_kind kind.Base) d h ts
item_of_joined library kind.Digits d h ts = gate_or_cell_joined library (gate_kind kind.Digits) d h ts
item_of_joined library kind.OpenParen d h ts = gate_or_cell_joined library (gate_kind kind.OpenParen) d h ts
item_of_joined library kind.CloseParen d h ts = gate_or_cell_joined library (gate_kind kind.CloseParen) d h ts
item_of_joined library kind.Comma d h ts = gate_or_cell_joined library (gate_kind kind.Comma) d h ts
item_of_joined library kind.Semicolon d h ts = gate_or_cell_joined library (gate_kind kind.Semicolon) d h ts
item_of_joined library kind.Point d h ts = gate_or_cell_joined library (gate_kind kind.Point) d h ts
item_of_joined library kind.Equals d h ts = gate_or_cell_joined library (gate_kind kind.Equals) d h ts
item_of_joined library kind.OpenBracket d h ts = gate_or_cell_joined library (gate_kind kind.OpenBracket) d h ts
item_of_joined library kind.CloseBracket d h ts = gate_or_cell_joined library (gate_kind kind.CloseBracket) d h ts
item_of_joined library kind.Colon d h ts = gate_or_cell_joined library (gate_kind kind.Colon) d h ts
item_of_joined library kind.OpenBrace d h ts = gate_or_cell_joined library (gate_kind kind.OpenBrace) d h ts
item_of_joined library kind.CloseBrace d h ts = gate_or_cell_joined library (gate_kind kind.CloseBrace) d h ts
item_of_joined library kind.Directive d h ts = gate_or_cell_joined library (gate_kind kind.Directive) d h ts
item_of_joined library kind.Other d h ts = gate_or_cell_joined library (gate_kind kind.Other) d h ts
item_of_joined library kind.Illegal d h ts = gate_or_cell_joined library (gate_kind kind.Illegal) d h ts
item_of_joined library kind.Unclosed d h ts = gate_or_cell_joined library (gate_kind kind.Unclosed) d h ts
item_of_joined library kind.End d h ts = gate_or_cell_joined library (gate_kind kind.End) d h ts

items_of : (library : List Cell) (n : ℕ) → Keeps library (items_from n)
unfolding items_from item
items_of library zero d h ts = h
items_of library (suc n) d h ts =
    either (IsJoinedDraft library) (sees kind.Endmodule ts) _ _ h (behind (IsJoinedDraft library) (IsJoinedDraft library) (item d ts) _ (item_of_joined library (kind_of ts) d h ts) (λ more m us. items_of library n more m us))

items_joined : (library : List Cell) → Keeps library items
unfolding items
items_joined library d h ts = items_of library (left ts) d h ts

-- ---- the whole text

declared_end : (library : List Cell) (place : ℕ) (d : Draft) (o : Option Text) → IsJoinedDraft library d → (ts : List Token) → Yields (IsJoinedDraft library) (all_declared place d o ts)
declared_end library place d None h ts = h
declared_end library place d (Some word) h ts = tt

pub module_end_joined : (library : List Cell) → Keeps library module_end
unfolding module_end
module_end_joined library d h ts = passed (IsJoinedDraft library) (expect kind.Endmodule ts) _ (λ w us. declared_end library (left ts) d (first_undeclared d.ports) h us)

end_joined : (library : List Cell) → Keeps library end_of_text
unfolding end_of_text
end_joined library d h ts = either (IsJoinedDraft library) (sees kind.End ts) _ _ h tt

pub module_joined : (library : List Cell) (ts : List Token) → Yields (IsJoinedDraft library) (module_text library ts)
unfolding module_text
module_joined library ts =
    behind (IsJoinedDraft library) (IsJoinedDraft library) (heading library ts) _ (heading_joined library ts) (λ start h us.
    behind (IsJoinedDraft library) (IsJoinedDraft library) (items start us) _ (items_joined library start h us) (λ more m vs.
    behind (IsJoinedDraft library) (IsJoinedDraft library) (module_end more vs) _ (module_end_joined library more m vs) (λ whole n ws. end_joined library whole n ws)))
