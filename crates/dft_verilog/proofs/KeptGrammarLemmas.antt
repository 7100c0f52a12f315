-- What the rules of the grammar keep of a draft, and which faults they find.
use Rattle.std.proofs.Common.{◌≡◌, ℕ, zero, suc, ◌<◌, Bool, true, false, not, ◌&&◌, ◌==◌, cond, IsTrue, List, [], ◌∷◌, ◌++◌, length, slice_get, Option, Some, None, IfSome, Ok, Err, refl, sym, ap, ◌∙◌, arith, rules}
use Rattle.std.proofs.lemmas.List.Elements.{All-append}
use Rattle.dft_base.specs.declared.place.Range.{Range}
use Rattle.dft_base.specs.declared.dir.Dir.{Dir}
use Rattle.dft_base.specs.declared.dir.Dir.TheVariants as dir
use Rattle.dft_base.specs.Lexing.{Text}
use Rattle.dft_base.specs.Parser.{Checked}
use Rattle.dft_base.proofs.BitLemmas.{not_true}
use Rattle.dft_cells.specs.declared.kind.Gate.{Gate}
use Rattle.dft_cells.specs.declared.cell.CellId.{CellId}
use Rattle.dft_cells.specs.declared.cell.Cell.{Cell}
use Rattle.dft_cells.specs.Cells.{find_cell}
use Rattle.dft_cells.specs.Pins.{takes_inputs}
use Rattle.dft_netlist.specs.declared.instance.Signal.{Signal}
use Rattle.dft_netlist.specs.declared.instance.Signal.TheVariants as signal
use Rattle.dft_netlist.specs.Sound.{is_primitive}
use Rattle.dft_netlist_text.specs.declared.text.TokenKind.{TokenKind}
use Rattle.dft_netlist_text.specs.declared.text.TokenKind.TheVariants as kind
use Rattle.dft_netlist_text.specs.declared.text.Cause.{Cause}
use Rattle.dft_netlist_text.specs.declared.text.Cause.TheVariants as cause
use Rattle.dft_netlist_text.specs.declared.text.Fault.{Fault}
use Rattle.dft_netlist_text.specs.declared.text.Meaning.{Meaning}
use Rattle.dft_netlist_text.specs.declared.text.Meaning.TheVariants as meaning
use Rattle.dft_netlist_text.specs.declared.text.Declared.{Declared}
use Rattle.dft_netlist_text.specs.declared.text.Site.{Site}
use Rattle.dft_netlist_text.specs.declared.text.Site.TheVariants as site
use Rattle.dft_netlist_text.specs.Lexemes.{Token}
use Rattle.dft_netlist_text.specs.Steps.{Outcome, Rule, kind_of, left, next, sees, expect, eat, needed, checked}
use Rattle.dft_netlist_text.specs.Modules.{Draft, announce, declare_nets, declare_new_port, declare_port, declare_wire, declared_at, meaning_of, name_instance, room_for_instance}
use Rattle.dft_netlist_text.specs.Expressions.{range, range_if_any, constant, SelectedName, Operand, fitting, implied_net, bits_of_port, bits_of_meaning, bits_of_name, implies, is_whole, selected, named_operand, constant_operand, selection, followed, drives, operand, OpenConcatenations, unread, is_read, opening, closing, turn, concatenations_from, expression}
use Rattle.dft_netlist_text.specs.Items.{Declaring, Ports, Wires, declare, declared_name, declared_names_from, declared_names, declaration, port_item, wire_item, driven_net, with_joins, right_side, net_assignment, net_assignments_from, net_assignments, assign_item, One, one_bit, gate_kind, terminal, input_terminals_from, input_terminals, gate_instance, terminals, named_gate, unnamed_gate, one_gate, gates_from, gates, gate_item, unjoined, pin_drives, connected_pin, Connected, pin_signal, pin_content, named_connection, named_connections_from, named_connections, connections, cell_instance, instance, instances_from, instances, instances_of, instances_named, cell_item, gate_or_cell, item_of, item}
use Rattle.dft_netlist_text.specs.NetlistText.{announced_name, announced_names_from, announced_names, declared_port, PortDeclaration, port_declaration, declared_ports_from, declared_ports, sees_direction, header_names, header, first_undeclared, all_declared, module_end}
use Rattle.dft_netlist_text.proofs.ParserLemmas.{Yields, Gives, behind, passed, either, of_check, of_need, turns}
use Rattle.dft_verilog_draft.specs.Operands.{IsBit, AreBits}
use Rattle.dft_verilog_draft.proofs.DraftLemmas.{meaning-within}
use Rattle.dft_verilog_draft.proofs.NamingLemmas.{named_kept}
use Rattle.dft_verilog_draft.proofs.OperandLemmas.{and_constants, no_bits, bit_more, bits_more, join_fits, bits_and}
use Rattle.dft_verilog_module.specs.JoinedPins.{FitsCell, IsPinSignal}
use Rattle.dft_verilog_module.proofs.GateLemmas.{gate_fits}
use Rattle.dft_verilog_module.proofs.ConnectionLemmas.{pin_bit, pin_free, fits_unjoined, fits_more, fits_with, instance_fits}
use Rattle.dft_verilog.proofs.KeepLemmas.{Keeps, within_at, raise, lower, nets_keep, announce_keep, new_port_keep, port_keep, wire_keep, name_keep, room_keep, instance_keep, join_keep}

-- ---- outcomes

-- where the rest is reached, its test is passed
pub where_needed : {A : Type 0} (P : A → Type 0) (why : Cause) (place : ℕ) (b : Bool) (rule : Rule A) (ts : List Token) → (b ≡ true → Yields P (rule ts)) → Yields P (needed why place b rule ts)
where_needed P why place true rule ts h = h refl
where_needed P why place false rule ts h = tt

-- ---- the header

announced_keep : (start : Draft) (d : Draft) → Keeps start 0 d → (ts : List Token) → Yields (Keeps start 0) (announced_name d ts)
unfolding announced_name
announced_keep start d h ts = passed (Keeps start 0) (expect kind.Name ts) _ (λ word us. of_check (Keeps start 0) (announce (left ts) word d) us (announce_keep start 0 (left ts) word d h))

announced_from : (n : ℕ) (start d : Draft) → Keeps start 0 d → (ts : List Token) → Yields (Keeps start 0) (announced_names_from n d ts)
unfolding announced_names_from
announced_from zero start d h ts = tt
announced_from (suc n) start d h ts =
    behind (Keeps start 0) (Keeps start 0) (announced_name d ts) _ (announced_keep start d h ts) (λ more m us.
    passed (Keeps start 0) (eat kind.Comma us) _ (λ comma vs. turns (Keeps start 0) comma more (announced_names_from n more) m (λ ws. announced_from n start more m ws) vs))

announced_all : (start d : Draft) → Keeps start 0 d → (ts : List Token) → Yields (Keeps start 0) (announced_names d ts)
unfolding announced_names
announced_all start d h ts = announced_from (left ts) start d h ts

port_new : (start : Draft) (dir : Dir) (range : Option Range) (d : Draft) → Keeps start 0 d → (ts : List Token) → Yields (Keeps start 0) (declared_port dir range d ts)
unfolding declared_port
port_new start dir range d h ts = passed (Keeps start 0) (expect kind.Name ts) _ (λ word us. of_check (Keeps start 0) (declare_new_port (left ts) word dir range d) us (new_port_keep start 0 (left ts) word dir range d h))

ports_from : (n : ℕ) (start : Draft) (before : PortDeclaration) (d : Draft) → Keeps start 0 d → (ts : List Token) → Yields (Keeps start 0) (declared_ports_from n before d ts)
unfolding declared_ports_from
ports_from zero start before d h ts = tt
ports_from (suc n) start before d h ts =
    passed (Keeps start 0) (port_declaration before ts) _ (λ here us.
    behind (Keeps start 0) (Keeps start 0) (declared_port here.dir here.range d us) _ (port_new start here.dir here.range d h us) (λ more m vs.
    passed (Keeps start 0) (eat kind.Comma vs) _ (λ comma ws. turns (Keeps start 0) comma more (declared_ports_from n here more) m (λ xs. ports_from n start here more m xs) ws)))

ports_all : (start d : Draft) → Keeps start 0 d → (ts : List Token) → Yields (Keeps start 0) (declared_ports d ts)
unfolding declared_ports
ports_all start d h ts = ports_from (left ts) start (record { dir = dir.Input; range = None }) d h ts

header_names_keep : (start d : Draft) → Keeps start 0 d → (ts : List Token) → Yields (Keeps start 0) (header_names d ts)
unfolding header_names
header_names_keep start d h ts = either (Keeps start 0) (sees kind.CloseParen ts) _ _ h (either (Keeps start 0) (sees_direction ts) _ _ (ports_all start d h ts) (announced_all start d h ts))

pub header_keep : (start d : Draft) → Keeps start 0 d → (ts : List Token) → Yields (Keeps start 0) (header d ts)
unfolding header
header_keep start d h ts =
    either (Keeps start 0) (sees kind.OpenParen ts) _ _
    (behind (Keeps start 0) (Keeps start 0) (header_names d (next ts)) _ (header_names_keep start d h (next ts)) (λ more m us. passed (Keeps start 0) (expect kind.CloseParen us) _ (λ w vs. m))) h

-- ---- declarations

declare_keep : (start : Draft) (floor : ℕ) (what : Declaring) (place : ℕ) (word : Text) (range : Option Range) (d : Draft) → Keeps start floor d → (ts : List Token) → Yields (Keeps start floor) (declare what place word range d ts)
declare_keep start floor (Ports dir) place word range d h ts = of_check (Keeps start floor) (declare_port place word dir range d) ts (port_keep start floor place word dir range d h)
declare_keep start floor Wires place word range d h ts = of_check (Keeps start floor) (declare_wire place word range d) ts (wire_keep start floor place word range d h)

declared_keep : (start : Draft) (floor : ℕ) (what : Declaring) (range : Option Range) (d : Draft) → Keeps start floor d → (ts : List Token) → Yields (Keeps start floor) (declared_name what range d ts)
unfolding declared_name
declared_keep start floor what range d h ts = passed (Keeps start floor) (expect kind.Name ts) _ (λ word us. declare_keep start floor what (left ts) word range d h us)

declared_from : (n : ℕ) (start : Draft) (floor : ℕ) (what : Declaring) (range : Option Range) (d : Draft) → Keeps start floor d → (ts : List Token) → Yields (Keeps start floor) (declared_names_from n what range d ts)
unfolding declared_names_from
declared_from zero start floor what r d h ts = tt
declared_from (suc n) start floor what r d h ts =
    behind (Keeps start floor) (Keeps start floor) (declared_name what r d ts) _ (declared_keep start floor what r d h ts) (λ more m us.
    passed (Keeps start floor) (eat kind.Comma us) _ (λ comma vs. turns (Keeps start floor) comma more (declared_names_from n what r more) m (λ ws. declared_from n start floor what r more m ws) vs))

declared_all : (start : Draft) (floor : ℕ) (what : Declaring) (range : Option Range) (d : Draft) → Keeps start floor d → (ts : List Token) → Yields (Keeps start floor) (declared_names what range d ts)
unfolding declared_names
declared_all start floor what range d h ts = declared_from (left ts) start floor what range d h ts

declaration_keep : (start : Draft) (floor : ℕ) (what : Declaring) (d : Draft) → Keeps start floor d → (ts : List Token) → Yields (Keeps start floor) (declaration what d ts)
unfolding declaration
declaration_keep start floor what d h ts =
    passed (Keeps start floor) (range_if_any ts) _ (λ range us.
    behind (Keeps start floor) (Keeps start floor) (declared_names what range d us) _ (declared_all start floor what range d h us) (λ more m vs.
    passed (Keeps start floor) (expect kind.Semicolon vs) _ (λ w ws. m)))

port_item_keep : (start : Draft) (floor : ℕ) (dir : Dir) (d : Draft) → Keeps start floor d → (ts : List Token) → Yields (Keeps start floor) (port_item dir d ts)
unfolding port_item
port_item_keep start floor dir d h ts = passed (Keeps start floor) (eat kind.Wire (next ts)) _ (λ wire us. declaration_keep start floor (Ports dir) d h us)

wire_item_keep : (start : Draft) (floor : ℕ) (d : Draft) → Keeps start floor d → (ts : List Token) → Yields (Keeps start floor) (wire_item d ts)
unfolding wire_item
wire_item_keep start floor d h ts = declaration_keep start floor Wires d h (next ts)

-- ---- expressions

-- the draft keeps all, and these are bits of its nets
abbrev pub Bits : Draft → (floor : ℕ) → (drives : Bool) → Operand → Type 0
Bits start floor drives o = Keeps start floor o.0 × AreBits (length o.0.nets) drives o.1

-- the draft of a pair keeps all
abbrev First : {B : Type 0} → Draft → (floor : ℕ) → Draft × B → Type 0
First start floor p = Keeps start floor p.0

fitting_keep : (start : Draft) (floor place : ℕ) (d : Draft) (bits : Option (List Signal)) → Keeps start floor d → Gives (First start floor) (fitting place d bits)
fitting_keep start floor place d None h = tt
fitting_keep start floor place d (Some bits) h = h

implied_keep : (start : Draft) (floor : ℕ) (named : SelectedName) (old : Draft) (new : Checked Fault Draft) → Gives (Keeps start floor) new → Gives (First start floor) (implied_net named old new)
implied_keep start floor named old (Err f) h = h
implied_keep start floor named old (Ok new) h = h

bits_of_port_keep : (start : Draft) (floor : ℕ) (named : SelectedName) (d : Draft) (declared : Option Declared) → Keeps start floor d → Gives (First start floor) (bits_of_port named d declared)
bits_of_port_keep start floor named d None h = tt
bits_of_port_keep start floor named d (Some declared) h = fitting_keep start floor named.place d (selected declared.shape named.what) h

meaning_keep : (start : Draft) (floor : ℕ) (implied : Bool) (named : SelectedName) (d : Draft) (m : Option Meaning) → Keeps start floor d → Gives (First start floor) (bits_of_meaning implied named d m)
meaning_keep start floor implied named d (Some (meaning.Nets shape)) h = fitting_keep start floor named.place d (selected shape named.what) h
meaning_keep start floor implied named d (Some (meaning.Port port)) h = bits_of_port_keep start floor named d (declared_at d port) h
meaning_keep start floor implied named d (Some meaning.Bit) h = tt
meaning_keep start floor true named d (Some meaning.Instance) h = tt
meaning_keep start floor false named d (Some meaning.Instance) h = tt
meaning_keep start floor true named d None h = implied_keep start floor named d (declare_nets named.place named.word None d) (nets_keep start floor named.place named.word None d h)
meaning_keep start floor false named d None h = tt

with_bits : (start : Draft) (floor : ℕ) (drives : Bool) (c : Checked Fault Operand) → Gives (First start floor) c → ((o : Operand) → c ≡ Ok o → AreBits (length o.0.nets) drives o.1) → Gives (Bits start floor drives) c
with_bits start floor drives (Ok o) h bits = (h, bits o refl)
with_bits start floor drives (Err f) h bits = h

named_keep : (start : Draft) (floor : ℕ) (at : Site) (depth : ℕ) (d : Draft) → Keeps start floor d → (ts : List Token) → Yields (Bits start floor (drives at)) (named_operand at depth d ts)
unfolding named_operand
named_keep start floor at depth d h ts =
    passed (Bits start floor (drives at)) (expect kind.Name ts) _ (λ word us.
    passed (Bits start floor (drives at)) (selection us) _ (λ what vs.
    passed (Bits start floor (drives at)) (followed at depth vs) _ (λ w ws.
    let named : SelectedName = record { word = word; what = what; place = left ts } in
    of_check (Bits start floor (drives at)) (bits_of_name at depth named d) ws
    (with_bits start floor (drives at) (bits_of_name at depth named d) (meaning_keep start floor (implies at depth && is_whole what) named d (meaning_of d word) h)
    (λ o e. (named_kept at depth named d o (meaning-within (length d.nets) d.names word h.names) (within_at d.nets d.ports h.ports) e).1 (drives at))))))

constant_keep : (start : Draft) (floor : ℕ) (at : Site) (depth : ℕ) (d : Draft) → Keeps start floor d → (ts : List Token) → Yields (Bits start floor (drives at)) (constant_operand at depth d ts)
unfolding constant_operand
constant_keep start floor at depth d h ts =
    passed (Bits start floor (drives at)) (constant ts) _ (λ bits us.
    passed (Bits start floor (drives at)) (followed at depth us) _ (λ w vs.
    where_needed (Bits start floor (drives at)) cause.Token (left ts) (not (drives at)) _ vs (λ free.
    (h, and_constants (length d.nets) (drives at) [] bits (not_true (drives at) free) (no_bits (length d.nets) (drives at))))))

operand_keep : (start : Draft) (floor : ℕ) (at : Site) (depth : ℕ) (d : Draft) → Keeps start floor d → (ts : List Token) → Yields (Bits start floor (drives at)) (operand at depth d ts)
unfolding operand
operand_keep start floor at depth d h ts = either (Bits start floor (drives at)) (sees kind.Number ts) _ _ (constant_keep start floor at depth d h ts) (named_keep start floor at depth d h ts)

-- the bits so far are bits of the draft's nets
abbrev BitsSoFar : Draft → (floor : ℕ) → (drives : Bool) → Draft × OpenConcatenations → Type 0
BitsSoFar start floor drives p = Keeps start floor p.0 × AreBits (length p.0.nets) drives p.1.bits

opening_keep : (start : Draft) (floor : ℕ) (at : Site) (d : Draft) (so_far : OpenConcatenations) → Keeps start floor d → AreBits (length d.nets) (drives at) so_far.bits → (ts : List Token)
    → Yields (BitsSoFar start floor (drives at)) (opening at d so_far ts)
unfolding opening
opening_keep start floor at d so_far h bits ts =
    either (BitsSoFar start floor (drives at)) (sees kind.OpenBrace ts) _ _ (h, bits)
    (behind (Bits start (length d.nets) (drives at)) (BitsSoFar start floor (drives at)) (operand at so_far.depth d ts) _ (operand_keep start (length d.nets) at so_far.depth d (raise start floor d h) ts) (λ o m us. (
      lower start floor (length d.nets) o.0 h.many m.0,
      All-append (λ (s : Signal). IsBit (length o.0.nets) (drives at) s) so_far.bits o.1 (bits_more (length d.nets) (length o.0.nets) (drives at) so_far.bits m.0.many bits) m.1,
    )))

closing_keep : (start : Draft) (floor : ℕ) (drives : Bool) (d : Draft) (so_far : OpenConcatenations) → Keeps start floor d → AreBits (length d.nets) drives so_far.bits → (ts : List Token) → Yields (BitsSoFar start floor drives) (closing d so_far ts)
unfolding closing
closing_keep start floor drives d so_far h bits ts =
    either (BitsSoFar start floor drives) (sees kind.Comma ts) _ _ (h, bits) (passed (BitsSoFar start floor drives) (expect kind.CloseBrace ts) _ (λ w us. (h, bits)))

turn_by : (start : Draft) (floor : ℕ) (awaits : Bool) (at : Site) (d : Draft) (so_far : OpenConcatenations) → Keeps start floor d → AreBits (length d.nets) (drives at) so_far.bits → (ts : List Token)
    → Yields (BitsSoFar start floor (drives at)) ((cond awaits (opening at d so_far) (closing d so_far)) ts)
turn_by start floor true at d so_far h bits ts = opening_keep start floor at d so_far h bits ts
turn_by start floor false at d so_far h bits ts = closing_keep start floor (drives at) d so_far h bits ts

concatenations_keep : (n : ℕ) (start : Draft) (floor : ℕ) (at : Site) (d : Draft) (so_far : OpenConcatenations) → Keeps start floor d → AreBits (length d.nets) (drives at) so_far.bits → (ts : List Token)
    → Yields (BitsSoFar start floor (drives at)) (concatenations_from n at d so_far ts)
unfolding concatenations_from
concatenations_keep zero start floor at d so_far h bits ts = tt
concatenations_keep (suc n) start floor at d so_far h bits ts =
    either (BitsSoFar start floor (drives at)) (is_read so_far) _ _ (h, bits)
    (behind (BitsSoFar start floor (drives at)) (BitsSoFar start floor (drives at)) (turn at d so_far ts) _ (turn_by start floor so_far.awaits at d so_far h bits ts) (λ p m us. concatenations_keep n start floor at p.0 p.1 m.0 m.1 us))

pub expression_keep : (start : Draft) (floor : ℕ) (at : Site) (d : Draft) → Keeps start floor d → (ts : List Token) → Yields (Bits start floor (drives at)) (expression at d ts)
unfolding expression
expression_keep start floor at d h ts =
    behind (BitsSoFar start floor (drives at)) (Bits start floor (drives at)) (concatenations_from (suc (left ts)) at d unread ts) _ (concatenations_keep (suc (left ts)) start floor at d unread h (no_bits (length d.nets) (drives at)) ts) (λ p m us.
    passed (Bits start floor (drives at)) (followed at 0 us) _ (λ w vs. m))

-- ---- assignments

-- a bit that is driven is a net
driven_net_is : (count : ℕ) (s : Signal) → IsBit count true s → (driven_net s).0 < count
driven_net_is count (signal.Net net) h = h
driven_net_is count (signal.Constant bit) h = absurd h
driven_net_is count signal.Unconnected h = absurd h

first_of_bits : (count : ℕ) (drives : Bool) (s : Signal) (rest : List Signal) → AreBits count drives (s ∷ rest) → IsBit count drives s × AreBits count drives rest
first_of_bits count drives s rest h = (h 0 s (omega arith), λ k x below. h (suc k) x (omega arith))

joins_keep : (start : Draft) (floor : ℕ) (targets sources : List Signal) (d : Draft) → Keeps start floor d → AreBits (length d.nets) true targets → AreBits (length d.nets) false sources → Keeps start floor (with_joins targets sources d)
joins_keep start floor [] sources d h ts ss = h
joins_keep start floor (target ∷ targets) [] d h ts ss = h
joins_keep start floor (target ∷ targets) (source ∷ sources) d h ts ss =
    let t = first_of_bits (length d.nets) true target targets ts in
    let s = first_of_bits (length d.nets) false source sources ss in
    joins_keep start floor targets sources _ (join_keep start floor _ d h (join_fits d (driven_net target) source (driven_net_is (length d.nets) target t.0) s.0)) t.1 s.1

right_keep : (start : Draft) (floor : ℕ) (targets : List Signal) (d : Draft) → Keeps start floor d → AreBits (length d.nets) true targets → (ts : List Token) → Yields (Keeps start floor) (right_side targets d ts)
unfolding right_side
right_keep start floor targets d h bits ts =
    behind (Bits start (length d.nets) false) (Keeps start floor) (expression site.Source d ts) _ (expression_keep start (length d.nets) site.Source d (raise start floor d h) ts) (λ o m us.
    of_need (Keeps start floor) cause.Misfit (left ts) (length targets == length o.1) _ us
    (joins_keep start floor targets o.1 o.0 (lower start floor (length d.nets) o.0 h.many m.0) (bits_more (length d.nets) (length o.0.nets) true targets m.0.many bits) m.1))

assignment_keep : (start : Draft) (floor : ℕ) (d : Draft) → Keeps start floor d → (ts : List Token) → Yields (Keeps start floor) (net_assignment d ts)
unfolding net_assignment
assignment_keep start floor d h ts =
    behind (Bits start floor true) (Keeps start floor) (expression site.Target d ts) _ (expression_keep start floor site.Target d h ts) (λ o m us.
    passed (Keeps start floor) (expect kind.Equals us) _ (λ w vs. right_keep start floor o.1 o.0 m.0 m.1 vs))

assignments_of : (n : ℕ) (start : Draft) (floor : ℕ) (d : Draft) → Keeps start floor d → (ts : List Token) → Yields (Keeps start floor) (net_assignments_from n d ts)
unfolding net_assignments_from
assignments_of zero start floor d h ts = tt
assignments_of (suc n) start floor d h ts =
    behind (Keeps start floor) (Keeps start floor) (net_assignment d ts) _ (assignment_keep start floor d h ts) (λ more m us.
    passed (Keeps start floor) (eat kind.Comma us) _ (λ comma vs. turns (Keeps start floor) comma more (net_assignments_from n more) m (λ ws. assignments_of n start floor more m ws) vs))

assignments_all : (start : Draft) (floor : ℕ) (d : Draft) → Keeps start floor d → (ts : List Token) → Yields (Keeps start floor) (net_assignments d ts)
unfolding net_assignments
assignments_all start floor d h ts = assignments_of (left ts) start floor d h ts

assign_item_keep : (start : Draft) (floor : ℕ) (d : Draft) → Keeps start floor d → (ts : List Token) → Yields (Keeps start floor) (assign_item d ts)
unfolding assign_item
assign_item_keep start floor d h ts =
    behind (Keeps start floor) (Keeps start floor) (net_assignments d (next ts)) _ (assignments_all start floor d h (next ts)) (λ more m us.
    passed (Keeps start floor) (expect kind.Semicolon us) _ (λ w vs. m))

-- ---- gates

-- the draft keeps all, and this is one bit of its nets
abbrev OneBit : Draft → (floor : ℕ) → (drives : Bool) → One → Type 0
OneBit start floor drives o = Keeps start floor o.0 × IsBit (length o.0.nets) drives o.1

one_keep : (start : Draft) (floor : ℕ) (drives : Bool) (place : ℕ) (d : Draft) (bits : List Signal) → Keeps start floor d → AreBits (length d.nets) drives bits → (ts : List Token) → Yields (OneBit start floor drives) (one_bit place d bits ts)
one_keep start floor drives place d (bit ∷ []) h bits ts = (h, (first_of_bits (length d.nets) drives bit [] bits).0)
one_keep start floor drives place d [] h bits ts = tt
one_keep start floor drives place d (bit ∷ second ∷ more) h bits ts = tt

terminal_keep : (start : Draft) (floor : ℕ) (drives : Bool) (d : Draft) → Keeps start floor d → (ts : List Token) → Yields (OneBit start floor drives) (terminal drives d ts)
unfolding terminal
terminal_keep start floor drives d h ts =
    behind (Bits start floor drives) (OneBit start floor drives) (expression (site.Terminal drives) d ts) _ (expression_keep start floor (site.Terminal drives) d h ts) (λ o m us. one_keep start floor drives (left ts) o.0 o.1 m.0 m.1 us)

inputs_of : (n : ℕ) (start : Draft) (floor : ℕ) (d : Draft) (ins : List Signal) → Keeps start floor d → AreBits (length d.nets) false ins → (ts : List Token) → Yields (Bits start floor false) (input_terminals_from n d ins ts)
unfolding input_terminals_from
inputs_of zero start floor d ins h bits ts = tt
inputs_of (suc n) start floor d ins h bits ts =
    passed (Bits start floor false) (eat kind.Comma ts) _ (λ comma us.
    turns (Bits start floor false) comma (d, ins) _ (h, bits) (λ vs.
    behind (OneBit start (length d.nets) false) (Bits start floor false) (terminal false d vs) _ (terminal_keep start (length d.nets) false d (raise start floor d h) vs) (λ o m ws.
    inputs_of n start floor o.0 (ins ++ o.1 ∷ []) (lower start floor (length d.nets) o.0 h.many m.0)
    (bits_and (length o.0.nets) false ins o.1 m.1 (bits_more (length d.nets) (length o.0.nets) false ins m.0.many bits)) ws)) us)

inputs_all : (start : Draft) (floor : ℕ) (d : Draft) → Keeps start floor d → (ts : List Token) → Yields (Bits start floor false) (input_terminals d ts)
unfolding input_terminals
inputs_all start floor d h ts = inputs_of (left ts) start floor d [] h (no_bits (length d.nets) false) ts

terminals_keep : (start : Draft) (floor : ℕ) (k : Gate) (word : Option Text) (place : ℕ) (d : Draft) → IsTrue (is_primitive k) → Keeps start floor d → (ts : List Token) → Yields (Keeps start floor) (terminals k word place d ts)
unfolding terminals
terminals_keep start floor k word place d gate h ts =
    behind (OneBit start floor true) (Keeps start floor) (terminal true d ts) _ (terminal_keep start floor true d h ts) (λ output m us.
    behind (Bits start (length output.0.nets) false) (Keeps start floor) (input_terminals output.0 us) _ (inputs_all start (length output.0.nets) output.0 (raise start floor output.0 m.0) us) (λ ins n vs.
    passed (Keeps start floor) (expect kind.CloseParen vs) _ (λ w ws.
    where_needed (Keeps start floor) cause.Misfit place (takes_inputs k (length ins.1)) _ ws (λ takes.
    instance_keep start floor (gate_instance k word output.1 ins.1) ins.0 (lower start floor (length output.0.nets) ins.0 m.0.many n.0)
    (gate_fits ins.0 k word ins.1 output.1 gate takes n.1 (bit_more (length output.0.nets) (length ins.0.nets) true output.1 n.0.many m.1))))))

named_gate_keep : (start : Draft) (floor : ℕ) (k : Gate) (d : Draft) → IsTrue (is_primitive k) → Keeps start floor d → (ts : List Token) → Yields (Keeps start floor) (named_gate k d ts)
unfolding named_gate
named_gate_keep start floor k d gate h ts =
    passed (Keeps start floor) (expect kind.Name ts) _ (λ word us.
    behind (Keeps start floor) (Keeps start floor) (checked (name_instance (left ts) word d) us) _ (of_check (Keeps start floor) (name_instance (left ts) word d) us (name_keep start floor (left ts) word d h)) (λ more m vs.
    passed (Keeps start floor) (expect kind.OpenParen vs) _ (λ w ws. terminals_keep start floor k (Some word) (left vs) more gate m ws)))

unnamed_gate_keep : (start : Draft) (floor : ℕ) (k : Gate) (d : Draft) → IsTrue (is_primitive k) → Keeps start floor d → (ts : List Token) → Yields (Keeps start floor) (unnamed_gate k d ts)
unfolding unnamed_gate
unnamed_gate_keep start floor k d gate h ts =
    passed (Keeps start floor) (expect kind.OpenParen ts) _ (λ w us.
    behind (Keeps start floor) (Keeps start floor) (checked (room_for_instance (left ts) d) us) _ (of_check (Keeps start floor) (room_for_instance (left ts) d) us (room_keep start floor (left ts) d h)) (λ more m vs.
    terminals_keep start floor k None (left ts) more gate m vs))

one_gate_keep : (start : Draft) (floor : ℕ) (k : Gate) (d : Draft) → IsTrue (is_primitive k) → Keeps start floor d → (ts : List Token) → Yields (Keeps start floor) (one_gate k d ts)
unfolding one_gate
one_gate_keep start floor k d gate h ts = either (Keeps start floor) (sees kind.Name ts) _ _ (named_gate_keep start floor k d gate h ts) (unnamed_gate_keep start floor k d gate h ts)

gates_of : (n : ℕ) (start : Draft) (floor : ℕ) (k : Gate) (d : Draft) → IsTrue (is_primitive k) → Keeps start floor d → (ts : List Token) → Yields (Keeps start floor) (gates_from n k d ts)
unfolding gates_from
gates_of zero start floor k d gate h ts = tt
gates_of (suc n) start floor k d gate h ts =
    behind (Keeps start floor) (Keeps start floor) (one_gate k d ts) _ (one_gate_keep start floor k d gate h ts) (λ more m us.
    passed (Keeps start floor) (eat kind.Comma us) _ (λ comma vs. turns (Keeps start floor) comma more (gates_from n k more) m (λ ws. gates_of n start floor k more gate m ws) vs))

gates_all : (start : Draft) (floor : ℕ) (k : Gate) (d : Draft) → IsTrue (is_primitive k) → Keeps start floor d → (ts : List Token) → Yields (Keeps start floor) (gates k d ts)
unfolding gates
gates_all start floor k d gate h ts = gates_of (left ts) start floor k d gate h ts

gate_item_keep : (start : Draft) (floor : ℕ) (k : Gate) (d : Draft) → IsTrue (is_primitive k) → Keeps start floor d → (ts : List Token) → Yields (Keeps start floor) (gate_item k d ts)
unfolding gate_item
gate_item_keep start floor k d gate h ts =
    behind (Keeps start floor) (Keeps start floor) (gates k d (next ts)) _ (gates_all start floor k d gate h (next ts)) (λ more m us.
    passed (Keeps start floor) (expect kind.Semicolon us) _ (λ w vs. m))

-- ---- cells

-- the draft keeps all, and the pins that are joined may be joined so
abbrev Joins : Draft → (floor : ℕ) → Cell → Connected → Type 0
Joins start floor cell c = Keeps start floor c.0 × FitsCell (length c.0.nets) cell c.1

-- the draft keeps all, and the pin may be joined to this
abbrev ToPin : Draft → (floor : ℕ) → (drives : Bool) → One → Type 0
ToPin start floor drives o = Keeps start floor o.0 × IsPinSignal (length o.0.nets) drives o.1

to_pin : (start : Draft) (floor : ℕ) (drives : Bool) (o : Outcome One) → Yields (OneBit start floor drives) o → Yields (ToPin start floor drives) o
to_pin start floor drives (Ok p) h = (h.0, pin_bit (length p.0.0.nets) drives p.0.1 h.1)
to_pin start floor drives (Err f) h = h

pin_signal_keep : (start : Draft) (floor : ℕ) (cell : Cell) (place : ℕ) (d : Draft) (pin : ℕ) → Keeps start floor d → (ts : List Token) → Yields (ToPin start floor (pin_drives (slice_get cell.pins pin))) (pin_signal cell place d pin ts)
unfolding pin_signal
pin_signal_keep start floor cell place d pin h ts =
    let on = pin_drives (slice_get cell.pins pin) in
    behind (Bits start floor on) (ToPin start floor on) (expression (site.Pin on) d ts) _ (expression_keep start floor (site.Pin on) d h ts) (λ o m us.
    to_pin start floor on (one_bit place o.0 o.1 us) (one_keep start floor on place o.0 o.1 m.0 m.1 us))

pin_content_keep : (start : Draft) (floor : ℕ) (cell : Cell) (place : ℕ) (d : Draft) (pin : ℕ) → Keeps start floor d → (ts : List Token) → Yields (ToPin start floor (pin_drives (slice_get cell.pins pin))) (pin_content cell place d pin ts)
unfolding pin_content
pin_content_keep start floor cell place d pin h ts =
    let on = pin_drives (slice_get cell.pins pin) in
    either (ToPin start floor on) (sees kind.CloseParen ts) _ _ (h, pin_free (length d.nets) on) (pin_signal_keep start floor cell place d pin h ts)

connection_keep : (start : Draft) (floor : ℕ) (cell : Cell) (c : Connected) → Joins start floor cell c → (ts : List Token) → Yields (Joins start floor cell) (named_connection cell c ts)
unfolding named_connection
connection_keep start floor cell c h ts =
    passed (Joins start floor cell) (expect kind.Point ts) _ (λ w us.
    passed (Joins start floor cell) (connected_pin cell c.1 us) _ (λ pin vs.
    passed (Joins start floor cell) (expect kind.OpenParen vs) _ (λ x ws.
    behind (ToPin start (length c.0.nets) (pin_drives (slice_get cell.pins pin))) (Joins start floor cell) (pin_content cell (left ts) c.0 pin ws) _ (pin_content_keep start (length c.0.nets) cell (left ts) c.0 pin (raise start floor c.0 h.0) ws) (λ to m xs.
    passed (Joins start floor cell) (expect kind.CloseParen xs) _ (λ y ys.
    (lower start floor (length c.0.nets) to.0 h.0.many m.0, fits_with (length to.0.nets) cell c.1 pin to.1 m.1 (fits_more (length c.0.nets) (length to.0.nets) cell c.1 m.0.many h.1)))))))

connections_of : (n : ℕ) (start : Draft) (floor : ℕ) (cell : Cell) (c : Connected) → Joins start floor cell c → (ts : List Token) → Yields (Joins start floor cell) (named_connections_from n cell c ts)
unfolding named_connections_from
connections_of zero start floor cell c h ts = tt
connections_of (suc n) start floor cell c h ts =
    behind (Joins start floor cell) (Joins start floor cell) (named_connection cell c ts) _ (connection_keep start floor cell c h ts) (λ more m us.
    passed (Joins start floor cell) (eat kind.Comma us) _ (λ comma vs. turns (Joins start floor cell) comma more (named_connections_from n cell more) m (λ ws. connections_of n start floor cell more m ws) vs))

some_keep : (start : Draft) (floor : ℕ) (cell : Cell) (c : Connected) → Joins start floor cell c → (ts : List Token) → Yields (Joins start floor cell) (named_connections cell c ts)
unfolding named_connections
some_keep start floor cell c h ts = connections_of (left ts) start floor cell c h ts

connections_keep : (start : Draft) (floor : ℕ) (cell : Cell) (c : Connected) → Joins start floor cell c → (ts : List Token) → Yields (Joins start floor cell) (connections cell c ts)
unfolding connections
connections_keep start floor cell c h ts = either (Joins start floor cell) (sees kind.CloseParen ts) _ _ h (some_keep start floor cell c h ts)

cell_keep : (start : Draft) (floor : ℕ) (id : CellId) (cell : Cell) (d : Draft) → slice_get start.library id.0 ≡ Some cell → Keeps start floor d → (ts : List Token) → Yields (Keeps start floor) (instance id cell d ts)
unfolding instance
cell_keep start floor id cell d at h ts =
    passed (Keeps start floor) (expect kind.Name ts) _ (λ word us.
    behind (Keeps start floor) (Keeps start floor) (checked (name_instance (left ts) word d) us) _ (of_check (Keeps start floor) (name_instance (left ts) word d) us (name_keep start floor (left ts) word d h)) (λ named m vs.
    passed (Keeps start floor) (expect kind.OpenParen vs) _ (λ w ws.
    behind (Joins start floor cell) (Keeps start floor) (connections cell (named, unjoined cell) ws) _ (connections_keep start floor cell (named, unjoined cell) (m, fits_unjoined (length named.nets) cell) ws) (λ c n xs.
    passed (Keeps start floor) (expect kind.CloseParen xs) _ (λ x ys.
    instance_keep start floor (cell_instance id word c.1) c.0 n.0
    (instance_fits c.0 id word cell c.1 (ap (λ (cells : List Cell). slice_get cells id.0) n.0.library ∙ at) n.1))))))

cells_of : (n : ℕ) (start : Draft) (floor : ℕ) (id : CellId) (cell : Cell) (d : Draft) → slice_get start.library id.0 ≡ Some cell → Keeps start floor d → (ts : List Token) → Yields (Keeps start floor) (instances_from n id cell d ts)
unfolding instances_from
cells_of zero start floor id cell d at h ts = tt
cells_of (suc n) start floor id cell d at h ts =
    behind (Keeps start floor) (Keeps start floor) (instance id cell d ts) _ (cell_keep start floor id cell d at h ts) (λ more m us.
    passed (Keeps start floor) (eat kind.Comma us) _ (λ comma vs. turns (Keeps start floor) comma more (instances_from n id cell more) m (λ ws. cells_of n start floor id cell more at m ws) vs))

cells_all : (start : Draft) (floor : ℕ) (id : CellId) (cell : Cell) (d : Draft) → slice_get start.library id.0 ≡ Some cell → Keeps start floor d → (ts : List Token) → Yields (Keeps start floor) (instances id cell d ts)
unfolding instances
cells_all start floor id cell d at h ts =
    behind (Keeps start floor) (Keeps start floor) (instances_from (left ts) id cell d ts) _ (cells_of (left ts) start floor id cell d at h ts) (λ more m us.
    passed (Keeps start floor) (expect kind.Semicolon us) _ (λ w vs. m))

cells_by : (start : Draft) (floor : ℕ) (id : CellId) (cell : Option Cell) (d : Draft) → slice_get start.library id.0 ≡ cell → Keeps start floor d → (ts : List Token) → Yields (Keeps start floor) (instances_of id cell d ts)
cells_by start floor id None d at h ts = tt
cells_by start floor id (Some cell) d at h ts = cells_all start floor id cell d at h ts

cells_named : (start : Draft) (floor place : ℕ) (id : Option CellId) (d : Draft) → Keeps start floor d → (ts : List Token) → Yields (Keeps start floor) (instances_named place id d ts)
cells_named start floor place None d h ts = tt
cells_named start floor place (Some id) d h ts = cells_by start floor id (slice_get d.library id.0) d (ap (λ (cells : List Cell). slice_get cells id.0) (sym h.library)) h ts

cell_item_keep : (start : Draft) (floor : ℕ) (d : Draft) → Keeps start floor d → (ts : List Token) → Yields (Keeps start floor) (cell_item d ts)
unfolding cell_item
cell_item_keep start floor d h ts = passed (Keeps start floor) (expect kind.Name ts) _ (λ word us. cells_named start floor (left ts) (find_cell d.library word) d h us)

-- ---- items

gate_or_cell_keep : (start : Draft) (floor : ℕ) (k : Option Gate) (d : Draft) → IfSome k (λ (g : Gate). IsTrue (is_primitive g)) → Keeps start floor d → (ts : List Token) → Yields (Keeps start floor) (gate_or_cell k d ts)
gate_or_cell_keep start floor (Some k) d gate h ts = gate_item_keep start floor k d gate h ts
gate_or_cell_keep start floor None d gate h ts = cell_item_keep start floor d h ts

primitive_gate : (k : TokenKind) → IfSome (gate_kind k) (λ (g : Gate). IsTrue (is_primitive g))
primitive_gate kind.And = search rules
primitive_gate k = search rules

item_of_keep : (start : Draft) (floor : ℕ) (k : TokenKind) (d : Draft) → Keeps start floor d → (ts : List Token) → Yields (Keeps start floor) (item_of k d ts)
item_of_keep start floor kind.Input d h ts = port_item_keep start floor dir.Input d h ts
item_of_keep start floor kind.Output d h ts = port_item_keep start floor dir.Output d h ts
item_of_keep start floor kind.Wire d h ts = wire_item_keep start floor d h ts
item_of_keep start floor kind.Assign d h ts = assign_item_keep start floor d h ts
item_of_keep start floor k d h ts = gate_or_cell_keep start floor (gate_kind k) d (primitive_gate k) h ts

pub item_keep : (start : Draft) (floor : ℕ) (d : Draft) → Keeps start floor d → (ts : List Token) → Yields (Keeps start floor) (item d ts)
unfolding item
item_keep start floor d h ts = item_of_keep start floor (kind_of ts) d h ts

-- ---- the end

declared_end : (start : Draft) (floor place : ℕ) (d : Draft) (o : Option Text) → Keeps start floor d → (ts : List Token) → Yields (Keeps start floor) (all_declared place d o ts)
declared_end start floor place d None h ts = h
declared_end start floor place d (Some word) h ts = tt

pub module_end_keep : (start : Draft) (floor : ℕ) (d : Draft) → Keeps start floor d → (ts : List Token) → Yields (Keeps start floor) (module_end d ts)
unfolding module_end
module_end_keep start floor d h ts = passed (Keeps start floor) (expect kind.Endmodule ts) _ (λ w us. declared_end start floor (left ts) d (first_undeclared d.ports) h us)
