-- What the rules of the grammar say of a module is buildable.
use Rattle.std.proofs.Common.{◌≡◌, ℕ, zero, suc, ◌<◌, ◌≤◌, ◌^◌, Bool, true, false, not, ◌&&◌, ◌==◌, cond, nat_le, List, [], ◌∷◌, ◌++◌, length, slice_get, Option, Some, None, Ok, Err, refl, subst, arith}
use Rattle.std.specs.Str.Parse.{digits_value}
use Rattle.std.proofs.lemmas.Bool.Decides.{nat_tests}
use Rattle.dft_base.specs.declared.place.Range.{Range}
use Rattle.dft_base.specs.Lexing.{Text}
use Rattle.dft_base.specs.Parser as parser
use Rattle.dft_base.specs.Parser.{Checked}
use Rattle.dft_cells.specs.declared.kind.Gate.{Gate}
use Rattle.dft_cells.specs.declared.cell.CellId.{CellId}
use Rattle.dft_cells.specs.declared.cell.Cell.{Cell}
use Rattle.dft_cells.specs.Cells.{find_cell}
use Rattle.dft_cells.specs.Pins.{takes_inputs}
use Rattle.dft_base.specs.declared.dir.Dir.{Dir}
use Rattle.dft_base.specs.declared.dir.Dir.TheVariants as dir
use Rattle.dft_netlist.specs.declared.instance.Signal.{Signal}
use Rattle.dft_netlist_text.specs.declared.text.TokenKind.{TokenKind}
use Rattle.dft_netlist_text.specs.declared.text.TokenKind.TheVariants as kind
use Rattle.dft_netlist_text.specs.declared.text.Fault.{Fault}
use Rattle.dft_netlist_text.specs.declared.text.Meaning.{Meaning}
use Rattle.dft_netlist_text.specs.declared.text.Meaning.TheVariants as meaning
use Rattle.dft_netlist_text.specs.declared.text.Declared.{Declared}
use Rattle.dft_netlist_text.specs.declared.text.Site.{Site}
use Rattle.dft_netlist_text.specs.declared.text.Site.TheVariants as site
use Rattle.dft_netlist.specs.Building.{own_names}
use Rattle.dft_netlist_text.specs.Lexemes.{Token, tokens}
use Rattle.dft_netlist_text.specs.Steps.{Outcome, kind_of, left, next, sees, expect, eat, checked}
use Rattle.dft_netlist_text.specs.Modules.{Draft, empty_draft, announce, declare_nets, declare_new_port, declare_port, declare_wire, declared_at, meaning_of, name_instance, room_for_instance}
use Rattle.dft_netlist_text.specs.Expressions.{unless_too_large, number, rest_of_range, range, range_if_any, SelectedName, fitting, implied_net, bits_of_port, bits_of_meaning, bits_of_name, implies, is_whole, selected, named_operand, constant_operand, constant, selection, followed, drives, operand, OpenConcatenations, unread, is_read, opening, closing, turn, concatenations_from, expression}
use Rattle.dft_netlist_text.specs.Items.{Declaring, Ports, Wires, declare, declared_name, declared_names_from, declared_names, declaration, port_item, wire_item, with_joins, right_side, net_assignment, net_assignments_from, net_assignments, assign_item, one_bit, gate_kind, terminal, input_terminals_from, input_terminals, gate_instance, terminals, named_gate, unnamed_gate, one_gate, gates_from, gates, gate_item, unjoined, connected_pin, Connected, pin_signal, pin_content, named_connection, named_connections_from, named_connections, connections, cell_instance, instance, instances_from, instances, instances_of, instances_named, cell_item, gate_or_cell, item_of, item, items_from, items}
use Rattle.dft_netlist_text.specs.NetlistText.{announced_name, announced_names_from, announced_names, declared_port, PortDeclaration, port_declaration_of, port_declaration, declared_ports_from, declared_ports, sees_direction, header_names, header, heading, first_undeclared, all_declared, module_end, end_of_text, module_text, module_of}
use Rattle.dft_netlist_text.proofs.ParserLemmas.{Yields, Gives, behind, passed, either, of_check, of_need, turns}
use Rattle.dft_verilog.specs.Buildable.{IsBuildable, ModulesAreBuildable}
use Rattle.dft_verilog.proofs.SaidLemmas.{IsSaid, IsShort, said_is_buildable, nets_said, announce_said, new_port_said, port_said, wire_said, name_said, room_said, instance_said}

-- ---- outcomes

-- ---- ranges

abbrev IsSmall : ℕ → Type 0
IsSmall n = n < 2 ^ 16

abbrev IsRange : Range → Type 0
IsRange r = IsSmall r.left × IsSmall r.right

small_by : (a b : Bool) (n place : ℕ) (ts : List Token) → nat_le n 65535 ≡ b → Yields IsSmall (unless_too_large place (cond (a && b) (Some n) None) ts)
small_by true true n place ts h = let le : n ≤ 65535 = grind (arith, nat_tests) in omega arith
small_by true false n place ts h = tt
small_by false b n place ts h = tt

number_small : (ts : List Token) → Yields IsSmall (number ts)
unfolding number
number_small ts = passed IsSmall (expect kind.Number ts) _ (λ word us. small_by (nat_le (length word) 5) (nat_le (digits_value 10 word) 65535) (digits_value 10 word) (left ts) us refl)

rest_short : (first : ℕ) → IsSmall first → (ts : List Token) → Yields IsRange (rest_of_range first ts)
unfolding rest_of_range
rest_short first h ts =
    passed IsRange (expect kind.Colon ts) _ (λ w us.
    behind IsSmall IsRange (number us) _ (number_small us) (λ second lt vs.
    passed IsRange (expect kind.CloseBracket vs) _ (λ x ws. (h, lt))))

range_short : (ts : List Token) → Yields IsRange (range ts)
unfolding range
range_short ts = passed IsRange (expect kind.OpenBracket ts) _ (λ w us. behind IsSmall IsRange (number us) _ (number_small us) (λ first lt vs. rest_short first lt vs))

range_if_short : (ts : List Token) → Yields IsShort (range_if_any ts)
unfolding range_if_any
range_if_short ts = either IsShort (sees kind.OpenBracket ts) _ _ (behind IsRange IsShort (range ts) _ (range_short ts) (λ r h us. h)) tt

-- ---- the header

announced_said : (d : Draft) → IsSaid 0 [] d → (ts : List Token) → Yields (IsSaid 0 []) (announced_name d ts)
unfolding announced_name
announced_said d h ts = passed (IsSaid 0 []) (expect kind.Name ts) _ (λ word us. of_check (IsSaid 0 []) (announce (left ts) word d) us (announce_said 0 [] (left ts) word d h))

announced_from : (n : ℕ) (d : Draft) → IsSaid 0 [] d → (ts : List Token) → Yields (IsSaid 0 []) (announced_names_from n d ts)
unfolding announced_names_from
announced_from zero d h ts = tt
announced_from (suc n) d h ts =
    behind (IsSaid 0 []) (IsSaid 0 []) (announced_name d ts) _ (announced_said d h ts) (λ more m us.
    passed (IsSaid 0 []) (eat kind.Comma us) _ (λ comma vs. turns (IsSaid 0 []) comma more (announced_names_from n more) m (λ ws. announced_from n more m ws) vs))

announced_all : (d : Draft) → IsSaid 0 [] d → (ts : List Token) → Yields (IsSaid 0 []) (announced_names d ts)
unfolding announced_names
announced_all d h ts = announced_from (left ts) d h ts

port_new : (dir : Dir) (range : Option Range) (d : Draft) → IsShort range → IsSaid 0 [] d → (ts : List Token) → Yields (IsSaid 0 []) (declared_port dir range d ts)
unfolding declared_port
port_new dir range d short h ts =
    passed (IsSaid 0 []) (expect kind.Name ts) _ (λ word us. of_check (IsSaid 0 []) (declare_new_port (left ts) word dir range d) us (new_port_said 0 [] (left ts) word dir range d h short))

abbrev IsShortFacing : PortDeclaration → Type 0
IsShortFacing f = IsShort f.range

facing_of_short : (dir : Dir) (ts : List Token) → Yields IsShortFacing (port_declaration_of dir ts)
unfolding port_declaration_of
facing_of_short dir ts = passed IsShortFacing (eat kind.Wire (next ts)) _ (λ wire us. behind IsShort IsShortFacing (range_if_any us) (λ r. parser.pure (record { dir = dir; range = r })) (range_if_short us) (λ r short vs. short))

facing_short : (before : PortDeclaration) → IsShortFacing before → (ts : List Token) → Yields IsShortFacing (port_declaration before ts)
unfolding port_declaration
facing_short before h ts =
    either IsShortFacing (sees kind.Input ts) _ _ (facing_of_short dir.Input ts) (either IsShortFacing (sees kind.Output ts) _ _ (facing_of_short dir.Output ts) h)

ports_from : (n : ℕ) (before : PortDeclaration) (d : Draft) → IsShortFacing before → IsSaid 0 [] d → (ts : List Token) → Yields (IsSaid 0 []) (declared_ports_from n before d ts)
unfolding declared_ports_from
ports_from zero before d short h ts = tt
ports_from (suc n) before d short h ts =
    behind IsShortFacing (IsSaid 0 []) (port_declaration before ts) _ (facing_short before short ts) (λ here fits us.
    behind (IsSaid 0 []) (IsSaid 0 []) (declared_port here.dir here.range d us) _ (port_new here.dir here.range d fits h us) (λ more m vs.
    passed (IsSaid 0 []) (eat kind.Comma vs) _ (λ comma ws. turns (IsSaid 0 []) comma more (declared_ports_from n here more) m (λ xs. ports_from n here more fits m xs) ws)))

ports_all : (d : Draft) → IsSaid 0 [] d → (ts : List Token) → Yields (IsSaid 0 []) (declared_ports d ts)
unfolding declared_ports
ports_all d h ts = ports_from (left ts) (record { dir = dir.Input; range = None }) d tt h ts

header_names_said : (d : Draft) → IsSaid 0 [] d → (ts : List Token) → Yields (IsSaid 0 []) (header_names d ts)
unfolding header_names
header_names_said d h ts = either (IsSaid 0 []) (sees kind.CloseParen ts) _ _ h (either (IsSaid 0 []) (sees_direction ts) _ _ (ports_all d h ts) (announced_all d h ts))

header_said : (d : Draft) → IsSaid 0 [] d → (ts : List Token) → Yields (IsSaid 0 []) (header d ts)
unfolding header
header_said d h ts =
    either (IsSaid 0 []) (sees kind.OpenParen ts) _ _
    (behind (IsSaid 0 []) (IsSaid 0 []) (header_names d (next ts)) _ (header_names_said d h (next ts)) (λ more m us. passed (IsSaid 0 []) (expect kind.CloseParen us) _ (λ w vs. m))) h

begun_said : (name : Text) (library : List Cell) → IsSaid 0 [] (empty_draft name library)
begun_said name library = record {
  names = λ word. omega arith;
  taken = λ word. omega arith;
  numbered = omega arith;
  below = tt;
  places = tt;
  few_ports = omega arith;
  few_nets = omega arith;
  few_instances = omega arith;
}

pub heading_said : (library : List Cell) (ts : List Token) → Yields (IsSaid 0 []) (heading library ts)
unfolding heading
heading_said library ts =
    passed (IsSaid 0 []) (expect kind.Module ts) _ (λ w us.
    passed (IsSaid 0 []) (expect kind.Name us) _ (λ word vs.
    behind (IsSaid 0 []) (IsSaid 0 []) (header (empty_draft word library) vs) _ (header_said (empty_draft word library) (begun_said word library) vs) (λ d h ws.
    passed (IsSaid 0 []) (expect kind.Semicolon ws) _ (λ x xs. h))))

-- ---- declarations

declare_said : (what : Declaring) (place : ℕ) (word : Text) (range : Option Range) (d : Draft) → IsShort range → IsSaid 0 [] d → (ts : List Token) → Yields (IsSaid 0 []) (declare what place word range d ts)
declare_said (Ports dir) place word range d short h ts = of_check (IsSaid 0 []) (declare_port place word dir range d) ts (port_said 0 [] place word dir range d h short)
declare_said Wires place word range d short h ts = of_check (IsSaid 0 []) (declare_wire place word range d) ts (wire_said 0 [] place word range d h short)

declared_said : (what : Declaring) (range : Option Range) (d : Draft) → IsShort range → IsSaid 0 [] d → (ts : List Token) → Yields (IsSaid 0 []) (declared_name what range d ts)
unfolding declared_name
declared_said what range d short h ts = passed (IsSaid 0 []) (expect kind.Name ts) _ (λ word us. declare_said what (left ts) word range d short h us)

declared_from : (n : ℕ) (what : Declaring) (range : Option Range) (d : Draft) → IsShort range → IsSaid 0 [] d → (ts : List Token) → Yields (IsSaid 0 []) (declared_names_from n what range d ts)
unfolding declared_names_from
declared_from zero what r d short h ts = tt
declared_from (suc n) what r d short h ts =
    behind (IsSaid 0 []) (IsSaid 0 []) (declared_name what r d ts) _ (declared_said what r d short h ts) (λ more m us.
    passed (IsSaid 0 []) (eat kind.Comma us) _ (λ comma vs. turns (IsSaid 0 []) comma more (declared_names_from n what r more) m (λ ws. declared_from n what r more short m ws) vs))

declared_all : (what : Declaring) (range : Option Range) (d : Draft) → IsShort range → IsSaid 0 [] d → (ts : List Token) → Yields (IsSaid 0 []) (declared_names what range d ts)
unfolding declared_names
declared_all what range d short h ts = declared_from (left ts) what range d short h ts

declaration_said : (what : Declaring) (d : Draft) → IsSaid 0 [] d → (ts : List Token) → Yields (IsSaid 0 []) (declaration what d ts)
unfolding declaration
declaration_said what d h ts =
    behind IsShort (IsSaid 0 []) (range_if_any ts) _ (range_if_short ts) (λ range short us.
    behind (IsSaid 0 []) (IsSaid 0 []) (declared_names what range d us) _ (declared_all what range d short h us) (λ more m vs.
    passed (IsSaid 0 []) (expect kind.Semicolon vs) _ (λ w ws. m)))

port_item_said : (dir : Dir) (d : Draft) → IsSaid 0 [] d → (ts : List Token) → Yields (IsSaid 0 []) (port_item dir d ts)
unfolding port_item
port_item_said dir d h ts = passed (IsSaid 0 []) (eat kind.Wire (next ts)) _ (λ wire us. declaration_said (Ports dir) d h us)

wire_item_said : (d : Draft) → IsSaid 0 [] d → (ts : List Token) → Yields (IsSaid 0 []) (wire_item d ts)
unfolding wire_item
wire_item_said d h ts = declaration_said Wires d h (next ts)

-- ---- expressions

-- the draft of a pair is such a draft
abbrev pub SaidFirst : {B : Type 0} → (room : ℕ) (more : List Text) → Draft × B → Type 0
SaidFirst room more p = IsSaid room more p.0

fitting_said : (room : ℕ) (more : List Text) (place : ℕ) (d : Draft) (bits : Option (List Signal)) → IsSaid room more d → Gives (SaidFirst room more) (fitting place d bits)
fitting_said room more place d None h = tt
fitting_said room more place d (Some bits) h = h

implied_said : (room : ℕ) (more : List Text) (named : SelectedName) (old : Draft) (new : Checked Fault Draft) → Gives (IsSaid room more) new → Gives (SaidFirst room more) (implied_net named old new)
implied_said room more named old (Err f) h = tt
implied_said room more named old (Ok new) h = h

bits_of_port_said : (room : ℕ) (more : List Text) (named : SelectedName) (d : Draft) (declared : Option Declared) → IsSaid room more d → Gives (SaidFirst room more) (bits_of_port named d declared)
bits_of_port_said room more named d None h = tt
bits_of_port_said room more named d (Some declared) h = fitting_said room more named.place d (selected declared.shape named.what) h

meaning_said : (room : ℕ) (more : List Text) (implied : Bool) (named : SelectedName) (d : Draft) (m : Option Meaning) → IsSaid room more d → Gives (SaidFirst room more) (bits_of_meaning implied named d m)
meaning_said room more implied named d (Some (meaning.Nets shape)) h = fitting_said room more named.place d (selected shape named.what) h
meaning_said room more implied named d (Some (meaning.Port port)) h = bits_of_port_said room more named d (declared_at d port) h
meaning_said room more implied named d (Some meaning.Bit) h = tt
meaning_said room more true named d (Some meaning.Instance) h = tt
meaning_said room more false named d (Some meaning.Instance) h = tt
meaning_said room more true named d None h = implied_said room more named d (declare_nets named.place named.word None d) (nets_said room more named.place named.word None d h tt)
meaning_said room more false named d None h = tt

named_said : (room : ℕ) (more : List Text) (at : Site) (depth : ℕ) (d : Draft) → IsSaid room more d → (ts : List Token) → Yields (SaidFirst room more) (named_operand at depth d ts)
unfolding named_operand
named_said room more at depth d h ts =
    passed (SaidFirst room more) (expect kind.Name ts) _ (λ word us.
    passed (SaidFirst room more) (selection us) _ (λ what vs.
    passed (SaidFirst room more) (followed at depth vs) _ (λ w ws.
    let named : SelectedName = record { word = word; what = what; place = left ts } in
    of_check (SaidFirst room more) (bits_of_name at depth named d) ws (meaning_said room more (implies at depth && is_whole what) named d (meaning_of d word) h))))

constant_said : (room : ℕ) (more : List Text) (at : Site) (depth : ℕ) (d : Draft) → IsSaid room more d → (ts : List Token) → Yields (SaidFirst room more) (constant_operand at depth d ts)
unfolding constant_operand
constant_said room more at depth d h ts =
    passed (SaidFirst room more) (constant ts) _ (λ bits us.
    passed (SaidFirst room more) (followed at depth us) _ (λ w vs. of_need (SaidFirst room more) _ (left ts) (not (drives at)) _ vs h))

operand_said : (room : ℕ) (more : List Text) (at : Site) (depth : ℕ) (d : Draft) → IsSaid room more d → (ts : List Token) → Yields (SaidFirst room more) (operand at depth d ts)
unfolding operand
operand_said room more at depth d h ts = either (SaidFirst room more) (sees kind.Number ts) _ _ (constant_said room more at depth d h ts) (named_said room more at depth d h ts)

opening_said : (room : ℕ) (more : List Text) (at : Site) (d : Draft) (so_far : OpenConcatenations) → IsSaid room more d → (ts : List Token) → Yields (SaidFirst room more) (opening at d so_far ts)
unfolding opening
opening_said room more at d so_far h ts =
    either (SaidFirst room more) (sees kind.OpenBrace ts) _ _ h
    (behind (SaidFirst room more) (SaidFirst room more) (operand at so_far.depth d ts) _ (operand_said room more at so_far.depth d h ts) (λ o m us. m))

closing_said : (room : ℕ) (more : List Text) (d : Draft) (so_far : OpenConcatenations) → IsSaid room more d → (ts : List Token) → Yields (SaidFirst room more) (closing d so_far ts)
unfolding closing
closing_said room more d so_far h ts = either (SaidFirst room more) (sees kind.Comma ts) _ _ h (passed (SaidFirst room more) (expect kind.CloseBrace ts) _ (λ w us. h))

turn_by : (room : ℕ) (more : List Text) (awaits : Bool) (at : Site) (d : Draft) (so_far : OpenConcatenations) → IsSaid room more d → (ts : List Token) → Yields (SaidFirst room more) ((cond awaits (opening at d so_far) (closing d so_far)) ts)
turn_by room more true at d so_far h ts = opening_said room more at d so_far h ts
turn_by room more false at d so_far h ts = closing_said room more d so_far h ts

concatenations_said : (room : ℕ) (more : List Text) (n : ℕ) (at : Site) (d : Draft) (so_far : OpenConcatenations) → IsSaid room more d → (ts : List Token) → Yields (SaidFirst room more) (concatenations_from n at d so_far ts)
unfolding concatenations_from
concatenations_said room more zero at d so_far h ts = tt
concatenations_said room more (suc n) at d so_far h ts =
    either (SaidFirst room more) (is_read so_far) _ _ h
    (behind (SaidFirst room more) (SaidFirst room more) (turn at d so_far ts) _ (turn_by room more so_far.awaits at d so_far h ts) (λ p m us. concatenations_said room more n at p.0 p.1 m us))

pub expression_said : (room : ℕ) (more : List Text) (at : Site) (d : Draft) → IsSaid room more d → (ts : List Token) → Yields (SaidFirst room more) (expression at d ts)
unfolding expression
expression_said room more at d h ts =
    behind (SaidFirst room more) (SaidFirst room more) (concatenations_from (suc (left ts)) at d unread ts) _ (concatenations_said room more (suc (left ts)) at d unread h ts) (λ p m us.
    passed (SaidFirst room more) (followed at 0 us) _ (λ w vs. m))

-- ---- assignments

joins_said : (targets sources : List Signal) (d : Draft) → IsSaid 0 [] d → IsSaid 0 [] (with_joins targets sources d)
joins_said [] sources d h = h
joins_said (target ∷ targets) [] d h = h
joins_said (target ∷ targets) (source ∷ sources) d h = joins_said targets sources _ (record {
  names = h.names;
  taken = h.taken;
  numbered = h.numbered;
  below = h.below;
  places = h.places;
  few_ports = h.few_ports;
  few_nets = h.few_nets;
  few_instances = h.few_instances;
})

right_said : (targets : List Signal) (d : Draft) → IsSaid 0 [] d → (ts : List Token) → Yields (IsSaid 0 []) (right_side targets d ts)
unfolding right_side
right_said targets d h ts =
    behind (SaidFirst 0 []) (IsSaid 0 []) (expression site.Source d ts) _ (expression_said 0 [] site.Source d h ts) (λ o m us.
    of_need (IsSaid 0 []) _ (left ts) (length targets == length o.1) _ us (joins_said targets o.1 o.0 m))

assignment_said : (d : Draft) → IsSaid 0 [] d → (ts : List Token) → Yields (IsSaid 0 []) (net_assignment d ts)
unfolding net_assignment
assignment_said d h ts =
    behind (SaidFirst 0 []) (IsSaid 0 []) (expression site.Target d ts) _ (expression_said 0 [] site.Target d h ts) (λ o m us.
    passed (IsSaid 0 []) (expect kind.Equals us) _ (λ w vs. right_said o.1 o.0 m vs))

assignments_of : (n : ℕ) (d : Draft) → IsSaid 0 [] d → (ts : List Token) → Yields (IsSaid 0 []) (net_assignments_from n d ts)
unfolding net_assignments_from
assignments_of zero d h ts = tt
assignments_of (suc n) d h ts =
    behind (IsSaid 0 []) (IsSaid 0 []) (net_assignment d ts) _ (assignment_said d h ts) (λ more m us.
    passed (IsSaid 0 []) (eat kind.Comma us) _ (λ comma vs. turns (IsSaid 0 []) comma more (net_assignments_from n more) m (λ ws. assignments_of n more m ws) vs))

assignments_all : (d : Draft) → IsSaid 0 [] d → (ts : List Token) → Yields (IsSaid 0 []) (net_assignments d ts)
unfolding net_assignments
assignments_all d h ts = assignments_of (left ts) d h ts

assign_item_said : (d : Draft) → IsSaid 0 [] d → (ts : List Token) → Yields (IsSaid 0 []) (assign_item d ts)
unfolding assign_item
assign_item_said d h ts =
    behind (IsSaid 0 []) (IsSaid 0 []) (net_assignments d (next ts)) _ (assignments_all d h (next ts)) (λ more m us.
    passed (IsSaid 0 []) (expect kind.Semicolon us) _ (λ w vs. m))

-- ---- gates

one_said : (room : ℕ) (more : List Text) (place : ℕ) (d : Draft) (bits : List Signal) → IsSaid room more d → (ts : List Token) → Yields (SaidFirst room more) (one_bit place d bits ts)
one_said room more place d (bit ∷ []) h ts = h
one_said room more place d [] h ts = tt
one_said room more place d (bit ∷ next ∷ bits) h ts = tt

terminal_said : (room : ℕ) (more : List Text) (drives : Bool) (d : Draft) → IsSaid room more d → (ts : List Token) → Yields (SaidFirst room more) (terminal drives d ts)
unfolding terminal
terminal_said room more drives d h ts =
    behind (SaidFirst room more) (SaidFirst room more) (expression (site.Terminal drives) d ts) _ (expression_said room more (site.Terminal drives) d h ts) (λ o m us. one_said room more (left ts) o.0 o.1 m us)

inputs_of : (room : ℕ) (more : List Text) (n : ℕ) (d : Draft) (ins : List Signal) → IsSaid room more d → (ts : List Token) → Yields (SaidFirst room more) (input_terminals_from n d ins ts)
unfolding input_terminals_from
inputs_of room more zero d ins h ts = tt
inputs_of room more (suc n) d ins h ts =
    passed (SaidFirst room more) (eat kind.Comma ts) _ (λ comma us.
    turns (SaidFirst room more) comma (d, ins) _ h (λ vs. behind (SaidFirst room more) (SaidFirst room more) (terminal false d vs) _ (terminal_said room more false d h vs) (λ o m ws. inputs_of room more n o.0 (ins ++ o.1 ∷ []) m ws)) us)

inputs_all : (room : ℕ) (more : List Text) (d : Draft) → IsSaid room more d → (ts : List Token) → Yields (SaidFirst room more) (input_terminals d ts)
unfolding input_terminals
inputs_all room more d h ts = inputs_of room more (left ts) d [] h ts

terminals_said : (k : Gate) (word : Option Text) (place : ℕ) (d : Draft) → IsSaid 1 (own_names word) d → (ts : List Token) → Yields (IsSaid 0 []) (terminals k word place d ts)
unfolding terminals
terminals_said k word place d h ts =
    behind (SaidFirst 1 (own_names word)) (IsSaid 0 []) (terminal true d ts) _ (terminal_said 1 (own_names word) true d h ts) (λ output m us.
    behind (SaidFirst 1 (own_names word)) (IsSaid 0 []) (input_terminals output.0 us) _ (inputs_all 1 (own_names word) output.0 m us) (λ ins n vs.
    passed (IsSaid 0 []) (expect kind.CloseParen vs) _ (λ w ws.
    of_need (IsSaid 0 []) _ place (takes_inputs k (length ins.1)) _ ws (instance_said (gate_instance k word output.1 ins.1) ins.0 n))))

named_gate_said : (k : Gate) (d : Draft) → IsSaid 0 [] d → (ts : List Token) → Yields (IsSaid 0 []) (named_gate k d ts)
unfolding named_gate
named_gate_said k d h ts =
    passed (IsSaid 0 []) (expect kind.Name ts) _ (λ word us.
    behind (IsSaid 1 (word ∷ [])) (IsSaid 0 []) (checked (name_instance (left ts) word d) us) _ (of_check (IsSaid 1 (word ∷ [])) (name_instance (left ts) word d) us (name_said (left ts) word d h)) (λ more m vs.
    passed (IsSaid 0 []) (expect kind.OpenParen vs) _ (λ w ws. terminals_said k (Some word) (left vs) more m ws)))

unnamed_gate_said : (k : Gate) (d : Draft) → IsSaid 0 [] d → (ts : List Token) → Yields (IsSaid 0 []) (unnamed_gate k d ts)
unfolding unnamed_gate
unnamed_gate_said k d h ts =
    passed (IsSaid 0 []) (expect kind.OpenParen ts) _ (λ w us.
    behind (IsSaid 1 []) (IsSaid 0 []) (checked (room_for_instance (left ts) d) us) _ (of_check (IsSaid 1 []) (room_for_instance (left ts) d) us (room_said (left ts) d h)) (λ more m vs. terminals_said k None (left ts) more m vs))

one_gate_said : (k : Gate) (d : Draft) → IsSaid 0 [] d → (ts : List Token) → Yields (IsSaid 0 []) (one_gate k d ts)
unfolding one_gate
one_gate_said k d h ts = either (IsSaid 0 []) (sees kind.Name ts) _ _ (named_gate_said k d h ts) (unnamed_gate_said k d h ts)

gates_of : (n : ℕ) (k : Gate) (d : Draft) → IsSaid 0 [] d → (ts : List Token) → Yields (IsSaid 0 []) (gates_from n k d ts)
unfolding gates_from
gates_of zero k d h ts = tt
gates_of (suc n) k d h ts =
    behind (IsSaid 0 []) (IsSaid 0 []) (one_gate k d ts) _ (one_gate_said k d h ts) (λ more m us.
    passed (IsSaid 0 []) (eat kind.Comma us) _ (λ comma vs. turns (IsSaid 0 []) comma more (gates_from n k more) m (λ ws. gates_of n k more m ws) vs))

gates_all : (k : Gate) (d : Draft) → IsSaid 0 [] d → (ts : List Token) → Yields (IsSaid 0 []) (gates k d ts)
unfolding gates
gates_all k d h ts = gates_of (left ts) k d h ts

gate_item_said : (k : Gate) (d : Draft) → IsSaid 0 [] d → (ts : List Token) → Yields (IsSaid 0 []) (gate_item k d ts)
unfolding gate_item
gate_item_said k d h ts =
    behind (IsSaid 0 []) (IsSaid 0 []) (gates k d (next ts)) _ (gates_all k d h (next ts)) (λ more m us.
    passed (IsSaid 0 []) (expect kind.Semicolon us) _ (λ w vs. m))

-- ---- cells

pin_signal_said : (word : Text) (cell : Cell) (place : ℕ) (d : Draft) (pin : ℕ) → IsSaid 1 (word ∷ []) d → (ts : List Token) → Yields (SaidFirst 1 (word ∷ [])) (pin_signal cell place d pin ts)
unfolding pin_signal
pin_signal_said word cell place d pin h ts =
    behind (SaidFirst 1 (word ∷ [])) (SaidFirst 1 (word ∷ [])) (expression _ d ts) _ (expression_said 1 (word ∷ []) _ d h ts) (λ o m us. one_said 1 (word ∷ []) place o.0 o.1 m us)

pin_content_said : (word : Text) (cell : Cell) (place : ℕ) (d : Draft) (pin : ℕ) → IsSaid 1 (word ∷ []) d → (ts : List Token) → Yields (SaidFirst 1 (word ∷ [])) (pin_content cell place d pin ts)
unfolding pin_content
pin_content_said word cell place d pin h ts = either (SaidFirst 1 (word ∷ [])) (sees kind.CloseParen ts) _ _ h (pin_signal_said word cell place d pin h ts)

connection_said : (word : Text) (cell : Cell) (c : Connected) → IsSaid 1 (word ∷ []) c.0 → (ts : List Token) → Yields (SaidFirst 1 (word ∷ [])) (named_connection cell c ts)
unfolding named_connection
connection_said word cell c h ts =
    passed (SaidFirst 1 (word ∷ [])) (expect kind.Point ts) _ (λ w us.
    passed (SaidFirst 1 (word ∷ [])) (connected_pin cell c.1 us) _ (λ pin vs.
    passed (SaidFirst 1 (word ∷ [])) (expect kind.OpenParen vs) _ (λ w ws.
    behind (SaidFirst 1 (word ∷ [])) (SaidFirst 1 (word ∷ [])) (pin_content cell (left ts) c.0 pin ws) _ (pin_content_said word cell (left ts) c.0 pin h ws) (λ to m xs.
    passed (SaidFirst 1 (word ∷ [])) (expect kind.CloseParen xs) _ (λ w ys. m)))))

connections_of : (word : Text) (n : ℕ) (cell : Cell) (c : Connected) → IsSaid 1 (word ∷ []) c.0 → (ts : List Token) → Yields (SaidFirst 1 (word ∷ [])) (named_connections_from n cell c ts)
unfolding named_connections_from
connections_of word zero cell c h ts = tt
connections_of word (suc n) cell c h ts =
    behind (SaidFirst 1 (word ∷ [])) (SaidFirst 1 (word ∷ [])) (named_connection cell c ts) _ (connection_said word cell c h ts) (λ more m us.
    passed (SaidFirst 1 (word ∷ [])) (eat kind.Comma us) _ (λ comma vs. turns (SaidFirst 1 (word ∷ [])) comma more (named_connections_from n cell more) m (λ ws. connections_of word n cell more m ws) vs))

some_said : (word : Text) (cell : Cell) (c : Connected) → IsSaid 1 (word ∷ []) c.0 → (ts : List Token) → Yields (SaidFirst 1 (word ∷ [])) (named_connections cell c ts)
unfolding named_connections
some_said word cell c h ts = connections_of word (left ts) cell c h ts

connections_said : (word : Text) (cell : Cell) (c : Connected) → IsSaid 1 (word ∷ []) c.0 → (ts : List Token) → Yields (SaidFirst 1 (word ∷ [])) (connections cell c ts)
unfolding connections
connections_said word cell c h ts = either (SaidFirst 1 (word ∷ [])) (sees kind.CloseParen ts) _ _ h (some_said word cell c h ts)

cell_said : (id : CellId) (cell : Cell) (d : Draft) → IsSaid 0 [] d → (ts : List Token) → Yields (IsSaid 0 []) (instance id cell d ts)
unfolding instance
cell_said id cell d h ts =
    passed (IsSaid 0 []) (expect kind.Name ts) _ (λ word us.
    behind (IsSaid 1 (word ∷ [])) (IsSaid 0 []) (checked (name_instance (left ts) word d) us) _ (of_check (IsSaid 1 (word ∷ [])) (name_instance (left ts) word d) us (name_said (left ts) word d h)) (λ named m vs.
    passed (IsSaid 0 []) (expect kind.OpenParen vs) _ (λ w ws.
    behind (SaidFirst 1 (word ∷ [])) (IsSaid 0 []) (connections cell (named, unjoined cell) ws) _ (connections_said word cell (named, unjoined cell) m ws) (λ c n xs.
    passed (IsSaid 0 []) (expect kind.CloseParen xs) _ (λ w ys. instance_said (cell_instance id word c.1) c.0 n)))))

cells_of : (n : ℕ) (id : CellId) (cell : Cell) (d : Draft) → IsSaid 0 [] d → (ts : List Token) → Yields (IsSaid 0 []) (instances_from n id cell d ts)
unfolding instances_from
cells_of zero id cell d h ts = tt
cells_of (suc n) id cell d h ts =
    behind (IsSaid 0 []) (IsSaid 0 []) (instance id cell d ts) _ (cell_said id cell d h ts) (λ more m us.
    passed (IsSaid 0 []) (eat kind.Comma us) _ (λ comma vs. turns (IsSaid 0 []) comma more (instances_from n id cell more) m (λ ws. cells_of n id cell more m ws) vs))

cells_all : (id : CellId) (cell : Cell) (d : Draft) → IsSaid 0 [] d → (ts : List Token) → Yields (IsSaid 0 []) (instances id cell d ts)
unfolding instances
cells_all id cell d h ts =
    behind (IsSaid 0 []) (IsSaid 0 []) (instances_from (left ts) id cell d ts) _ (cells_of (left ts) id cell d h ts) (λ more m us.
    passed (IsSaid 0 []) (expect kind.Semicolon us) _ (λ w vs. m))

cells_by : (id : CellId) (cell : Option Cell) (d : Draft) → IsSaid 0 [] d → (ts : List Token) → Yields (IsSaid 0 []) (instances_of id cell d ts)
cells_by id None d h ts = tt
cells_by id (Some cell) d h ts = cells_all id cell d h ts

cells_named : (place : ℕ) (id : Option CellId) (d : Draft) → IsSaid 0 [] d → (ts : List Token) → Yields (IsSaid 0 []) (instances_named place id d ts)
cells_named place None d h ts = tt
cells_named place (Some id) d h ts = cells_by id (slice_get d.library id.0) d h ts

cell_item_said : (d : Draft) → IsSaid 0 [] d → (ts : List Token) → Yields (IsSaid 0 []) (cell_item d ts)
unfolding cell_item
cell_item_said d h ts = passed (IsSaid 0 []) (expect kind.Name ts) _ (λ word us. cells_named (left ts) (find_cell d.library word) d h us)

-- ---- items

gate_or_cell_said : (k : Option Gate) (d : Draft) → IsSaid 0 [] d → (ts : List Token) → Yields (IsSaid 0 []) (gate_or_cell k d ts)
gate_or_cell_said (Some k) d h ts = gate_item_said k d h ts
gate_or_cell_said None d h ts = cell_item_said d h ts

item_of_said : (k : TokenKind) (d : Draft) → IsSaid 0 [] d → (ts : List Token) → Yields (IsSaid 0 []) (item_of k d ts)
item_of_said kind.Name d h ts = gate_or_cell_said (gate_kind kind.Name) d h ts
item_of_said kind.Module d h ts = gate_or_cell_said (gate_kind kind.Module) d h ts
item_of_said kind.Endmodule d h ts = gate_or_cell_said (gate_kind kind.Endmodule) d h ts
item_of_said kind.Input d h ts = port_item_said dir.Input d h ts
item_of_said kind.Output d h ts = port_item_said dir.Output d h ts
item_of_said kind.Inout d h ts = gate_or_cell_said (gate_kind kind.Inout) d h ts
item_of_said kind.Wire d h ts = wire_item_said d h ts
item_of_said kind.Assign d h ts = assign_item_said d h ts
item_of_said kind.And d h ts = gate_or_cell_said (gate_kind kind.And) d h ts
item_of_said kind.Nand d h ts = gate_or_cell_said (gate_kind kind.Nand) d h ts
item_of_said kind.Or d h ts = gate_or_cell_said (gate_kind kind.Or) d h ts
item_of_said kind.Nor d h ts = gate_or_cell_said (gate_kind kind.Nor) d h ts
item_of_said kind.Xor d h ts = gate_or_cell_said (gate_kind kind.Xor) d h ts
item_of_said kind.Xnor d h ts = gate_or_cell_said (gate_kind kind.Xnor) d h ts
item_of_said kind.Buf d h ts = gate_or_cell_said (gate_kind kind.Buf) d h ts
item_of_said kind.Not d h ts = gate_or_cell_said (gate_kind kind.Not) d h ts
item_of_said kind.Reserved d h ts = gate_or_cell_said (gate_kind kind.Reserved) d h ts
item_of_said kind.Number d h ts = gate_or_cell_said (gate_kind kind.Number) d h ts
item_of_said kind.Base d h ts = gate_or_cell_said (gate_kind kind.Base) d h ts
item_of_said kind.Digits d h ts = gate_or_cell_said (gate_kind kind.Digits) d h ts
item_of_said kind.OpenParen d h ts = gate_or_cell_said (gate_kind kind.OpenParen) d h ts
item_of_said kind.CloseParen d h ts = gate_or_cell_said (gate_kind kind.CloseParen) d h ts
item_of_said kind.Comma d h ts = gate_or_cell_said (gate_kind kind.Comma) d h ts
item_of_said kind.Semicolon d h ts = gate_or_cell_said (gate_kind kind.Semicolon) d h ts
item_of_said kind.Point d h ts = gate_or_cell_said (gate_kind kind.Point) d h ts
item_of_said kind.Equals d h ts = gate_or_cell_said (gate_kind kind.Equals) d h ts
item_of_said kind.OpenBracket d h ts = gate_or_cell_said (gate_kind kind.OpenBracket) d h ts
item_of_said kind.CloseBracket d h ts = gate_or_cell_said (gate_kind kind.CloseBracket) d h ts
item_of_said kind.Colon d h ts = gate_or_cell_said (gate_kind kind.Colon) d h ts
item_of_said kind.OpenBrace d h ts = gate_or_cell_said (gate_kind kind.OpenBrace) d h ts
item_of_said kind.CloseBrace d h ts = gate_or_cell_said (gate_kind kind.CloseBrace) d h ts
item_of_said kind.Directive d h ts = gate_or_cell_said (gate_kind kind.Directive) d h ts
item_of_said kind.Other d h ts = gate_or_cell_said (gate_kind kind.Other) d h ts
item_of_said kind.Illegal d h ts = gate_or_cell_said (gate_kind kind.Illegal) d h ts
item_of_said kind.Unclosed d h ts = gate_or_cell_said (gate_kind kind.Unclosed) d h ts
item_of_said kind.End d h ts = gate_or_cell_said (gate_kind kind.End) d h ts

pub item_said : (d : Draft) → IsSaid 0 [] d → (ts : List Token) → Yields (IsSaid 0 []) (item d ts)
unfolding item
item_said d h ts = item_of_said (kind_of ts) d h ts

items_of : (n : ℕ) (d : Draft) → IsSaid 0 [] d → (ts : List Token) → Yields (IsSaid 0 []) (items_from n d ts)
unfolding items_from
items_of zero d h ts = h
items_of (suc n) d h ts =
    either (IsSaid 0 []) (sees kind.Endmodule ts) _ _ h (behind (IsSaid 0 []) (IsSaid 0 []) (item d ts) _ (item_said d h ts) (λ more m us. items_of n more m us))

items_said : (d : Draft) → IsSaid 0 [] d → (ts : List Token) → Yields (IsSaid 0 []) (items d ts)
unfolding items
items_said d h ts = items_of (left ts) d h ts

-- ---- the whole text

declared_end : (place : ℕ) (d : Draft) (o : Option Text) → IsSaid 0 [] d → (ts : List Token) → Yields (IsSaid 0 []) (all_declared place d o ts)
declared_end place d None h ts = h
declared_end place d (Some word) h ts = tt

pub module_end_said : (d : Draft) → IsSaid 0 [] d → (ts : List Token) → Yields (IsSaid 0 []) (module_end d ts)
unfolding module_end
module_end_said d h ts = passed (IsSaid 0 []) (expect kind.Endmodule ts) _ (λ w us. declared_end (left ts) d (first_undeclared d.ports) h us)

end_said : (d : Draft) → IsSaid 0 [] d → (ts : List Token) → Yields (IsSaid 0 []) (end_of_text d ts)
unfolding end_of_text
end_said d h ts = either (IsSaid 0 []) (sees kind.End ts) _ _ h tt

module_said : (library : List Cell) (ts : List Token) → Yields (IsSaid 0 []) (module_text library ts)
unfolding module_text
module_said library ts =
    behind (IsSaid 0 []) (IsSaid 0 []) (heading library ts) _ (heading_said library ts) (λ start h us.
    behind (IsSaid 0 []) (IsSaid 0 []) (items start us) _ (items_said start h us) (λ more m vs.
    behind (IsSaid 0 []) (IsSaid 0 []) (module_end more vs) _ (module_end_said more m vs) (λ whole n ws. end_said whole n ws)))

buildable_by : (o : Outcome Draft) (d : Draft) → Yields (IsSaid 0 []) o → parser.value_of o ≡ Ok d → IsBuildable d
buildable_by (Ok p) d h e = let same : p.0 ≡ d = cc in said_is_buildable d (subst (IsSaid 0 []) same h)
buildable_by (Err f) d h e = absurd (cc)

pub modules_buildable : ModulesAreBuildable
unfolding module_of
modules_buildable library text d said = buildable_by (module_text library (tokens text)) d (module_said library (tokens text)) said
