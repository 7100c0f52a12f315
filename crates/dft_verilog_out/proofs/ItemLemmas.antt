-- The rules of items at the tokens of what is written.
use Rattle.std.proofs.Common.{◌≡◌, ℕ, zero, suc, Bool, true, false, List, [], ◌∷◌, ◌++◌, length, Option, Some, None, Ok, slice_get, slice_set, refl, ◌∙◌}
use Rattle.dft_base.specs.declared.place.Range.{Range}
use Rattle.dft_base.specs.Lexing.{Text}
use Rattle.dft_cells.specs.declared.kind.Gate.{Gate}
use Rattle.dft_cells.specs.declared.kind.Gate.TheVariants as primitive
use Rattle.dft_cells.specs.declared.cell.CellId.{CellId}
use Rattle.dft_cells.specs.declared.cell.Cell.{Cell}
use Rattle.dft_cells.specs.Cells.{find_cell}
use Rattle.dft_cells.specs.Pins.{takes_inputs}
use Rattle.dft_netlist.specs.declared.ids.NetId.{NetId}
use Rattle.dft_base.specs.declared.dir.Dir.{Dir}
use Rattle.dft_base.specs.declared.dir.Dir.TheVariants as dir
use Rattle.dft_netlist.specs.declared.instance.Signal.{Signal}
use Rattle.dft_netlist.specs.declared.instance.Signal.TheVariants as signal
use Rattle.dft_netlist_text.specs.declared.text.TokenKind.{TokenKind}
use Rattle.dft_netlist_text.specs.declared.text.TokenKind.TheVariants as kind
use Rattle.dft_netlist_text.specs.declared.text.Site.TheVariants as site
use Rattle.dft_netlist_text.specs.Lexemes.{Token}
use Rattle.dft_netlist_text.specs.Steps.{kind_of, bytes, left, next, same_kind, sees, expect, after}
use Rattle.dft_netlist_text.specs.Modules.{Draft, empty_draft, announce, declare_port, declare_wire, name_instance, room_for_instance, with_instance, with_join}
use Rattle.dft_netlist_text.specs.Expressions.{range_if_any, expression}
use Rattle.dft_netlist_text.specs.Items.{Declaring, Ports, Wires, declare, declared_name, declared_names_from, declared_names, declaration, port_item, wire_item, right_side, net_assignment, net_assignments_from, net_assignments, assign_item, terminal, input_terminals_from, input_terminals, gate_instance, terminals, named_gate, unnamed_gate, one_gate, gates_from, gates, gate_item, Joined, Connected, unjoined, pin_place, pin_drives, was_joined, connected_pin, pin_signal, pin_content, named_connection, named_connections_from, named_connections, connections, cell_instance, instance, instances_from, instances, cell_item, item, items_from, items}
use Rattle.dft_netlist.specs.Sound.{is_primitive}
use Rattle.dft_base.specs.Parser.{value_of}
use Rattle.dft_netlist_text.specs.NetlistText.{announced_name, announced_names_from, announced_names, header_names, header, heading, first_undeclared, module_end, end_of_text, module_text}
use Rattle.dft_verilog_out.proofs.CutLemmas.{token}

-- ---- declarations

names-at : (what : Declaring) (range : Option Range) (d new : Draft) (word : Text) (l m : ℕ) (ts : List Token) → ((us : List Token) → declare what (suc l) word range d us ≡ Ok (new, us))
    → declared_names what range d (token kind.Name word (suc l) ∷ token kind.Semicolon (59 ∷ []) m ∷ ts) ≡ Ok (new, token kind.Semicolon (59 ∷ []) m ∷ ts)
unfolding declared_names declared_names_from declared_name expect sees kind_of same_kind bytes left next after
names-at what range d new word l m ts says = rw (says (token kind.Semicolon (59 ∷ []) m ∷ ts)) refl

pub wire-at : (d new : Draft) (word first : Text) (a l m : ℕ) (ts : List Token) → declare_wire (suc l) word None d ≡ Ok new
    → item d (token kind.Wire first a ∷ token kind.Name word (suc l) ∷ token kind.Semicolon (59 ∷ []) m ∷ ts) ≡ Ok (new, ts)
unfolding item wire_item declaration range_if_any expect sees kind_of same_kind bytes left next after
wire-at d new word first a l m ts says = rw (names-at Wires None d new word l m ts (λ us. rw says refl)) refl

abbrev pub dir_kind : Dir → TokenKind
dir_kind dir.Input = kind.Input
dir_kind dir.Output = kind.Output

port_item-at : (d new : Draft) (dir : Dir) (range : Option Range) (word first : Text) (a l m : ℕ) (vs ts : List Token) → sees kind.Wire vs ≡ false
    → range_if_any vs ≡ Ok (range, token kind.Name word (suc l) ∷ token kind.Semicolon (59 ∷ []) m ∷ ts) → declare_port (suc l) word dir range d ≡ Ok new
    → port_item dir d (token (dir_kind dir) first a ∷ vs) ≡ Ok (new, ts)
unfolding port_item declaration expect sees kind_of same_kind bytes left next after
port_item-at d new dir range word first a l m vs ts other is says =
    rw (other, is, names-at (Ports dir) range d new word l m ts (λ us. rw says refl)) refl

pub port-at : (d new : Draft) (dir : Dir) (range : Option Range) (word first : Text) (a l m : ℕ) (vs ts : List Token) → sees kind.Wire vs ≡ false
    → range_if_any vs ≡ Ok (range, token kind.Name word (suc l) ∷ token kind.Semicolon (59 ∷ []) m ∷ ts) → declare_port (suc l) word dir range d ≡ Ok new
    → item d (token (dir_kind dir) first a ∷ vs) ≡ Ok (new, ts)
unfolding item kind_of
port-at d new dir.Input range word first a l m vs ts = port_item-at d new dir.Input range word first a l m vs ts
port-at d new dir.Output range word first a l m vs ts = port_item-at d new dir.Output range word first a l m vs ts

pub no_range-at : (word : Text) (l : ℕ) (ts : List Token) → range_if_any (token kind.Name word l ∷ ts) ≡ Ok (None, token kind.Name word l ∷ ts)
unfolding range_if_any sees kind_of same_kind
no_range-at word l ts = refl

-- ---- joins

pub join-at : (d : Draft) (target : NetId) (source : Signal) (first : Text) (a l b m : ℕ) (us vs ts : List Token) → left us ≡ suc l
    → expression site.Target d us ≡ Ok ((d, signal.Net target ∷ []), token kind.Equals (61 ∷ []) b ∷ vs)
    → expression site.Source d vs ≡ Ok ((d, source ∷ []), token kind.Semicolon (59 ∷ []) m ∷ ts)
    → item d (token kind.Assign first a ∷ us) ≡ Ok (with_join (record { target = target; source = source }) d, ts)
unfolding item assign_item net_assignments net_assignments_from net_assignment right_side expect sees kind_of same_kind bytes next after
join-at d target source first a l b m us vs ts some t s = rw (some, t, s) refl

-- ---- instances of cells

pub named_connection-at : (cell : Cell) (d new : Draft) (joined : Joined) (pin : ℕ) (word : Text) (to : Signal) (a b c e : ℕ) (us ts : List Token) → pin_place cell word ≡ Some pin
    → was_joined (slice_get joined pin) ≡ false → sees kind.CloseParen us ≡ false
    → expression (site.Pin (pin_drives (slice_get cell.pins pin))) d us ≡ Ok ((new, to ∷ []), token kind.CloseParen (41 ∷ []) e ∷ ts)
    → named_connection cell (d, joined) (token kind.Point (46 ∷ []) a ∷ token kind.Name word b ∷ token kind.OpenParen (40 ∷ []) c ∷ us) ≡ Ok ((new, slice_set joined pin (Some to)), ts)
unfolding named_connection connected_pin pin_content pin_signal expect sees kind_of same_kind bytes left next after
named_connection-at cell d new joined pin word to a b c e us ts at free some is = rw (at, free, some, is) refl

pub cell-at : (d named behind : Draft) (id : CellId) (cell : Cell) (joined : Joined) (word name : Text) (a l b c m : ℕ) (us ts : List Token) → find_cell d.library word ≡ Some id
    → slice_get d.library id.0 ≡ Some cell → name_instance (suc l) name d ≡ Ok named
    → connections cell (named, unjoined cell) us ≡ Ok ((behind, joined), token kind.CloseParen (41 ∷ []) c ∷ token kind.Semicolon (59 ∷ []) m ∷ ts)
    → item d (token kind.Name word a ∷ token kind.Name name (suc l) ∷ token kind.OpenParen (40 ∷ []) b ∷ us) ≡ Ok (with_instance (cell_instance id name joined) behind, ts)
unfolding item cell_item instances instances_from instance expect sees kind_of same_kind bytes left next after
cell-at d named behind id cell joined word name a l b c m us ts found there free joins = rw (found, there, free, joins) refl

-- ---- gates

pub terminals-at : (k : Gate) (d : Draft) (name : Option Text) (output : Signal) (ins : List Signal) (place m e : ℕ) (us vs ts : List Token)
    → terminal true d us ≡ Ok ((d, output), vs) → input_terminals d vs ≡ Ok ((d, ins), token kind.CloseParen (41 ∷ []) m ∷ ts) → takes_inputs k (length ins) ≡ true
    → terminals k name place d us ≡ Ok (with_instance (gate_instance k name output ins) d, ts)
unfolding terminals expect sees kind_of same_kind bytes left next after
terminals-at k d name output ins place m e us vs ts out is fits = rw (out, is, fits) refl

abbrev pub gate_token : Gate → TokenKind
gate_token primitive.Buf = kind.Buf
gate_token primitive.Inv = kind.Not
gate_token primitive.And = kind.And
gate_token primitive.Nand = kind.Nand
gate_token primitive.Or = kind.Or
gate_token primitive.Nor = kind.Nor
gate_token primitive.Xor = kind.Xor
gate_token primitive.Xnor = kind.Xnor
gate_token _ = kind.Other

gate_item-is : (k : Gate) (d : Draft) (first : Text) (a : ℕ) (us : List Token) → is_primitive k ≡ true → item d (token (gate_token k) first a ∷ us) ≡ gate_item k d (token (gate_token k) first a ∷ us)
unfolding item kind_of
gate_item-is primitive.Mux2 d first a us p = absurd (cc)
gate_item-is (primitive.Table number) d first a us p = absurd (cc)
gate_item-is primitive.Tie0 d first a us p = absurd (cc)
gate_item-is primitive.Tie1 d first a us p = absurd (cc)
gate_item-is _ d first a us p = refl

gate_item-named : (k : Gate) (t : TokenKind) (d named new : Draft) (name first : Text) (a l b m : ℕ) (us ts : List Token) → name_instance (suc l) name d ≡ Ok named
    → terminals k (Some name) b named us ≡ Ok (new, token kind.Semicolon (59 ∷ []) m ∷ ts)
    → gate_item k d (token t first a ∷ token kind.Name name (suc l) ∷ token kind.OpenParen (40 ∷ []) b ∷ us) ≡ Ok (new, ts)
unfolding gate_item gates gates_from one_gate named_gate expect sees kind_of same_kind bytes left next after
gate_item-named k t d named new name first a l b m us ts free is = rw (free, is) refl

gate_item-unnamed : (k : Gate) (t : TokenKind) (d new : Draft) (first : Text) (a b m : ℕ) (us ts : List Token) → room_for_instance (suc b) d ≡ Ok d
    → terminals k None (suc b) d us ≡ Ok (new, token kind.Semicolon (59 ∷ []) m ∷ ts)
    → gate_item k d (token t first a ∷ token kind.OpenParen (40 ∷ []) (suc b) ∷ us) ≡ Ok (new, ts)
unfolding gate_item gates gates_from one_gate unnamed_gate expect sees kind_of same_kind bytes left next after
gate_item-unnamed k t d new first a b m us ts free is = rw (free, is) refl

pub gate-named : (k : Gate) (d named new : Draft) (name first : Text) (a l b m : ℕ) (us ts : List Token) → is_primitive k ≡ true → name_instance (suc l) name d ≡ Ok named
    → terminals k (Some name) b named us ≡ Ok (new, token kind.Semicolon (59 ∷ []) m ∷ ts)
    → item d (token (gate_token k) first a ∷ token kind.Name name (suc l) ∷ token kind.OpenParen (40 ∷ []) b ∷ us) ≡ Ok (new, ts)
gate-named k d named new name first a l b m us ts p free is =
    gate_item-is k d first a (token kind.Name name (suc l) ∷ token kind.OpenParen (40 ∷ []) b ∷ us) p ∙ gate_item-named k (gate_token k) d named new name first a l b m us ts free is

pub gate-unnamed : (k : Gate) (d new : Draft) (first : Text) (a b m : ℕ) (us ts : List Token) → is_primitive k ≡ true → room_for_instance (suc b) d ≡ Ok d
    → terminals k None (suc b) d us ≡ Ok (new, token kind.Semicolon (59 ∷ []) m ∷ ts)
    → item d (token (gate_token k) first a ∷ token kind.OpenParen (40 ∷ []) (suc b) ∷ us) ≡ Ok (new, ts)
gate-unnamed k d new first a b m us ts p free is =
    gate_item-is k d first a (token kind.OpenParen (40 ∷ []) (suc b) ∷ us) p ∙ gate_item-unnamed k (gate_token k) d new first a b m us ts free is

pub terminal-at : (drives : Bool) (d : Draft) (to : Signal) (us ts : List Token) → expression (site.Terminal drives) d us ≡ Ok ((d, to ∷ []), ts) → terminal drives d us ≡ Ok ((d, to), ts)
unfolding terminal
terminal-at drives d to us ts is = rw is refl

pub input_terminals_from-more : (n : ℕ) (d : Draft) (to : Signal) (ins : List Signal) (a : ℕ) (us ts : List Token) → expression (site.Terminal false) d us ≡ Ok ((d, to ∷ []), ts)
    → input_terminals_from (suc n) d ins (token kind.Comma (44 ∷ []) a ∷ us) ≡ input_terminals_from n d (ins ++ to ∷ []) ts
unfolding input_terminals_from sees kind_of same_kind next after
input_terminals_from-more n d to ins a us ts is = rw (terminal-at false d to us ts is) refl

pub input_terminals_from-end : (n : ℕ) (d : Draft) (ins : List Signal) (a : ℕ) (us : List Token) → input_terminals_from (suc n) d ins (token kind.CloseParen (41 ∷ []) a ∷ us) ≡ Ok ((d, ins), token kind.CloseParen (41 ∷ []) a ∷ us)
unfolding input_terminals_from sees kind_of same_kind next after
input_terminals_from-end n d ins a us = refl

-- ---- lists of connections

pub connections-none : (cell : Cell) (c : Connected) (a : ℕ) (us : List Token) → connections cell c (token kind.CloseParen (41 ∷ []) a ∷ us) ≡ Ok (c, token kind.CloseParen (41 ∷ []) a ∷ us)
unfolding connections sees kind_of same_kind
connections-none cell c a us = refl

pub connections-some : (cell : Cell) (c : Connected) (a : ℕ) (us : List Token) → connections cell c (token kind.Point (46 ∷ []) a ∷ us) ≡ named_connections_from a cell c (token kind.Point (46 ∷ []) a ∷ us)
unfolding connections named_connections sees kind_of same_kind left
connections-some cell c a us = refl

pub named_connections_from-more : (n : ℕ) (cell : Cell) (c more : Connected) (a : ℕ) (us ts : List Token) → named_connection cell c us ≡ Ok (more, token kind.Comma (44 ∷ []) a ∷ ts)
    → named_connections_from (suc n) cell c us ≡ named_connections_from n cell more ts
unfolding named_connections_from sees kind_of same_kind next after
named_connections_from-more n cell c more a us ts is = rw is refl

pub named_connections_from-end : (n : ℕ) (cell : Cell) (c more : Connected) (a : ℕ) (us ts : List Token) → named_connection cell c us ≡ Ok (more, token kind.CloseParen (41 ∷ []) a ∷ ts)
    → named_connections_from (suc n) cell c us ≡ Ok (more, token kind.CloseParen (41 ∷ []) a ∷ ts)
unfolding named_connections_from sees kind_of same_kind next after
named_connections_from-end n cell c more a us ts is = rw is refl

-- ---- the whole

pub items_from-more : (n : ℕ) (d new : Draft) (us ts : List Token) → sees kind.Endmodule us ≡ false → item d us ≡ Ok (new, ts) → items_from (suc n) d us ≡ items_from n new ts
unfolding items_from
items_from-more n d new us ts other is = rw (other, is) refl

pub items_from-end : (n : ℕ) (d : Draft) (word : Text) (a : ℕ) (us : List Token) → items_from n d (token kind.Endmodule word a ∷ us) ≡ Ok (d, token kind.Endmodule word a ∷ us)
unfolding items_from sees kind_of same_kind
items_from-end zero d word a us = refl
items_from-end (suc n) d word a us = refl

pub names_from-more : (n : ℕ) (d new : Draft) (word : Text) (l a : ℕ) (us : List Token) → announce l word d ≡ Ok new
    → announced_names_from (suc n) d (token kind.Name word l ∷ token kind.Comma (44 ∷ []) a ∷ us) ≡ announced_names_from n new us
unfolding announced_names_from announced_name expect sees kind_of same_kind bytes left next after
names_from-more n d new word l a us is = rw is refl

pub names_from-end : (n : ℕ) (d new : Draft) (word : Text) (l a : ℕ) (us : List Token) → announce l word d ≡ Ok new
    → announced_names_from (suc n) d (token kind.Name word l ∷ token kind.CloseParen (41 ∷ []) a ∷ us) ≡ Ok (new, token kind.CloseParen (41 ∷ []) a ∷ us)
unfolding announced_names_from announced_name expect sees kind_of same_kind bytes left next after
names_from-end n d new word l a us is = rw is refl

pub header_names-none : (d : Draft) (a : ℕ) (us : List Token) → header_names d (token kind.CloseParen (41 ∷ []) a ∷ us) ≡ Ok (d, token kind.CloseParen (41 ∷ []) a ∷ us)
unfolding header_names sees kind_of same_kind
header_names-none d a us = refl

pub header_names-some : (d : Draft) (word : Text) (l : ℕ) (us : List Token) → header_names d (token kind.Name word l ∷ us) ≡ announced_names_from l d (token kind.Name word l ∷ us)
unfolding header_names announced_names sees kind_of same_kind left
header_names-some d word l us = refl

pub heading-at : (library : List Cell) (name first : Text) (d : Draft) (a b c e m : ℕ) (us ts : List Token)
    → header_names (empty_draft name library) us ≡ Ok (d, token kind.CloseParen (41 ∷ []) e ∷ token kind.Semicolon (59 ∷ []) m ∷ ts)
    → heading library (token kind.Module first a ∷ token kind.Name name b ∷ token kind.OpenParen (40 ∷ []) c ∷ us) ≡ Ok (d, ts)
unfolding heading header expect sees kind_of same_kind bytes left next
heading-at library name first d a b c e m us ts is = rw is refl

pub module-at : (library : List Cell) (start whole : Draft) (word : Text) (a : ℕ) (us vs : List Token) → heading library us ≡ Ok (start, vs)
    → items_from (left vs) start vs ≡ Ok (whole, token kind.Endmodule word a ∷ []) → first_undeclared whole.ports ≡ None → value_of (module_text library us) ≡ Ok whole
unfolding module_text items module_end end_of_text expect sees kind_of same_kind bytes next
module-at library start whole word a us vs head rest declared = rw (head, rest, declared) refl
