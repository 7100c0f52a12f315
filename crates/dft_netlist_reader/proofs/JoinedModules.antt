-- Whatever the modules of a text say, their gates are joined at every pin.
use Rattle.std.proofs.Common.{◌≡◌, ℕ, zero, suc, ◌-◌, Bool, true, false, cond, List, [], ◌∷◌, ◌++◌, length, map, take, drop, Ok, Err, refl, subst, ◌∙◌}
use Rattle.std.specs.List.{list_all}
use Rattle.std.proofs.lemmas.Bool.{and_from}
use Rattle.dft_base.specs.Lexing.{Text}
use Rattle.dft_base.specs.Parser as parser
use Rattle.dft_base.specs.Parser.{Checked, pure, ◌>>=◌, ◌>>◌}
use Rattle.dft_base.proofs.BitLemmas.{and_first, and_second}
use Rattle.dft_cells.specs.declared.cell.Cell.{Cell}
use Rattle.dft_netlist.specs.declared.instance.Signal.{Signal}
use Rattle.dft_netlist.specs.declared.instance.Signal.TheVariants as signal
use Rattle.dft_netlist.specs.declared.instance.CellRef.{CellRef}
use Rattle.dft_netlist.specs.declared.instance.CellRef.TheVariants as cell_ref
use Rattle.dft_netlist.specs.declared.instance.Instance.{Instance}
use Rattle.dft_netlist.specs.declared.instance.Join.{Join}
use Rattle.dft_netlist_text.specs.declared.text.Fault.{Fault}
use Rattle.dft_netlist_text.specs.declared.text.Meaning.TheVariants as meaning
use Rattle.dft_netlist_text.specs.declared.text.Site.TheVariants as site
use Rattle.dft_netlist_text.specs.declared.text.TokenKind.TheVariants as kind
use Rattle.dft_netlist_text.specs.Lexemes.{Token, tokens}
use Rattle.dft_netlist_text.specs.Steps.{Outcome, Rule, kind_of, left, sees, expect, eat, checked}
use Rattle.dft_netlist_text.specs.Modules.{Draft, is_taken, with_name}
use Rattle.dft_netlist_text.specs.Expressions.{Operand, expression}
use Rattle.dft_netlist_text.specs.Items.{item}
use Rattle.dft_netlist_text.specs.NetlistText.{heading, module_end, net_order, final_net}
use Rattle.dft_netlist_text.proofs.ParserLemmas.{Yields, Gives, behind, passed, either, of_check, turns}
use Rattle.dft_modules.specs.declared.fault.ModulesFault.{ModulesFault}
use Rattle.dft_modules.specs.declared.module.Item.{Item}
use Rattle.dft_modules.specs.declared.module.Item.TheVariants as part
use Rattle.dft_modules.specs.Modules.{Module}
use Rattle.dft_modules.specs.SubInstances.{DraftSub, Said, PortsConnected, named_port, port_content, port_connection, port_connections_from, port_connections, name_sub, sub_instance, sub_instances_from, sub_instances, sub_item, names_module, module_item, module_items_from, module_items, one_module}
use Rattle.dft_modules.specs.ModuleTexts.{Numbering, signal_by, join_said, cell_said, between, parts_between, items_said, module_said, in_module, name_ahead, repeats, next_module, modules_from, modules_of}
use Rattle.dft_verilog_out.specs.Written.{is_joined}
use Rattle.dft_verilog_out.specs.Named.{joins_its_pins, is_joined_gate}
use Rattle.dft_verilog_out.proofs.JoinedDrafts.{AreJoined, IsJoinedDraft, IsJoinedOperand, all_behind, expression_joined}
use Rattle.dft_verilog_out.proofs.JoinedItems.{heading_joined, item_of_joined, module_end_joined}

-- ---- rules of module instances

-- the gates that were said are joined, behind what is between the brackets of a connection
abbrev InContent : List Cell → Operand → Type 0
InContent library o = IsJoinedDraft library o.0

-- behind connections
abbrev InPorts : List Cell → PortsConnected → Type 0
InPorts library c = IsJoinedDraft library c.0

-- in one of several modules
abbrev InSaid : List Cell → Said → Type 0
InSaid library m = IsJoinedDraft library m.draft

-- what one rule does to modules whose gates are joined
abbrev KeepsSaid : List Cell → (Said → Rule Said) → Type 0
KeepsSaid library rule = (m : Said) → InSaid library m → (ts : List Token) → Yields (InSaid library) (rule m ts)

operand_content : (library : List Cell) (o : Outcome Operand) → Yields (IsJoinedOperand library) o → Yields (InContent library) o
operand_content library (Ok p) h = h.0
operand_content library (Err f) h = tt

content_joined : (library : List Cell) (d : Draft) → IsJoinedDraft library d → (ts : List Token) → Yields (InContent library) (port_content d ts)
unfolding port_content
content_joined library d h ts = either (InContent library) (sees kind.CloseParen ts) _ _ h (operand_content library (expression (site.Pin false) d ts) (expression_joined library (site.Pin false) d h ts))

connection_joined : (library : List Cell) (c : PortsConnected) → InPorts library c → (ts : List Token) → Yields (InPorts library) (port_connection c ts)
unfolding port_connection
connection_joined library c h ts =
    passed (InPorts library) (expect kind.Point ts) _ (λ w us.
    passed (InPorts library) (named_port c.1 us) _ (λ named vs.
    passed (InPorts library) (expect kind.OpenParen vs) _ (λ x ws.
    behind (InContent library) (InPorts library) (port_content c.0 ws) _ (content_joined library c.0 h ws) (λ to m xs.
    passed (InPorts library) (expect kind.CloseParen xs) _ (λ y ys. m)))))

connections_of : (library : List Cell) (n : ℕ) (c : PortsConnected) → InPorts library c → (ts : List Token) → Yields (InPorts library) (port_connections_from n c ts)
unfolding port_connections_from
connections_of library zero c h ts = tt
connections_of library (suc n) c h ts =
    behind (InPorts library) (InPorts library) (port_connection c ts) _ (connection_joined library c h ts) (λ more m us.
    passed (InPorts library) (eat kind.Comma us) _ (λ comma vs. turns (InPorts library) comma more (port_connections_from n more) m (λ ws. connections_of library n more m ws) vs))

connections_joined : (library : List Cell) (c : PortsConnected) → InPorts library c → (ts : List Token) → Yields (InPorts library) (port_connections c ts)
unfolding port_connections
connections_joined library c h ts = either (InPorts library) (sees kind.CloseParen ts) _ _ h (connections_of library (left ts) c h ts)

unless_taken : (library : List Cell) (taken : Bool) (f : Fault) (d : Draft) → IsJoinedDraft library d → Gives (IsJoinedDraft library) (cond taken (Err f) (Ok d))
unless_taken library true f d h = tt
unless_taken library false f d h = h

name_joined : (library : List Cell) (place : ℕ) (word : Text) (d : Draft) → IsJoinedDraft library d → Gives (IsJoinedDraft library) (name_sub place word d)
name_joined library place word d h = unless_taken library (is_taken d word) _ (with_name word meaning.Instance d) h

instance_joined : (library : List Cell) (of : Text) → KeepsSaid library (sub_instance of)
unfolding sub_instance
instance_joined library of m h ts =
    passed (InSaid library) (expect kind.Name ts) _ (λ word us.
    behind (IsJoinedDraft library) (InSaid library) (checked (name_sub (left ts) word m.draft) us) _ (of_check (IsJoinedDraft library) (name_sub (left ts) word m.draft) us (name_joined library (left ts) word m.draft h)) (λ named k vs.
    passed (InSaid library) (expect kind.OpenParen vs) _ (λ w ws.
    behind (InPorts library) (InSaid library) (port_connections (named, []) ws) _ (connections_joined library (named, []) k ws) (λ c n xs.
    passed (InSaid library) (expect kind.CloseParen xs) _ (λ x ys. n)))))

instances_of : (library : List Cell) (n : ℕ) (of : Text) → KeepsSaid library (sub_instances_from n of)
unfolding sub_instances_from
instances_of library zero of m h ts = tt
instances_of library (suc n) of m h ts =
    behind (InSaid library) (InSaid library) (sub_instance of m ts) _ (instance_joined library of m h ts) (λ more k us.
    passed (InSaid library) (eat kind.Comma us) _ (λ comma vs. turns (InSaid library) comma more (sub_instances_from n of more) k (λ ws. instances_of library n of more k ws) vs))

instances_joined : (library : List Cell) (of : Text) → KeepsSaid library (sub_instances of)
unfolding sub_instances
instances_joined library of m h ts =
    behind (InSaid library) (InSaid library) (sub_instances_from (left ts) of m ts) _ (instances_of library (left ts) of m h ts) (λ more k us. passed (InSaid library) (expect kind.Semicolon us) _ (λ w vs. k))

sub_item_joined : (library : List Cell) → KeepsSaid library sub_item
unfolding sub_item
sub_item_joined library m h ts = passed (InSaid library) (expect kind.Name ts) _ (λ of us. instances_joined library of m h us)

-- ---- a module

module_item_joined : (library : List Cell) → KeepsSaid library module_item
unfolding module_item item
module_item_joined library m h ts =
    either (InSaid library) (names_module m.draft ts) _ _ (sub_item_joined library m h ts)
    (behind (IsJoinedDraft library) (InSaid library) (item m.draft ts) _ (item_of_joined library (kind_of ts) m.draft h ts) (λ d k us. k))

items_of : (library : List Cell) (n : ℕ) → KeepsSaid library (module_items_from n)
unfolding module_items_from
items_of library zero m h ts = h
items_of library (suc n) m h ts =
    either (InSaid library) (sees kind.Endmodule ts) _ _ h (behind (InSaid library) (InSaid library) (module_item m ts) _ (module_item_joined library m h ts) (λ more k us. items_of library n more k us))

items_joined : (library : List Cell) → KeepsSaid library module_items
unfolding module_items
items_joined library m h ts = items_of library (left ts) m h ts

one_joined : (library : List Cell) (ts : List Token) → Yields (InSaid library) (one_module library ts)
unfolding one_module
one_joined library ts =
    behind (IsJoinedDraft library) (InSaid library) (heading library ts) _ (heading_joined library ts) (λ start h us.
    behind (InSaid library) (InSaid library) (module_items (record { draft = start; subs = [] }) us) _ (items_joined library (record { draft = start; subs = [] }) h us) (λ m k vs.
    behind (IsJoinedDraft library) (InSaid library) (module_end m.draft vs) _ (module_end_joined library m.draft k vs) (λ whole n ws. n)))

-- ---- a module by the final numbers of its nets

-- an item that is a gate is joined at every pin
abbrev pub is_joined_item : Item → Bool
is_joined_item (part.Join j) = true
is_joined_item (part.Cell i) = is_joined_gate i
is_joined_item (part.Sub s) = true

-- the gates among these items are joined
abbrev pub AreItems : List Item → Type 0
AreItems items = list_all is_joined_item items ≡ true

all_taken : {X : Type 0} (p : X → Bool) (n : ℕ) (xs : List X) → list_all p xs ≡ true → list_all p (take n xs) ≡ true
all_taken p zero xs h = refl
all_taken p (suc n) [] h = refl
all_taken p (suc n) (x ∷ xs) h = and_from (p x) (list_all p (take n xs)) (and_first (p x) (list_all p xs) h) (all_taken p n xs (and_second (p x) (list_all p xs) h))

all_left : {X : Type 0} (p : X → Bool) (n : ℕ) (xs : List X) → list_all p xs ≡ true → list_all p (drop n xs) ≡ true
all_left p zero xs h = h
all_left p (suc n) [] h = refl
all_left p (suc n) (x ∷ xs) h = all_left p n xs (and_second (p x) (list_all p xs) h)

by_joined : (number : Numbering) (to : Signal) → is_joined (signal_by number to) ≡ is_joined to
by_joined number (signal.Net net) = refl
by_joined number (signal.Constant bit) = refl
by_joined number signal.Unconnected = refl

pins_joined : (number : Numbering) (pins : List Signal) → list_all is_joined (map (signal_by number) pins) ≡ list_all is_joined pins
pins_joined number [] = refl
pins_joined number (to ∷ pins) = rw (by_joined number to, pins_joined number pins) refl

gate_joined : (number : Numbering) (cell : CellRef) (pins : List Signal) → joins_its_pins cell (map (signal_by number) pins) ≡ joins_its_pins cell pins
gate_joined number (cell_ref.Library id) pins = refl
gate_joined number (cell_ref.Gate kind inputs) pins = pins_joined number pins

joins_are : (number : Numbering) (joins : List Join) → AreItems (map (join_said number) joins)
joins_are number [] = refl
joins_are number (j ∷ joins) = joins_are number joins

cells_are : (number : Numbering) (cells : List Instance) → AreJoined cells → AreItems (map (cell_said number) cells)
cells_are number [] h = refl
cells_are number (i ∷ cells) h =
    and_from (is_joined_item (cell_said number i)) (list_all is_joined_item (map (cell_said number) cells))
    (gate_joined number i.cell i.pins ∙ and_first (is_joined_gate i) (list_all is_joined_gate cells) h) (cells_are number cells (and_second (is_joined_gate i) (list_all is_joined_gate cells) h))

parts_are : (number : Numbering) (d : Draft) (join cell joins cells : ℕ) → AreJoined d.instances → AreItems (parts_between number d join cell joins cells)
parts_are number d join cell joins cells h =
    all_behind is_joined_item (map (join_said number) (between join joins d.joins)) (map (cell_said number) (between cell cells d.instances)) (joins_are number (between join joins d.joins))
    (cells_are number (between cell cells d.instances) (all_taken is_joined_gate (cells - cell) (drop cell d.instances) (all_left is_joined_gate cell d.instances h)))

said_items : (text : Text) (number : Numbering) (d : Draft) (join cell : ℕ) (subs : List DraftSub) → AreJoined d.instances → AreItems (items_said text number d join cell subs)
said_items text number d join cell [] h = parts_are number d join cell (length d.joins) (length d.instances) h
said_items text number d join cell (s ∷ subs) h =
    all_behind is_joined_item (parts_between number d join cell s.joins s.cells) _ (parts_are number d join cell s.joins s.cells h) (said_items text number d s.joins s.cells subs h)

-- ---- the modules of a text

-- the gates of a module are joined
abbrev pub IsJoinedModule : Module → Type 0
IsJoinedModule m = AreItems m.items

-- those of all of these
abbrev pub AreJoinedModules : List Module → Type 0
AreJoinedModules [] = Unit {0}
AreJoinedModules (m ∷ ms) = IsJoinedModule m × AreJoinedModules ms

modules_behind : (before : List Module) (m : Module) → AreJoinedModules before → IsJoinedModule m → AreJoinedModules (before ++ m ∷ [])
modules_behind [] m h k = (k, tt)
modules_behind (x ∷ before) m h k = (h.0, modules_behind before m h.1 k)

-- a value with this property, or a fault of a text of several modules
abbrev YieldsModules : {A : Type 0} → (A → Type 0) → parser.Outcome Token ModulesFault A → Type 0
YieldsModules P (Ok p) = P p.0
YieldsModules P (Err f) = Unit {0}

modules_then : {A B : Type 0} (P : A → Type 0) (Q : B → Type 0) (o : parser.Outcome Token ModulesFault A) (f : A → parser.Parser Token ModulesFault B) → YieldsModules P o → ((a : A) → P a → (ts : List Token) → YieldsModules Q (f a ts)) → YieldsModules Q (parser.and_then o f)
modules_then P Q (Ok p) f h k = k p.0 h p.1
modules_then P Q (Err e) f h k = tt

modules_either : {A : Type 0} (P : A → Type 0) (b : Bool) (x y : parser.Outcome Token ModulesFault A) → YieldsModules P x → YieldsModules P y → YieldsModules P (cond b x y)
modules_either P true x y hx hy = hx
modules_either P false x y hx hy = hy

in_module_joined : (library : List Cell) (o : Outcome Said) → Yields (InSaid library) o → YieldsModules (InSaid library) (in_module o)
in_module_joined library (Ok p) h = h
in_module_joined library (Err f) h = tt

next_joined : (library : List Cell) (names : List Text) (ts : List Token) → YieldsModules (InSaid library) (next_module library names ts)
unfolding next_module
next_joined library names ts = modules_either (InSaid library) (repeats library names ts) _ _ tt (in_module_joined library (one_module library ts) (one_joined library ts))

modules_joined : (n : ℕ) (text : Text) (library : List Cell) (names : List Text) (before : List Module) → AreJoinedModules before → (ts : List Token) → YieldsModules AreJoinedModules (modules_from n text library names before ts)
unfolding modules_from
modules_joined zero text library names before h ts = tt
modules_joined (suc n) text library names before h ts =
    modules_then (InSaid library) AreJoinedModules (next_module library names ts) _ (next_joined library names ts) (λ m k us.
    let made = module_said text m in
    let all = modules_behind before made h (said_items text (final_net (net_order m.draft)) m.draft 0 0 m.subs k.0) in
    modules_either AreJoinedModules (sees kind.End us) _ _ all (modules_joined n text library (names ++ name_ahead ts ∷ []) (before ++ made ∷ []) all us))

modules_by : (o : parser.Outcome Token ModulesFault (List Module)) (ms : List Module) → YieldsModules AreJoinedModules o → parser.value_of o ≡ Ok ms → AreJoinedModules ms
modules_by (Ok p) ms h e = let same : p.0 ≡ ms = cc in subst AreJoinedModules same h
modules_by (Err f) ms h e = absurd (cc)

-- the gates of the modules of a text are joined
pub said_joined : (library : List Cell) (text : Text) (ms : List Module) → modules_of library text ≡ Ok ms → AreJoinedModules ms
unfolding modules_of
said_joined library text ms said = modules_by (modules_from (left (tokens text)) text library [] [] (tokens text)) ms (modules_joined (left (tokens text)) text library [] [] tt (tokens text)) said
