-- The gates of a flat design are those of its modules, so they are joined.
use Rattle.std.proofs.Common.{◌≡◌, ℕ, zero, suc, ◌+◌, Bool, true, false, not, cond, List, [], ◌∷◌, length, map, drop, filter, find, Option, None, Some, Ok, Err, refl, sym, ◌∙◌, subst}
use Rattle.std.specs.List.{list_all, list_any}
use Rattle.std.specs.Str.{bytes_eq}
use Rattle.std.proofs.lemmas.Bool.{and_from}
use Rattle.dft_base.specs.Lexing.{Text}
use Rattle.dft_base.proofs.BitLemmas.{and_first, and_second}
use Rattle.dft_cells.specs.declared.cell.Cell.{Cell}
use Rattle.dft_netlist.specs.declared.error.NetlistError.{NetlistError}
use Rattle.dft_netlist.specs.declared.instance.Signal.{Signal}
use Rattle.dft_netlist.specs.declared.instance.Signal.TheVariants as signal
use Rattle.dft_netlist.specs.declared.instance.CellRef.{CellRef}
use Rattle.dft_netlist.specs.declared.instance.CellRef.TheVariants as cell_ref
use Rattle.dft_netlist.specs.declared.instance.Instance.{Instance}
use Rattle.dft_netlist.specs.declared.port.Port.{Port}
use Rattle.dft_netlist.specs.Building.{empty_netlist, instance_refusal, net_refusal, port_refusal}
use Rattle.dft_netlist.specs.Netlist.{Netlist}
use Rattle.dft_netlist_text.specs.NetlistText.{Grown, unless_refused, and_grown, add_net, add_nets}
use Rattle.dft_modules.specs.declared.module.Item.{Item}
use Rattle.dft_modules.specs.declared.module.Item.TheVariants as part
use Rattle.dft_modules.specs.declared.module.SubInstance.{SubInstance}
use Rattle.dft_modules.specs.Modules.{Module}
use Rattle.dft_hier.specs.Hierarchy.{find_module, has_instance_of, tops}
use Rattle.dft_hier.specs.Flat.{Giving, Parts, moved, moved_instance, sub_parts, item_parts, parts_within, flat_parts, add_ports, add_instances, add_parts, flat_netlist}
use Rattle.dft_verilog_out.specs.Written.{is_joined}
use Rattle.dft_verilog_out.specs.Named.{joins_its_pins, is_joined_gate}
use Rattle.dft_verilog_out.proofs.JoinedDrafts.{AreJoined, all_behind}
use Rattle.dft_verilog_out.proofs.JoinedLemmas.{gates_joined}
use Rattle.dft_netlist_reader.specs.Laws.{FlatAreJoined}
use Rattle.dft_netlist_reader.proofs.JoinedModules.{is_joined_item, AreItems, IsJoinedModule, AreJoinedModules, said_joined}

-- ---- an instance, moved

moved_joined : (first : ℕ) (to : Signal) → is_joined (moved first to) ≡ is_joined to
moved_joined first (signal.Net net) = refl
moved_joined first (signal.Constant bit) = refl
moved_joined first signal.Unconnected = refl

moved_pins : (first : ℕ) (pins : List Signal) → list_all is_joined (map (moved first) pins) ≡ list_all is_joined pins
moved_pins first [] = refl
moved_pins first (to ∷ pins) = rw (moved_joined first to, moved_pins first pins) refl

moved_gate : (first : ℕ) (cell : CellRef) (pins : List Signal) → joins_its_pins cell (map (moved first) pins) ≡ joins_its_pins cell pins
moved_gate first (cell_ref.Library id) pins = refl
moved_gate first (cell_ref.Gate kind inputs) pins = moved_pins first pins

-- ---- what modules give

-- a module of these gives gates that are joined
abbrev GivesJoined : Giving → Type 0
GivesJoined give = (prefix : Text) (first : ℕ) (m : Module) → IsJoinedModule m → AreJoined (give prefix first m).instances

found_joined : (p : Module → Bool) (ms : List Module) → AreJoinedModules ms → (m : Module) → find p ms ≡ Some m → IsJoinedModule m
found_joined p [] h m e = absurd (cc)
found_joined p (x ∷ ms) h m e = by (p x) e (found_joined p ms h.1 m)
  where
    by : (b : Bool) → cond b (Some x) (find p ms) ≡ Some m → (find p ms ≡ Some m → IsJoinedModule m) → IsJoinedModule m
    by true e more = let same : x ≡ m = cc in subst IsJoinedModule same h.0
    by false e more = more e

sub_joined : (give : Giving) (ms : List Module) → GivesJoined give → AreJoinedModules ms → (prefix : Text) (outside first : ℕ) (s : SubInstance) (o : Option Module) → find_module ms s.of ≡ o → AreJoined (sub_parts give prefix outside first s o).instances
sub_joined give ms g h prefix outside first s None e = refl
sub_joined give ms g h prefix outside first s (Some m) e = g _ first m (found_joined (λ (x : Module). bytes_eq x.name s.of) ms h m e)

items_joined : (give : Giving) (ms : List Module) → GivesJoined give → AreJoinedModules ms → (prefix : Text) (first next : ℕ) (items : List Item) → AreItems items → AreJoined (item_parts give ms prefix first next items).instances
items_joined give ms g h prefix first next [] k = refl
items_joined give ms g h prefix first next (part.Join j ∷ items) k = items_joined give ms g h prefix first next items k
items_joined give ms g h prefix first next (part.Cell i ∷ items) k =
    and_from (is_joined_gate (moved_instance prefix first i)) (list_all is_joined_gate (item_parts give ms prefix first next items).instances)
    (moved_gate first i.cell i.pins ∙ and_first (is_joined_gate i) (list_all is_joined_item items) k) (items_joined give ms g h prefix first next items (and_second (is_joined_gate i) (list_all is_joined_item items) k))
items_joined give ms g h prefix first next (part.Sub s ∷ items) k =
    let here = sub_parts give prefix first next s (find_module ms s.of) in
    all_behind is_joined_gate here.instances (item_parts give ms prefix first (next + length here.nets) items).instances (sub_joined give ms g h prefix first next s (find_module ms s.of) refl)
    (items_joined give ms g h prefix first (next + length here.nets) items k)

within_joined : (depth : ℕ) (ms : List Module) → AreJoinedModules ms → GivesJoined (parts_within depth ms)
within_joined zero ms h prefix first m k = refl
within_joined (suc depth) ms h prefix first m k = items_joined (parts_within depth ms) ms (within_joined depth ms h) h prefix first (first + length m.nets) m.items k

-- ---- the flat netlist

-- the gates of a netlist are joined, where no part was refused
abbrev IsJoinedGrown : Grown → Type 0
IsJoinedGrown (Ok n) = AreJoined n.instances
IsJoinedGrown (Err why) = Unit {0}

unless_joined : (o : Option NetlistError) (n : Netlist) → AreJoined n.instances → IsJoinedGrown (unless_refused o n)
unless_joined None n h = h
unless_joined (Some why) n h = tt

and_joined : (g : Grown) (more : Netlist → Grown) → IsJoinedGrown g → ((n : Netlist) → AreJoined n.instances → IsJoinedGrown (more n)) → IsJoinedGrown (and_grown g more)
and_joined (Ok n) more h k = k n h
and_joined (Err why) more h k = tt

ports_joined : (ports : List Port) (n : Netlist) → AreJoined n.instances → IsJoinedGrown (add_ports ports n)
ports_joined [] n h = h
ports_joined (p ∷ ports) n h = and_joined _ (add_ports ports) (unless_joined (port_refusal n p.name p.range) _ h) (λ m k. ports_joined ports m k)

nets_joined : (words : List Text) (n : Netlist) → AreJoined n.instances → IsJoinedGrown (add_nets words n)
nets_joined [] n h = h
nets_joined (word ∷ words) n h = and_joined (add_net n word) (add_nets words) (unless_joined (net_refusal n word) _ h) (λ m k. nets_joined words m k)

instances_joined : (is : List Instance) (n : Netlist) → AreJoined is → AreJoined n.instances → IsJoinedGrown (add_instances is n)
instances_joined [] n j h = h
instances_joined (i ∷ is) n j h =
    let one : is_joined_gate i ≡ true = and_first (is_joined_gate i) (list_all is_joined_gate is) j in
    and_joined _ (add_instances is) (unless_joined (instance_refusal n i.name) _ (all_behind is_joined_gate n.instances (i ∷ []) h (and_from (is_joined_gate i) true one refl))) (λ m k.
    instances_joined is m (and_second (is_joined_gate i) (list_all is_joined_gate is) j) k)

parts_joined : (parts : Parts) (n : Netlist) → AreJoined parts.instances → AreJoined n.instances → IsJoinedGrown (add_parts parts n)
parts_joined parts n j h = and_joined (add_nets (drop (length n.nets) parts.nets) n) _ (nets_joined (drop (length n.nets) parts.nets) n h) (λ nets k. instances_joined parts.instances _ j k)

netlist_joined : (ms : List Module) (library : List Cell) (top : Module) → AreJoinedModules ms → IsJoinedModule top → IsJoinedGrown (flat_netlist ms library top)
unfolding flat_netlist
netlist_joined ms library top h k =
    and_joined (add_ports top.ports (empty_netlist top.name library)) (add_parts (flat_parts ms top)) (ports_joined top.ports (empty_netlist top.name library) refl) (λ n j.
    parts_joined (flat_parts ms top) n (within_joined (length ms) ms h [] 0 top k) j)

grown_by : (g : Grown) (n : Netlist) → IsJoinedGrown g → g ≡ Ok n → AreJoined n.instances
grown_by (Ok m) n h e = let same : m ≡ n = cc in subst (λ (l : Netlist). AreJoined l.instances) same h
grown_by (Err why) n h e = absurd (cc)

-- ---- the design of a text

left_joined : (p : Module → Bool) (ms : List Module) → AreJoinedModules ms → AreJoinedModules (filter p ms)
left_joined p [] h = tt
left_joined p (m ∷ ms) h = by (p m) (left_joined p ms h.1)
  where
    by : (b : Bool) → AreJoinedModules (filter p ms) → AreJoinedModules (cond b (m ∷ filter p ms) (filter p ms))
    by true left = (h.0, left)
    by false left = left

top_joined : (ms : List Module) (top : Module) → AreJoinedModules ms → tops ms ≡ top ∷ [] → IsJoinedModule top
top_joined ms top h one = (subst AreJoinedModules one (left_joined (λ (m : Module). not (list_any (λ other. has_instance_of other m.name) ms)) ms h)).0

pub flat_joined : FlatAreJoined
flat_joined library text n g =
    let flat = g.flat in
    let joined = said_joined library text g.modules g.said in
    let top = top_joined g.modules flat.top joined flat.joinable.hierarchy.one in
    gates_joined n (subst (λ (l : Netlist). AreJoined l.instances) (sym flat.finished.same) (grown_by (flat_netlist g.modules library flat.top) flat.grown (netlist_joined g.modules library flat.top joined top) flat.parts))
