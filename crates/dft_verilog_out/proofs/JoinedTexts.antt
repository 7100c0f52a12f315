-- A netlist that a text stands for has its gates joined at every pin, and is over the cells that the text was read with.
use Rattle.std.proofs.Common.{◌≡◌, ℕ, true, List, [], ◌∷◌, map, Option, Some, None, Ok, Err, refl, sym, ◌∙◌, subst}
use Rattle.std.specs.List.{list_all}
use Rattle.std.proofs.lemmas.Bool.{and_from}
use Rattle.dft_base.specs.Lexing.{Text}
use Rattle.dft_base.specs.Parser as parser
use Rattle.dft_base.proofs.BitLemmas.{and_first, and_second}
use Rattle.dft_cells.specs.declared.cell.Cell.{Cell}
use Rattle.dft_netlist.specs.declared.instance.Signal.{Signal}
use Rattle.dft_netlist.specs.declared.instance.Signal.TheVariants as signal
use Rattle.dft_netlist.specs.declared.instance.CellRef.{CellRef}
use Rattle.dft_netlist.specs.declared.instance.CellRef.TheVariants as cell_ref
use Rattle.dft_netlist.specs.declared.instance.Instance.{Instance}
use Rattle.dft_netlist_text.specs.declared.text.Declared.{Declared}
use Rattle.dft_netlist.specs.declared.error.NetlistError.{NetlistError}
use Rattle.dft_netlist.specs.Netlist.{Netlist}
use Rattle.dft_netlist.specs.Building.{empty_netlist, port_refusal, net_refusal, instance_refusal}
use Rattle.dft_netlist_text.specs.Lexemes.{tokens}
use Rattle.dft_netlist_text.specs.Steps.{Outcome}
use Rattle.dft_netlist_text.specs.Modules.{Draft, HeaderPort}
use Rattle.dft_netlist_text.specs.NetlistText.{module_text, module_of, net_order, names_of_others, final_signal, Grown, unless_refused, and_grown, add_declared, add_ports, add_net, add_nets, add_instance, add_instances, add_joins, built, StandsFor}
use Rattle.dft_netlist_text.proofs.ParserLemmas.{Yields}
use Rattle.dft_verilog_out.specs.Written.{is_joined}
use Rattle.dft_verilog_out.specs.Named.{joins_its_pins, is_joined_gate}
use Rattle.dft_verilog_out.specs.Laws.{TextsAreJoined, LibraryIsKept}
use Rattle.dft_verilog_out.proofs.JoinedLemmas.{gates_joined}
use Rattle.dft_verilog_out.proofs.JoinedDrafts.{AreJoined, IsJoinedDraft, all_behind}
use Rattle.dft_verilog_out.proofs.JoinedItems.{module_joined}

-- the gates of a netlist are joined, and it is over these cells
abbrev IsJoinedNetlist : List Cell → Netlist → Type 0
IsJoinedNetlist library n = AreJoined n.instances × (n.library ≡ library)

-- where no part was refused
abbrev IsJoinedGrown : List Cell → Grown → Type 0
IsJoinedGrown library (Ok n) = IsJoinedNetlist library n
IsJoinedGrown library (Err why) = Unit {0}

unless_joined : (library : List Cell) (o : Option NetlistError) (n : Netlist) → IsJoinedNetlist library n → IsJoinedGrown library (unless_refused o n)
unless_joined library None n h = h
unless_joined library (Some why) n h = tt

and_joined : (library : List Cell) (g : Grown) (more : Netlist → Grown) → IsJoinedGrown library g → ((n : Netlist) → IsJoinedNetlist library n → IsJoinedGrown library (more n)) → IsJoinedGrown library (and_grown g more)
and_joined library (Ok n) more h k = k n h
and_joined library (Err why) more h k = tt

declared_joined : (library : List Cell) (n : Netlist) (word : Text) (declared : Option Declared) → IsJoinedNetlist library n → IsJoinedGrown library (add_declared n word declared)
declared_joined library n word None h = h
declared_joined library n word (Some declared) h = unless_joined library (port_refusal n word declared.shape.range) _ h

ports_joined : (library : List Cell) (ports : List HeaderPort) (n : Netlist) → IsJoinedNetlist library n → IsJoinedGrown library (add_ports ports n)
ports_joined library [] n h = h
ports_joined library (port ∷ ports) n h =
    and_joined library (add_declared n port.name port.declared) (add_ports ports) (declared_joined library n port.name port.declared h) (λ m k. ports_joined library ports m k)

nets_joined : (library : List Cell) (words : List Text) (n : Netlist) → IsJoinedNetlist library n → IsJoinedGrown library (add_nets words n)
nets_joined library [] n h = h
nets_joined library (word ∷ words) n h = and_joined library (add_net n word) (add_nets words) (unless_joined library (net_refusal n word) _ h) (λ m k. nets_joined library words m k)

final-joined : (order : List ℕ) (to : Signal) → is_joined (final_signal order to) ≡ is_joined to
final-joined order (signal.Net net) = refl
final-joined order (signal.Constant bit) = refl
final-joined order signal.Unconnected = refl

finals-joined : (order : List ℕ) (pins : List Signal) → list_all is_joined (map (final_signal order) pins) ≡ list_all is_joined pins
finals-joined order [] = refl
finals-joined order (to ∷ pins) = rw (final-joined order to, finals-joined order pins) refl

gate-joined : (order : List ℕ) (cell : CellRef) (pins : List Signal) → joins_its_pins cell (map (final_signal order) pins) ≡ joins_its_pins cell pins
gate-joined order (cell_ref.Library id) pins = refl
gate-joined order (cell_ref.Gate kind inputs) pins = finals-joined order pins

instances_joined : (library : List Cell) (order : List ℕ) (is : List Instance) (n : Netlist) → AreJoined is → IsJoinedNetlist library n → IsJoinedGrown library (add_instances order is n)
instances_joined library order [] n h k = k
instances_joined library order (i ∷ is) n h k =
    let more : Instance = record i { pins = map (final_signal order) i.pins } in
    let one : is_joined_gate more ≡ true = gate-joined order i.cell i.pins ∙ and_first (is_joined_gate i) (list_all is_joined_gate is) h in
    and_joined library (add_instance order n i) (add_instances order is)
    (unless_joined library (instance_refusal n i.name) _ (all_behind is_joined_gate n.instances (more ∷ []) k.0 (and_from (is_joined_gate more) true one refl), k.1))
    (λ m j. instances_joined library order is m (and_second (is_joined_gate i) (list_all is_joined_gate is) h) j)

built_joined : (library : List Cell) (d : Draft) → IsJoinedDraft library d → IsJoinedGrown library (built d)
unfolding built
built_joined library d h =
    and_joined library (add_ports d.ports (empty_netlist d.name d.library)) _ (ports_joined library d.ports (empty_netlist d.name d.library) (refl, h.1)) (λ ports j.
    and_joined library (add_nets (names_of_others d) ports) _ (nets_joined library (names_of_others d) ports j) (λ nets k.
    instances_joined library (net_order d) d.instances (add_joins (net_order d) d.joins nets) h.0 k))

draft_by : (library : List Cell) (o : Outcome Draft) (d : Draft) → Yields (IsJoinedDraft library) o → parser.value_of o ≡ Ok d → IsJoinedDraft library d
draft_by library (Ok p) d h e = let same : p.0 ≡ d = cc in subst (IsJoinedDraft library) same h
draft_by library (Err f) d h e = absurd (cc)

draft_joined : (library : List Cell) (text : Text) (d : Draft) → module_of library text ≡ Ok d → IsJoinedDraft library d
unfolding module_of
draft_joined library text d said = draft_by library (module_text library (tokens text)) d (module_joined library (tokens text)) said

grown_by : (library : List Cell) (g : Grown) (n : Netlist) → IsJoinedGrown library g → g ≡ Ok n → IsJoinedNetlist library n
grown_by library (Ok m) n h e = let same : m ≡ n = cc in subst (IsJoinedNetlist library) same h
grown_by library (Err why) n h e = absurd (cc)

netlist_joined : (library : List Cell) (text : Text) (n : Netlist) → StandsFor library text n → IsJoinedNetlist library n
netlist_joined library text n s =
    subst (IsJoinedNetlist library) (sym s.finished.same) (grown_by library (built s.draft) s.grown (built_joined library s.draft (draft_joined library text s.draft s.said)) s.parts)

pub texts_joined : TextsAreJoined
texts_joined library text n s = gates_joined n (netlist_joined library text n s).0

pub library_kept : LibraryIsKept
library_kept library text n s = (netlist_joined library text n s).1
