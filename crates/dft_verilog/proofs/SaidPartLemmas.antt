-- A draft as a module, part by part.
use Rattle.std.proofs.Common.{◌≡◌, ℕ, suc, ◌+◌, ◌*◌, ◌<◌, ◌≤◌, Bool, true, false, cond, nat_lt, filter, List, [], ◌∷◌, ◌++◌, length, map, get_or, Option, Some, None, option_map, unwrap_or, refl, sym, ap, ap₂, subst, ◌∙◌, arith, length-append}
use Rattle.std.specs.List.{All, position}
use Rattle.std.proofs.Math.Path.{fun_ext}
use Rattle.std.proofs.Math.ListN.{get_or-eq_default}
use Rattle.std.proofs.lemmas.Bool.{ne_eqb}
use Rattle.std.proofs.lemmas.Option.{get_or_from_slice_get}
use Rattle.std.proofs.lemmas.Bool.Decides.{nat_tests}
use Rattle.std.proofs.lemmas.List.{append_assoc, append-nil, map-append, length-map, get_or_default}
use Rattle.dft_base.specs.Lexing.{Text}
use Rattle.dft_base.specs.Ranges.{going_up}
use Rattle.dft_base.proofs.ListLemmas.{going_up-append}
use Rattle.dft_netlist.specs.declared.ids.NetId.{NetId}
use Rattle.dft_netlist_text.specs.declared.text.Declared.{Declared}
use Rattle.dft_netlist.specs.declared.instance.Instance.{Instance}
use Rattle.dft_netlist.specs.declared.instance.Join.{Join}
use Rattle.dft_netlist.specs.Building.{port_of}
use Rattle.dft_netlist.specs.NetNumbers.{nets_from}
use Rattle.dft_netlist_text.specs.Modules.{Draft, HeaderPort, net_count}
use Rattle.dft_netlist_text.specs.NetlistText.{nets_of_port, nets_of_ports, other_nets, net_order, names_of_others, final_net}
use Rattle.dft_modules.specs.declared.module.Item.{Item}
use Rattle.dft_modules.specs.Modules.{Module}
use Rattle.dft_modules.specs.SubInstances.{DraftSub}
use Rattle.dft_modules.specs.ModuleTexts.{Numbering, port_said, ports_said, names_in_order, join_said, cell_said, sub_said, between, parts_between, items_said, module_said}
use Rattle.dft_verilog_draft.specs.Drafts.{IsDeclaredWithin}
use Rattle.dft_verilog.specs.FinalNets.{numbers_among, name_unless, without_number, all_numbered, AreFinal}
use Rattle.dft_verilog.specs.SaidParts.{with_nets, with_items, with_port, with_ports, next_number, net_or_first, GivesFinals, named_module, netted_module}
use Rattle.dft_verilog.proofs.NumberingLemmas.{AreBelow, AreBelow-append, AreBelow-count, AreBelow-ports, is_net, position-cons}
use Rattle.dft_verilog.proofs.FinalLemmas.{without_number-others, AreFinal-numbered}

-- ---- parts behind parts

pub with_items-more : (xs ys : List Item) (m : Module) → with_items (xs ++ ys) m ≡ with_items ys (with_items xs m)
with_items-more xs ys m = ap (λ is. record m { items = is }) (sym (append_assoc m.items xs ys))

pub with_nets-more : (xs ys : List Text) (m : Module) → with_nets (xs ++ ys) m ≡ with_nets ys (with_nets xs m)
with_nets-more xs ys m = ap (λ ns. record m { nets = ns }) (sym (append_assoc m.nets xs ys))

pub with_nets-none : (m : Module) → with_nets [] m ≡ m
with_nets-none m = ap (λ ns. record m { nets = ns }) (append-nil m.nets)

pub with_items-none : (m : Module) → with_items [] m ≡ m
with_items-none m = ap (λ is. record m { items = is }) (append-nil m.items)

-- items are added one by one, the first in front of those behind it
pub item_ahead : (item x : Item) (rest : List Item) (m new : Module) → item ≡ x → new ≡ record m { items = m.items ++ item ∷ [] } → with_items rest new ≡ with_items (x ∷ rest) m
item_ahead item x rest m new is h =
    ap (with_items rest) (h ∙ ap (λ (i : Item). with_items (i ∷ []) m) is) ∙ sym (with_items-more (x ∷ []) rest m)

-- the names of a run of nets, with one more
pub run_more : (first bit : ℕ) (names : List Text) → names_in_order (going_up first (bit + 1)) names ≡ names_in_order (going_up first bit) names ++ get_or names (first + bit) [] ∷ []
run_more first bit names =
    ap (λ nets. names_in_order nets names) (going_up-append first bit 1)
    ∙ map-append (λ net. get_or names net []) (going_up first bit) (going_up (first + bit) 1)

-- one net more of a run, by its name
pub run_step : (first bit : ℕ) (names : List Text) (word : Text) (start old new : Module) → first + bit < length names → word ≡ get_or names (first + bit) word
    → old ≡ with_nets (names_in_order (going_up first bit) names) start → new ≡ with_nets (word ∷ []) old → new ≡ with_nets (names_in_order (going_up first (bit + 1)) names) start
run_step first bit names word start old new lt at was grown =
    let done = names_in_order (going_up first bit) names in
    grown
    ∙ ap₂ (λ (m : Module) (w : Text). with_nets (w ∷ []) m) was (at ∙ get_or_default names (first + bit) word [] lt)
    ∙ sym (with_nets-more done (get_or names (first + bit) [] ∷ []) start)
    ∙ ap (λ ns. with_nets ns start) (sym (run_more first bit names))

pub one_net : (word : Text) (old new : Module) → new ≡ with_nets (word ∷ []) old → length new.nets ≡ length old.nets + 1
one_net word old new grown = ap (λ (m : Module). length m.nets) grown ∙ length-append old.nets (word ∷ [])

-- a port that was declared, and its nets
pub declared_step : (names : List Text) (word name : Text) (declared : Declared) (count : ℕ) (bits : List NetId) (old mid new : Module) → name ≡ word → count ≡ net_count declared.shape.range → bits ≡ nets_from (length old.nets) count
    → mid ≡ record old { ports = old.ports ++ port_of name declared.dir declared.shape.range bits ∷ [] } → new ≡ with_nets (names_in_order (going_up declared.shape.first.0 count) names) mid → new ≡ with_port names word (Some declared) old
declared_step names word name declared count bits old mid new named counted numbered ported grown =
    let range = declared.shape.range in
    let made : Text → List NetId → ℕ → Module =
    λ w bs n. record old { ports = old.ports ++ port_of w declared.dir range bs ∷ []; nets = old.nets ++ names_in_order (going_up declared.shape.first.0 n) names } in
    grown
    ∙ ap (with_nets (names_in_order (going_up declared.shape.first.0 count) names)) ported
    ∙ ap (λ w. made w bits count) named
    ∙ ap (λ bs. made word bs count) numbered
    ∙ ap (λ n. made word (nets_from (length old.nets) n) n) counted

-- one port, and then those behind it
pub with_ports-more : (names : List Text) (p : HeaderPort) (ps : List HeaderPort) (m : Module) → with_ports names (p ∷ ps) m ≡ with_ports names ps (with_port names p.name p.declared m)
with_ports-more names p ps m =
    let here = nets_of_port p.declared in
    let count : length (m.nets ++ names_in_order here names) ≡ length m.nets + length here = length-append m.nets (names_in_order here names) ∙ ap (λ n. length m.nets + n) (length-map here (λ net. get_or names net [])) in
    ap₂ (λ ports nets. record m { ports = ports; nets = nets })
    (sym (append_assoc m.ports (port_said (length m.nets) p.name p.declared) (ports_said (length m.nets + length here) ps))
    ∙ ap (λ n. (m.ports ++ port_said (length m.nets) p.name p.declared) ++ ports_said n ps) (sym count))
    (ap (λ ns. m.nets ++ ns) (map-append (λ net. get_or names net []) here (nets_of_ports ps)) ∙ sym (append_assoc m.nets (names_in_order here names) (names_in_order (nets_of_ports ps) names)))

pub with_port-none : (names : List Text) (word : Text) (m : Module) → with_port names word None m ≡ m
with_port-none names word m = ap₂ (λ ports nets. record m { ports = ports; nets = nets }) (append-nil m.ports) (append-nil m.nets)

pub with_ports-none : (names : List Text) (m : Module) → with_ports names [] m ≡ m
with_ports-none names m = ap₂ (λ ports nets. record m { ports = ports; nets = nets }) (append-nil m.ports) (append-nil m.nets)

-- the ports ahead are to be added; so many were, of at most 65,536 nets each
pub record PortsToAdd (names : List Text) (all ahead : List HeaderPort) (index : ℕ) (start now : Module) : Type 0 where
  pub rest : with_ports names ahead now ≡ with_ports names all start
  pub few : length now.nets ≤ 65536 * index
  pub within : index ≤ length all

pub PortsToAdd-more : (names : List Text) (all ahead : List HeaderPort) (p : HeaderPort) (index : ℕ) (start now new : Module) → index < length all → new ≡ with_port names p.name p.declared now → length new.nets ≤ length now.nets + 65536
    → PortsToAdd names all (p ∷ ahead) index start now → PortsToAdd names all ahead (index + 1) start new
PortsToAdd-more names all ahead p index start now new lt grown few h = record {
  rest = ap (with_ports names ahead) grown ∙ sym (with_ports-more names p ahead now) ∙ h.rest;
  few = omega (arith, few, h.few);
  within = omega arith;
}

-- the names of the ports' bits, and then of the others, are those of all nets in their order
pub names_of_all : (d : Draft) → names_in_order (net_order d) d.nets ≡ names_in_order (nets_of_ports d.ports) d.nets ++ names_of_others d
names_of_all d = map-append (λ net. get_or d.nets net []) (nets_of_ports d.ports) (other_nets d)

-- ---- nets that have no number

-- the name of a net, if it has no number, and then those behind it
pub name_ahead : (number : Option NetId) (word : Text) (words : List Text) (numbers : List (Option NetId)) (m new : Module) → new ≡ with_nets (name_unless number word) m
    → with_nets (without_number words numbers) new ≡ with_nets (without_number (word ∷ words) (number ∷ numbers)) m
name_ahead (Some n) word words numbers m new h = ap (with_nets (without_number words numbers)) (h ∙ with_nets-none m)
name_ahead None word words numbers m new h = ap (with_nets (without_number words numbers)) h ∙ sym (with_nets-more (word ∷ []) (without_number words numbers) m)

pub without_none : (words : List Text) → without_number words [] ≡ []
without_none [] = refl
without_none (word ∷ words) = refl

-- the numbers ahead are to be given, from `next` on
pub record NumbersToGive (all ahead : List (Option NetId)) (first next : ℕ) (finals : List NetId) : Type 0 where
  pub rest : finals ++ all_numbered next ahead ≡ all_numbered first all
  pub few : next + length ahead ≤ first + length all

pub NumbersToGive-more : (all ahead : List (Option NetId)) (number : Option NetId) (first next : ℕ) (finals new : List NetId) → new ≡ finals ++ unwrap_or number (record { 0 = next }) ∷ []
    → NumbersToGive all (number ∷ ahead) first next finals → NumbersToGive all ahead first (next_number next number) new
NumbersToGive-more all ahead None first next finals new grown h = record {
  rest = ap (λ (ns : List NetId). ns ++ all_numbered (suc next) ahead) grown ∙ append_assoc finals _ (all_numbered (suc next) ahead) ∙ h.rest;
  few = omega (arith, h.few);
}
NumbersToGive-more all ahead (Some n) first next finals new grown h = record {
  rest = ap (λ (ns : List NetId). ns ++ all_numbered next ahead) grown ∙ append_assoc finals _ (all_numbered next ahead) ∙ h.rest;
  few = omega (arith, h.few);
}

-- ---- numbers of nets that are not there

-- a net above all of a list has no place among them
pub none_there : (count y : ℕ) (nets : List ℕ) → AreBelow count nets → count ≤ y → position (is_net y) nets ≡ None
none_there count y [] below le = refl
none_there count y (net ∷ nets) below le =
    position-cons (is_net y) net nets
    ∙ ap₂ (λ here (more : Option ℕ). cond here (Some 0) (option_map suc more)) (ne_eqb net y (λ same. absurd (omega (arith, below.0)))) (none_there count y nets below.1 le)

below_filter : (p : ℕ → Bool) (keep : Bool) (count net : ℕ) (nets rest : List ℕ) → net < count → AreBelow count rest → AreBelow count (cond keep (net ∷ rest) rest)
below_filter p true count net nets rest here there = (here, there)
below_filter p false count net nets rest here there = there

-- nets that are kept are below what all are
pub AreBelow-filter : (p : ℕ → Bool) (count : ℕ) (nets : List ℕ) → AreBelow count nets → AreBelow count (filter p nets)
AreBelow-filter p count [] h = tt
AreBelow-filter p count (net ∷ nets) h = below_filter p (p net) count net nets (filter p nets) h.0 (AreBelow-filter p count nets h.1)

-- numbers that are final of the nets that are there give the final number of any net
finals_by : (d : Draft) (finals : List NetId) (net : NetId) (there : Bool) → nat_lt net.0 (length d.nets) ≡ there → AreFinal d finals → AreBelow (length d.nets) (nets_of_ports d.ports) → net_or_first finals net ≡ final_net (net_order d) net
finals_by d finals net true lt h below =
    let less : net.0 < length d.nets = grind (arith, nat_tests) in
    get_or_from_slice_get finals net.0 (final_net (net_order d) net) (record { 0 = 0 }) (h.each net less)
finals_by d finals net false lt h below =
    let past : length d.nets ≤ net.0 = grind (arith, nat_tests) in
    let all : AreBelow (length d.nets) (net_order d) =
    AreBelow-append (length d.nets) (nets_of_ports d.ports) (other_nets d) below
    (AreBelow-filter _ (length d.nets) (going_up 0 (length d.nets)) (AreBelow-count (length d.nets) 0 (length d.nets) (omega arith))) in
    get_or-eq_default finals (record { 0 = 0 }) {n = net.0} (omega (arith, h.count))
    ∙ sym (ap (λ (o : Option ℕ). let n : NetId = record { 0 = unwrap_or o 0 } in n) (none_there (length d.nets) net.0 (net_order d) all past))

pub GivesFinals-all : (d : Draft) (finals : List NetId) → AreFinal d finals → AreBelow (length d.nets) (nets_of_ports d.ports) → GivesFinals d finals
GivesFinals-all d finals h below net = finals_by d finals net (nat_lt net.0 (length d.nets)) refl h below

-- ---- items by the numbers that were found

-- where the numbers are final, so are the items
pub items_final : (text : Text) (d : Draft) (subs : List DraftSub) (finals : List NetId) → GivesFinals d finals → items_said text (net_or_first finals) d 0 0 subs ≡ items_said text (final_net (net_order d)) d 0 0 subs
items_final text d subs finals given = ap (λ (number : Numbering). items_said text number d 0 0 subs) (fun_ext given)

-- the parts from one place up to another: the joins, and then the cells
pub parts_step : (number : Numbering) (d : Draft) (join cell joins cells : ℕ) (old mid new : Module) → mid ≡ with_items (map (join_said number) (between join joins d.joins)) old
    → new ≡ with_items (map (cell_said number) (between cell cells d.instances)) mid → new ≡ with_items (parts_between number d join cell joins cells) old
parts_step number d join cell joins cells old mid new joined grown =
    let js = map (join_said number) (between join joins d.joins) in
    let cs = map (cell_said number) (between cell cells d.instances) in
    grown ∙ ap (with_items cs) joined ∙ sym (with_items-more js cs old)

-- the module instances ahead are to be added, each with the joins and cells before it
abbrev pub ItemsToAdd : Text → Numbering → Draft → (all ahead : List DraftSub) → (join cell : ℕ) → (start now : Module) → Type 0
ItemsToAdd text number d all ahead join cell start now = with_items (items_said text number d join cell ahead) now ≡ with_items (items_said text number d 0 0 all) start

pub ItemsToAdd-more : (text : Text) (number : Numbering) (d : Draft) (all ahead : List DraftSub) (s : DraftSub) (join cell joins cells : ℕ) (item : Item) (start now mid new : Module) → joins ≡ s.joins → cells ≡ s.cells
    → mid ≡ with_items (parts_between number d join cell joins cells) now → item ≡ sub_said text number s → new ≡ record mid { items = mid.items ++ item ∷ [] }
    → ItemsToAdd text number d all (s ∷ ahead) join cell start now → ItemsToAdd text number d all ahead joins cells start new
ItemsToAdd-more text number d all ahead s join cell joins cells item start now mid new at_join at_cell parts is grown h =
    let rest = items_said text number d s.joins s.cells ahead in
    let front = parts_between number d join cell s.joins s.cells in
    ap₂ (λ j k. with_items (items_said text number d j k ahead) new) at_join at_cell
    ∙ item_ahead item (sub_said text number s) rest mid new is grown
    ∙ ap (with_items (sub_said text number s ∷ rest)) (parts ∙ ap₂ (λ j k. with_items (parts_between number d join cell j k) now) at_join at_cell)
    ∙ sym (with_items-more front (sub_said text number s ∷ rest) now)
    ∙ h

-- behind them come the parts that are left
pub ItemsToAdd-end : (text : Text) (number : Numbering) (d : Draft) (all ahead : List DraftSub) (join cell : ℕ) (joins : List Join) (cells : List Instance) (start now new : Module) → joins ≡ d.joins → cells ≡ d.instances → ahead ≡ []
    → new ≡ with_items (parts_between number d join cell (length joins) (length cells)) now → ItemsToAdd text number d all ahead join cell start now → new ≡ with_items (items_said text number d 0 0 all) start
ItemsToAdd-end text number d all ahead join cell joins cells start now new js is none parts h =
    parts
    ∙ ap₂ (λ (xs : List Join) (ys : List Instance). with_items (parts_between number d join cell (length xs) (length ys)) now) js is
    ∙ sym (ap (λ (ss : List DraftSub). with_items (items_said text number d join cell ss) now) none)
    ∙ h

-- ---- the whole module

-- ports and nets that are added step by step are those of the draft
pub nets_are : (d : Draft) (numbers : List (Option NetId)) (start ported named : Module) → start ≡ named_module d → numbers ≡ numbers_among (nets_of_ports d.ports) (length d.nets) → ported ≡ with_ports d.nets d.ports start
    → named ≡ with_nets (without_number d.nets numbers) ported → named ≡ netted_module d
nets_are d numbers start ported named begun among ports others =
    let bits = nets_of_ports d.ports in
    let names : names_in_order bits d.nets ++ without_number d.nets numbers ≡ names_in_order (net_order d) d.nets =
    ap (λ ns. names_in_order bits d.nets ++ ns) (ap (without_number d.nets) among ∙ without_number-others d) ∙ sym (names_of_all d) in
    others
    ∙ ap (with_nets (without_number d.nets numbers)) (ports ∙ ap (with_ports d.nets d.ports) begun)
    ∙ ap (λ (ns : List Text). let m : Module = record { name = d.name; ports = ports_said 0 d.ports; nets = ns; items = [] } in m) names

-- and the numbers that are given then are final
pub finals_are : (d : Draft) (numbers : List (Option NetId)) (finals : List NetId) (start ported : Module) → All (λ (p : HeaderPort). IsDeclaredWithin (length d.nets) p.declared) d.ports → start ≡ named_module d
    → numbers ≡ numbers_among (nets_of_ports d.ports) (length d.nets) → ported ≡ with_ports d.nets d.ports start → finals ≡ all_numbered (length ported.nets) numbers → GivesFinals d finals
finals_are d numbers finals start ported within begun among ports all =
    let bits = nets_of_ports d.ports in
    let count : length ported.nets ≡ length bits = ap (λ (m : Module). length m.nets) (ports ∙ ap (with_ports d.nets d.ports) begun) ∙ length-map bits (λ net. get_or d.nets net []) in
    let final : AreFinal d finals = subst (AreFinal d) (sym (all ∙ ap (all_numbered (length ported.nets)) among)) (AreFinal-numbered d (length ported.nets) count) in
    GivesFinals-all d finals final (AreBelow-ports (length d.nets) d.ports within)

-- with its items it is what was said
pub said_whole : (text : Text) (d : Draft) (subs : List DraftSub) (finals : List NetId) (netted made : Module) → netted ≡ netted_module d → GivesFinals d finals → made ≡ with_items (items_said text (net_or_first finals) d 0 0 subs) netted
    → made ≡ module_said text (record { draft = d; subs = subs })
said_whole text d subs finals netted made nets given items =
    items ∙ ap₂ (λ (is : List Item) (m : Module). with_items is m) (items_final text d subs finals given) nets
