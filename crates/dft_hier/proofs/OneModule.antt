-- A text of one module gives the design that it stands for alone, and what a text gives is over the cells that it was read over.
use Rattle.std.proofs.Common.{◌≡◌, ℕ, zero, suc, ◌+◌, Bool, true, false, not, ◌||◌, cond, List, [], ◌∷◌, ◌++◌, length, map, drop, find, get_or, slice_get, Option, Some, None, option_map, Ok, Err, inl, inr, refl, sym, ap, ap₂, ◌∙◌, subst, arith, length-append, append-nil}
use Rattle.std.specs.List.{list_any}
use Rattle.std.specs.Str.{bytes_eq}
use Rattle.std.proofs.lemmas.List.{drop_at, length-map, take_rest}
use Rattle.std.proofs.lemmas.List.Elements.{All-cons, All-nil}
use Rattle.dft_base.specs.Lexing.{Text}
use Rattle.dft_base.specs.Ranges.{going_up}
use Rattle.dft_cells.specs.declared.cell.Cell.{Cell}
use Rattle.dft_cells.specs.Cells.{find_cell}
use Rattle.dft_netlist.specs.declared.ids.NetId.{NetId}
use Rattle.dft_netlist.specs.declared.error.NetlistError.{NetlistError}
use Rattle.dft_netlist.specs.declared.error.NetlistError.TheVariants as netlist
use Rattle.dft_netlist.specs.declared.instance.Signal.{Signal}
use Rattle.dft_netlist.specs.declared.instance.Signal.TheVariants as signal
use Rattle.dft_netlist.specs.declared.instance.Instance.{Instance}
use Rattle.dft_netlist.specs.declared.instance.Join.{Join}
use Rattle.dft_netlist.specs.declared.port.Port.{Port}
use Rattle.dft_netlist.specs.Building.{empty_netlist, instance_refusal, net_refusal, port_of, port_refusal}
use Rattle.dft_netlist.specs.Names.{bit_names}
use Rattle.dft_netlist.specs.Netlist.{Netlist}
use Rattle.dft_netlist.specs.NetNumbers.{nets_from}
use Rattle.dft_netlist.specs.Sound.{bit_names_of}
use Rattle.dft_netlist.proofs.BitLemmas.{up_length}
use Rattle.dft_netlist_text.specs.declared.text.Declared.{Declared}
use Rattle.dft_netlist_text.specs.Modules.{Draft, HeaderPort, net_count}
use Rattle.dft_netlist_text.specs.NetlistText.{Grown, StandsFor, unless_refused, and_grown, add_nets, add_joins, final_join, final_net, final_signal, names_of_others, nets_of_port, nets_of_ports, net_order, built}
use Rattle.dft_netlist_text.specs.NetlistText as one
use Rattle.dft_modules.specs.declared.module.SubInstance.{SubInstance}
use Rattle.dft_modules.specs.Laws.{AreNew}
use Rattle.dft_modules.specs.Modules.{Module}
use Rattle.dft_modules.specs.ModuleTexts.{module_said, port_said, ports_said, names_in_order, signal_by, join_said, cell_said}
use Rattle.dft_verilog_draft.proofs.DeclareLemmas.{length-bit_names}
use Rattle.dft_modules.specs.ModuleTexts.{modules_of}
use Rattle.dft_verilog.specs.Built.{CannotBuild, IsBuilt, IsRefusedAs}
use Rattle.dft_verilog.specs.TextsSaid.{IsAlone}
use Rattle.dft_verilog.proofs.KeptModuleLemmas.{said_are_modules}
use Rattle.dft_verilog.proofs.LoneModuleLemmas.{lone, says_lone}
use Rattle.dft_verilog.proofs.SaidPartLemmas.{names_of_all}
use Rattle.dft_hier.specs.Hierarchy.{subs_of, all_subs, find_module, has_instance_of}
use Rattle.dft_hier.specs.Flat.{Giving, Parts, add_ports, add_instances, add_parts, flat_netlist, flat_parts, item_parts, moved, moved_instance, parts_within}
use Rattle.dft_hier.specs.Laid.{told_of}
use Rattle.dft_hier.specs.Laws.{GivenAreOver, Gives, OneModuleGives}
use Rattle.dft_hier.specs.Moving.{with_joins}
use Rattle.dft_hier.specs.Refusals.{IsBelow, Within as BelowWithin, Deeper as BelowDeeper, IsJoinable, IsFlatRefused, Part as FlatPart, Whole as FlatWhole, CannotFlatten, first_misfit}
use Rattle.dft_hier.proofs.FlattenLemmas.{map_same, ports_nets}
use Rattle.dft_hier.proofs.OneForOne.{top_there}

-- ---- one module alone is a hierarchy

-- the module of a name is the only one there is
only_module : (m x : Module) (name : Text) → find_module (m ∷ []) name ≡ Some x → m ≡ x
only_module m x name is = by (bytes_eq m.name name) is
  where
    by : (b : Bool) → cond b (Some m) None ≡ Some x → m ≡ x
    by true is = cc
    by false is = absurd (let f : ⊥ = cc in f)

-- a module without module instances has an instance of none
has_none : (m : Module) (name : Text) → subs_of m.items ≡ [] → has_instance_of m name ≡ false
has_none m name none = ap (λ (ss : List SubInstance). list_any (λ (s : SubInstance). bytes_eq s.of name) ss) none

has_no : (m x : Module) (name : Text) → subs_of m.items ≡ [] → m ≡ x → has_instance_of x name ≡ true → ⊥
has_no m x name none same has =
    let no : has_instance_of x name ≡ false = subst (λ (y : Module). has_instance_of y name ≡ false) same (has_none m name none) in
    let f : true ≡ false = sym has ∙ no in
    cc

none_below : (m : Module) (above below : Text) → subs_of m.items ≡ [] → IsBelow (m ∷ []) above below → ⊥
none_below m above below none (BelowWithin {m = x} found has) = has_no m x below none (only_module m x above found) has
none_below m above below none (BelowDeeper {between = between} {m = x} found has more) = has_no m x between none (only_module m x above found) has

no_subs : (m : Module) → subs_of m.items ≡ [] → all_subs (m ∷ []) ≡ []
no_subs m none = ap (λ (ss : List SubInstance). ss ++ []) none

alone_joinable : (m : Module) → subs_of m.items ≡ [] → IsJoinable (m ∷ []) m
alone_joinable m none =
    let ms : List Module = m ∷ [] in
    record {
      hierarchy = record {
        known = ap (find _) (no_subs m none);
        apart = All-cons (λ (x : Module). IsBelow ms x.name x.name → ⊥) m [] (none_below m m.name m.name none) (All-nil (λ (x : Module). IsBelow ms x.name x.name → ⊥));
        one = ap (λ (b : Bool). cond (not (b || false)) (m ∷ []) []) (has_none m m.name none);
      };
      fitting = ap (first_misfit ms) (no_subs m none);
    }

-- ---- what the items of a module without module instances give

moved_none : (order : List ℕ) (s : Signal) → moved 0 (signal_by (final_net order) s) ≡ final_signal order s
moved_none order (signal.Net net) = let same : 0 + (final_net order net).0 ≡ (final_net order net).0 = omega arith in ap (λ (n : ℕ). signal.Net (record { 0 = n })) same
moved_none order (signal.Constant bit) = refl
moved_none order signal.Unconnected = refl

pins_same : (order : List ℕ) (pins : List Signal) → map (moved 0) (map (signal_by (final_net order)) pins) ≡ map (final_signal order) pins
pins_same order [] = refl
pins_same order (s ∷ pins) = ap₂ (λ (x : Signal) xs. x ∷ xs) (moved_none order s) (pins_same order pins)

name_same : (name : Option Text) → option_map (λ (word : Text). [] ++ word) name ≡ name
name_same None = refl
name_same (Some word) = refl

-- an instance by the final numbers of its nets
abbrev final_instance : List ℕ → Instance → Instance
final_instance order i = record i { pins = map (final_signal order) i.pins }

instance_same : (order : List ℕ) (i : Instance) → moved_instance [] 0 (record i { pins = map (signal_by (final_net order)) i.pins }) ≡ final_instance order i
instance_same order i = ap₂ (λ (name : Option Text) (pins : List Signal). record { name = name; cell = i.cell; pins = pins }) (name_same i.name) (pins_same order i.pins)

join_same : (order : List ℕ) (j : Join) → record { target = record { 0 = 0 + (final_net order j.target).0 }; source = moved 0 (signal_by (final_net order) j.source) } ≡ final_join order j
join_same order j =
    let same : 0 + (final_net order j.target).0 ≡ (final_net order j.target).0 = omega arith in
    ap₂ (λ (n : ℕ) (s : Signal). record { target = record { 0 = n }; source = s }) same (moved_none order j.source)

-- these joins and instances
abbrev parts_of : List Join → List Instance → Parts
parts_of joins instances = record { nets = []; joins = joins; instances = instances }

cells_give : (give : Giving) (ms : List Module) (next : ℕ) (order : List ℕ) (is : List Instance) → item_parts give ms [] 0 next (map (cell_said (final_net order)) is) ≡ parts_of [] (map (final_instance order) is)
cells_give give ms next order [] = refl
cells_give give ms next order (i ∷ is) =
    ap₂ (λ (x : Instance) (rest : Parts). record { nets = rest.nets; joins = rest.joins; instances = x ∷ rest.instances }) (instance_same order i) (cells_give give ms next order is)

items_give : (give : Giving) (ms : List Module) (next : ℕ) (order : List ℕ) (js : List Join) (is : List Instance)
    → item_parts give ms [] 0 next (map (join_said (final_net order)) js ++ map (cell_said (final_net order)) is) ≡ parts_of (map (final_join order) js) (map (final_instance order) is)
items_give give ms next order [] is = cells_give give ms next order is
items_give give ms next order (j ∷ js) is =
    ap₂ (λ (x : Join) (rest : Parts). record { nets = rest.nets; joins = x ∷ rest.joins; instances = rest.instances }) (join_same order j) (items_give give ms next order js is)

cells_subs : (order : List ℕ) (is : List Instance) → subs_of (map (cell_said (final_net order)) is) ≡ []
cells_subs order [] = refl
cells_subs order (i ∷ is) = cells_subs order is

items_subs : (order : List ℕ) (js : List Join) (is : List Instance) → subs_of (map (join_said (final_net order)) js ++ map (cell_said (final_net order)) is) ≡ []
items_subs order [] is = cells_subs order is
items_subs order (j ∷ js) is = items_subs order js is

-- the module of a lone draft, and its items
abbrev alone : Text → Draft → Module
alone t d = module_said t (lone d)

alone_items : (t : Text) (d : Draft) → (alone t d).items ≡ map (join_said (final_net (net_order d))) d.joins ++ map (cell_said (final_net (net_order d))) d.instances
alone_items t d =
    let number : NetId → NetId = final_net (net_order d) in
    ap₂ (λ (js : List Join) (is : List Instance). map (join_said number) js ++ map (cell_said number) is) (take_rest d.joins 0) (take_rest d.instances 0)

alone_subs : (t : Text) (d : Draft) → subs_of (alone t d).items ≡ []
alone_subs t d = ap subs_of (alone_items t d) ∙ items_subs (net_order d) d.joins d.instances

-- all that the module gives
alone_parts : (t : Text) (d : Draft) → flat_parts (alone t d ∷ []) (alone t d) ≡ record { nets = (alone t d).nets; joins = map (final_join (net_order d)) d.joins; instances = map (final_instance (net_order d)) d.instances }
alone_parts t d =
    let m : Module = alone t d in
    let ms : List Module = m ∷ [] in
    let order : List ℕ = net_order d in
    let give : Parts = item_parts (parts_within 0 ms) ms [] 0 (0 + length m.nets) m.items in
    let same : give ≡ parts_of (map (final_join order) d.joins) (map (final_instance order) d.instances) =
    ap (item_parts (parts_within 0 ms) ms [] 0 (0 + length m.nets)) (alone_items t d) ∙ items_give (parts_within 0 ms) ms (0 + length m.nets) order d.joins d.instances in
    ap₂ (λ (own : List Text) (rest : Parts). record { nets = own ++ rest.nets; joins = rest.joins; instances = rest.instances }) (map_same m.nets) same
    ∙ ap (λ (names : List Text). record { nets = names; joins = map (final_join order) d.joins; instances = map (final_instance order) d.instances }) (append-nil m.nets)

-- ---- it is built as it is alone

then_same : (g : Grown) (f h : Netlist → Grown) → ((n : Netlist) → g ≡ Ok n → f n ≡ h n) → and_grown g f ≡ and_grown g h
then_same (Ok n) f h same = same n refl
then_same (Err why) f h same = refl

ports_by : (first : ℕ) (word : Text) (declared : Option Declared) (rest : List Port) (ports : List HeaderPort) (n : Netlist) → ((x : Netlist) → add_ports rest x ≡ one.add_ports ports x)
    → add_ports (port_said first word declared ++ rest) n ≡ and_grown (one.add_declared n word declared) (one.add_ports ports)
ports_by first word None rest ports n more = more n
ports_by first word (Some declared) rest ports n more = then_same (one.add_port n word declared.dir declared.shape.range) (add_ports rest) (one.add_ports ports) (λ x at. more x)

ports_same : (first : ℕ) (ports : List HeaderPort) (n : Netlist) → add_ports (ports_said first ports) n ≡ one.add_ports ports n
ports_same first [] n = refl
ports_same first (p ∷ ports) n =
    let rest = first + length (nets_of_port p.declared) in
    ports_by first p.name p.declared (ports_said rest ports) ports n (ports_same rest ports)

count_by : (first : ℕ) (word : Text) (declared : Option Declared) (rest : List Port) (more : List ℕ) → length (bit_names_of rest) ≡ length more → length (bit_names_of (port_said first word declared ++ rest)) ≡ length (nets_of_port declared ++ more)
count_by first word None rest more h = h
count_by first word (Some declared) rest more h =
    let range = declared.shape.range in
    let mine = going_up declared.shape.first.0 (net_count range) in
    omega (arith, length-append (bit_names word range) (bit_names_of rest), length-append mine more, length-bit_names word range, up_length declared.shape.first.0 (net_count range))

-- the bits of its ports are as many as their names
bits_count : (first : ℕ) (ports : List HeaderPort) → length (bit_names_of (ports_said first ports)) ≡ length (nets_of_ports ports)
bits_count first [] = refl
bits_count first (p ∷ ports) =
    let rest = first + length (nets_of_port p.declared) in
    count_by first p.name p.declared (ports_said rest ports) (nets_of_ports ports) (bits_count rest ports)

instances_same : (order : List ℕ) (is : List Instance) (n : Netlist) → add_instances (map (final_instance order) is) n ≡ one.add_instances order is n
instances_same order [] n = refl
instances_same order (i ∷ is) n =
    then_same (unless_refused (instance_refusal n i.name) (record n { instances = n.instances ++ final_instance order i ∷ [] })) (add_instances (map (final_instance order) is)) (one.add_instances order is)
    (λ x at. instances_same order is x)

-- the nets behind those of the ports
others_left : (t : Text) (d : Draft) (library : List Cell) (p : Netlist) → add_ports (alone t d).ports (empty_netlist d.name library) ≡ Ok p → drop (length p.nets) (alone t d).nets ≡ names_of_others d
others_left t d library p at =
    let bits = nets_of_ports d.ports in
    let made = (ports_nets (alone t d).ports (empty_netlist d.name library) p at).0 in
    let named = bits_count 0 d.ports in
    let own = length-map bits (λ net. get_or d.nets net []) in
    ap (drop (length p.nets)) (names_of_all d) ∙ drop_at (names_in_order bits d.nets) (names_of_others d) (length p.nets) (omega arith)

alone_built : (t : Text) (d : Draft) (library : List Cell) → d.library ≡ library → flat_netlist (alone t d ∷ []) library (alone t d) ≡ built d
unfolding flat_netlist built
alone_built t d library cells =
    let m : Module = alone t d in
    let order : List ℕ = net_order d in
    let start : Netlist = empty_netlist d.name library in
    let rest : Netlist → Grown = λ (p : Netlist). and_grown (add_nets (names_of_others d) p) (λ (q : Netlist). one.add_instances order d.instances (add_joins order d.joins q)) in
    let plain : Parts → Netlist → Grown = λ (parts : Parts). add_parts parts in
    ap (λ (parts : Parts). and_grown (add_ports m.ports start) (plain parts)) (alone_parts t d)
    ∙ then_same (add_ports m.ports start) (plain (record { nets = m.nets; joins = map (final_join order) d.joins; instances = map (final_instance order) d.instances })) rest (λ p at.
    ap (λ (names : List Text). and_grown (add_nets names p) (λ (q : Netlist). add_instances (map (final_instance order) d.instances) (add_joins order d.joins q))) (others_left t d library p at)
    ∙ then_same (add_nets (names_of_others d) p) (λ (q : Netlist). add_instances (map (final_instance order) d.instances) (add_joins order d.joins q)) (λ (q : Netlist). one.add_instances order d.instances (add_joins order d.joins q))
    (λ q there. instances_same order d.instances (add_joins order d.joins q)))
    ∙ ap (λ (g : Grown). and_grown g rest) (ports_same 0 d.ports start)
    ∙ ap (λ (ls : List Cell). and_grown (one.add_ports d.ports (empty_netlist d.name ls)) rest) (sym cells)

-- ---- names and cells stay

-- of the same name, over the same cells
abbrev Same : (n m : Netlist) → Type 0
Same n m = (m.name ≡ n.name) × (m.library ≡ n.library)

same_then : (a b c : Netlist) → Same a b → Same b c → Same a c
same_then a b c h k = (k.0 ∙ h.0, k.1 ∙ h.1)

step_same : (refusal : Option NetlistError) (n more m : Netlist) (f : Netlist → Grown) → Same n more → (f more ≡ Ok m → Same more m) → and_grown (unless_refused refusal more) f ≡ Ok m → Same n m
step_same None n more m f own rest is = same_then n more m own (rest is)
step_same (Some why) n more m f own rest is = absurd (let g : ⊥ = cc in g)

done_same : (n m : Netlist) → ◌≡◌ {A = Grown} (Ok n) (Ok m) → Same n m
done_same n m is = let f : n ≡ m = cc in (ap (λ (x : Netlist). x.name) (sym f), ap (λ (x : Netlist). x.library) (sym f))

ports_stay : (ports : List Port) (n m : Netlist) → add_ports ports n ≡ Ok m → Same n m
ports_stay [] n m is = done_same n m is
ports_stay (p ∷ ports) n m is =
    let more : Netlist = record n { ports = n.ports ++ port_of p.name p.dir p.range (nets_from (length n.nets) (length (bit_names p.name p.range))) ∷ []; nets = n.nets ++ bit_names p.name p.range } in
    step_same (port_refusal n p.name p.range) n more m (add_ports ports) (refl, refl) (ports_stay ports more m) is

nets_stay : (names : List Text) (n m : Netlist) → add_nets names n ≡ Ok m → Same n m
nets_stay [] n m is = done_same n m is
nets_stay (name ∷ names) n m is =
    let more : Netlist = record n { nets = n.nets ++ name ∷ [] } in
    step_same (net_refusal n name) n more m (add_nets names) (refl, refl) (nets_stay names more m) is

instances_stay : (is : List Instance) (n m : Netlist) → add_instances is n ≡ Ok m → Same n m
instances_stay [] n m added = done_same n m added
instances_stay (i ∷ is) n m added =
    let more : Netlist = record n { instances = n.instances ++ i ∷ [] } in
    step_same (instance_refusal n i.name) n more m (add_instances is) (refl, refl) (instances_stay is more m) added

both_stay : (g : Grown) (f : Netlist → Grown) (n m : Netlist) → ((p : Netlist) → g ≡ Ok p → Same n p) → ((p : Netlist) → f p ≡ Ok m → Same p m) → and_grown g f ≡ Ok m → Same n m
both_stay (Ok p) f n m first more is = same_then n p m (first p refl) (more p is)
both_stay (Err why) f n m first more is = absurd (let e : ⊥ = cc in e)

parts_stay : (parts : Parts) (n m : Netlist) → add_parts parts n ≡ Ok m → Same n m
parts_stay parts n m is =
    both_stay (add_nets (drop (length n.nets) parts.nets) n) (λ (q : Netlist). add_instances parts.instances (with_joins q parts.joins)) n m (nets_stay (drop (length n.nets) parts.nets) n)
    (λ q added. same_then q (with_joins q parts.joins) m (refl, refl) (instances_stay parts.instances (with_joins q parts.joins) m added)) is

-- the flat netlist has its top's name and these cells
flat_same : (ms : List Module) (library : List Cell) (top : Module) (n : Netlist) → flat_netlist ms library top ≡ Ok n → Same (empty_netlist top.name library) n
unfolding flat_netlist
flat_same ms library top n is =
    let start : Netlist = empty_netlist top.name library in
    both_stay (add_ports top.ports start) (add_parts (flat_parts ms top)) start n (ports_stay top.ports start) (λ p added. parts_stay (flat_parts ms top) p n added) is

-- a module of a text has the name of no cell
named_new : (library : List Cell) (before ms : List Module) (k : ℕ) (m : Module) → AreNew library before ms → slice_get ms k ≡ Some m → find_cell library m.name ≡ None
named_new library before [] k m new at = absurd (let f : ⊥ = cc in f)
named_new library before (x ∷ ms) zero m new at = let e : x ≡ m = cc in subst (λ (y : Module). find_cell library y.name ≡ None) e new.0
named_new library before (x ∷ ms) (suc k) m new at = named_new library (before ++ x ∷ []) ms k m new.2 at

-- ---- the laws

pub given_are_over : GivenAreOver
given_are_over library text design gives =
    let flat = gives.flat in
    let there = top_there gives.modules flat.top flat.joinable.hierarchy in
    let new = (said_are_modules library text gives.modules gives.said).1 in
    let same = flat_same gives.modules library flat.top flat.grown flat.parts in
    record {
      cells = ap (λ (n : Netlist). n.library) flat.finished.same ∙ same.1;
      named = ap (find_cell library) (ap (λ (n : Netlist). n.name) flat.finished.same ∙ same.0) ∙ named_new library [] gives.modules there.0 flat.top new there.1;
    }

-- what is built of a draft has its name
built_named : (t : Text) (d : Draft) (n : Netlist) → built d ≡ Ok n → n.name ≡ d.name
built_named t d n is = (flat_same (alone t d ∷ []) d.library (alone t d) n (alone_built t d d.library refl ∙ is)).0

-- a text of one module alone says that module
pub alone_says : (library : List Cell) (text : Text) (d : Draft) → IsAlone library text d → modules_of library text ≡ Ok (alone text d ∷ [])
alone_says library text d a = (says_lone library text d a.said a.named).modules

-- what is built of it is the flat design
pub alone_gives : (library : List Cell) (text : Text) (d : Draft) (design : Netlist) → IsAlone library text d → IsBuilt d design → Gives library text design
alone_gives library text d design a b = record {
  modules = alone text d ∷ [];
  said = alone_says library text d a;
  flat = record {
    top = alone text d;
    joinable = alone_joinable (alone text d) (alone_subs text d);
    grown = b.grown;
    parts = alone_built text d library a.library_is ∙ b.parts;
    finished = b.finished;
  };
}

-- and what cannot be built has none
flat_refused : (library : List Cell) (text : Text) (d : Draft) (why : NetlistError) → IsAlone library text d → IsRefusedAs d why → IsFlatRefused (alone text d ∷ []) library why
flat_refused library text d why a (inl refused) = FlatPart (alone_joinable (alone text d) (alone_subs text d)) (alone_built text d library a.library_is ∙ refused)
flat_refused library text d why a (inr h) = FlatWhole (alone_joinable (alone text d) (alone_subs text d)) (alone_built text d library a.library_is ∙ h.1) h.2

pub alone_refused : (library : List Cell) (text : Text) (d : Draft) (why : NetlistError) → IsAlone library text d → CannotBuild d why → CannotFlatten (alone text d ∷ []) library (told_of why)
alone_refused library text d (netlist.MultipleDrivers net) a h = flat_refused library text d (netlist.MultipleDrivers net) a h
alone_refused library text d (netlist.Loop net) a h = flat_refused library text d (netlist.Loop net) a h
alone_refused library text d (netlist.DuplicateName name) a h = flat_refused library text d (netlist.DuplicateName name) a h
alone_refused library text d (netlist.TooMany what limit) a h = flat_refused library text d (netlist.TooMany what limit) a h
alone_refused library text d (netlist.Memory error) a h = tt

pub one_module_gives : OneModuleGives
one_module_gives library text design stands none =
    let d : Draft = stands.draft in
    let named : design.name ≡ d.name = ap (λ (n : Netlist). n.name) stands.finished.same ∙ built_named text d stands.grown stands.parts in
    let new : find_cell library d.name ≡ None = ap (find_cell library) (sym named) ∙ none in
    alone_gives library text d design (record { said = stands.said; named = new; library_is = (says_lone library text d stands.said new).library_is }) (record { grown = stands.grown; parts = stands.parts; finished = stands.finished })
