-- The nets and instances of a flat design are those at all paths, one for one.
use Rattle.std.proofs.Common.{ℕ, suc, ◌≤◌, ◌≡◌, inl, inr, Bool, true, false, not, cond, List, [], ◌∷◌, ◌++◌, length, drop, map, filter, Option, None, Some, Ok, Err, slice_get, refl, sym, ap, subst, arith, ◌∙◌, length-append, append_assoc, append-nil}
use Rattle.std.specs.List.{list_any}
use Rattle.std.proofs.lemmas.List.{get_or_past, length-drop, length-map}
use Rattle.std.proofs.lemmas.Option.{slice_get_within, get_or_from_slice_get}
use Rattle.std.proofs.lemmas.Bool.{cases_lt}
use Rattle.dft_base.specs.Lexing.{Text}
use Rattle.dft_cells.specs.declared.cell.Cell.{Cell}
use Rattle.dft_netlist.specs.declared.error.NetlistError.{NetlistError}
use Rattle.dft_netlist.specs.declared.instance.Instance.{Instance}
use Rattle.dft_netlist.specs.declared.port.Port.{Port}
use Rattle.dft_netlist.specs.Building.{empty_netlist, instance_refusal, net_refusal, port_of, port_refusal}
use Rattle.dft_netlist.specs.Names.{bit_names}
use Rattle.dft_netlist.specs.Netlist.{Netlist}
use Rattle.dft_netlist.specs.NetNumbers.{nets_from}
use Rattle.dft_netlist.specs.Sound.{bit_names_of}
use Rattle.dft_netlist_text.specs.NetlistText.{Grown, unless_refused, and_grown, add_nets}
use Rattle.dft_modules.specs.Modules.{Module}
use Rattle.dft_hier.specs.Hierarchy.{subs_of, find_module, has_instance_of}
use Rattle.dft_hier.specs.Flat.{Parts, add_ports, add_parts, add_instances, flat_parts, flat_netlist}
use Rattle.dft_hier.specs.FlatNets.{nets_in, subs_nets}
use Rattle.dft_hier.specs.Laws.{FlatIsOneForOne}
use Rattle.dft_hier.specs.Moving.{with_joins}
use Rattle.dft_hier.specs.Numbers.{number_of, numbers_of_subs, children_of}
use Rattle.dft_hier.specs.Paths.{net_spots, instance_spots}
use Rattle.dft_hier.specs.Reach.{Graph, StandsIn, children_at, Leads, Child, Deeper, NoCircle}
use Rattle.dft_hier.specs.Refusals.{IsBelow, Within as BelowWithin, Deeper as BelowDeeper, NoneInItself, IsHierarchy}
use Rattle.dft_hier.proofs.FitLemmas.{children_of_at}
use Rattle.dft_hier.proofs.FlattenLemmas.{ports_nets, nets_keep, bits_within, sound_at}
use Rattle.dft_hier.proofs.HeightLemmas.{IsTall, all_tall}
use Rattle.dft_hier.proofs.InstanceSpotLemmas.{instances_once, instances_all, instances_matched, matched_count, matched_at}
use Rattle.dft_hier.proofs.ItemLemmas.{adds_keep}
use Rattle.dft_hier.proofs.ModuleLemmas.{name_of_number, child_named, child_known, module_at as of_number}
use Rattle.dft_hier.proofs.NumberLemmas.{module_there, number_within, graph_count, graph_within}
use Rattle.dft_hier.proofs.PartLemmas.{StandsTall, tall_module, nets_same, nets_deep_enough}
use Rattle.dft_hier.proofs.ReachLemmas.{stands_none}
use Rattle.dft_hier.proofs.SpotLemmas.{once, nets_once, nets_all, nets_count}

-- ---- a hierarchy stands no deeper than there are modules

-- a module that a list of instances leads to is the first of its name
led_known : (ms : List Module) (i j : ℕ) → Leads (children_of ms) i j → (m : Module) → slice_get ms i ≡ Some m → (name : Text) × (number_of ms name ≡ Some j)
led_known ms i j (Child h) m at = child_known ms (subs_of m.items) j (subst (λ (xs : List ℕ). StandsIn xs j) (children_of_at ms i m at) h)
led_known ms i j (Deeper {between = k} h more) m at =
    let known = child_known ms (subs_of m.items) k (subst (λ (xs : List ℕ). StandsIn xs k) (children_of_at ms i m at) h) in
    let y = of_number ms k (number_within ms known.0 k known.1) in
    led_known ms k j more y.0 y.1

first_named : (ms : List Module) (name : Text) (k : ℕ) (m : Module) → number_of ms name ≡ Some k → slice_get ms k ≡ Some m → find_module ms m.name ≡ Some m
first_named ms name k m is at = ap (find_module ms) (name_of_number ms name k m is at) ∙ sym (module_there ms name k is) ∙ at

below_known : (ms : List Module) (i j : ℕ) → Leads (children_of ms) i j → (m x : Module) → find_module ms m.name ≡ Some m → slice_get ms i ≡ Some m → slice_get ms j ≡ Some x → IsBelow ms m.name x.name
below_known ms i j (Child h) m x found at to = BelowWithin found (child_named ms (subs_of m.items) j x (subst (λ (xs : List ℕ). StandsIn xs j) (children_of_at ms i m at) h) to)
below_known ms i j (Deeper {between = k} h more) m x found at to =
    let below : StandsIn (numbers_of_subs ms (subs_of m.items)) k = subst (λ (xs : List ℕ). StandsIn xs k) (children_of_at ms i m at) h in
    let known = child_known ms (subs_of m.items) k below in
    let y = of_number ms k (number_within ms known.0 k known.1) in
    BelowDeeper found (child_named ms (subs_of m.items) k y.0 below y.1) (below_known ms k j more y.0 x (first_named ms known.0 k y.0 known.1 y.1) y.1 to)

led_none : (g : Graph) (i j : ℕ) → Leads g i j → children_at g i ≡ [] → ⊥
led_none g i j (Child h) none = stands_none j (subst (λ (xs : List ℕ). StandsIn xs j) none h)
led_none g i j (Deeper {between = k} h more) none = stands_none k (subst (λ (xs : List ℕ). StandsIn xs k) none h)

no_circle : (ms : List Module) → NoneInItself ms ms → NoCircle (children_of ms)
no_circle ms none k leads = elim (cases_lt k (length ms)) [
  | inl less ↦ (
      let m = of_number ms k less in
      let known = led_known ms k k leads m.0 m.1 in
      let found = first_named ms known.0 k m.0 known.1 m.1 in
      subst (λ (x : Module). IsBelow ms x.name x.name → ⊥) (get_or_from_slice_get ms k m.0 m.0 m.1) (none k m.0 less) (below_known ms k k leads m.0 m.0 found m.1 m.1))
  | inr past ↦ (
      let size = graph_count ms in
      led_none (children_of ms) k k leads (get_or_past (children_of ms) k [] (omega arith)))
]

among_kept : (p : Module → Bool) (ms : List Module) (t : Module) → filter p ms ≡ t ∷ [] → (k : ℕ) × (slice_get ms k ≡ Some t)
among_kept p [] t is = absurd (let f : ⊥ = cc in f)
among_kept p (x ∷ ms) t is = by (p x) is (among_kept p ms t)
  where
    by : (b : Bool) → cond b (x ∷ filter p ms) (filter p ms) ≡ t ∷ [] → (filter p ms ≡ t ∷ [] → (k : ℕ) × (slice_get ms k ≡ Some t)) → (k : ℕ) × (slice_get (x ∷ ms) k ≡ Some t)
    by true is more = let e : x ≡ t = cc in (0, ap (λ (y : Module). Some y) e)
    by false is more = let r = more is in (suc r.0, r.1)

pub top_there : (ms : List Module) (top : Module) → IsHierarchy ms top → (k : ℕ) × (slice_get ms k ≡ Some top)
top_there ms top h = among_kept (λ (m : Module). not (list_any (λ other. has_instance_of other m.name) ms)) ms top h.one

pub top_tall : (ms : List Module) (top : Module) → IsHierarchy ms top → StandsTall ms (length ms) top
top_tall ms top h =
    let r = top_there ms top h in
    let size = graph_count ms in
    let live = slice_get_within ms r.0 top r.1 in
    tall_module ms (length ms) r.0 top (subst (λ (n : ℕ). IsTall (children_of ms) n r.0) size (all_tall (children_of ms) r.0 (no_circle ms h.apart) (graph_within ms) (omega arith))) r.1

-- ---- what a flat netlist has

nets_own : (names : List Text) (n m : Netlist) → add_nets names n ≡ Ok m → m.instances ≡ n.instances
nets_own [] n m e = let f : n ≡ m = cc in ap (λ (x : Netlist). x.instances) (sym f)
nets_own (name ∷ names) n m e = by (net_refusal n name) e (nets_own names (record n { nets = n.nets ++ name ∷ [] }) m)
  where
    by : (o : Option NetlistError) → and_grown (unless_refused o (record n { nets = n.nets ++ name ∷ [] })) (add_nets names) ≡ Ok m → (add_nets names (record n { nets = n.nets ++ name ∷ [] }) ≡ Ok m → m.instances ≡ n.instances) → m.instances ≡ n.instances
    by None e more = more e
    by (Some why) e more = absurd (let f : ⊥ = cc in f)

ports_own : (ports : List Port) (n m : Netlist) → add_ports ports n ≡ Ok m → m.instances ≡ n.instances
ports_own [] n m e = let f : n ≡ m = cc in ap (λ (x : Netlist). x.instances) (sym f)
ports_own (p ∷ ports) n m e = by (port_refusal n p.name p.range) e (ports_own ports)
  where
    more : Netlist
    more = record n { ports = n.ports ++ port_of p.name p.dir p.range (nets_from (length n.nets) (length (bit_names p.name p.range))) ∷ []; nets = n.nets ++ bit_names p.name p.range }

    by : (o : Option NetlistError) → and_grown (unless_refused o more) (add_ports ports) ≡ Ok m → ((n m : Netlist) → add_ports ports n ≡ Ok m → m.instances ≡ n.instances) → m.instances ≡ n.instances
    by None e rest = rest more m e
    by (Some why) e rest = absurd (let f : ⊥ = cc in f)

instances_added : (is : List Instance) (n m : Netlist) → add_instances is n ≡ Ok m → m.instances ≡ n.instances ++ is
instances_added [] n m e = let f : n ≡ m = cc in ap (λ (x : Netlist). x.instances) (sym f) ∙ sym (append-nil n.instances)
instances_added (i ∷ is) n m e = by (instance_refusal n i.name) e (instances_added is (record n { instances = n.instances ++ i ∷ [] }) m)
  where
    by : (o : Option NetlistError) → and_grown (unless_refused o (record n { instances = n.instances ++ i ∷ [] })) (add_instances is) ≡ Ok m → (add_instances is (record n { instances = n.instances ++ i ∷ [] }) ≡ Ok m → m.instances ≡ (n.instances ++ i ∷ []) ++ is) →
        m.instances ≡ n.instances ++ i ∷ is
    by None e more = more e ∙ append_assoc n.instances (i ∷ []) is
    by (Some why) e more = absurd (let f : ⊥ = cc in f)

parts_have : (parts : Parts) (p n : Netlist) → length p.nets ≤ length parts.nets → p.instances ≡ [] → add_parts parts p ≡ Ok n → (length n.nets ≡ length parts.nets) × (n.instances ≡ parts.instances)
parts_have parts p n within none is = by (add_nets (drop (length p.nets) parts.nets) p) refl is
  where
    by : (g : Grown) → add_nets (drop (length p.nets) parts.nets) p ≡ g → and_grown g (λ nets. add_instances parts.instances (with_joins nets parts.joins)) ≡ Ok n → (length n.nets ≡ length parts.nets) × (n.instances ≡ parts.instances)
    by (Ok q) at is =
        let keep = (nets_keep (drop (length p.nets) parts.nets) p q at).0 in
        let own = nets_own (drop (length p.nets) parts.nets) p q at in
        let all = ap (λ (xs : List Text). length xs) (adds_keep parts.instances (with_joins q parts.joins) n is).0 in
        let left = length-drop (length p.nets) parts.nets in
        ((omega arith), instances_added parts.instances (with_joins q parts.joins) n is ∙ ap (λ (xs : List Instance). xs ++ parts.instances) (own ∙ none))
    by (Err e) at is = absurd (let f : ⊥ = cc in f)

pub flat_has : (ms : List Module) (library : List Cell) (top : Module) (n : Netlist) → length (bit_names_of top.ports) ≤ length (flat_parts ms top).nets → flat_netlist ms library top ≡ Ok n → (length n.nets ≡ length (flat_parts ms top).nets) × (n.instances ≡ (flat_parts ms top).instances)
unfolding flat_netlist
flat_has ms library top n bits is = by (add_ports top.ports (empty_netlist top.name library)) refl is
  where
    by : (g : Grown) → add_ports top.ports (empty_netlist top.name library) ≡ g → and_grown g (add_parts (flat_parts ms top)) ≡ Ok n → (length n.nets ≡ length (flat_parts ms top).nets) × (n.instances ≡ (flat_parts ms top).instances)
    by (Ok p) at is =
        let size = (ports_nets top.ports (empty_netlist top.name library) p at).0 in
        parts_have (flat_parts ms top) p n (omega arith) (ports_own top.ports (empty_netlist top.name library) p at) is
    by (Err e) at is = absurd (let f : ⊥ = cc in f)

-- the top's own nets are among all
pub own_within : (ms : List Module) (top : Module) → StandsTall ms (length ms) top → length top.nets ≤ length (flat_parts ms top).nets
own_within ms top tall =
    let same = ap (λ (xs : List Text). length xs) (nets_same (length ms) ms [] 0 top ∙ nets_deep_enough ms (length ms) top tall []) in
    let split = length-append (map (λ name. [] ++ name) top.nets) (subs_nets (nets_in (length ms) ms) ms [] (subs_of top.items)) in
    let names = length-map top.nets (λ (name : Text). [] ++ name) in
    omega arith

pub one_for_one : FlatIsOneForOne
one_for_one ms library design sound flat =
    let top : Module = flat.top in
    let h = flat.joinable.hierarchy in
    let at = top_there ms top h in
    let tall = top_tall ms top h in
    let own = own_within ms top tall in
    let bits = bits_within library top (sound_at library ms at.0 top sound at.1) in
    let has = flat_has ms library top flat.grown (omega arith) flat.parts in
    let nets : length design.nets ≡ length (flat_parts ms top).nets = ap (λ (n : Netlist). length n.nets) flat.finished.same ∙ has.0 in
    let instances : design.instances ≡ (flat_parts ms top).instances = ap (λ (n : Netlist). n.instances) flat.finished.same ∙ has.1 in
    let matched = instances_matched ms top (length ms) [] 0 [] top refl in (
      record {
        count = ap (λ (is : List Instance). length is) instances ∙ matched_count ms top (instance_spots ms top) (flat_parts ms top).instances matched;
        each = λ number spot i p q. matched_at ms top (instance_spots ms top) (flat_parts ms top).instances number spot i matched p (sym (ap (λ (is : List Instance). slice_get is number) instances) ∙ q);
        once = λ a b spot p q. once (instance_spots ms top) a b spot (instances_once ms (length ms) [] top) p q;
        all = λ path m place there less. (let r = instances_all ms (length ms) top tall [] path m place there less in (r.number, r.at));
      },
      record {
        count = nets ∙ ap (λ (xs : List Text). length xs) (nets_same (length ms) ms [] 0 top) ∙ nets_count ms (length ms) [] [] top;
        once = λ a b spot p q. once (net_spots ms top) a b spot (nets_once ms (length ms) [] top) p q;
        all = λ path m place there less. (let r = nets_all ms (length ms) top tall [] path m place there less in (r.number, r.at));
      },
    )
