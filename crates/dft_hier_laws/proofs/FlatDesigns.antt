-- The parts of a flat design, and where its nets stand.
use Rattle.std.proofs.Common.{ℕ, zero, suc, ◌+◌, ◌<◌, ◌≤◌, ◌≡◌, List, [], ◌∷◌, ◌++◌, length, drop, Option, None, Some, Ok, Err, slice_get, refl, sym, ap, ap₂, subst, arith, ◌∙◌, length-append, append-nil, append_assoc}
use Rattle.std.specs.List.{AllByRecursion}
use Rattle.dft_base.specs.Lexing.{Text}
use Rattle.dft_base.proofs.ListLemmas.{all_append}
use Rattle.dft_cells.specs.declared.cell.Cell.{Cell}
use Rattle.dft_netlist.specs.declared.error.NetlistError.{NetlistError}
use Rattle.dft_netlist.specs.declared.ids.NetId.{NetId}
use Rattle.dft_netlist.specs.declared.instance.Instance.{Instance}
use Rattle.dft_netlist.specs.declared.instance.Join.{Join}
use Rattle.dft_netlist.specs.declared.port.Port.{Port}
use Rattle.dft_netlist.specs.Building.{empty_netlist, instance_refusal, net_refusal, port_of, port_refusal}
use Rattle.dft_netlist.specs.Names.{bit_names}
use Rattle.dft_netlist.specs.Netlist.{Netlist}
use Rattle.dft_netlist.specs.NetNumbers.{nets_from}
use Rattle.dft_netlist.specs.Sound.{bits_of}
use Rattle.dft_netlist_text.specs.NetlistText.{Grown, unless_refused, and_grown, add_nets}
use Rattle.dft_modules.specs.declared.module.SubInstance.{SubInstance}
use Rattle.dft_modules.specs.Modules.{Module}
use Rattle.dft_modules.specs.Sound.{IsModule, AreModules}
use Rattle.dft_hier.specs.Hierarchy.{subs_of, find_module}
use Rattle.dft_hier.specs.Flat.{Parts, add_ports, add_parts, add_instances, flat_parts, flat_netlist}
use Rattle.dft_hier.specs.Moving.{with_joins}
use Rattle.dft_hier.specs.Paths.{Path, Spot, module_at, below, sub_spots, subs_spots, net_spots_within, net_spots}
use Rattle.dft_hier.specs.Refusals.{IsFlat}
use Rattle.dft_hier_laws.proofs.DriverImages.{IsFlatOf}
use Rattle.dft_hier.proofs.FlattenLemmas.{bits_within, ports_nets, sound_at}
use Rattle.dft_hier.proofs.InstanceSpotLemmas.{module_on}
use Rattle.dft_hier.proofs.OneForOne.{top_there, top_tall, flat_has, own_within}
use Rattle.dft_hier.proofs.PartLemmas.{nets_same}
use Rattle.dft_hier_laws.proofs.Positions.{first_one, later}
use Rattle.dft_hier.proofs.SpotLemmas.{own_from, nets_count}

-- ---- the parts of a flat netlist

-- of the same ports and joins, over the same cells
abbrev Stays : (n m : Netlist) → Type 0
Stays n m = (m.ports ≡ n.ports) × (m.joins ≡ n.joins) × (m.library ≡ n.library)

stays_then : (a b c : Netlist) → Stays a b → Stays b c → Stays a c
stays_then a b c h k = (k.0 ∙ h.0, k.1 ∙ h.1, k.2 ∙ h.2)

step_stays : (refusal : Option NetlistError) (n more m : Netlist) (f : Netlist → Grown) → Stays n more → (f more ≡ Ok m → Stays more m) → and_grown (unless_refused refusal more) f ≡ Ok m → Stays n m
step_stays None n more m f own rest is = stays_then n more m own (rest is)
step_stays (Some why) n more m f own rest is = absurd (let g : ⊥ = cc in g)

done_stays : (n m : Netlist) → ◌≡◌ {A = Grown} (Ok n) (Ok m) → Stays n m
done_stays n m is = let f : n ≡ m = cc in (ap (λ (x : Netlist). x.ports) (sym f), ap (λ (x : Netlist). x.joins) (sym f), ap (λ (x : Netlist). x.library) (sym f))

nets_stay : (names : List Text) (n m : Netlist) → add_nets names n ≡ Ok m → Stays n m
nets_stay [] n m is = done_stays n m is
nets_stay (name ∷ names) n m is =
    let more : Netlist = record n { nets = n.nets ++ name ∷ [] } in
    step_stays (net_refusal n name) n more m (add_nets names) (refl, refl, refl) (nets_stay names more m) is

instances_stay : (is : List Instance) (n m : Netlist) → add_instances is n ≡ Ok m → Stays n m
instances_stay [] n m added = done_stays n m added
instances_stay (i ∷ is) n m added =
    let more : Netlist = record n { instances = n.instances ++ i ∷ [] } in
    step_stays (instance_refusal n i.name) n more m (add_instances is) (refl, refl, refl) (instances_stay is more m) added

-- numbers one after another, cut in two
nets_split : (xs ys : List NetId) (a : ℕ) → xs ++ ys ≡ nets_from a (length (xs ++ ys)) → (xs ≡ nets_from a (length xs)) × (ys ≡ nets_from (a + length xs) (length ys))
nets_split [] ys a is = (refl, is ∙ (let e : a ≡ a + 0 = omega arith in ap (λ (n : ℕ). nets_from n (length ys)) e))
nets_split (x ∷ xs) ys a is =
    let head : x ≡ record { 0 = a } = cc in
    let tail : xs ++ ys ≡ nets_from (suc a) (length (xs ++ ys)) = cc in
    let r = nets_split xs ys (suc a) tail in
    let on : suc a + length xs ≡ a + suc (length xs) = omega arith in
    (ap₂ (λ (y : NetId) (ns : List NetId). y ∷ ns) head r.0, r.1 ∙ ap (λ (n : ℕ). nets_from n (length ys)) on)

abbrev AreWide : List Port → Type 0
AreWide ports = (place : ℕ) (p : Port) → slice_get ports place ≡ Some p → length p.bits ≡ length (bit_names p.name p.range)

-- ports whose bits are numbered one after another are added as they are
ports_grown : (ports : List Port) (n m : Netlist) → AreWide ports → bits_of ports ≡ nets_from (length n.nets) (length (bits_of ports)) → add_ports ports n ≡ Ok m → m.ports ≡ n.ports ++ ports
ports_grown [] n m wide numbered is = let f : n ≡ m = cc in ap (λ (x : Netlist). x.ports) (sym f) ∙ sym (append-nil n.ports)
ports_grown (p ∷ ports) n m wide numbered is = by (port_refusal n p.name p.range) is (ports_grown ports more m (λ place q at. wide (suc place) q at) rest)
  where
    bits : List NetId
    bits = nets_from (length n.nets) (length (bit_names p.name p.range))

    more : Netlist
    more = record n { ports = n.ports ++ port_of p.name p.dir p.range bits ∷ []; nets = n.nets ++ bit_names p.name p.range }

    split : (p.bits ≡ nets_from (length n.nets) (length p.bits)) × (bits_of ports ≡ nets_from (length n.nets + length p.bits) (length (bits_of ports)))
    split = nets_split p.bits (bits_of ports) (length n.nets) numbered

    count : length n.nets + length p.bits ≡ length (n.nets ++ bit_names p.name p.range)
    count = let own = wide 0 p refl in let all = length-append n.nets (bit_names p.name p.range) in omega arith

    rest : bits_of ports ≡ nets_from (length (n.nets ++ bit_names p.name p.range)) (length (bits_of ports))
    rest = split.1 ∙ ap (λ (k : ℕ). nets_from k (length (bits_of ports))) count

    own : port_of p.name p.dir p.range (nets_from (length n.nets) (length (bit_names p.name p.range))) ≡ p
    own = ap (λ (bs : List NetId). port_of p.name p.dir p.range bs) (ap (nets_from (length n.nets)) (sym (wide 0 p refl)) ∙ sym split.0)

    by : (o : Option NetlistError) →
        and_grown (unless_refused o (record n { ports = n.ports ++ port_of p.name p.dir p.range (nets_from (length n.nets) (length (bit_names p.name p.range))) ∷ []; nets = n.nets ++ bit_names p.name p.range })) (add_ports ports) ≡ Ok m →
        (add_ports ports (record n { ports = n.ports ++ port_of p.name p.dir p.range (nets_from (length n.nets) (length (bit_names p.name p.range))) ∷ []; nets = n.nets ++ bit_names p.name p.range }) ≡ Ok m →
        m.ports ≡ (n.ports ++ port_of p.name p.dir p.range (nets_from (length n.nets) (length (bit_names p.name p.range))) ∷ []) ++ ports) →
        m.ports ≡ n.ports ++ p ∷ ports
    by None e more = more e ∙ append_assoc n.ports (port_of p.name p.dir p.range (nets_from (length n.nets) (length (bit_names p.name p.range))) ∷ []) ports ∙ ap (λ (q : Port). n.ports ++ q ∷ ports) own
    by (Some why) e more = absurd (let f : ⊥ = cc in f)

-- the ports, joins and cells of a flat netlist
record FlatParts (ms : List Module) (library : List Cell) (top : Module) (n : Netlist) : Type 0 where
  ports : n.ports ≡ top.ports
  joins : n.joins ≡ (flat_parts ms top).joins
  cells : n.library ≡ library

parts_by : (ms : List Module) (library : List Cell) (top : Module) (p n : Netlist) (parts : Parts) → (p.ports ≡ top.ports) × (p.joins ≡ []) × (p.library ≡ library) → add_parts parts p ≡ Ok n → (n.ports ≡ top.ports) × (n.joins ≡ parts.joins) × (n.library ≡ library)
parts_by ms library top p n parts own is = by (add_nets (drop (length p.nets) parts.nets) p) refl is
  where
    by : (g : Grown) → add_nets (drop (length p.nets) parts.nets) p ≡ g → and_grown g (λ nets. add_instances parts.instances (with_joins nets parts.joins)) ≡ Ok n → (n.ports ≡ top.ports) × (n.joins ≡ parts.joins) × (n.library ≡ library)
    by (Ok q) at is =
        let a = nets_stay (drop (length p.nets) parts.nets) p q at in
        let b = instances_stay parts.instances (with_joins q parts.joins) n is in
        (b.0 ∙ a.0 ∙ own.0, b.1 ∙ ap (λ (js : List Join). js ++ parts.joins) (a.1 ∙ own.1), b.2 ∙ a.2 ∙ own.2)
    by (Err e) at is = absurd (let f : ⊥ = cc in f)

flat_by : (ms : List Module) (library : List Cell) (top : Module) (n : Netlist) → IsModule library top → flat_netlist ms library top ≡ Ok n → FlatParts ms library top n
unfolding flat_netlist
flat_by ms library top n sound is = by (add_ports top.ports (empty_netlist top.name library)) refl is
  where
    by : (g : Grown) → add_ports top.ports (empty_netlist top.name library) ≡ g → and_grown g (add_parts (flat_parts ms top)) ≡ Ok n → FlatParts ms library top n
    by (Ok p) at is =
        let kept = ports_nets top.ports (empty_netlist top.name library) p at in
        let ports = ports_grown top.ports (empty_netlist top.name library) p sound.widths sound.numbered at in
        let r = parts_by ms library top p n (flat_parts ms top) (ports, kept.1, kept.2) is in
        record { ports = r.0; joins = r.1; cells = r.2 }
    by (Err e) at is = absurd (let f : ⊥ = cc in f)

pub flat_of : (ms : List Module) (library : List Cell) (design : Netlist) → AreModules library ms → (flat : IsFlat ms library design) → IsFlatOf ms library flat.top design
flat_of ms library design sound flat =
    let top : Module = flat.top in
    let h = flat.joinable.hierarchy in
    let at = top_there ms top h in
    let tall = top_tall ms top h in
    let own = own_within ms top tall in
    let is : IsModule library top = sound_at library ms at.0 top sound at.1 in
    let bits = bits_within library top is in
    let has = flat_has ms library top flat.grown (omega arith) flat.parts in
    let parts = flat_by ms library top flat.grown is flat.parts in
    let same : design ≡ flat.grown = flat.finished.same in
    let count : length flat.grown.nets ≡ length (net_spots ms top) = has.0 ∙ ap (λ (xs : List Text). length xs) (nets_same (length ms) ms [] 0 top) ∙ nets_count ms (length ms) [] [] top in
    subst (IsFlatOf ms library top) (sym same) (record {
      sound = sound;
      number = at.0;
      top_at = at.1;
      tall = tall;
      cells = parts.cells;
      ports = parts.ports;
      instances = has.1;
      joins = parts.joins;
      count = count;
      single = flat.finished.single;
      orderable = flat.finished.orderable;
    })

-- ---- every spot stands in a module

pub record SpotStands (ms : List Module) (top : Module) (s : Spot) : Type 0 where
  pub m : Module
  pub at : module_at ms s.path top ≡ Some m
  pub less : s.at < length m.nets

own_stand : (ms : List Module) (top : Module) (path : Path) (m : Module) (from count : ℕ) → module_at ms path top ≡ Some m → from + count ≤ length m.nets → AllByRecursion (λ (s : Spot). SpotStands ms top s) (own_from path from count)
own_stand ms top path m from zero at within = tt
own_stand ms top path m from (suc count) at within = (record { m = m; at = at; less = omega (arith, within) }, own_stand ms top path m (suc from) count at (omega (arith, within)))

abbrev pub StandBelow : List Module → (top : Module) → (depth : ℕ) → Type 0
StandBelow ms top depth = (path : Path) (m : Module) → module_at ms path top ≡ Some m → AllByRecursion (λ (s : Spot). SpotStands ms top s) (net_spots_within depth ms path m)

sub_stand : (ms : List Module) (top : Module) (depth : ℕ) → StandBelow ms top depth → (path : Path) (o : Option Module) → ((m : Module) → o ≡ Some m → module_at ms path top ≡ Some m) → AllByRecursion (λ (s : Spot). SpotStands ms top s) (sub_spots (net_spots_within depth ms) path o)
sub_stand ms top depth deep path None is = tt
sub_stand ms top depth deep path (Some m) is = deep path m (is m refl)

subs_stand : (ms : List Module) (top : Module) (depth : ℕ) → StandBelow ms top depth → (path : Path) (m : Module) (place : ℕ) (subs : List SubInstance) → module_at ms path top ≡ Some m → ((j : ℕ) → slice_get (subs_of m.items) (place + j) ≡ slice_get subs j) →
    AllByRecursion (λ (s : Spot). SpotStands ms top s) (subs_spots (net_spots_within depth ms) ms path place subs)
subs_stand ms top depth deep path m place [] at own = tt
subs_stand ms top depth deep path m place (x ∷ subs) at own =
    all_append (λ (s : Spot). SpotStands ms top s) (sub_spots (net_spots_within depth ms) (below path place) (find_module ms x.of)) (subs_spots (net_spots_within depth ms) ms path (suc place) subs)
    (sub_stand ms top depth deep (below path place) (find_module ms x.of) (λ inner found. module_on ms path top m inner place x at (first_one SubInstance (subs_of m.items) subs x place own) found))
    (subs_stand ms top depth deep path m (suc place) subs at (later SubInstance (subs_of m.items) subs x place own))

pub nets_stand : (ms : List Module) (top : Module) (depth : ℕ) → StandBelow ms top depth
nets_stand ms top zero = λ path m at. tt
nets_stand ms top (suc depth) = λ path m at.
    all_append (λ (s : Spot). SpotStands ms top s) (own_from path 0 (length m.nets)) (subs_spots (net_spots_within depth ms) ms path 0 (subs_of m.items)) (own_stand ms top path m 0 (length m.nets) at (omega arith))
    (subs_stand ms top depth (nets_stand ms top depth) path m 0 (subs_of m.items) at (λ j. (let e : 0 + j ≡ j = omega arith in ap (slice_get (subs_of m.items)) e)))
