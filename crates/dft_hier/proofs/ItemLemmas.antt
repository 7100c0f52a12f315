-- What items add to a flat netlist, one part after another.
use Rattle.std.proofs.Common.{ℕ, ◌+◌, ◌<◌, ◌≤◌, ◌≡◌, ◌^◌, Bool, List, [], ◌∷◌, ◌++◌, length, get_or, map, Option, None, Some, option_map, Ok, refl, sym, ap, subst, arith, ◌∙◌, append_assoc}
use Rattle.std.specs.List.{AllByRecursion}
use Rattle.std.proofs.lemmas.List.{length-map}
use Rattle.std.proofs.lemmas.Option.{slice_get-get_or}
use Rattle.dft_base.specs.Lexing.{Text}
use Rattle.dft_base.specs.declared.dir.Dir.{Dir}
use Rattle.dft_base.specs.declared.dir.Dir.TheVariants as dir
use Rattle.dft_base.proofs.ListLemmas.{at_of_map}
use Rattle.dft_cells.specs.declared.cell.Cell.{Cell}
use Rattle.dft_netlist.specs.declared.ids.NetId.{NetId}
use Rattle.dft_netlist.specs.declared.port.Port.{Port}
use Rattle.dft_netlist.specs.declared.instance.Instance.{Instance}
use Rattle.dft_netlist.specs.declared.instance.CellRef.{CellRef}
use Rattle.dft_netlist.specs.declared.instance.CellRef.TheVariants as cell_ref
use Rattle.dft_netlist.specs.declared.instance.Join.{Join}
use Rattle.dft_netlist.specs.declared.instance.Signal.{Signal}
use Rattle.dft_netlist.specs.declared.instance.Signal.TheVariants as signal
use Rattle.dft_netlist.specs.declared.error.NetlistError.{NetlistError}
use Rattle.dft_netlist.specs.Netlist.{Netlist}
use Rattle.dft_netlist.specs.Building.{instance_refusal}
use Rattle.dft_netlist.specs.Sound.{IsInstance, IsJoinOf, IsAJoin, IsLive, IsConnected, IsCellOf, AreLive as AreLiveSignals}
use Rattle.dft_netlist_text.specs.NetlistText.{unless_refused, and_grown}
use Rattle.dft_modules.specs.declared.connections.Connection.{Connection}
use Rattle.dft_modules.specs.declared.module.Item.{Item}
use Rattle.dft_modules.specs.declared.module.Item.TheVariants as item
use Rattle.dft_modules.specs.Sound.{IsItem, IsOuterBit}
use Rattle.dft_hier.specs.Flat.{Parts, and_parts, add_instances, moved, moved_net, moved_instance, bit_joins, port_joins, connection_joins, joined_to}
use Rattle.dft_hier.specs.ItemWalks.{adds, IsItemIn}
use Rattle.dft_hier.specs.Moving.{AreJoinsOf, AreWritable, IsWritable, IsInstanceIn, with_joins}

-- ---- parts that are added one behind another

refusal_same : (n : Netlist) (joins : List Join) (name : Option Text) → instance_refusal (with_joins n joins) name ≡ instance_refusal n name
refusal_same n joins None = refl
refusal_same n joins (Some name) = refl

abbrev with_instance : Netlist → Instance → Netlist
with_instance n i = record n { instances = n.instances ++ i ∷ [] }

pub instances_append : (is more : List Instance) (a b : List Join) (n : Netlist) → add_instances (is ++ more) (with_joins n (a ++ b)) ≡ and_grown (add_instances is (with_joins n a)) (λ m. add_instances more (with_joins m b))
instances_append [] more a b n = ap (λ (js : List Join). add_instances more (record n { joins = js })) (sym (append_assoc n.joins a b))
instances_append (i ∷ is) more a b n =
    ap (λ (r : Option NetlistError). and_grown (unless_refused r (with_joins (with_instance n i) (a ++ b))) (add_instances (is ++ more))) (refusal_same n (a ++ b) i.name)
    ∙ by (instance_refusal n i.name) (instances_append is more a b (with_instance n i))
    ∙ ap (λ (r : Option NetlistError). and_grown (and_grown (unless_refused r (with_joins (with_instance n i) a)) (add_instances is)) (λ m. add_instances more (with_joins m b))) (sym (refusal_same n a i.name))
  where
    by : (r : Option NetlistError) → add_instances (is ++ more) (with_joins (with_instance n i) (a ++ b)) ≡ and_grown (add_instances is (with_joins (with_instance n i) a)) (λ m. add_instances more (with_joins m b)) →
        and_grown (unless_refused r (with_joins (with_instance n i) (a ++ b))) (add_instances (is ++ more)) ≡ and_grown (and_grown (unless_refused r (with_joins (with_instance n i) a)) (add_instances is)) (λ m. add_instances more (with_joins m b))
    by None same = same
    by (Some why) same = refl

pub adds_append : (a b : Parts) (n : Netlist) → adds (and_parts a b) n ≡ and_grown (adds a n) (adds b)
adds_append a b n = instances_append a.instances b.instances a.joins b.joins n

-- what is added keeps nets and library
pub adds_keep : (is : List Instance) (n m : Netlist) → add_instances is n ≡ Ok m → (m.nets ≡ n.nets) × (m.library ≡ n.library)
adds_keep [] n m e = let f : n ≡ m = cc in (ap (λ (x : Netlist). x.nets) (sym f), ap (λ (x : Netlist). x.library) (sym f))
adds_keep (i ∷ is) n m e = by (instance_refusal n i.name) e (adds_keep is (with_instance n i) m)
  where
    by : (r : Option NetlistError) → and_grown (unless_refused r (with_instance n i)) (add_instances is) ≡ Ok m → (add_instances is (with_instance n i) ≡ Ok m → (m.nets ≡ n.nets) × (m.library ≡ n.library)) → (m.nets ≡ n.nets) × (m.library ≡ n.library)
    by None e more = more e
    by (Some why) e more = absurd (let f : ⊥ = cc in f)

-- ---- what stands among a module's nets stands among all, behind the first

moved_live : (first count nets : ℕ) (s : Signal) → first + count ≤ nets → IsLive count s → IsLive nets (moved first s)
moved_live first count nets (signal.Net net) within live = omega arith
moved_live first count nets (signal.Constant bit) within live = tt
moved_live first count nets signal.Unconnected within live = tt

moved_connected : (first : ℕ) (s : Signal) → IsConnected s → IsConnected (moved first s)
moved_connected first (signal.Net net) is = tt
moved_connected first (signal.Constant bit) is = tt
moved_connected first signal.Unconnected is = is

moved_constant : (first : ℕ) (s : Signal) (bit : Bool) → moved first s ≡ signal.Constant bit → s ≡ signal.Constant bit
moved_constant first (signal.Net net) bit is = absurd (let f : ⊥ = cc in f)
moved_constant first (signal.Constant b) bit is = is
moved_constant first signal.Unconnected bit is = absurd (let f : ⊥ = cc in f)

moved_cell : (library : List Cell) (prefix : Text) (name : Option Text) (cell : CellRef) → IsCellOf library name cell → IsCellOf library (option_map (λ own. prefix ++ own) name) cell
moved_cell library prefix None (cell_ref.Library c) is = is
moved_cell library prefix (Some name) (cell_ref.Library c) is = is
moved_cell library prefix name (cell_ref.Gate kind inputs) is = is

pub moved_fits : (library : List Cell) (count nets first : ℕ) (prefix : Text) (i : Instance) → first + count ≤ nets → IsInstance library count i.name i.cell i.pins → IsInstance library nets (moved_instance prefix first i).name i.cell (map (moved first) i.pins)
moved_fits library count nets first prefix i within is = record {
  fits = moved_cell library prefix i.name i.cell is.fits;
  width = length-map i.pins (moved first) ∙ is.width;
  live = λ place s at. (let x = at_of_map (moved first) i.pins place s at in subst (IsLive nets) x.2 (moved_live first count nets x.0 within (is.live place x.0 x.1)));
  outputs = λ pin role bit role_at output at. (let x = at_of_map (moved first) i.pins pin (signal.Constant bit) at in
      is.outputs pin role bit role_at output (x.1 ∙ ap (λ (s : Signal). Some s) (moved_constant first x.0 bit x.2)));
}

pub join_fits : (count nets first : ℕ) (j : Join) → first + count ≤ nets → IsAJoin count j.target j.source → IsAJoin nets (moved_net first j.target) (moved first j.source)
join_fits count nets first j within is = record {
  target_live = (let t = is.target_live in omega arith);
  source_live = moved_live first count nets j.source within is.source_live;
  connected = moved_connected first j.source is.connected;
}

pub writable : (first count : ℕ) (s : Signal) → first + count ≤ 2 ^ 32 → IsLive count s → IsWritable first s
writable first count s within live = moved_live first count (2 ^ 32) s within live

pub pins_writable : (first count : ℕ) (pins : List Signal) → first + count ≤ 2 ^ 32 → AreLiveSignals count pins → AreWritable first pins
pins_writable first count pins within live = λ k d less. writable first count (get_or pins k d) within (live k (get_or pins k d) (slice_get-get_or pins k d less))

-- ---- joins of connections

bit_fits : (n : Netlist) (outer inner outside within : ℕ) (d : Dir) (bit : NetId) (s : Signal) → outside + outer ≤ length n.nets → within + inner ≤ length n.nets → bit.0 < inner → IsOuterBit outer s → AreJoinsOf n (bit_joins d (moved_net within bit) (moved outside s))
bit_fits n outer inner outside within dir.Input bit s a b live is =
    (record { target_live = omega arith; source_live = moved_live outside outer (length n.nets) s a is.0; connected = moved_connected outside s is.1 }, tt)
bit_fits n outer inner outside within dir.Output bit (signal.Net net) a b live is = (let l = is.0 in (record { target_live = omega arith; source_live = omega arith; connected = tt }, tt))
bit_fits n outer inner outside within dir.Output bit (signal.Constant value) a b live is = tt
bit_fits n outer inner outside within dir.Output bit signal.Unconnected a b live is = tt

all_both : (P : Join → Type 0) (xs ys : List Join) → AllByRecursion P xs → AllByRecursion P ys → AllByRecursion P (xs ++ ys)
all_both P [] ys h k = k
all_both P (x ∷ xs) ys h k = (h.0, all_both P xs ys h.1 k)

pub port_fits : (n : Netlist) (outer inner outside within : ℕ) (d : Dir) (bits : List NetId) (signals : List Signal) → outside + outer ≤ length n.nets → within + inner ≤ length n.nets → AllByRecursion (λ (b : NetId). b.0 < inner) bits → AllByRecursion (λ (s : Signal). IsOuterBit outer s) signals →
    AreJoinsOf n (port_joins d (map (moved_net within) bits) (map (moved outside) signals))
port_fits n outer inner outside within d [] signals a b live is = tt
port_fits n outer inner outside within d (bit ∷ bits) [] a b live is = tt
port_fits n outer inner outside within d (bit ∷ bits) (s ∷ signals) a b live is =
    all_both (λ (j : Join). IsJoinOf n j.target j.source) (bit_joins d (moved_net within bit) (moved outside s)) (port_joins d (map (moved_net within) bits) (map (moved outside) signals))
    (bit_fits n outer inner outside within d bit s a b live.0 is.0) (port_fits n outer inner outside within d bits signals a b live.1 is.1)

pub connections_fit : (n : Netlist) (outer inner outside within : ℕ) (connections : List Connection) (ports : List Port) → outside + outer ≤ length n.nets → within + inner ≤ length n.nets →
    AllByRecursion (λ (p : Port). AllByRecursion (λ (b : NetId). b.0 < inner) p.bits) ports → ((name : Text) → AllByRecursion (λ (s : Signal). IsOuterBit outer s) (joined_to connections name)) → AreJoinsOf n (connection_joins outside within connections ports)
connections_fit n outer inner outside within connections [] a b live is = tt
connections_fit n outer inner outside within connections (p ∷ ports) a b live is =
    all_both (λ (j : Join). IsJoinOf n j.target j.source) (port_joins p.dir (map (moved_net within) p.bits) (map (moved outside) (joined_to connections p.name))) (connection_joins outside within connections ports)
    (port_fits n outer inner outside within p.dir p.bits (joined_to connections p.name) a b live.0 (is p.name)) (connections_fit n outer inner outside within connections ports a b live.1 is)

-- ---- an item of a module's own, in a netlist in which it can stand

pub own_target : (n : Netlist) (first : ℕ) (i : Item) (j : Join) → i ≡ item.Join j → IsItemIn n first i → first + j.target.0 < 2 ^ 32
own_target n first i j is h =
    let sound : IsAJoin h.count j.target j.source = subst (λ (x : Item). IsItem n.library h.count x) is h.sound in
    let live = sound.target_live in
    let within = h.within in
    let few = h.few in
    omega arith

pub own_source : (n : Netlist) (first : ℕ) (i : Item) (j : Join) → i ≡ item.Join j → IsItemIn n first i → IsWritable first j.source
own_source n first i j is h =
    let sound : IsAJoin h.count j.target j.source = subst (λ (x : Item). IsItem n.library h.count x) is h.sound in
    let within = h.within in
    let few = h.few in
    writable first h.count j.source (omega arith) sound.source_live

pub own_join : (n : Netlist) (first : ℕ) (i : Item) (j : Join) → i ≡ item.Join j → IsItemIn n first i → IsJoinOf n (moved_net first j.target) (moved first j.source)
own_join n first i j is h = join_fits h.count (length n.nets) first j h.within (subst (λ (x : Item). IsItem n.library h.count x) is h.sound)

pub own_cell : (n : Netlist) (first : ℕ) (prefix : Text) (i : Item) (c : Instance) → i ≡ item.Cell c → IsItemIn n first i → IsInstanceIn n (moved_instance prefix first c)
own_cell n first prefix i c is h = moved_fits n.library h.count (length n.nets) first prefix c h.within (subst (λ (x : Item). IsItem n.library h.count x) is h.sound)

pub own_pins : (n : Netlist) (first : ℕ) (i : Item) (c : Instance) → i ≡ item.Cell c → IsItemIn n first i → AreWritable first c.pins
own_pins n first i c is h =
    let sound : IsInstance n.library h.count c.name c.cell c.pins = subst (λ (x : Item). IsItem n.library h.count x) is h.sound in
    let within = h.within in
    let few = h.few in
    pins_writable first h.count c.pins (omega arith) sound.live
