-- What the connections of an instance that comes next may be joined to.
use Rattle.std.proofs.Common.{◌+◌, ◌≤◌, ◌≡◌, List, length, Option, Some, slice_get, refl, sym, ap, subst, arith, ◌∙◌}
use Rattle.std.specs.List.{All}
use Rattle.std.proofs.lemmas.List.Elements.{All-get_or, All-from_recursion}
use Rattle.std.proofs.lemmas.Option.{slice_get_within, get_or_from_slice_get}
use Rattle.dft_cells.specs.declared.cell.Cell.{Cell}
use Rattle.dft_netlist.specs.declared.port.Port.{Port}
use Rattle.dft_netlist.specs.Netlist.{Netlist}
use Rattle.dft_netlist_text.specs.NetlistText.{Grown}
use Rattle.dft_modules.specs.declared.module.Item.{Item}
use Rattle.dft_modules.specs.declared.module.Item.TheVariants as item
use Rattle.dft_modules.specs.Modules.{Module}
use Rattle.dft_modules.specs.Sound.{IsItem}
use Rattle.dft_hier.specs.declared.flat_items.Visit.{Visit}
use Rattle.dft_hier.specs.declared.weights.Weight.{Weight}
use Rattle.dft_hier.specs.declared.weights.LiveSub.{LiveSub}
use Rattle.dft_hier.specs.declared.weights.LiveItem.TheVariants.{Sub}
use Rattle.dft_hier.specs.Flat.{joined_to, connection_joins}
use Rattle.dft_hier.specs.FlatNets.{items_in, IsSubAt}
use Rattle.dft_hier.specs.FlatItems.{live_items_at}
use Rattle.dft_hier.specs.ItemWalks.{ItemStand, and_visit, IsItemWalk}
use Rattle.dft_hier.specs.ItemsLaid.{AreItemsLaid}
use Rattle.dft_hier.specs.Moving.{AreJoinsOf, AreBitsWritable, AreWritable}
use Rattle.dft_hier.specs.Weights.{Live}
use Rattle.dft_hier.proofs.ConnectionLemmas.{port_bits, ports_writable, connections_sound, joined_writable}
use Rattle.dft_hier.proofs.FlattenLemmas.{sound_at}
use Rattle.dft_hier.proofs.ItemLemmas.{connections_fit}
use Rattle.dft_hier.proofs.ItemWalkLemmas.{top_visit, sub_total}

pub record Connects (n : Netlist) (v : Visit) (ms : List Module) (l : LiveSub) (is : IsSubAt ms v.number l) : Type 0 where
  pub bits : All (λ (p : Port). AreBitsWritable v.next p.bits) is.below.ports
  pub signals : All (λ (p : Port). AreWritable v.first (joined_to is.sub.connections p.name)) is.below.ports
  pub fits : AreJoinsOf n (connection_joins v.first v.next is.sub.connections is.below.ports)

pub connects : (ms : List Module) (items : List Live) (weights : List Weight) (library : List Cell) (whole : Grown) (s : ItemStand) (v : Visit) (n : Netlist) (l : LiveSub) (is : IsSubAt ms v.number l) → AreItemsLaid library ms items weights → slice_get (live_items_at items v.number) v.item ≡ Some (Sub l) →
    IsItemWalk ms items weights library whole (and_visit s v) n → Connects n v ms l is
connects ms items weights library whole s v n l is laid at h =
    let span = top_visit ms items weights library whole s v n h in
    let m = span.m in
    let there : slice_get m.items l.item ≡ Some (item.Sub is.sub) = ap (λ (o : Option Module). slice_get (items_in o) l.item) (sym span.at) ∙ is.item_at in
    let P : Item → Type 0 = λ (x : Item). IsItem library (length m.nets) x in
    let sound : IsItem library (length m.nets) (item.Sub is.sub) = subst P (get_or_from_slice_get m.items l.item (item.Sub is.sub) (item.Sub is.sub) there) (All-get_or P m.items l.item (item.Sub is.sub) (slice_get_within m.items l.item (item.Sub is.sub) there) (sound_at library ms v.number m laid.sound span.at).items) in
    let outer = connections_sound library (length m.nets) (item.Sub is.sub) is.sub.connections sound is.sub refl refl in
    let inner = port_bits library is.below (sound_at library ms l.child is.below laid.sound is.below_at) in
    let total = sub_total ms items weights library whole s v n l is laid at h in
    let few = h.few in
    let own = span.own in
    let total_less = total.1 in
    let split = laid.totals l.child is.below is.below_at (omega arith) in
    let within : v.next + length is.below.nets ≤ length n.nets = omega arith in
    record {
      bits = All-from_recursion (λ (p : Port). AreBitsWritable v.next p.bits) is.below.ports (ports_writable v.next (length is.below.nets) is.below.ports (omega arith) inner);
      signals = All-from_recursion (λ (p : Port). AreWritable v.first (joined_to is.sub.connections p.name)) is.below.ports (joined_writable v.first (length m.nets) is.sub.connections is.below.ports (omega arith) outer);
      fits = connections_fit n (length m.nets) (length is.below.nets) v.first v.next is.sub.connections is.below.ports own within inner outer;
    }
