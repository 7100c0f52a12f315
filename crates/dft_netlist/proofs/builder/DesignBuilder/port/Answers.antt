use Rattle.std.proofs.Common.{◌≡◌, ◌∙◌, ◌++◌, sym, ap, subst, length, None, arith, refl, List}
use Rattle.dft_netlist.specs.declared.port.Port.{Port}
use Rattle.dft_netlist.specs.BuilderShown.{netlist_so_far}
use Rattle.dft_netlist.specs.Building.{port_of, room_limit}
use Rattle.dft_netlist.specs.Names.{bit_names, port_names, first_taken, vector_name_in}
use Rattle.dft_netlist.specs.NameTables.{AllDiffer}
use Rattle.dft_netlist.specs.NetNumbers.{nets_from}
use Rattle.dft_netlist.specs.Netlist.{Netlist}
use Rattle.dft_netlist.specs.Sound.{HasOnlyPorts}
use Rattle.dft_base.specs.Lexing.{Text}
use Rattle.dft_base.specs.Name.{IsName}
use Rattle.dft_netlist.proofs.PortNames.{vector_is_free, bits_are_new}
use Rattle.dft_netlist.proofs.PortLemmas.{with_port, vector_number, port_knows, nets_know, port_sound}
use Rattle.dft_netlist.proofs.RefusalLemmas.{free_of, room_of}
use Rattle.dft_netlist.proofs.builder.DesignBuilder.port.Goals as goal

pub insert_own-requires-clause-fresh : goal.insert_own-requires-clause-fresh
insert_own-requires-clause-fresh c =
    let n = netlist_so_far c.self.inside in
    let free : first_taken n (port_names c.args.name c.args.range) ≡ None = subst (λ (m : Netlist). first_taken m (port_names c.args.name c.args.range) ≡ None) (sym c.self.view_is) (free_of _ c.in_ok-name.ensures.refused) in
    rw (c.in_ok-reserve-2.ensures.entries, c.in_ok-own.ensures.key, c.in_ok-name.ensures.same) (vector_is_free _ n c.args.name c.args.range c.self.invariant.table free)

pub insert_nets-requires-clause-room : goal.insert_nets-requires-clause-room
insert_nets-requires-clause-room c =
    let room = c.in_ok-reserve-2.ensures.room in
    let left = c.insert_own.ensures.room in
    omega arith

pub insert_nets-requires-clause-new : goal.insert_nets-requires-clause-new
insert_nets-requires-clause-new c =
    let n = netlist_so_far c.self.inside in
    let free : first_taken n (port_names c.args.name c.args.range) ≡ None = subst (λ (m : Netlist). first_taken m (port_names c.args.name c.args.range) ≡ None) (sym c.self.view_is) (free_of _ c.in_ok-name.ensures.refused) in
    let differ = subst AllDiffer c.in_ok-names.ensures.names c.in_ok-names.ensures.differ in
    rw (c.insert_own.ensures.added, c.in_ok-reserve-2.ensures.entries, c.in_ok-own.ensures.key, c.in_ok-name.ensures.same, c.in_ok-names.ensures.names) (bits_are_new _ n c.args.name c.args.range _ differ c.self.invariant.table free)

pub invariant_of-self-2 : goal.invariant_of-self-2
invariant_of-self-2 c =
    let n = netlist_so_far c.self.inside in
    let names = bit_names c.args.name c.args.range in
    let x : Port = port_of c.args.name c.args.dir c.args.range (nets_from (length n.nets) (length names)) in
    let only : HasOnlyPorts n = subst HasOnlyPorts (sym c.self.view_is) c.requires in
    let free : first_taken n (port_names c.args.name c.args.range) ≡ None = subst (λ (m : Netlist). first_taken m (port_names c.args.name c.args.range) ≡ None) (sym c.self.view_is) (free_of _ c.in_ok-name.ensures.refused) in
    let differ = subst AllDiffer c.in_ok-names.ensures.names c.in_ok-names.ensures.differ in
    let own = port_knows _ n x (vector_name_in c.args.name c.args.range) refl c.self.invariant.table (vector_is_free _ n c.args.name c.args.range c.self.invariant.table free) in
    let known = nets_know _ (with_port n x) (length n.nets) names refl own (bits_are_new _ n c.args.name c.args.range (vector_number (length n.ports)) differ c.self.invariant.table free) in
    let wide = ap (λ (xs : List Text). length xs) c.in_ok-names.ensures.names in
    let width : c.len.result ≡ length names = omega (arith, wide) in
    let room : room_limit n (length names) ≡ None = rw (← width) (subst (λ (m : Netlist). room_limit m c.len.result ≡ None) (sym c.self.view_is) c.in_ok-check_room.ensures) in
    let few = (room_of n (length names) room).0 in
    let fits = (room_of n (length names) room).1 in
    let is : IsName c.args.name = subst IsName c.in_ok-name.ensures.same c.in_ok-own.ensures.name in
    let sound = port_sound _ n x c.self.invariant.netlist is c.in_ok-own.ensures.short only known few fits refl in
    let number : c.len-2.result ≡ length n.ports = omega arith in
    let from : c.net_count-first.result ≡ length n.nets = omega arith in
    let count : c.len-3.result ≡ length names = omega (arith, wide) in
    let bits : c.in_ok-bits.bits ≡ nets_from (length n.nets) (length names) = rw (← from, ← count) c.in_ok-bits.ensures in
    let own_nets : c.insert_own.new.self.nets ≡ n.nets = c.insert_own.ensures.nets ∙ c.in_ok-reserve-2.ensures.nets in
    let nets : c.insert_nets.new.self.nets ≡ n.nets ++ names = rw (← own_nets, ← c.in_ok-names.ensures.names) c.insert_nets.ensures.nets in
    record {
      netlist = rw (c.push_reserved.ensures.items, c.in_ok-reserve.ensures.items, nets, c.in_ok-name.ensures.same, bits) sound;
      table = rw (c.push_reserved.ensures.items, c.in_ok-reserve.ensures.items, nets, c.in_ok-name.ensures.same, bits) (rw (c.insert_nets.ensures.added, own_nets, c.insert_own.ensures.added, c.in_ok-reserve-2.ensures.entries, c.in_ok-own.ensures.key, c.in_ok-name.ensures.same, c.in_ok-names.ensures.names, number) known);
    }
