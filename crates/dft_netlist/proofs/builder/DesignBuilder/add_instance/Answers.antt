use Rattle.std.proofs.Common.{◌≡◌, sym, subst, length, None, arith, refl}
use Rattle.dft_netlist.specs.BuilderShown.{netlist_so_far}
use Rattle.dft_netlist.specs.Building.{instance_refusal}
use Rattle.dft_netlist.specs.Netlist.{Netlist}
use Rattle.dft_netlist.specs.Sound.{IsInstanceOf}
use Rattle.dft_netlist.specs.declared.instance.Instance.{Instance}
use Rattle.dft_netlist.proofs.NamesLemmas.{own_free_look_up}
use Rattle.dft_netlist.proofs.RefusalLemmas.{instance_fits}
use Rattle.dft_netlist.proofs.SoundLemmas.{instance_sound, own_knows}
use Rattle.dft_netlist.proofs.builder.DesignBuilder.add_instance.Goals as goal

pub insert_own-requires-clause-fresh : goal.insert_own-requires-clause-fresh
insert_own-requires-clause-fresh c =
    let n = netlist_so_far c.self.inside in
    let x : Instance = c.args.instance in
    let fits = instance_fits n x.name (subst (λ (m : Netlist). instance_refusal m x.name ≡ None) (sym c.self.view_is) c.requires.free) in
    rw (c.in_ok-reserve-2.ensures.entries, c.in_ok-key.ensures.key) (own_free_look_up _ n x.name c.self.invariant.table fits.0)

pub invariant_of-self-2 : goal.invariant_of-self-2
invariant_of-self-2 c =
    let n = netlist_so_far c.self.inside in
    let es = c.self.inside.table.entries in
    let x : Instance = c.args.instance in
    let fits = instance_fits n x.name (subst (λ (m : Netlist). instance_refusal m x.name ≡ None) (sym c.self.view_is) c.requires.free) in
    let counted : c.len.result ≡ length n.instances = omega arith in
    let is : IsInstanceOf n x.name x.cell x.pins = subst (λ (m : Netlist). IsInstanceOf m x.name x.cell x.pins) (sym c.self.view_is) c.requires.fits in
    let known = own_knows es n x x.name refl c.self.invariant.table (own_free_look_up _ n x.name c.self.invariant.table fits.0) in
    record {
      netlist = rw (c.push_reserved.ensures.items, c.in_ok-reserve.ensures.items, c.insert_own.ensures.nets, c.in_ok-reserve-2.ensures.nets) (instance_sound _ n x c.self.invariant.netlist c.in_ok-key.ensures.name known fits.1 is);
      table = rw (c.push_reserved.ensures.items, c.in_ok-reserve.ensures.items, c.insert_own.ensures.nets, c.in_ok-reserve-2.ensures.nets, c.insert_own.ensures.added, c.in_ok-reserve-2.ensures.entries, c.in_ok-key.ensures.key, counted) known;
    }
