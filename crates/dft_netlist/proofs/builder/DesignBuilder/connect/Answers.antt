use Rattle.std.proofs.Common.{◌≡◌, ◌<◌, ◌∙◌, sym, subst, refl, length, slice_get, Some}
use Rattle.std.proofs.lemmas.Option.{get_or_from_slice_get}
use Rattle.dft_netlist.specs.BuilderShown.{netlist_so_far}
use Rattle.dft_netlist.specs.Netlist.{Netlist}
use Rattle.dft_netlist.proofs.SoundLemmas.{pin_sound, pin_knows}
use Rattle.dft_netlist.proofs.builder.DesignBuilder.connect.Goals as goal

pub invariant_of-self : goal.invariant_of-self
invariant_of-self c =
    let n = netlist_so_far c.self.inside in
    let es = c.self.inside.table.entries in
    let id = c.args.instance.0 in
    let x = c.requires.free.instance in
    let at : slice_get n.instances id ≡ Some x = subst (λ (m : Netlist). slice_get m.instances id ≡ Some x) (sym c.self.view_is) c.requires.free.at in
    let live : c.args.net.0 < length n.nets = subst (λ (m : Netlist). c.args.net.0 < length m.nets) (sym c.self.view_is) c.requires.live in
    let same : c.index_mut.result.now ≡ x = c.index_mut.ensures.value ∙ get_or_from_slice_get n.instances id x c.index_mut.result.now at in
    record {
      netlist = rw (c.set.ensures, same) (pin_sound es n id c.args.pin x c.args.net at live c.self.invariant.netlist c.self.invariant.table);
      table = rw (c.set.ensures, same) (pin_knows es n id c.args.pin x c.args.net at c.self.invariant.table);
    }

pub returns : goal.returns
returns c =
    let n = netlist_so_far c.self.inside in
    let id = c.args.instance.0 in
    let x = c.requires.free.instance in
    let at : slice_get n.instances id ≡ Some x = subst (λ (m : Netlist). slice_get m.instances id ≡ Some x) (sym c.self.view_is) c.requires.free.at in
    let same : c.index_mut.result.now ≡ x = c.index_mut.ensures.value ∙ get_or_from_slice_get n.instances id x c.index_mut.result.now at in
    rw (← c.self.view_is, c.set.ensures, same) (record { instance = x; at = at; changed = refl })
