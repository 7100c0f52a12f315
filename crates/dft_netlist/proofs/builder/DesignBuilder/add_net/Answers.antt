use Rattle.std.proofs.Common.{◌≡◌, ◌∙◌, sym, subst, refl, None}
use Rattle.dft_base.proofs.OptionLemmas.{none_of}
use Rattle.dft_netlist.specs.BuilderShown.{netlist_so_far}
use Rattle.dft_netlist.specs.Building.{net_refusal}
use Rattle.dft_netlist.specs.NameTables.{look_up}
use Rattle.dft_netlist.specs.Netlist.{Netlist}
use Rattle.dft_netlist.proofs.NamesLemmas.{taken_of}
use Rattle.dft_netlist.proofs.RefusalLemmas.{net_fits}
use Rattle.dft_netlist.proofs.SoundLemmas.{net_sound, net_knows}
use Rattle.dft_netlist.proofs.builder.DesignBuilder.add_net.Goals as goal

pub insert_net-requires-clause-fresh : goal.insert_net-requires-clause-fresh
insert_net-requires-clause-fresh c =
    let n = netlist_so_far c.self.inside in
    let es = c.self.inside.table.entries in
    let q = c.args.name in
    let fits = net_fits n q (subst (λ (m : Netlist). net_refusal m q ≡ None) (sym c.self.view_is) c.requires) in
    rw c.in_ok-reserve.ensures.entries (none_of (look_up es q) (sym (taken_of es n q (look_up es q) c.self.invariant.table refl) ∙ fits.0))

pub invariant_of-self-2 : goal.invariant_of-self-2
invariant_of-self-2 c =
    let n = netlist_so_far c.self.inside in
    let es = c.self.inside.table.entries in
    let q = c.args.name in
    let fits = net_fits n q (subst (λ (m : Netlist). net_refusal m q ≡ None) (sym c.self.view_is) c.requires) in
    let none : look_up es q ≡ None = none_of (look_up es q) (sym (taken_of es n q (look_up es q) c.self.invariant.table refl) ∙ fits.0) in
    let known = net_knows es n q c.self.invariant.table none in
    record {
      netlist = rw (c.insert_net.ensures.nets, c.in_ok-reserve.ensures.nets) (net_sound _ n q c.self.invariant.netlist c.soundness.ensures known fits.1);
      table = rw (c.insert_net.ensures.added, c.insert_net.ensures.nets, c.in_ok-reserve.ensures.entries, c.in_ok-reserve.ensures.nets) known;
    }
