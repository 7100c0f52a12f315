use Rattle.std.proofs.Common.{◌≡◌, ◌<◌, ◌≤◌, ◌∙◌, sym, ap, length, arith}
use Rattle.dft_netlist.specs.BuilderShown.{netlist_so_far}
use Rattle.dft_netlist.specs.declared.limits.TheConstants.{MAX_NETS}
use Rattle.dft_netlist.specs.NameTables.{look_up}
use Rattle.dft_netlist.proofs.NamesLemmas.{taken_of}
use Rattle.dft_netlist.proofs.RefusalLemmas.{net_taken, net_full, net_open}
use Rattle.dft_netlist.proofs.builder.DesignBuilder.net.Goals as goal

pub returns-then-is_some-clause-refused : goal.returns-then-is_some-clause-refused
returns-then-is_some-clause-refused c =
    let n = netlist_so_far c.self.inside in
    let looked : look_up c.self.inside.table.entries c.args.name ≡ c.get.result = ap (look_up c.self.inside.table.entries) (sym c.as_slice.ensures.bytes) ∙ sym c.get.ensures in
    let taken = taken_of _ n c.args.name c.get.result c.self.invariant.table looked ∙ sym c.is_some.ensures ∙ c.if-is_some.true in
    rw (← c.self.view_is) (net_taken n c.args.name taken)

pub returns-then-net_count-ge-MAX_NETS-clause-refused : goal.returns-then-net_count-ge-MAX_NETS-clause-refused
returns-then-net_count-ge-MAX_NETS-clause-refused c =
    let n = netlist_so_far c.self.inside in
    let looked : look_up c.self.inside.table.entries c.args.name ≡ c.get.result = ap (look_up c.self.inside.table.entries) (sym c.as_slice.ensures.bytes) ∙ sym c.get.ensures in
    let free = taken_of _ n c.args.name c.get.result c.self.invariant.table looked ∙ sym c.is_some.ensures ∙ c.if-is_some.false in
    let full : MAX_NETS ≤ length n.nets = omega arith in
    rw (c.too_many.ensures, ← c.self.view_is) (net_full n c.args.name free full)

pub add_net-requires : goal.add_net-requires
add_net-requires c =
    let n = netlist_so_far c.self.inside in
    let looked : look_up c.self.inside.table.entries c.args.name ≡ c.get.result = ap (look_up c.self.inside.table.entries) (sym c.as_slice.ensures.bytes) ∙ sym c.get.ensures in
    let free = taken_of _ n c.args.name c.get.result c.self.invariant.table looked ∙ sym c.is_some.ensures ∙ c.if-is_some.false in
    let few : length n.nets < MAX_NETS = omega arith in
    rw (← c.self.view_is) (net_open n c.args.name free few)

pub returns-clause-refused : goal.returns-clause-refused
returns-clause-refused c =
    let n = netlist_so_far c.self.inside in
    let looked : look_up c.self.inside.table.entries c.args.name ≡ c.get.result = ap (look_up c.self.inside.table.entries) (sym c.as_slice.ensures.bytes) ∙ sym c.get.ensures in
    let free = taken_of _ n c.args.name c.get.result c.self.invariant.table looked ∙ sym c.is_some.ensures ∙ c.if-is_some.false in
    let few : length n.nets < MAX_NETS = omega arith in
    rw (← c.self.view_is) (net_open n c.args.name free few)
