use Rattle.std.proofs.Common.{◌≡◌, ◌∙◌, sym, ap}
use Rattle.dft_netlist.specs.BuilderShown.{netlist_so_far}
use Rattle.dft_netlist.specs.NameTables.{look_up}
use Rattle.dft_netlist.proofs.NamesLemmas.{taken_of}
use Rattle.dft_netlist.proofs.RefusalLemmas.{own_taken, own_free}
use Rattle.dft_netlist.proofs.builder.DesignBuilder.untaken.Goals as goal

pub returns-then-is_some-clause-refused : goal.returns-then-is_some-clause-refused
returns-then-is_some-clause-refused c =
    let n = netlist_so_far c.self.inside in
    let q = c.in-Some.name in
    let looked : look_up c.self.inside.table.entries q ≡ c.get.result = ap (look_up c.self.inside.table.entries) (sym c.as_slice.ensures.bytes) ∙ sym c.get.ensures in
    let taken = taken_of _ n q c.get.result c.self.invariant.table looked ∙ sym c.is_some.ensures ∙ c.if-is_some.true in
    rw (c.in-Some.is, ← c.self.view_is) (own_taken n q taken)

pub returns-else-is_some-clause-refused : goal.returns-else-is_some-clause-refused
returns-else-is_some-clause-refused c =
    let n = netlist_so_far c.self.inside in
    let q = c.in-Some.name in
    let looked : look_up c.self.inside.table.entries q ≡ c.get.result = ap (look_up c.self.inside.table.entries) (sym c.as_slice.ensures.bytes) ∙ sym c.get.ensures in
    let free = taken_of _ n q c.get.result c.self.invariant.table looked ∙ sym c.is_some.ensures ∙ c.if-is_some.false in
    rw (c.in-Some.is, ← c.self.view_is) (own_free n q free)
