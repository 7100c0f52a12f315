use Rattle.std.proofs.Common.{◌≡◌, ◌∙◌, Some, slice_get}
use Rattle.dft_cells.specs.declared.kind.Role.TheVariants.{Clock}
use Rattle.dft_netlist.specs.Connections.{signal_of}
use Rattle.dft_netlist.specs.Drivers.{connections_of}
use Rattle.dft_netlist.proofs.NotesLemmas.{item_at}
use Rattle.dft_configure.specs.Found.{marked_only, port_at}
use Rattle.dft_configure.proofs.RootLemmas.{clean_clock_is}
use Rattle.dft_configure.proofs.opening.clean_clock.Goals as goal

pub returns : goal.returns
returns c =
    let n = c.args.design.now in
    let t = c.args.tables.now in
    let x = c.index-instances-number.result in
    let at : slice_get n.instances c.args.number ≡ Some x = item_at n.instances c.args.number x c.requires.number (rw c.instances.ensures.instances at c.index-instances-number.is) in
    let pins = connections_of n.library x in
    let pin : c.signal_of-pin.result ≡ signal_of Clock pins = rw (c.cells-cells.ensures.cells, c.library.ensures.library) at c.signal_of-pin.ensures in
    c.marked_only.ensures ∙ (λ i. marked_only (c.deref.ensures.value i) ((c.port_at.ensures ∙ (λ j. port_at (c.deref-2.ensures.value j) (pin j))) i)) ∙ clean_clock_is n t.roots.items t.clean.items c.args.number x at c.requires.tables.roots c.requires.tables.clean
