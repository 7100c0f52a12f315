use Rattle.std.proofs.Common.{◌≡◌, ◌∙◌, ap, Some, slice_get}
use Rattle.dft_netlist.specs.Connections.{signal_of}
use Rattle.dft_netlist.specs.Drivers.{connections_of}
use Rattle.dft_netlist.proofs.NotesLemmas.{item_at}
use Rattle.dft_configure.specs.Found.{hold_at, shown_hold}
use Rattle.dft_configure.proofs.RootLemmas.{hold_root_is}
use Rattle.dft_configure.proofs.opening.hold_root.Goals as goal

pub returns : goal.returns
returns c =
    let n = c.args.design.now in
    let x = c.index-instances-number.result in
    let at : slice_get n.instances c.args.number ≡ Some x = item_at n.instances c.args.number x c.requires.number (rw c.instances.ensures.instances at c.index-instances-number.is) in
    let pin : c.signal_of.result ≡ signal_of c.args.hold (connections_of n.library x) = rw (c.cells-cells.ensures.cells, c.library.ensures.library) at c.signal_of.ensures in
    ap shown_hold (c.hold_at.ensures ∙ (λ i. hold_at (c.deref.ensures.value i) (pin i))) ∙ hold_root_is n c.args.tables.now.roots.items c.args.hold c.args.number x at c.requires.tables.roots
