use Rattle.std.proofs.Common.{◌≡◌, ◌∙◌, ap, subst, slice_get, Some}
use Rattle.std.proofs.lemmas.Option.{slice_get_within}
use Rattle.dft_netlist.specs.NetDrivers.{Drives}
use Rattle.dft_netlist.specs.Progress.{first_open}
use Rattle.dft_netlist.proofs.NotesLemmas.{item_at}
use Rattle.dft_netlist.proofs.ReadLemmas.{pin_reads}
use Rattle.dft_netlist.proofs.order.first_open_net.Goals as goal

pub returns-in-Pin-clause-first : goal.returns-in-Pin-clause-first
returns-in-Pin-clause-first c =
    let n = c.args.builder.now in
    let id = c.in-Pin.instance in
    let x = c.index-instances-instance.result in
    let d = subst (λ by. Drives n by c.args.net.0) c.in-Pin.is c.requires.drives in
    let at : slice_get n.instances id.0 ≡ Some x = item_at n.instances id.0 x (slice_get_within n.instances id.0 d.instance d.at) (rw c.instances.ensures.instances at c.index-instances-instance.is) in
    let read = rw (c.cells.ensures.cells, c.library.ensures) at c.first_open_pin.ensures.first in
    rw c.in-Pin.is (read ∙ ap (first_open c.args.states.now) (pin_reads n id c.in-Pin.pin x at))
