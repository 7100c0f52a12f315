use Rattle.std.proofs.Common.{◌≡◌, ◌≤◌, Some, sym, length, slice_get}
use Rattle.std.proofs.lemmas.Bool.{ltb-false}
use Rattle.dft_netlist.specs.Shown.{netlist_of}
use Rattle.dft_netlist.proofs.NotesLemmas.{item_at}
use Rattle.dft_netlist.proofs.PinLemmas.{signal_there, no_signal}
use Rattle.dft_netlist.proofs.design.Design.signal.Goals as goal

pub returns-in-Some-clause-live : goal.returns-in-Some-clause-live
returns-in-Some-clause-live c =
    let n = netlist_of c.self.inside in
    let x = c.in-Some.instance.now in
    let at : slice_get n.instances c.args.instance.0 ≡ Some x = rw c.deref.ensures.value at (item_at c.deref.result.now c.args.instance.0 x c.in-Some.ensures.lookup.3.0 c.in-Some.ensures.lookup.1) in
    rw (← c.self.view_is) (signal_there n c.args.instance.0 x c.args.role c.self.invariant.netlist at c.signal_of.result (rw c.cells.ensures.cells at c.signal_of.ensures))

pub returns-in-None-clause-signal : goal.returns-in-None-clause-signal
returns-in-None-clause-signal c =
    let n = netlist_of c.self.inside in
    let far : length c.deref.result.now ≤ c.args.instance.0 = ltb-false _ _ (sym c.in-None.ensures.lookup.0) in
    let past : length n.instances ≤ c.args.instance.0 = rw c.deref.ensures.value at far in
    rw (← c.self.view_is) (no_signal n c.args.instance.0 c.args.role past)
