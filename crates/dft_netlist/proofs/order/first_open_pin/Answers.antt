use Rattle.std.proofs.Common.{◌<◌, ◌∙◌, sym, ap, length}
use Rattle.dft_netlist.specs.Drivers.{shape_of}
use Rattle.dft_netlist.specs.Progress.{first_open}
use Rattle.dft_netlist.proofs.ReadLemmas.{open_some, open_none, read_more}
use Rattle.dft_netlist.proofs.order.first_open_pin.Goals as goal

pub returns-in-Some-clause-first : goal.returns-in-Some-clause-first
returns-in-Some-clause-first c =
    let shape = shape_of c.args.cells.now c.args.instance.now.cell in
    let pins = c.args.instance.now.pins in
    let lt : c.loop-pin.pin < length pins = rw (← c.as_slice-signal-items.ensures) c.loop-pin-test.true in
    let found = rw (c.in-Some.is, c.kind_of-kind.ensures, c.as_slice-signal-items.ensures) at c.open_pin.ensures.first in
    sym (sym c.loop-pin.invariant ∙ ap (first_open c.args.states.now) (read_more shape.kind shape.roles pins c.loop-pin.pin c.known_role-role.result _ lt c.known_role-role.ensures) ∙ open_some c.args.states.now _ _ c.in-Some.net.0 (sym found))

pub loop-pin-preserved : goal.loop-pin-preserved
loop-pin-preserved c =
    let shape = shape_of c.args.cells.now c.args.instance.now.cell in
    let pins = c.args.instance.now.pins in
    let lt : c.loop-pin.pin < length pins = rw (← c.as_slice-signal-items.ensures) c.loop-pin-test.true in
    let found = rw (c.in_default.is, c.kind_of-kind.ensures, c.as_slice-signal-items.ensures) at c.open_pin.ensures.first in
    sym (sym c.loop-pin.invariant ∙ ap (first_open c.args.states.now) (read_more shape.kind shape.roles pins c.loop-pin.pin c.known_role-role.result _ lt c.known_role-role.ensures) ∙ open_none c.args.states.now _ _ (sym found))
