use Rattle.std.proofs.Common.{◌<◌, ◌≤◌, ◌∙◌, sym, ap, length, Option}
use Rattle.dft_netlist.specs.declared.instance.Signal.TheVariants.{Unconnected}
use Rattle.dft_netlist.specs.Drivers.{Connection, shape_of}
use Rattle.dft_netlist.specs.Connections.{joined_to}
use Rattle.std.specs.Prelude.{option_map}
use Rattle.dft_netlist.proofs.PinLemmas.{find_pin, find_pin_on, find_pin_over}
use Rattle.dft_netlist.proofs.cells.signal_of.Goals as goal

pub returns-then-has_role : goal.returns-then-has_role
returns-then-has_role c =
    let roles = (shape_of c.args.cells.now c.args.instance.now.cell).roles in
    let pins = c.args.instance.now.pins in
    let lt : c.loop-pin.pin < length pins = rw (← c.as_slice-signal-items.ensures) c.loop-pin-test.true in
    let is = rw c.role_at.ensures at (sym c.has_role.ensures ∙ c.if-has_role.true) in
    rw c.as_slice-signal-items.ensures
    (sym (ap (λ (o : Option Connection). option_map joined_to o) c.loop-pin.invariant ∙ find_pin c.args.role roles pins c.loop-pin.pin _ lt c.requires is))

pub loop-pin-preserved : goal.loop-pin-preserved
loop-pin-preserved c =
    let roles = (shape_of c.args.cells.now c.args.instance.now.cell).roles in
    let pins = c.args.instance.now.pins in
    let lt : c.loop-pin.pin < length pins = rw (← c.as_slice-signal-items.ensures) c.loop-pin-test.true in
    let is = rw c.role_at.ensures at (sym c.has_role.ensures ∙ c.if-has_role.false) in
    c.loop-pin.invariant ∙ find_pin_on c.args.role roles pins c.loop-pin.pin Unconnected lt c.requires is

pub returns : goal.returns
returns c =
    let pins = c.args.instance.now.pins in
    let past : length pins ≤ c.loop-pin.pin = rw (← c.as_slice-signal-items.ensures) c.loop-pin-test.false in
    sym (ap (λ (o : Option Connection). option_map joined_to o) (c.loop-pin.invariant ∙ find_pin_over c.args.role (shape_of c.args.cells.now c.args.instance.now.cell).roles pins c.loop-pin.pin past))
