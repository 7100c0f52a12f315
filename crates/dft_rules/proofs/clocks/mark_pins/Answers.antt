use Rattle.std.proofs.Common.{◌<◌, ◌≤◌, ◌∙◌, sym, length, false, get_or, arith}
use Rattle.std.proofs.lemmas.Option.{slice_get-get_or}
use Rattle.dft_netlist.specs.Drivers.{shape_of}
use Rattle.dft_rules.proofs.PinLemmas.{take_pin, take_over}
use Rattle.dft_rules.proofs.clocks.mark_pins.Goals as goal

pub mark-requires : goal.mark-requires
mark-requires c =
    let pins = c.args.instance.now.pins in
    let lt : c.loop-pin.pin < length pins = rw (← c.as_slice-signal-items.ensures) c.loop-pin-test.true in
    rw (c.as_slice-signal-items.ensures, c.loop-pin.auto.used) (c.requires.live c.loop-pin.pin _ (slice_get-get_or pins c.loop-pin.pin _ lt))

pub loop-pin-preserved : goal.loop-pin-preserved
loop-pin-preserved c = λ net less.
    (let roles = (shape_of c.args.cells.now c.args.instance.now.cell).roles in
    let pins = c.args.instance.now.pins in
    let lt : c.loop-pin.pin < length pins = rw (← c.as_slice-signal-items.ensures) c.loop-pin-test.true in
    let before : net < length c.loop-pin.used = omega (arith, c.mark.auto.used) in
    let now = rw (c.takes_data.ensures, c.as_slice-signal-items.ensures) at (c.mark.ensures net before) in
    c.loop-pin.invariant net before ∙ take_pin net roles pins c.loop-pin.pin _ (get_or c.loop-pin.used net false) (get_or c.mark.new.used net false) lt c.requires.width now)

pub returns : goal.returns
returns c = λ net less.
    (let pins = c.args.instance.now.pins in
    let past : length pins ≤ c.loop-pin.pin = rw (← c.as_slice-signal-items.ensures) c.loop-pin-test.false in
    let now : net < length c.loop-pin.used = omega (arith, c.loop-pin.auto.used) in
    sym (c.loop-pin.invariant net now ∙ take_over net (shape_of c.args.cells.now c.args.instance.now.cell).roles pins c.loop-pin.pin (get_or c.loop-pin.used net false) past))
