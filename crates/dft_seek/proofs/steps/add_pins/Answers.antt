-- One pin after another.
use Rattle.dft_netlist.specs.Orders.{numbers_of}
use Rattle.dft_seek.specs.Pins.{pin_nets}
use Rattle.dft_seek.proofs.StepLemmas.{pins_added}
use Rattle.dft_seek.proofs.steps.add_pins.Goals as goal

pub returns : goal.returns
returns c =
    let p = c.args.pins.now in
    pins_added (numbers_of c.args.nets.now.items) (numbers_of c.add_pin.new.nets.items) (numbers_of c.add_pin-2.new.nets.items) (numbers_of c.add_pin-3.new.nets.items) (pin_nets p.input) (pin_nets p.reset) (pin_nets p.preset)
    c.in_ok-add_pin.ensures c.in_ok-add_pin-2.ensures c.in_ok-add_pin-3.ensures
