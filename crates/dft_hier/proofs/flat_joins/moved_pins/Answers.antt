use Rattle.std.proofs.Common.{List, map, ap, ◌∙◌}
use Rattle.std.proofs.lemmas.List.{take_all}
use Rattle.dft_netlist.specs.declared.instance.Signal.{Signal}
use Rattle.dft_hier.specs.Flat.{moved}
use Rattle.dft_hier.proofs.flat_joins.moved_pins.Goals as goal

pub returns : goal.returns
returns c = c.loop-pin.invariant ∙ ap (λ (xs : List Signal). map (moved c.args.first) xs) (take_all c.loop-pin.pin-index c.args.pins.now c.loop-pin-test.false)
