-- What the items of a module that give something show.
use Rattle.dft_hier.specs.Weights.{Live}
use Rattle.dft_hier.specs.declared.weights.LiveItems.TheInside.{Inside}

abbrev pub live_in : Inside → Live
live_in l = record { items = l.items.items; with_nets = l.with_nets.items }
