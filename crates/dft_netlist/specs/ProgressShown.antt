-- What a `Progress` shows.
use Rattle.dft_netlist.specs.declared.progress.Progress.TheInside.{Inside}
use Rattle.dft_netlist.specs.Progress.{Stand}

abbrev pub stand_of : Inside → Stand
stand_of p = record { states = p.states.items; order = p.order.items; walk = p.walk.items }
