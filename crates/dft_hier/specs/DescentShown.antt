-- What a walk down shows.
use Rattle.dft_hier.specs.Descents.{Stand}
use Rattle.dft_hier.specs.declared.descent.Descent.TheInside.{Inside}

abbrev pub stand_of : Inside → Stand
stand_of d = record { states = d.states.items; way = d.way.items; order = d.order.items; circle = d.circle }
