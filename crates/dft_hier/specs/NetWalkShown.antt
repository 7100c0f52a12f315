-- What a walk through nets shows.
use Rattle.dft_hier.specs.NetWalks.{NetStand}
use Rattle.dft_hier.specs.declared.flat_nets.NetWalk.TheInside.{Inside}

abbrev pub net_stand_of : Inside → NetStand
net_stand_of w = record { way = w.way.items; prefix = w.prefix.items }
