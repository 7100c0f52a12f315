-- What a walk through items shows.
use Rattle.dft_hier.specs.ItemWalks.{ItemStand}
use Rattle.dft_hier.specs.declared.flat_items.ItemWalk.TheInside.{Inside}

abbrev pub item_stand_of : Inside → ItemStand
item_stand_of w = record { way = w.way.items; prefix = w.prefix.items }
