-- What a search shows.
use Rattle.dft_hier.specs.Searches.{Met}
use Rattle.dft_hier.specs.declared.reach.Search.TheInside.{Inside}

abbrev pub met_of : Inside → Met
met_of s = record { met = s.met.items; ahead = s.ahead.items }
