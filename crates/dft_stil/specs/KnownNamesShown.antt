-- What a `KnownNames` shows.
use Rattle.std.specs.Prelude.{ℕ, List, map}
use Rattle.dft_stil.specs.declared.known_names.KnownNames.TheInside.{Inside}

abbrev pub known_names : Inside → List (List ℕ)
known_names k = map (λ n. n.items) k.names.keys
