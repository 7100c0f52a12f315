-- What a `NameSet` shows.
use Rattle.std.specs.Prelude.{ℕ, List, map}
use Rattle.dft_cubes.specs.declared.name_set.NameSet.TheInside.{Inside}

abbrev pub names_in : Inside → List (List ℕ)
names_in s = map (λ name. name.items) s.names.keys
