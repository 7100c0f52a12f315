-- What the kept rows of a chain stand for.
use Rattle.std.specs.Prelude.{Bool, List}
use Rattle.dft_equations.specs.ChainRows.{rows_by, AreKept}
use Rattle.dft_equations.specs.declared.chain_rows.ChainRows.TheInside.{Inside}

abbrev pub rows_in : Inside → List (List Bool)
rows_in c = rows_by c.columns c.channels c.kept.items c.places

abbrev pub HasKept : Inside → Type 0
HasKept c = AreKept c.columns c.channels c.kept.items c.places
