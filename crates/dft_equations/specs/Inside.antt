-- What the fields of load equations stand for.
use Rattle.dft_equations.specs.LoadRows.{LoadRows, AreWide}
use Rattle.dft_equations.specs.declared.table.Equations.TheInside.{Inside}

-- the columns and the rows of each chain
abbrev pub load_rows : Inside → LoadRows
load_rows s = record { columns = s.columns; chains = s.chains.items }

-- each row has a bit for each column
abbrev pub IsWide : Inside → Type 0
IsWide s = AreWide s.columns s.chains.items
