-- What a packed row stands for.
use Rattle.std.specs.Prelude.{Bool, ◌^◌, ◌<◌, List}
use Rattle.dft_lanes.specs.Rows.{bits_of, IsPacked}
use Rattle.dft_equations.specs.declared.row.Row.TheInside.{Inside}

-- the bits of the columns
abbrev pub row_bits : Inside → List Bool
row_bits r = bits_of r.columns r.words.items

-- there are words for the columns, and no bit past them
pub record IsRow (r : Inside) : Type 0 where
  pub few : r.columns < 2 ^ 32
  pub packed : IsPacked r.columns r.words.items
