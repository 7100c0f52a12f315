-- What packed bits stand for.
use Rattle.std.specs.Prelude.{Bool, ◌^◌, ◌<◌, List}
use Rattle.dft_lanes.specs.Rows.{bits_of, IsPacked}
use Rattle.dft_gf2.specs.declared.bits.Bits.TheInside.{Inside}

-- their list
abbrev pub listed : Inside → List Bool
listed b = bits_of b.count b.words.items

-- there are words for so many bits, and no bit past them
pub record AreListed (b : Inside) : Type 0 where
  pub few : b.count < 2 ^ 32
  pub packed : IsPacked b.count b.words.items
