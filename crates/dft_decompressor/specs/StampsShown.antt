-- What is kept of a set with its stamp.
use Rattle.std.specs.Prelude.{◌≡◌, Bool, List}
use Rattle.dft_decompressor.specs.declared.stamps.Stamped.TheInside.{Inside}
use Rattle.dft_decompressor.specs.Stamps.{stamp_of}

abbrev pub set_in : Inside → List Bool
set_in s = s.set

-- the stamp is that of the set
abbrev pub IsStamped : Inside → Type 0
IsStamped s = s.stamp ≡ stamp_of s.set
