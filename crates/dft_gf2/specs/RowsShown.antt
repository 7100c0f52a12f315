-- What stored rows stand for.
use Rattle.std.specs.Prelude.{ℕ, List, map}
use Rattle.dft_base.specs.Solutions.{bit_at}
use Rattle.dft_gf2.specs.Rows.{AreFitted, bits_to}
use Rattle.dft_gf2.specs.declared.row.Row.{Row}
use Rattle.dft_gf2.specs.declared.rows.Rows.TheInside.{Inside}

-- the row, which could sum n equations
abbrev pub widened : ℕ → Row → Row
widened n row = record { set = row.set; bit = row.bit; sums = bits_to n (bit_at row.sums); id = row.id }

-- their list
abbrev pub shown : Inside → List Row
shown r = map (widened r.columns) r.rows.items

-- each has names up to its own place
pub record AreStored (r : Inside) : Type 0 where
  pub fitted : AreFitted r.columns r.rows.items
