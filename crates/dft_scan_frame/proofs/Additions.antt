-- Of two refusals neither is there, where the first is not.
use Rattle.std.proofs.Common.{◌≡◌, Option, None, Some, refl, sym}
use Rattle.std.proofs.lemmas.Option.{none-some}
use Rattle.dft_scan_frame.specs.declared.error.InsertError.{InsertError}
use Rattle.dft_scan_frame.specs.Refusals.{or_else}

-- both are none
pub record BothNone (a b : Option InsertError) : Type 0 where
  pub first : a ≡ None
  pub later : b ≡ None

pub both_none : (a b : Option InsertError) → or_else a b ≡ None → BothNone a b
both_none None b e = record { first = refl; later = e }
both_none (Some error) b e = absurd (none-some error (sym e))
