-- Kinds that pass a test.
use Rattle.std.proofs.Common.{◌≡◌, ◌&&◌, Bool, true, false, not, refl}
use Rattle.std.proofs.lemmas.Bool.{false≢true}
use Rattle.dft_cells.specs.declared.kind.Kind.{Kind}
use Rattle.dft_cells.specs.declared.kind.Kind.TheVariants as kind
use Rattle.dft_cells.specs.declared.kind.TheConstants.{DFF}
use Rattle.dft_cells.specs.declared.kind.Forcing.{Forcing}
use Rattle.dft_cells.specs.declared.kind.Forcing.TheVariants as force
use Rattle.dft_cells.specs.FlipFlops.{same_force, is_dff}

pub forces_same : (its other : Forcing) → same_force its other ≡ true → its ≡ other
forces_same force.Nothing force.Nothing e = refl
forces_same force.Reset force.Reset e = refl
forces_same force.Set force.Set e = refl
forces_same _ _ e = absurd (false≢true e)

plain_only : (its : Forcing) (scan : Bool) → (same_force its force.Nothing && not scan) ≡ true → kind.Flop (record { force = its; scan = scan }) ≡ DFF
plain_only force.Nothing false e = refl
plain_only _ _ e = absurd (false≢true e)

pub dff_only : (this : Kind) → is_dff this ≡ true → this ≡ DFF
dff_only (kind.Flop flop) e = plain_only flop.force flop.scan e
dff_only _ e = absurd (false≢true e)
