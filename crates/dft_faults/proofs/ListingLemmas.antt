-- Lists of faults.
use Rattle.std.proofs.Common.{List, [], arith, length, refl, ◌*◌, ◌∷◌, ◌≡◌, ℕ}
use Rattle.dft_faults.specs.Faults.{both_of}

pub both_few : (nets : List ℕ) → length (both_of nets) ≡ 2 * length nets
both_few [] = refl
both_few (net ∷ nets) = omega (arith, both_few nets)
