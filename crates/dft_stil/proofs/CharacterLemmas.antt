-- Signals that still have no character.
use Rattle.std.proofs.Common.{◌≡◌, ℕ, suc, true, false, not, ◌==◌, List, [], ◌∷◌, length, refl, arith}
use Rattle.std.proofs.lemmas.Bool.Decides.{nat_tests}
use Rattle.std.specs.List.{list_any}

-- there is none where their number is 0
pub none_left : (ns : List ℕ) → (length ns == 0) ≡ not (list_any (λ n. true) ns)
none_left [] = refl
none_left (n ∷ ns) = let some : (suc (length ns) == 0) ≡ false = grind (arith, nat_tests) in some

pub ruleset signals_left = (none_left)
