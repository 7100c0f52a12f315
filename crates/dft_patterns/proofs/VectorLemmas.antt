-- A vector has an act for each signal.
use Rattle.std.proofs.Common.{suc, List, [], ◌∷◌, ◌≡◌, length, refl, ap}
use Rattle.dft_patterns.specs.declared.act.Act.{Act}
use Rattle.dft_patterns.specs.declared.signal.StilSignal.{StilSignal}
use Rattle.dft_patterns.specs.Patterns.{IsVector}

pub vector_length : (signals : List StilSignal) (acts : List Act) → IsVector signals acts → length acts ≡ length signals
vector_length [] [] fits = refl
vector_length [] (act ∷ acts) fits = absurd fits
vector_length (s ∷ signals) [] fits = absurd fits
vector_length (s ∷ signals) (act ∷ acts) fits = ap suc (vector_length signals acts fits.1)
