-- Lists of steps, one after another.
use Rattle.std.proofs.Common.{List, [], ◌∷◌, ◌++◌, ◌≡◌, refl}
use Rattle.dft_behavior.specs.Logic.{Logic}
use Rattle.dft_behavior.specs.Runs.{Now, Step, next_now, after, AreSteps}

pub after-append : (l : Logic) (now : Now) (a b : List Step) → after l now (a ++ b) ≡ after l (after l now a) b
after-append l now [] b = refl
after-append l now (step ∷ a) b = after-append l (next_now l now step) a b

pub AreSteps-append : (l : Logic) (now : Now) (a b : List Step) → AreSteps l now (a ++ b) → AreSteps l now a × AreSteps l (after l now a) b
AreSteps-append l now [] b h = (tt, h)
AreSteps-append l now (step ∷ a) b h = let rest = AreSteps-append l (next_now l now step) a b h.1 in ((h.0, rest.0), rest.1)
