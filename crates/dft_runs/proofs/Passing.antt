-- Rounds and turns pass on what is known, one and many.
use Rattle.std.proofs.Common.{[], ◌∷◌, refl, ap}
use Rattle.dft_base.specs.Tri.{known}
use Rattle.dft_behavior.specs.Runs.{after_turn}
use Rattle.dft_abstract.specs.Cycle.{after_round}
use Rattle.dft_abstract.proofs.Halves.{closed_views, least_closed}
use Rattle.dft_abstract.proofs.Lifts.{known_after_turn, known_at_strobe, low_after_turn}
use Rattle.dft_runs.specs.Passes.{RoundPasses, TurnPasses, RoundsPass, TurnsPass}

pub round_passes : RoundPasses
round_passes l x old r is = record {
  after = λ c b law. law r.halves (closed_views l x old r.halves (least_closed l x old r.halves is.least));
  strobe = λ net b law. law r.strobe is.strobe;
}

pub turn_passes : TurnPasses
turn_passes l rank x now t ranked low turn = record {
  after = λ c b law. ap known (known_after_turn l rank x now t ranked low turn c b law);
  strobe = λ net b law. ap known (known_at_strobe l rank x now t ranked low turn net b law);
}

pub rounds_pass : RoundsPass
rounds_pass l old [] [] are = (tt, refl)
rounds_pass l old [] (r ∷ rs) are = absurd are
rounds_pass l old (x ∷ xs) [] are = absurd are
rounds_pass l old (x ∷ xs) (r ∷ rs) are =
    let rest = rounds_pass l (after_round l x old r) xs rs are.1 in
    ((round_passes l x old r are.0, rest.0), rest.1)

pub turns_pass : TurnsPass
turns_pass l rank now [] [] ranked low are = (tt, refl, low)
turns_pass l rank now [] (t ∷ ts) ranked low are = absurd are
turns_pass l rank now (x ∷ xs) [] ranked low are = absurd are
turns_pass l rank now (x ∷ xs) (t ∷ ts) ranked low are =
    let rest = turns_pass l rank (after_turn l x now t) xs ts ranked (low_after_turn l rank x now t ranked low are.0) are.1 in
    ((turn_passes l rank x now t ranked low are.0, rest.0), rest.1, rest.2)
