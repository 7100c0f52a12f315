use Rattle.std.proofs.Common.{◌≡◌, ◌≤◌, ◌+◌, ◌-◌, [], ◌∷◌, length}
use Rattle.std.specs.Prelude.{option_map}
use Rattle.dft_lexing.specs.Blanks as spec
use Rattle.dft_lexing.proofs.blanks.rest_to.Given as goal

-- the rest of the text gives what the whole gives
abbrev pub invariant-loop-rest : goal.invariant-loop-rest
invariant-loop-rest l = record {
  same : spec.rest_to (l.first ∷ l.second ∷ []) l.text ≡ option_map (λ len. length l.text - length l.rest + len) (spec.rest_to (l.first ∷ l.second ∷ []) l.rest);
  within : length l.rest ≤ length l.text;
}

abbrev pub decreases-loop-rest : goal.decreases-loop-rest
decreases-loop-rest l = length l.rest
