use Rattle.std.proofs.Common.{◌≡◌, nat_lt, true, List, ℕ, length, subst}
use Rattle.dft_stil_tokens.proofs.CharacterNames.{run_named}
use Rattle.dft_stil_tokens.proofs.tokens.Tokens.sees_run.Goals as goal

pub returns-then-sees_plain-clause-name : goal.returns-then-sees_plain-clause-name
returns-then-sees_plain-clause-name c = λ some.
    run_named _ (c.sees_plain.ensures.name c.if-sees_plain.true) (subst (λ (run : List ℕ). nat_lt 0 (length run) ≡ true) c.run.ensures some)
