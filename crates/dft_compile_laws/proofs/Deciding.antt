-- Where all compared bits agree nothing is decided.
use Rattle.std.proofs.Common.{ℕ, suc, ◌≡◌, true, false, List, [], ◌∷◌, None, refl, ap, ◌∙◌}
use Rattle.dft_base.specs.declared.tri.Tri.{Tri}
use Rattle.dft_patterns.specs.declared.act.Act.{Act}
use Rattle.dft_patterns.specs.declared.act.Act.TheVariants.{Unset, Low, High, Pulse, ExpectLow, ExpectHigh, Ignore}
use Rattle.dft_replay.specs.Rows.{Compared, compared_at, compared_from}
use Rattle.dft_replay.specs.Verdicts.{decided, decided_by}
use Rattle.dft_compile_laws.specs.Agreeing.{AgreesAct, AgreedGoesOn}

decided_at : (values : ℕ → Tri) (v i net : ℕ) (a : Act) (rest : List Compared) → AgreesAct values net a → decided values v rest ≡ None → decided values v (compared_at i net a rest) ≡ None
decided_at values v i net ExpectLow rest h none = ap (λ (t : Tri). decided_by v i t false (decided values v rest)) h ∙ none
decided_at values v i net ExpectHigh rest h none = ap (λ (t : Tri). decided_by v i t true (decided values v rest)) h ∙ none
decided_at values v i net Unset rest h none = none
decided_at values v i net Low rest h none = none
decided_at values v i net High rest h none = none
decided_at values v i net Pulse rest h none = none
decided_at values v i net Ignore rest h none = none

pub agreed_goes_on : AgreedGoesOn
agreed_goes_on values v i [] acts h = refl
agreed_goes_on values v i (net ∷ nets) [] h = refl
agreed_goes_on values v i (net ∷ nets) (a ∷ acts) h = decided_at values v i net a (compared_from (suc i) nets acts) h.0 (agreed_goes_on values v (suc i) nets acts h.1)
