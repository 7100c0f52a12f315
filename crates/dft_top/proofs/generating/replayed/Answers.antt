use Rattle.std.proofs.Common.{◌≡◌, ◌∙◌, Err, ap, rules}
use Rattle.dft_answers.specs.declared.outcome.Outcome.TheVariants.{Finished}
use Rattle.dft_top.specs.Outcomes.{course_of_replay, made_files}
use Rattle.dft_top.proofs.Following.{still_quiet}
use Rattle.dft_top.proofs.JobLemmas.{is_replayed, stops_replayed}
use Rattle.dft_top.proofs.generating.replayed.Goals as goal

pub returns-in_err-replay-in-Finished-Compiled-clause-outcome : goal.returns-in_err-replay-in-Finished-Compiled-clause-outcome
returns-in_err-replay-in-Finished-Compiled-clause-outcome c =
    let stops : c.from_residual.result ≡ Err c.in_err-replay-in-Finished-Compiled.field-0.0 = search rules in
    stops_replayed _ _ _ _ _ _ _ _ _ (c.in-Finished-Compiled.is ∙ ap Finished c.in-Finished-Compiled.field-0-is) c.as_slice.ensures c.as_slice-in-Finished-Compiled.ensures stops c.in_err-replay-in-Finished-Compiled.ensures.reached

pub returns-in_err-replay-in-Finished-Compiled-clause-quiet : goal.returns-in_err-replay-in-Finished-Compiled-clause-quiet
returns-in_err-replay-in-Finished-Compiled-clause-quiet c = λ is. still_quiet (course_of_replay made_files) _ (Err c.in_err-replay-in-Finished-Compiled.field-0.0) c.in_err-replay-in-Finished-Compiled.ensures (search rules)

pub returns-in_ok-replay-in-Finished-Compiled-clause-outcome : goal.returns-in_ok-replay-in-Finished-Compiled-clause-outcome
returns-in_ok-replay-in-Finished-Compiled-clause-outcome c =
    is_replayed _ _ _ _ _ _ _ _ _ (c.in-Finished-Compiled.is ∙ ap Finished c.in-Finished-Compiled.field-0-is) c.as_slice.ensures c.as_slice-in-Finished-Compiled.ensures c.generated.ensures c.in_ok-replay-in-Finished-Compiled.ensures.reached
