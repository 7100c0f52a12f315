-- How the run of a generated job ends.
use Rattle.std.proofs.Common.{ℕ, ◌≡◌, ◌⊎◌, ◌∙◌, inl, inr, List, [], refl, subst, Option, Some}
use Rattle.dft_files.specs.Outside.{Rose}
use Rattle.dft_generate.specs.Jobs.{IsSize}
use Rattle.dft_command_line.specs.Words.{AreFor, Command, Generate, JobNumbers}
use Rattle.dft_command_line.proofs.Understood.{for_once}
use Rattle.dft_answers.specs.declared.answer.Answer.{Answer}
use Rattle.dft_answers.specs.declared.answer.Refusal.{Refusal}
use Rattle.dft_answers.specs.declared.answer.Status.TheVariants.{Done, OutOfMemory, WriteFault}
use Rattle.dft_answers.specs.declared.outcome.Outcome.{Outcome}
use Rattle.dft_answers.specs.declared.outcome.Outcome.TheVariants as outcome
use Rattle.dft_answers.specs.Answers.{answer_of}
use Rattle.dft_top.specs.Outcomes.{IsOutcomeOfJob}
use Rattle.dft_top.specs.Run.{EndsFor, GeneratesJob, IsDelivered, IsOf, MayBeRefused, Seen}
use Rattle.dft_top.proofs.JobFits.{JobsFit}
use Rattle.dft_top.proofs.JobReplays.{JobsPass}
use Rattle.dft_top.proofs.Kept.{no_failing}
use Rattle.dft_top.proofs.Completed.{status_is}

-- how it ends
abbrev JobEnds : JobNumbers → (put_faults put_faults' : ℕ) → Answer → Type 0
JobEnds numbers put_faults put_faults' answer =
    (answer.status ≡ Done)
    ⊎ ((refusal : Refusal) × (MayBeRefused numbers refusal × (IsOutcomeOfJob numbers (outcome.Refused refusal) × (answer ≡ answer_of (outcome.Refused refusal)))))
    ⊎ ((answer.status ≡ WriteFault) × Rose put_faults put_faults')
    ⊎ (answer.status ≡ OutOfMemory)

-- where its outcome is answered
answered : JobsPass → JobsFit → (numbers : JobNumbers) (o : Outcome) (put_faults put_faults' : ℕ) (answer : Answer) → IsSize numbers.size → IsOf (Generate numbers) o → IsOutcomeOfJob numbers o → answer ≡ answer_of o → JobEnds numbers put_faults put_faults' answer
answered pass fit numbers outcome.Usage put_faults put_faults' answer sized suits is same = absurd suits
answered pass fit numbers (outcome.Refused refusal) put_faults put_faults' answer sized suits is same = inr (inl (refusal, (fit numbers (outcome.Refused refusal) sized is refusal refl, (is, same))))
answered pass fit numbers (outcome.Finished work) put_faults put_faults' answer sized suits is same = inl (status_is answer _ same ∙ pass numbers (outcome.Finished work) (λ refusal e. cc) is)

delivered : JobsPass → JobsFit → (numbers : JobNumbers) (o : Outcome) (before after : Seen) (answer : Answer) → IsSize numbers.size → IsOf (Generate numbers) o → IsOutcomeOfJob numbers o → IsDelivered (Some (Generate numbers)) o before after answer →
    JobEnds numbers before.put_faults after.put_faults answer
delivered pass fit numbers o before after answer sized suits is (inl x) = answered pass fit numbers o before.put_faults after.put_faults answer sized suits is x.answers
delivered pass fit numbers o before after answer sized suits is (inr (inl x)) = absurd (no_failing x.failed.saved x.failed.rest x.failed.failing x.failed.in_order)
delivered pass fit numbers o before after answer sized suits is (inr (inr (inl x))) = inr (inr (inl (status_is answer _ x.answers, x.rose)))
delivered pass fit numbers o before after answer sized suits is (inr (inr (inr x))) = inr (inr (inr (status_is answer _ x.answers)))

ends : JobsPass → JobsFit → (numbers : JobNumbers) (before after : Seen) (answer : Answer) → IsSize numbers.size → EndsFor (Some (Generate numbers)) before after answer → JobEnds numbers before.put_faults after.put_faults answer
ends pass fit numbers before after answer sized (inl x) = delivered pass fit numbers x.o before after answer sized x.told.suits (x.told.told []) x.delivered
ends pass fit numbers before after answer sized (inr (inl x)) = absurd x.loaded
ends pass fit numbers before after answer sized (inr (inr x)) = inr (inr (inr (status_is answer _ x.1)))

pub generates_for : JobsPass → JobsFit → (words : List (List ℕ)) (command : Option Command) (before after : Seen) (answer : Answer) → AreFor words command → EndsFor command before after answer → GeneratesJob words before.put_faults after.put_faults answer
generates_for pass fit words command before after answer are ended numbers is =
    ends pass fit numbers before after answer (record { low = is.least; high = is.most }) (subst (λ (command : Option Command). EndsFor command before after answer) (for_once words command (Some (Generate numbers)) are is) ended)

-- where memory runs out
pub generates_short : (words : List (List ℕ)) (put_faults put_faults' : ℕ) (answer : Answer) → answer.status ≡ OutOfMemory → GeneratesJob words put_faults put_faults' answer
generates_short words put_faults put_faults' answer short numbers is = inr (inr (inr short))
