-- What a person is told of a run, and of which run it is nothing.
use Rattle.std.proofs.Common.{ℕ, ◌≡◌, ◌∙◌, Bool, true, false, inl, inr, List, [], Option, None, Some, Result, Ok, Err, IfOk, is_some, nat_lt, sym, ap, subst, refl}
use Rattle.dft_answers.specs.declared.answer.Answer.{Answer}
use Rattle.dft_answers.specs.declared.answer.Status.{Status}
use Rattle.dft_answers.specs.declared.answer.Status.TheVariants.{Done, NotPassed, Usage, Refused, ReadFault, WriteFault, OutOfMemory}
use Rattle.dft_answers.specs.declared.outcome.Outcome.{Outcome}
use Rattle.dft_answers.specs.declared.outcome.Outcome.TheVariants as outcome
use Rattle.dft_answers.specs.declared.outcome.Replayed.{Replayed}
use Rattle.dft_answers.specs.declared.outcome.Replayed.TheVariants as replayed
use Rattle.dft_answers.specs.declared.outcome.Work.TheVariants as work
use Rattle.dft_answers.specs.Answers.{answer_of, replayed_status, replayed_unpassed}
use Rattle.dft_command_line.specs.Words.{Command}
use Rattle.dft_explain.specs.declared.ending.Ending.{Ending}
use Rattle.dft_explain.specs.declared.ending.Ending.TheVariants as ending
use Rattle.dft_explain.specs.Explained.{explained, page_of}
use Rattle.dft_explain.specs.FaultLines.{count_of}
use Rattle.dft_explain.specs.Faults.{Fault}
use Rattle.dft_explain.specs.Told.{ends_of}
use Rattle.dft_top.specs.Ends.{IsStatusOfWords, IsToldOf, status_number}
use Rattle.dft_top.specs.Pages.{HasParts, IsEndingBy, IsExplained, IsPageBy, IsPageOf, IsWhole, beside}
use Rattle.dft_top.specs.Run.{Ends, EndsFor, IsDelivered, Seen}

-- what is told of words that are no command has a line
pub faults_are_told : (page : List ℕ) (fault : Option Fault) → ends_of page ≡ count_of fault → page ≡ [] → ⊥
faults_are_told page None lines empty = let e : 0 ≡ 1 = sym (ap ends_of empty) ∙ lines in cc
faults_are_told page (Some fault) lines empty = let e : 0 ≡ 2 = sym (ap ends_of empty) ∙ lines in cc

-- ---- answers of runs have their parts

whole_replay : (replay : Replayed) → HasParts (replayed_status replay) false (is_some (replayed_unpassed replay))
whole_replay (replayed.Passed vectors compared) = tt
whole_replay (replayed.Mismatch vector signal) = refl
whole_replay (replayed.Undetermined vector signal) = refl

whole_outcome : (o : Outcome) → IsWhole (answer_of o)
whole_outcome outcome.Usage = tt
whole_outcome (outcome.Refused refusal) = refl
whole_outcome (outcome.Finished (work.Replayed replay)) = whole_replay replay
whole_outcome (outcome.Finished (work.Scanned counts netlist report)) = tt
whole_outcome (outcome.Finished (work.Compiled counts netlist patterns report)) = tt
whole_outcome (outcome.Finished (work.Certified unsolvable)) = tt
whole_outcome (outcome.Finished (work.Generated counts replay)) = whole_replay replay
whole_outcome (outcome.Finished (work.Graded faults detected undetected report)) = tt
whole_outcome (outcome.Finished (work.Configured counts text)) = tt
whole_outcome (outcome.Finished (work.Sought counts cubes report)) = tt

whole_delivered : (command : Option Command) (o : Outcome) (before after : Seen) (answer : Answer) → IsDelivered command o before after answer → IsWhole answer
whole_delivered command o before after answer (inl x) = subst IsWhole (sym x.answers) (whole_outcome o)
whole_delivered command o before after answer (inr (inl x)) = subst IsWhole (sym x.answers) tt
whole_delivered command o before after answer (inr (inr (inl x))) = subst IsWhole (sym x.answers) tt
whole_delivered command o before after answer (inr (inr (inr x))) = subst IsWhole (sym x.answers) tt

whole_for : (command : Option Command) (before after : Seen) (answer : Answer) → EndsFor command before after answer → IsWhole answer
whole_for command before after answer (inl x) = whole_delivered command x.o before after answer x.delivered
whole_for command before after answer (inr (inl x)) = subst IsWhole (sym x.answers) tt
whole_for command before after answer (inr (inr x)) = subst IsWhole (sym x.1) tt

whole_run : (words : List (List ℕ)) (before after : Seen) (answer : Answer) → Ends words before after answer → IsWhole answer
whole_run words before after answer (inl x) = subst IsWhole (sym x.1) tt
whole_run words before after answer (inr x) = whole_for x.0 before after answer x.1.1

-- ---- of which run nothing is told

page_done : (words : List (List ℕ)) (answer : Answer) (failed : List ℕ) (is_put : Bool) (page : List ℕ) → answer.status ≡ Done → IsPageOf words answer failed is_put page → page ≡ []
page_done words answer failed is_put page done is =
    let x : IsExplained words answer failed is_put page = subst (λ (s : Status). IsPageBy s words answer failed is_put page) done is in
    let e : x.end ≡ ending.Done = subst (λ (s : Status). IsEndingBy s answer (beside failed is_put x.reason x.text) x.end) done x.is in
    x.says ∙ ap (λ (e : Ending). page_of (explained words e)) e

done_of : (s : Status) → status_number s ≡ 0 → s ≡ Done
done_of Done zero = refl
done_of NotPassed zero = absurd cc
done_of Usage zero = absurd cc
done_of Refused zero = absurd cc
done_of ReadFault zero = absurd cc
done_of WriteFault zero = absurd cc
done_of OutOfMemory zero = absurd cc

-- the page of a run
pub told_so : {E : Type 0} (words : List (List ℕ)) (status : ℕ) (run : IsStatusOfWords words status) (failed : List ℕ) (is_put : Bool) (r : Result (List ℕ) E) → failed ≡ run.after.failed → is_put ≡ nat_lt 0 run.after.put_faults →
    (IsWhole run.answer → IfOk r (λ page. IsPageOf words run.answer failed is_put page)) → (IsWhole run.answer → IfOk r (λ page. page ≡ [] → run.answer.status ≡ Done)) → IfOk r (IsToldOf words status)
told_so words status run failed is_put (Ok page) same put told silent =
    let whole : IsWhole run.answer = whole_run words _ run.after run.answer run.run.ends in record {
      run = run;
      says = subst (λ (b : Bool). IsPageOf words run.answer run.after.failed b page) put (subst (λ (f : List ℕ). IsPageOf words run.answer f is_put page) same (told whole));
      silent = (λ empty. run.run.number ∙ ap status_number (silent whole empty), λ zero. page_done words run.answer failed is_put page (done_of run.answer.status (sym run.run.number ∙ zero)) (told whole));
    }
told_so words status run failed is_put (Err e) same put told silent = tt
