-- What a replay that does not pass says of its files.
use Rattle.std.proofs.Common.{ℕ, ◌≡◌, ◌∙◌, inl, inr, List, refl, sym, ap, subst, Option, None, Some}
use Rattle.dft_files.specs.Outside.{Held, Told}
use Rattle.dft_netlist.specs.Netlist.{Netlist}
use Rattle.dft_patterns.specs.Patterns.{Patterns}
use Rattle.dft_replay.specs.declared.verdict.Verdict.{Verdict}
use Rattle.dft_replay.specs.declared.verdict.Verdict.TheVariants.{Pass}
use Rattle.dft_replay.specs.Fits.{first_misfit}
use Rattle.dft_replay.specs.Rows.{ports_of}
use Rattle.dft_replay.proofs.Soundness.{verdict_holds}
use Rattle.dft_compile_laws.proofs.Running.{sets_run}
use Rattle.dft_command_line.specs.Words.{AreFor, Command, Grade, GradeFiles, Replay, ReplayFiles}
use Rattle.dft_command_line.proofs.Understood.{for_once}
use Rattle.dft_answers.specs.declared.answer.Answer.{Answer}
use Rattle.dft_answers.specs.declared.answer.Status.TheVariants.{NotPassed}
use Rattle.dft_answers.specs.declared.outcome.Outcome.{Outcome}
use Rattle.dft_answers.specs.Answers.{status_of}
use Rattle.dft_top.specs.Checks.{LibraryGives, NetlistGives, PatternsGive}
use Rattle.dft_top.specs.Courses.{Reaches}
use Rattle.dft_top.specs.Outcomes.{IsOutcomeOn, course_of_grade, course_of_replay, outcome_of}
use Rattle.dft_top.specs.Promises.{Fails, replay_of}
use Rattle.dft_top.specs.Run.{EndsFor, FailsTold, IsDelivered, IsOutcomeTold, Seen, UngradedTold}
use Rattle.dft_top.proofs.Gradings.{unpassed_replays}
use Rattle.dft_top.proofs.Promised.{design_of}
use Rattle.dft_top.proofs.Replays.{IsAccepted, on_verdict, then_accepts}
use Rattle.dft_top.proofs.Steps.{ReplayOn, ReplayOver}

-- ---- of files

no_refusal : (o : Outcome) → status_of o ≡ NotPassed → IsAccepted o
no_refusal o failed refusal is = let e = ap status_of is in cc

fitting : (n : Netlist) (p : Patterns) (misfit : Option (List ℕ)) (o : Outcome) → IsAccepted o → IsOutcomeOn n p misfit o → misfit ≡ None
fitting n p (Some name) o accepts is = absurd (accepts _ is)
fitting n p None o accepts is = refl

no_pass : (p : Patterns) (v : Verdict) (o : Outcome) → o ≡ outcome_of p v → status_of o ≡ NotPassed → (compared : ℕ) → v ≡ Pass compared → ⊥
no_pass p v o is failed compared same = let e = ap status_of is in let d = ap (λ (v : Verdict). status_of (outcome_of p v)) same in cc

fails : (files : ReplayFiles) (held : Held) (o : Outcome) → status_of o ≡ NotPassed → Reaches (course_of_replay files) held o → Fails files held
fails files held o failed h =
    let accepts : IsAccepted o = no_refusal o failed in
    let x = then_accepts (LibraryGives files.library held) (ReplayOver files held) o accepts h in
    let y = then_accepts (NetlistGives x.0 files.netlist held) (ReplayOn files held) o accepts x.1.1 in
    let n = y.0 in
    let z = then_accepts (PatternsGive files.patterns held) (λ p. IsOutcomeOn n p (first_misfit n p.signals)) o accepts y.1.1 in
    let p = z.0 in
    let v = on_verdict n p (first_misfit n p.signals) o accepts z.1.1 in
    let design = design_of x.0 files.netlist held n y.1.0 in record {
      cells = x.0;
      library = x.1.0;
      netlist = n;
      design = y.1.0;
      patterns = p;
      vectors = z.1.0;
      fit = fitting n p (first_misfit n p.signals) o accepts z.1.1;
      verdict = v.0;
      has = v.1.0;
      failing = no_pass p v.0 o v.1.1 failed;
      told = subst (λ (end : Outcome). Reaches (course_of_replay files) held end) v.1.1 h;
      shown = verdict_holds n design.1.order p v.0 design.1.sound design.1.ordered v.1.0;
      runs = λ start low. sets_run n design.1.order p (ports_of n p) start design.1.sound design.1.ordered low;
    }

told_fails : (files : ReplayFiles) (held : Option Held) (o : Outcome) → status_of o ≡ NotPassed → Told (λ h. Reaches (course_of_replay files) h o) held → Told (Fails files) held
told_fails files None o failed told = tt
told_fails files (Some held) o failed told = fails files held o failed told

-- a grading that does not pass is a replay that does not
told_ungraded : (files : GradeFiles) (held : Option Held) (o : Outcome) → status_of o ≡ NotPassed → Told (λ h. Reaches (course_of_grade files) h o) held → Told (Fails (replay_of files)) held
told_ungraded files None o failed told = tt
told_ungraded files (Some held) o failed told = fails (replay_of files) held o failed (unpassed_replays files held o (no_refusal o failed) failed told)

-- ---- of a run

-- a run that answers NotPassed came to such an outcome
record IsFailed (command : Option Command) (before : Seen) : Type 0 where
  o : Outcome
  told : IsOutcomeTold command before.held o
  failed : status_of o ≡ NotPassed

delivered_failed : (command : Option Command) (o : Outcome) (before after : Seen) (answer : Answer) → IsOutcomeTold command before.held o → IsDelivered command o before after answer → answer.status ≡ NotPassed → IsFailed command before
delivered_failed command o before after answer told (inl x) failed = record { o = o; told = told; failed = ap (λ (a : Answer). a.status) (sym x.answers) ∙ failed }
delivered_failed command o before after answer told (inr (inl x)) failed = absurd (let e = ap (λ (a : Answer). a.status) x.answers in cc)
delivered_failed command o before after answer told (inr (inr (inl x))) failed = absurd (let e = ap (λ (a : Answer). a.status) x.answers in cc)
delivered_failed command o before after answer told (inr (inr (inr x))) failed = absurd (let e = ap (λ (a : Answer). a.status) x.answers in cc)

ends_failed : (command : Option Command) (before after : Seen) (answer : Answer) → EndsFor command before after answer → answer.status ≡ NotPassed → IsFailed command before
ends_failed command before after answer (inl x) failed = delivered_failed command x.o before after answer x.told x.delivered failed
ends_failed command before after answer (inr (inl x)) failed = absurd (let e = ap (λ (a : Answer). a.status) x.answers in cc)
ends_failed command before after answer (inr (inr x)) failed = absurd (let e = ap (λ (a : Answer). a.status) x.1 in cc)

pub fails_for : (words : List (List ℕ)) (command : Option Command) (before after : Seen) (answer : Answer) → AreFor words command → EndsFor command before after answer → FailsTold words before.held answer
fails_for words command before after answer are ended files is failed =
    let ends = subst (λ (command : Option Command). EndsFor command before after answer) (for_once words command (Some (Replay files)) are is) ended in
    let d = ends_failed (Some (Replay files)) before after answer ends failed in
    told_fails files before.held d.o d.failed d.told.told

pub ungraded_for : (words : List (List ℕ)) (command : Option Command) (before after : Seen) (answer : Answer) → AreFor words command → EndsFor command before after answer → UngradedTold words before.held answer
ungraded_for words command before after answer are ended files is failed =
    let ends = subst (λ (command : Option Command). EndsFor command before after answer) (for_once words command (Some (Grade files)) are is) ended in
    let d = ends_failed (Some (Grade files)) before after answer ends failed in
    told_ungraded files before.held d.o d.failed d.told.told
