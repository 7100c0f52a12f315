-- When a command is answered.
use Rattle.std.proofs.Common.{ℕ, ◌≡◌, ◌⊎◌, inl, inr, List, length, refl, sym, ap, subst, Option, None, Some}
use Rattle.dft_files.specs.Outside.{Held}
use Rattle.dft_netlist.specs.Netlist.{Netlist}
use Rattle.dft_patterns.specs.Patterns.{Patterns}
use Rattle.dft_replay.specs.declared.verdict.Verdict.{Verdict}
use Rattle.dft_replay.specs.declared.verdict.Verdict.TheVariants as verdict
use Rattle.dft_command_line.specs.Words.{AreFor, Certify, CertifyFiles, Command, Compile, CompileFiles, Configure, ConfigureFiles, Generate, Grade, GradeFiles, Replay, ReplayFiles, Scan, ScanFiles, Seek, SeekFiles}
use Rattle.dft_command_line.proofs.Understood.{for_once}
use Rattle.dft_answers.specs.declared.answer.Answer.{Answer}
use Rattle.dft_answers.specs.declared.answer.Status.TheVariants.{Done, OutOfMemory}
use Rattle.dft_answers.specs.declared.outcome.Outcome.{Outcome}
use Rattle.dft_answers.specs.declared.outcome.Outcome.TheVariants as outcome
use Rattle.dft_answers.specs.declared.outcome.Replayed.TheVariants.{Passed, Mismatch, Undetermined}
use Rattle.dft_answers.specs.declared.outcome.Work.TheVariants.{Replayed, Scanned, Compiled, Certified, Configured, Sought}
use Rattle.dft_answers.specs.Answers.{status_of}
use Rattle.dft_top.specs.Courses.{IsPassing, Reaches}
use Rattle.dft_top.specs.Outcomes.{IsOutcomeFor, IsOutcomeOfVerdict, course_of, course_of_grade, course_of_replay, outcome_of, signal_name}
use Rattle.dft_top.specs.Promises.{replay_of}
use Rattle.dft_top.specs.Run.{CompletesTold, EndsFor, IsAnswered, IsByVerdict, IsDelivered, IsOf, IsPassed, NoneFailed, Seen, Suits, ToldFor}
use Rattle.dft_top.proofs.Determined.{passing_reaches, reaches_one}
use Rattle.dft_top.proofs.Gradings.{grades_done, is_replayed}
use Rattle.dft_top.proofs.OneOutcome.{determined}
use Rattle.dft_top.proofs.JobReplays.{JobsPass}
use Rattle.dft_top.proofs.Replays.{IsAccepted}

-- ---- what an outcome that is no refusal is answered by

passed_alone : (files : ReplayFiles) (held : Held) (o : Outcome) → Reaches (course_of_replay files) held o → (passed : IsPassed files held) → outcome.Finished (Replayed (Passed passed.vectors passed.compared)) ≡ o
passed_alone files held o is passed = reaches_one (course_of_replay files) held (outcome.Finished (Replayed (Passed passed.vectors passed.compared))) o (determined (Some (Replay files)) held) passed.is is

replay_answered : (files : ReplayFiles) (held : Held) (o : Outcome) → IsOf (Replay files) o → IsAccepted o → Reaches (course_of_replay files) held o → IsAnswered (Replay files) held (status_of o)
replay_answered files held (outcome.Refused refusal) suits accepts is = absurd (accepts refusal refl)
replay_answered files held (outcome.Finished (Replayed (Passed vectors compared))) suits accepts is = inl (refl, record { vectors = vectors; compared = compared; is = is })
replay_answered files held (outcome.Finished (Replayed (Mismatch vector signal))) suits accepts is =
    inr (refl, λ passed. let e = passed_alone files held (outcome.Finished (Replayed (Mismatch vector signal))) is passed in cc)
replay_answered files held (outcome.Finished (Replayed (Undetermined vector signal))) suits accepts is =
    inr (refl, λ passed. let e = passed_alone files held (outcome.Finished (Replayed (Undetermined vector signal))) is passed in cc)
replay_answered files held o suits accepts is = absurd suits

-- a grading, by the verdict of its replay
graded_answered : (files : ReplayFiles) (held : Held) (n : Netlist) (p : Patterns) (v : Verdict) (o : Outcome) → IsAccepted o → IsOutcomeOfVerdict n p v o → Reaches (course_of_replay files) held (outcome_of p v) → IsByVerdict files held (status_of o)
graded_answered files held n p (verdict.Pass compared) o accepts comes replay = inl (grades_done n p o accepts comes, record { vectors = length p.vectors; compared = compared; is = replay })
graded_answered files held n p (verdict.Mismatch vector signal) o accepts comes replay =
    inr (ap status_of comes, λ passed. let e = passed_alone files held (outcome.Finished (Replayed (Mismatch vector (signal_name p.signals signal)))) replay passed in cc)
graded_answered files held n p (verdict.Undetermined vector signal) o accepts comes replay =
    inr (ap status_of comes, λ passed. let e = passed_alone files held (outcome.Finished (Replayed (Undetermined vector (signal_name p.signals signal)))) replay passed in cc)

grade_answered : (files : GradeFiles) (held : Held) (o : Outcome) → IsAccepted o → Reaches (course_of_grade files) held o → IsByVerdict (replay_of files) held (status_of o)
grade_answered files held o accepts is = (let r = is_replayed files held o accepts is in graded_answered (replay_of files) held r.netlist r.patterns r.verdict_of o accepts r.comes r.replay)

scan_done : (files : ScanFiles) (o : Outcome) → IsOf (Scan files) o → IsAccepted o → status_of o ≡ Done
scan_done files (outcome.Refused refusal) suits accepts = absurd (accepts refusal refl)
scan_done files (outcome.Finished (Scanned counts netlist report)) suits accepts = refl
scan_done files o suits accepts = absurd suits

compile_done : (files : CompileFiles) (o : Outcome) → IsOf (Compile files) o → IsAccepted o → status_of o ≡ Done
compile_done files (outcome.Refused refusal) suits accepts = absurd (accepts refusal refl)
compile_done files (outcome.Finished (Compiled counts netlist patterns report)) suits accepts = refl
compile_done files o suits accepts = absurd suits

certify_done : (files : CertifyFiles) (o : Outcome) → IsOf (Certify files) o → IsAccepted o → status_of o ≡ Done
certify_done files (outcome.Refused refusal) suits accepts = absurd (accepts refusal refl)
certify_done files (outcome.Finished (Certified unsolvable)) suits accepts = refl
certify_done files o suits accepts = absurd suits

configure_done : (files : ConfigureFiles) (o : Outcome) → IsOf (Configure files) o → IsAccepted o → status_of o ≡ Done
configure_done files (outcome.Refused refusal) suits accepts = absurd (accepts refusal refl)
configure_done files (outcome.Finished (Configured counts text)) suits accepts = refl
configure_done files o suits accepts = absurd suits

seek_done : (files : SeekFiles) (o : Outcome) → IsOf (Seek files) o → IsAccepted o → status_of o ≡ Done
seek_done files (outcome.Refused refusal) suits accepts = absurd (accepts refusal refl)
seek_done files (outcome.Finished (Sought counts cubes report)) suits accepts = refl
seek_done files o suits accepts = absurd suits

answered : JobsPass → (command : Command) (held : Held) (o : Outcome) → Suits (Some command) o → IsAccepted o → IsOutcomeFor (Some command) held o → IsAnswered command held (status_of o)
answered pass (Replay files) held o suits accepts is = replay_answered files held o suits accepts is
answered pass (Scan files) held o suits accepts is = scan_done files o suits accepts
answered pass (Compile files) held o suits accepts is = compile_done files o suits accepts
answered pass (Certify files) held o suits accepts is = certify_done files o suits accepts
answered pass (Generate numbers) held o suits accepts is = pass numbers o accepts is
answered pass (Grade files) held o suits accepts is = grade_answered files held o accepts is
answered pass (Configure files) held o suits accepts is = configure_done files o suits accepts
answered pass (Seek files) held o suits accepts is = seek_done files o suits accepts

-- ---- of a run

abbrev Completes : Command → Held → Answer → Type 0
Completes command held answer = (answer.status ≡ OutOfMemory) ⊎ IsAnswered command held answer.status

pub status_is : (a b : Answer) → a ≡ b → a.status ≡ b.status
status_is a b same = ap (λ (c : Answer). c.status) same

delivered : JobsPass → (command : Command) (held : Held) (o : Outcome) (before after : Seen) (answer : Answer) → NoneFailed before after → Suits (Some command) o → IsAccepted o → IsOutcomeFor (Some command) held o →
    IsDelivered (Some command) o before after answer → Completes command held answer
delivered pass command held o before after answer none suits accepts is (inl x) =
    inr (subst (IsAnswered command held) (sym (status_is answer _ x.answers)) (answered pass command held o suits accepts is))
delivered pass command held o before after answer none suits accepts is (inr (inl x)) = absurd (none.writes x.failed.rose)
delivered pass command held o before after answer none suits accepts is (inr (inr (inl x))) = absurd (none.puts x.rose)
delivered pass command held o before after answer none suits accepts is (inr (inr (inr x))) = inl (status_is answer _ x.answers)

-- the outcome that is told is that of these files
abbrev Reached : Option Command → Option Held → Held → Type 0
Reached command told held = (o : Outcome) → ToldFor command (λ files. IsOutcomeFor command files o) told → IsOutcomeFor command held o

ends : JobsPass → (command : Command) (held : Held) (before after : Seen) (answer : Answer) → Reached (Some command) before.held held → NoneFailed before after → IsPassing (course_of (Some command)) held →
    EndsFor (Some command) before after answer → Completes command held answer
ends pass command held before after answer reached none passing (inl x) =
    let is : IsOutcomeFor (Some command) held x.o = reached x.o x.told.told in
    delivered pass command held x.o before after answer none x.told.suits (λ refusal same. passing_reaches (course_of (Some command)) held x.o refusal (determined (Some command) held) passing is same) is x.delivered
ends pass command held before after answer reached none passing (inr (inl x)) = absurd (none.reads x.rose)
ends pass command held before after answer reached none passing (inr (inr x)) = inl (status_is answer _ x.1)

-- what follows from an outcome for all files whose outcome it is, is said for the command
said_for : (command : Option Command) (told : Option Held) (Q : Held → Type 0) → ((held : Held) → Reached command told held → Q held) → ToldFor command Q told
said_for None told Q follows = λ held. follows held (λ o is. is held)
said_for (Some (Replay files)) None Q follows = tt
said_for (Some (Replay files)) (Some held) Q follows = follows held (λ o is. is)
said_for (Some (Scan files)) None Q follows = tt
said_for (Some (Scan files)) (Some held) Q follows = follows held (λ o is. is)
said_for (Some (Compile files)) None Q follows = tt
said_for (Some (Compile files)) (Some held) Q follows = follows held (λ o is. is)
said_for (Some (Certify files)) None Q follows = tt
said_for (Some (Certify files)) (Some held) Q follows = follows held (λ o is. is)
said_for (Some (Grade files)) None Q follows = tt
said_for (Some (Grade files)) (Some held) Q follows = follows held (λ o is. is)
said_for (Some (Configure files)) None Q follows = tt
said_for (Some (Configure files)) (Some held) Q follows = follows held (λ o is. is)
said_for (Some (Seek files)) None Q follows = tt
said_for (Some (Seek files)) (Some held) Q follows = follows held (λ o is. is)
said_for (Some (Generate numbers)) told Q follows = λ held. follows held (λ o is. is held)

pub completes_for : JobsPass → (words : List (List ℕ)) (command : Option Command) (before after : Seen) (answer : Answer) → AreFor words command → EndsFor command before after answer → CompletesTold words before after answer
completes_for pass words command before after answer are ended other is none =
    let ended_so : EndsFor (Some other) before after answer = subst (λ (command : Option Command). EndsFor command before after answer) (for_once words command (Some other) are is) ended in
    said_for (Some other) before.held (λ held. IsPassing (course_of (Some other)) held → Completes other held answer) (λ held reached passing. ends pass other held before after answer reached none passing ended_so)

-- where memory runs out
pub completes_short : (words : List (List ℕ)) (before after : Seen) (answer : Answer) → answer.status ≡ OutOfMemory → CompletesTold words before after answer
completes_short words before after answer short command is none = said_for (Some command) before.held (λ held. IsPassing (course_of (Some command)) held → Completes command held answer) (λ held reached passing. inl short)
