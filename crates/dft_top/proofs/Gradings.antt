-- What a grading comes to.
use Rattle.std.proofs.Common.{ℕ, ◌≡◌, ◌∙◌, ◌<◌, ◌≤◌, true, false, inl, List, length, refl, sym, ap, subst, Option, None, Some, Ok, Result, Err}
use Rattle.std.specs.Prelude.{ℤ, if◌then◌else◌, pos}
use Rattle.dft_base.proofs.NumberLemmas.{not_less, is_less}
use Rattle.dft_files.specs.Outside.{Held}
use Rattle.dft_netlist.specs.Netlist.{Netlist}
use Rattle.dft_netlist.specs.Drivers.{IsOrdered}
use Rattle.dft_patterns.specs.Patterns.{Patterns}
use Rattle.dft_replay.specs.declared.verdict.Verdict.{Verdict}
use Rattle.dft_replay.specs.declared.verdict.Verdict.TheVariants as verdict
use Rattle.dft_replay.specs.Fits.{first_misfit}
use Rattle.dft_replay.specs.Verdicts.{HasVerdict}
use Rattle.dft_replay.proofs.Uniqueness.{verdict_one}
use Rattle.dft_grade.specs.declared.found.Graded.{Graded}
use Rattle.dft_grade.specs.AllGrades.{AreGrades}
use Rattle.dft_grade.proofs.AllOfThem.{grades_one}
use Rattle.dft_grade_report.specs.declared.counting.Counts.{Counts}
use Rattle.dft_grade_report.specs.Counted.{counts_of}
use Rattle.dft_grade_report.specs.Written.{report_text}
use Rattle.dft_report.specs.declared.error.ReportError.{ReportError}
use Rattle.dft_report.specs.declared.error.ReportError.TheVariants.{K6, Memory}
use Rattle.dft_report.specs.declared.limits.TheConstants.{MAX_BYTES}
use Rattle.dft_report.specs.Refusals.{IsTooLong}
use Rattle.dft_compile.specs.Refusals.{too_long}
use Rattle.dft_command_line.specs.Words.{GradeFiles}
use Rattle.dft_answers.specs.declared.answer.Refusal.{Refusal}
use Rattle.dft_answers.specs.declared.answer.Status.TheVariants.{Done, NotPassed}
use Rattle.dft_answers.specs.declared.outcome.Outcome.{Outcome}
use Rattle.dft_answers.specs.declared.outcome.Outcome.TheVariants as outcome
use Rattle.dft_answers.specs.declared.outcome.Work.TheVariants as work
use Rattle.dft_answers.specs.Answers.{status_of}
use Rattle.dft_answers.specs.Refusals.{report_refusal}
use Rattle.dft_answers.specs.declared.stop.Stop.{Stop}
use Rattle.dft_answers.specs.declared.stop.Stop.TheVariants.{Refused, ReadFault, OutOfMemory}
use Rattle.dft_top.specs.Checks.{LibraryGives, NetlistGives, PatternsGive}
use Rattle.dft_top.specs.Courses.{Reaches}
use Rattle.dft_top.specs.Follows.{ComesTo}
use Rattle.dft_top.specs.Outcomes.{IsOutcomeOfFaults, IsOutcomeOfGraded, IsOutcomeOfGrades, IsOutcomeOfGrading, IsOutcomeOfVerdict, IsOutcomeOn, IsRefusal, course_of_grade, course_of_replay, graded_as, is_pass, outcome_of}
use Rattle.dft_top.specs.Promises.{replay_of}
use Rattle.dft_top.proofs.CertifyLemmas.{refusal_is, refusal_one}
use Rattle.dft_top.proofs.Replays.{IsAccepted, then_accepts}
use Rattle.dft_top.proofs.Steps.{GradeOn, GradeOver}

-- ---- the report

-- a report within its limit is not refused, and one past it is, with its length
fits_told : (text : List ℕ) → length text ≤ MAX_BYTES → too_long text ≡ None
fits_told text few = ap (λ t. if t then Some (K6 (pos (length text))) else None) (not_less MAX_BYTES (length text) few)

long_told : (text : List ℕ) → MAX_BYTES < length text → too_long text ≡ Some (K6 (pos (length text)))
long_told text many = ap (λ t. if t then Some (K6 (pos (length text))) else None) (is_less MAX_BYTES (length text) many)

pub graded_is : (n : Netlist) (p : Patterns) (graded : List Graded) (counts : Counts) (report : List ℕ) → counts ≡ counts_of graded → report ≡ report_text n p graded → length (report_text n p graded) ≤ MAX_BYTES →
    IsOutcomeOfGraded n p graded (too_long (report_text n p graded)) (outcome.Finished (work.Graded counts.faults counts.detected counts.undetected report))
graded_is n p graded counts report counted written few =
    let o = outcome.Finished (work.Graded counts.faults counts.detected counts.undetected report) in
    let same : o ≡ graded_as n p graded = (λ i. outcome.Finished (work.Graded (counted i).faults (counted i).detected (counted i).undetected (written i))) in
    subst (λ (long : Option ReportError). IsOutcomeOfGraded n p graded long o) (sym (fits_told (report_text n p graded) few)) same

-- a report that is not written is refused for its length
pub unwritten_is : (n : Netlist) (p : Patterns) (graded : List Graded) (error : ReportError) (refusal : Refusal) → IsTooLong (report_text n p graded) error → report_refusal error ≡ Some refusal →
    IsOutcomeOfGraded n p graded (too_long (report_text n p graded)) (outcome.Refused refusal)
unwritten_is n p graded (K6 bytes) refusal long told =
    let text = report_text n p graded in
    let is : too_long text ≡ Some (K6 bytes) = long_told text long.0 ∙ ap (λ (b : ℤ). Some (K6 b)) (sym long.1) in
    subst (λ (l : Option ReportError). IsOutcomeOfGraded n p graded l (outcome.Refused refusal)) (sym is) (refusal_is (report_refusal (K6 bytes)) refusal told)
unwritten_is n p graded (Memory error) refusal long told = absurd cc

-- ---- the faults

-- what comes of these grades comes of the faults
grades_come : (n : Netlist) (p : Patterns) (graded : List Graded) (r : Result Outcome Stop) → AreGrades n p graded → ComesTo (IsOutcomeOfGraded n p graded (too_long (report_text n p graded))) r → ComesTo (IsOutcomeOfGrades n p) r
grades_come n p graded (Ok o) are comes = (graded, (are, comes))
grades_come n p graded (Err (Refused refusal)) are comes = (graded, (are, comes))
grades_come n p graded (Err ReadFault) are comes = tt
grades_come n p graded (Err OutOfMemory) are comes = tt

pub faults_come : (n : Netlist) (p : Patterns) (graded : List Graded) (misfit : Option (List ℕ)) (r : Result Outcome Stop) → misfit ≡ None → AreGrades n p graded → ComesTo (IsOutcomeOfGraded n p graded (too_long (report_text n p graded))) r →
    ComesTo (IsOutcomeOfFaults n p misfit) r
faults_come n p graded (Some name) r fit are comes = absurd (let e = fit in cc)
faults_come n p graded None r fit are comes = grades_come n p graded r are comes

-- ---- the verdict

no_pass : (refusal : Refusal) (o : Outcome) → o ≡ outcome.Refused refusal → is_pass o ≡ true → ⊥
no_pass refusal o is pass = let e = ap is_pass is in cc

verdict_passes : (n : Netlist) (p : Patterns) (v : Verdict) (o : Outcome) → o ≡ outcome_of p v → is_pass o ≡ true → HasVerdict n p v → (compared : ℕ) × HasVerdict n p (verdict.Pass compared)
verdict_passes n p (verdict.Pass compared) o is pass has = (compared, has)
verdict_passes n p (verdict.Mismatch vector signal) o is pass has = absurd (let e = ap is_pass is in cc)
verdict_passes n p (verdict.Undetermined vector signal) o is pass has = absurd (let e = ap is_pass is in cc)

-- patterns whose replay passed
pub passed_on : (n : Netlist) (p : Patterns) (misfit : Option (List ℕ)) (o : Outcome) → IsOutcomeOn n p misfit o → is_pass o ≡ true → (misfit ≡ None) × ((compared : ℕ) × HasVerdict n p (verdict.Pass compared))
passed_on n p (Some name) o is pass = absurd (no_pass _ o is pass)
passed_on n p None o is pass = (refl, verdict_passes n p is.0 o is.1.1 pass is.1.0)

-- are graded
pub passed_comes : (n : Netlist) (p : Patterns) (misfit : Option (List ℕ)) (r : Result Outcome Stop) → (misfit ≡ None) × ((compared : ℕ) × HasVerdict n p (verdict.Pass compared)) → ComesTo (IsOutcomeOfFaults n p misfit) r → ComesTo (IsOutcomeOfGrading n p misfit) r
passed_comes n p (Some name) r passed comes = absurd (let e = passed.0 in cc)
passed_comes n p None (Ok o) passed comes = (verdict.Pass passed.1.0, (passed.1.1, comes))
passed_comes n p None (Err (Refused refusal)) passed comes = (verdict.Pass passed.1.0, (passed.1.1, comes))
passed_comes n p None (Err ReadFault) passed comes = tt
passed_comes n p None (Err OutOfMemory) passed comes = tt

verdict_stays : (n : Netlist) (p : Patterns) (v : Verdict) (o : Outcome) → o ≡ outcome_of p v → is_pass o ≡ false → IsOutcomeOfVerdict n p v o
verdict_stays n p (verdict.Pass compared) o is unpassed = absurd (let e = ap is_pass is in cc)
verdict_stays n p (verdict.Mismatch vector signal) o is unpassed = is
verdict_stays n p (verdict.Undetermined vector signal) o is unpassed = is

-- and all others are not
pub unpassed_is : (n : Netlist) (p : Patterns) (misfit : Option (List ℕ)) (o : Outcome) → IsOutcomeOn n p misfit o → is_pass o ≡ false → IsOutcomeOfGrading n p misfit o
unpassed_is n p (Some name) o is unpassed = is
unpassed_is n p None o is unpassed = (is.0, (is.1.0, verdict_stays n p is.0 o is.1.1 unpassed))

-- a stop of the replay is one of the grading
pub stops_grading : (n : Netlist) (p : Patterns) (misfit : Option (List ℕ)) (stop : Stop) → ComesTo (IsOutcomeOn n p misfit) (Err stop) → ComesTo (IsOutcomeOfGrading n p misfit) (Err stop)
stops_grading n p misfit (Refused refusal) comes = unpassed_is n p misfit (outcome.Refused refusal) comes refl
stops_grading n p misfit ReadFault comes = tt
stops_grading n p misfit OutOfMemory comes = tt

-- ---- one outcome

graded_one : (n : Netlist) (p : Patterns) (graded : List Graded) (long : Option ReportError) (a b : Outcome) → IsOutcomeOfGraded n p graded long a → IsOutcomeOfGraded n p graded long b → a ≡ b
graded_one n p graded (Some error) a b x y = refusal_one (report_refusal error) a b x y
graded_one n p graded None a b x y = x ∙ sym y

by_verdict_one : (n : Netlist) (p : Patterns) (rank : ℕ → ℕ) (v : Verdict) (a b : Outcome) → IsOrdered n rank → IsOutcomeOfVerdict n p v a → IsOutcomeOfVerdict n p v b → a ≡ b
by_verdict_one n p rank (verdict.Pass compared) a b ordered x y =
    let same : y.0 ≡ x.0 = grades_one n rank p y.0 x.0 ordered y.1.0 x.1.0 in
    graded_one n p x.0 (too_long (report_text n p x.0)) a b x.1.1 (subst (λ (g : List Graded). IsOutcomeOfGraded n p g (too_long (report_text n p g)) b) same y.1.1)
by_verdict_one n p rank (verdict.Mismatch vector signal) a b ordered x y = x ∙ sym y
by_verdict_one n p rank (verdict.Undetermined vector signal) a b ordered x y = x ∙ sym y

pub grading_one : (n : Netlist) (p : Patterns) (rank : ℕ → ℕ) (a b : Outcome) (misfit : Option (List ℕ)) → IsOrdered n rank → IsOutcomeOfGrading n p misfit a → IsOutcomeOfGrading n p misfit b → a ≡ b
grading_one n p rank a b (Some name) ordered x y = x ∙ sym y
grading_one n p rank a b None ordered x y =
    by_verdict_one n p rank x.0 a b ordered x.1.1 (subst (λ (v : Verdict). IsOutcomeOfVerdict n p v b) (verdict_one n rank p y.0 x.0 ordered y.1.0 x.1.0) y.1.1)

-- patterns that pass, with these grades and a report that is not too long, come to these
pub graded_due : (n : Netlist) (p : Patterns) (rank : ℕ → ℕ) (compared : ℕ) (graded : List Graded) (o : Outcome) (misfit : Option (List ℕ)) → IsOrdered n rank → misfit ≡ None → HasVerdict n p (verdict.Pass compared) → AreGrades n p graded →
    too_long (report_text n p graded) ≡ None → IsOutcomeOfGrading n p misfit o → o ≡ graded_as n p graded
graded_due n p rank compared graded o misfit ordered fit has are short is =
    let due : IsOutcomeOfGraded n p graded (too_long (report_text n p graded)) (graded_as n p graded) = subst (λ (long : Option ReportError). IsOutcomeOfGraded n p graded long (graded_as n p graded)) (sym short) refl in
    grading_one n p rank o (graded_as n p graded) misfit ordered is
    (subst (λ (m : Option (List ℕ)). IsOutcomeOfGrading n p m (graded_as n p graded)) (sym fit) (verdict.Pass compared, (has, (graded, (are, due)))))

-- ---- the replay of a grading

-- the files of a grading whose checks pass, their verdict, and what it comes to
pub record IsReplayed (files : GradeFiles) (held : Held) (o : Outcome) : Type 0 where
  pub netlist : Netlist
  pub patterns : Patterns
  pub verdict_of : Verdict
  pub comes : IsOutcomeOfVerdict netlist patterns verdict_of o
  pub replay : Reaches (course_of_replay (replay_of files)) held (outcome_of patterns verdict_of)

on_grading : (n : Netlist) (p : Patterns) (misfit : Option (List ℕ)) (o : Outcome) → IsAccepted o → IsOutcomeOfGrading n p misfit o → (v : Verdict) × (IsOutcomeOfVerdict n p v o × IsOutcomeOn n p misfit (outcome_of p v))
on_grading n p (Some name) o accepts is = absurd (accepts _ is)
on_grading n p None o accepts is = (is.0, (is.1.1, (is.0, (is.1.0, refl))))

pub is_replayed : (files : GradeFiles) (held : Held) (o : Outcome) → IsAccepted o → Reaches (course_of_grade files) held o → IsReplayed files held o
is_replayed files held o accepts h =
    let x = then_accepts (LibraryGives files.library held) (GradeOver files held) o accepts h in
    let y = then_accepts (NetlistGives x.0 files.netlist held) (GradeOn files held) o accepts x.1.1 in
    let n = y.0 in
    let z = then_accepts (PatternsGive files.patterns held) (λ p. IsOutcomeOfGrading n p (first_misfit n p.signals)) o accepts y.1.1 in
    let p = z.0 in
    let v = on_grading n p (first_misfit n p.signals) o accepts z.1.1 in record {
      netlist = n;
      patterns = p;
      verdict_of = v.0;
      comes = v.1.0;
      replay = inl (x.0, (x.1.0, inl (n, (y.1.0, inl (p, (z.1.0, v.1.1))))));
    }

accepted_refusal : (r : Option Refusal) (o : Outcome) → IsAccepted o → IsRefusal r o → ⊥
accepted_refusal None o accepts is = is
accepted_refusal (Some refusal) o accepts is = accepts refusal is

graded_status : (n : Netlist) (p : Patterns) (graded : List Graded) (long : Option ReportError) (o : Outcome) → IsAccepted o → IsOutcomeOfGraded n p graded long o → status_of o ≡ Done
graded_status n p graded (Some error) o accepts is = absurd (accepted_refusal (report_refusal error) o accepts is)
graded_status n p graded None o accepts is = ap status_of is

-- a grading that is not refused is done
pub grades_done : (n : Netlist) (p : Patterns) (o : Outcome) → IsAccepted o → IsOutcomeOfGrades n p o → status_of o ≡ Done
grades_done n p o accepts x = graded_status n p x.0 (too_long (report_text n p x.0)) o accepts x.1.1

unpassed_by : (files : GradeFiles) (held : Held) (n : Netlist) (p : Patterns) (v : Verdict) (o : Outcome) → IsAccepted o → status_of o ≡ NotPassed → IsOutcomeOfVerdict n p v o → Reaches (course_of_replay (replay_of files)) held (outcome_of p v) →
    Reaches (course_of_replay (replay_of files)) held o
unpassed_by files held n p (verdict.Pass compared) o accepts failed comes replay = absurd (let e : status_of o ≡ Done = grades_done n p o accepts comes in cc)
unpassed_by files held n p (verdict.Mismatch vector signal) o accepts failed comes replay = subst (Reaches (course_of_replay (replay_of files)) held) (sym comes) replay
unpassed_by files held n p (verdict.Undetermined vector signal) o accepts failed comes replay = subst (Reaches (course_of_replay (replay_of files)) held) (sym comes) replay

-- what a grading comes to that does not pass, its replay does
pub unpassed_replays : (files : GradeFiles) (held : Held) (o : Outcome) → IsAccepted o → status_of o ≡ NotPassed → Reaches (course_of_grade files) held o → Reaches (course_of_replay (replay_of files)) held o
unpassed_replays files held o accepts failed h =
    let r = is_replayed files held o accepts h in unpassed_by files held r.netlist r.patterns r.verdict_of o accepts failed r.comes r.replay
