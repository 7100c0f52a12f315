-- A command comes to a refusal, or to work of its own.
use Rattle.std.proofs.Common.{ℕ, inl, inr, List, Option, None, Some, subst, sym}
use Rattle.dft_netlist.specs.Netlist.{Netlist}
use Rattle.dft_patterns.specs.Patterns.{Patterns}
use Rattle.dft_replay.specs.declared.verdict.Verdict.{Verdict}
use Rattle.dft_replay.specs.declared.verdict.Verdict.TheVariants as verdict
use Rattle.dft_replay.specs.Fits.{first_misfit}
use Rattle.dft_grade.specs.declared.found.Graded.{Graded}
use Rattle.dft_grade_report.specs.Written.{report_text as fault_report}
use Rattle.dft_report.specs.declared.error.ReportError.{ReportError}
use Rattle.dft_compile.specs.Refusals.{too_long}
use Rattle.dft_config.specs.Config.{Config}
use Rattle.dft_scan.specs.declared.error.ScanError.{ScanError}
use Rattle.dft_scan.specs.Refusals.{refusal}
use Rattle.dft_stitch.specs.Chains.{plan_of}
use Rattle.dft_cubes.specs.declared.cube.Cube.{Cube}
use Rattle.dft_vectors.specs.PatternData.{PatternData}
use Rattle.dft_encode.specs.Compiled.{Placing}
use Rattle.dft_compile.specs.declared.error.CompileError.{CompileError}
use Rattle.dft_compile.specs.declared.texts.Counts.{Counts}
use Rattle.dft_report.specs.declared.report.Report.{Report}
use Rattle.dft_load_laws.specs.Loading.{rows_of}
use Rattle.dft_certify.specs.declared.error.CertifyError.{CertifyError}
use Rattle.dft_certify.specs.Certifying.{certify_refusal}
use Rattle.dft_command_line.specs.Words.{Command, Replay, Scan, Compile, Certify, Generate, Grade, Configure, Seek, CertifyFiles, CompileFiles, ConfigureFiles, GradeFiles, JobNumbers, ReplayFiles, ScanFiles, SeekFiles}
use Rattle.dft_answers.specs.declared.answer.Refusal.{Refusal}
use Rattle.dft_answers.specs.declared.outcome.Outcome.{Outcome}
use Rattle.dft_answers.specs.declared.outcome.Outcome.TheVariants.{Usage, Refused, Finished}
use Rattle.dft_answers.specs.declared.outcome.Work.TheVariants.{Compiled, Replayed}
use Rattle.dft_answers.specs.Refusals.{compile_refusal, configure_refusal, report_refusal, scan_refusal, seek_refusal}
use Rattle.dft_answers.specs.Refusals as refusals
use Rattle.dft_cubes.specs.Cubes.{domain_named}
use Rattle.dft_seeking.specs.declared.error.SeekError.{SeekError}
use Rattle.dft_seeking.specs.Refusals.{refusal as unsaved}
use Rattle.dft_seeking.specs.Told.{Told}
use Rattle.dft_top.specs.Courses.{Allows}
use Rattle.dft_top.specs.Outcomes.{IsOutcomeOfConfiguring, IsOutcomeOfCubes, IsOutcomeOfGraded, IsOutcomeOfGrading, IsOutcomeOfPlacing, IsOutcomeOfVerdict, IsOutcomeOfReport, IsOutcomeOfScanOf, IsOutcomeOfSeek, IsOutcomeOfTest, IsOutcomeOfTold, IsOutcomeOn, IsRefusal, IsReplayedOf, course_of, course_of_certify, course_of_compile, course_of_configure, course_of_grade, course_of_replay, course_of_scan, course_of_seek, generated, made_files, made_held, refusal_of, wanted_of}
use Rattle.dft_top.specs.Run.{IsOf, Suits}
use Rattle.dft_top.proofs.Following.{allowed_so, reaches_allows}

refused_suits : (command : Command) (o : Outcome) (given : Option Refusal) → IsRefusal given o → IsOf command o
refused_suits command o None is = absurd is
refused_suits command o (Some refusal) is = subst (IsOf command) (sym is) tt

replay_ends : (files : ReplayFiles) (n : Netlist) (p : Patterns) (misfit : Option (List ℕ)) (o : Outcome) → IsOutcomeOn n p misfit o → IsOf (Replay files) o
replay_ends files n p (Some name) o is = subst (IsOf (Replay files)) (sym is) tt
replay_ends files n p None o is = subst (IsOf (Replay files)) (sym is.1.1) tt

pub replay_suits : (files : ReplayFiles) (o : Outcome) → Allows (course_of_replay files) o → IsOf (Replay files) o
replay_suits files o allowed = allowed_so (IsOf (Replay files)) (course_of_replay files) o (λ refusal. tt) (λ cells n p o is. replay_ends files n p (first_misfit n p.signals) o is) allowed

scan_ends : (files : ScanFiles) (n : Netlist) (c : Config) (refused : Option ScanError) (o : Outcome) → IsOutcomeOfScanOf n c refused o → IsOf (Scan files) o
scan_ends files n c (Some error) o is = refused_suits (Scan files) o (scan_refusal error) is
scan_ends files n c None o is = subst (IsOf (Scan files)) (sym is.is) tt

scan_suits : (files : ScanFiles) (o : Outcome) → Allows (course_of_scan files) o → IsOf (Scan files) o
scan_suits files o allowed = allowed_so (IsOf (Scan files)) (course_of_scan files) o (λ refusal. tt) (λ cells c n o is. scan_ends files n c (refusal n c) o is) allowed

placing_ends : (files : CompileFiles) (n : Netlist) (c : Config) (cubes : List Cube) (placing : Placing c (plan_of n c) cubes) (list : List PatternData) (refused : Option CompileError) (o : Outcome) →
    IsOutcomeOfPlacing n c cubes placing list refused o → IsOf (Compile files) o
placing_ends files n c cubes placing list (Some error) o is = refused_suits (Compile files) o (compile_refusal error) is
placing_ends files n c cubes placing list None o is = subst (IsOf (Compile files)) (sym is.is) tt

compile_ends : (files : CompileFiles) (n : Netlist) (c : Config) (cubes : List Cube) (o : Outcome) → IsOutcomeOfCubes n c cubes o → IsOf (Compile files) o
compile_ends files n c cubes o is = placing_ends files n c cubes is.placing is.list (refusal_of n c cubes is.placing is.list) o is.outcome

pub compile_suits : (files : CompileFiles) (o : Outcome) → Allows (course_of_compile files) o → IsOf (Compile files) o
compile_suits files o allowed = allowed_so (IsOf (Compile files)) (course_of_compile files) o (λ refusal. tt) (λ cells c n prepared cubes o is. compile_ends files n c cubes o is) allowed

test_ends : (files : CertifyFiles) (report : Report) (fault : Option CertifyError) (o : Outcome) → IsOutcomeOfTest report fault o → IsOf (Certify files) o
test_ends files report (Some error) o is = refused_suits (Certify files) o (refusals.certify_refusal error) is
test_ends files report None o is = subst (IsOf (Certify files)) (sym is) tt

certify_ends : (files : CertifyFiles) (n : Netlist) (c : Config) (cubes : List Cube) (report : Report) (o : Outcome) → IsOutcomeOfReport n c cubes report o → IsOf (Certify files) o
certify_ends files n c cubes report o is = test_ends files report (certify_refusal n c.ring (rows_of n c is.0) is.0.columns cubes report) o is.1.1

certify_suits : (files : CertifyFiles) (o : Outcome) → Allows (course_of_certify files) o → IsOf (Certify files) o
certify_suits files o allowed = allowed_so (IsOf (Certify files)) (course_of_certify files) o (λ refusal. tt) (λ cells c n plan cubes report o is. certify_ends files n c cubes report o is) allowed

graded_ends : (files : GradeFiles) (n : Netlist) (p : Patterns) (graded : List Graded) (long : Option ReportError) (o : Outcome) → IsOutcomeOfGraded n p graded long o → IsOf (Grade files) o
graded_ends files n p graded (Some error) o is = refused_suits (Grade files) o (report_refusal error) is
graded_ends files n p graded None o is = subst (IsOf (Grade files)) (sym is) tt

verdict_ends : (files : GradeFiles) (n : Netlist) (p : Patterns) (v : Verdict) (o : Outcome) → IsOutcomeOfVerdict n p v o → IsOf (Grade files) o
verdict_ends files n p (verdict.Pass compared) o x = graded_ends files n p x.0 (too_long (fault_report n p x.0)) o x.1.1
verdict_ends files n p (verdict.Mismatch vector signal) o is = subst (IsOf (Grade files)) (sym is) tt
verdict_ends files n p (verdict.Undetermined vector signal) o is = subst (IsOf (Grade files)) (sym is) tt

grade_ends : (files : GradeFiles) (n : Netlist) (p : Patterns) (misfit : Option (List ℕ)) (o : Outcome) → IsOutcomeOfGrading n p misfit o → IsOf (Grade files) o
grade_ends files n p (Some name) o is = subst (IsOf (Grade files)) (sym is) tt
grade_ends files n p None o is = verdict_ends files n p is.0 o is.1.1

grade_suits : (files : GradeFiles) (o : Outcome) → Allows (course_of_grade files) o → IsOf (Grade files) o
grade_suits files o allowed = allowed_so (IsOf (Grade files)) (course_of_grade files) o (λ refusal. tt) (λ cells n p o is. grade_ends files n p (first_misfit n p.signals) o is) allowed

configure_ends : (files : ConfigureFiles) (n : Netlist) (o : Outcome) → IsOutcomeOfConfiguring n (wanted_of files.numbers) o → IsOf (Configure files) o
configure_ends files n o (inl made) = subst (IsOf (Configure files)) (sym made.is) tt
configure_ends files n o (inr unmade) = refused_suits (Configure files) o (configure_refusal unmade.error) unmade.is

configure_suits : (files : ConfigureFiles) (o : Outcome) → Allows (course_of_configure files) o → IsOf (Configure files) o
configure_suits files o allowed = allowed_so (IsOf (Configure files)) (course_of_configure files) o (λ refusal. tt) (λ cells n o is. configure_ends files n o is) allowed

told_ends : (files : SeekFiles) (n : Netlist) (config : Config) (told : List Told) (refused : Option SeekError) (o : Outcome) → IsOutcomeOfTold n config told refused o → IsOf (Seek files) o
told_ends files n config told (Some error) o is = refused_suits (Seek files) o (seek_refusal error) is
told_ends files n config told None o is = subst (IsOf (Seek files)) (sym is) tt

seek_ends : (files : SeekFiles) (n : Netlist) (config : Config) (domain : Option ℕ) (o : Outcome) → IsOutcomeOfSeek n config files.clock files.limit domain o → IsOf (Seek files) o
seek_ends files n config None o is = subst (IsOf (Seek files)) (sym is) tt
seek_ends files n config (Some domain) o is = told_ends files n config is.told (unsaved n config is.told) o is.outcome

seek_suits : (files : SeekFiles) (o : Outcome) → Allows (course_of_seek files) o → IsOf (Seek files) o
seek_suits files o allowed = allowed_so (IsOf (Seek files)) (course_of_seek files) o (λ refusal. tt) (λ cells config n plan o is. seek_ends files n config (domain_named config files.clock) o is) allowed

-- a replay of what a compilation made
generated_ends : (numbers : JobNumbers) (counts : Counts) (replay : Outcome) → IsOf (Replay made_files) replay → IsOf (Generate numbers) (generated counts replay)
generated_ends numbers counts Usage suits = absurd suits
generated_ends numbers counts (Refused refusal) suits = tt
generated_ends numbers counts (Finished (Replayed replay)) suits = tt
generated_ends numbers counts (Finished other) suits = absurd suits

replayed_ends : (numbers : JobNumbers) (compilation o : Outcome) → IsReplayedOf compilation o → IsOf (Generate numbers) o
replayed_ends numbers (Refused refusal) o is = subst (IsOf (Generate numbers)) (sym is) tt
replayed_ends numbers (Finished (Compiled counts netlist patterns report)) o x =
    subst (IsOf (Generate numbers)) (sym x.1.1)
    (generated_ends numbers counts x.0 (replay_suits made_files x.0 (reaches_allows (course_of_replay made_files) (made_held netlist patterns) x.0 x.1.0)))
replayed_ends numbers compilation o is = absurd is

pub suits_of : (command : Option Command) (o : Outcome) → Allows (course_of command) o → Suits command o
suits_of None o allowed = allowed
suits_of (Some (Replay files)) o allowed = replay_suits files o allowed
suits_of (Some (Scan files)) o allowed = scan_suits files o allowed
suits_of (Some (Compile files)) o allowed = compile_suits files o allowed
suits_of (Some (Certify files)) o allowed = certify_suits files o allowed
suits_of (Some (Generate numbers)) o allowed = replayed_ends numbers allowed.0 o allowed.1.1
suits_of (Some (Grade files)) o allowed = grade_suits files o allowed
suits_of (Some (Configure files)) o allowed = configure_suits files o allowed
suits_of (Some (Seek files)) o allowed = seek_suits files o allowed
