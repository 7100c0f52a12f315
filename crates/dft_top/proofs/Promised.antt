-- What Done says of the files of a command.
use Rattle.std.proofs.Common.{ℕ, zero, suc, ◌≡◌, ◌≤◌, ◌∙◌, inl, inr, option_map, List, [], ◌∷◌, codes, length, nat_lt, refl, sym, ap, subst, Option, None, Some, Result, Ok}
use Rattle.dft_base.proofs.TextLemmas.{differ}
use Rattle.dft_files.specs.Outside.{Held, Told, ToldChange, file_at}
use Rattle.dft_cells.specs.declared.cell.Cell.{Cell}
use Rattle.dft_config.specs.Config.{Config}
use Rattle.dft_config.specs.Range.{IsInRange}
use Rattle.dft_config_text.specs.Refusals.{IsConfig}
use Rattle.dft_answers.specs.Texts.{FileGives}
use Rattle.dft_netlist.specs.Netlist.{Netlist}
use Rattle.dft_netlist.specs.Drivers.{IsOrdered}
use Rattle.dft_netlist.specs.Orders.{IsOrder}
use Rattle.dft_netlist.specs.Sound.{IsNetlist}
use Rattle.dft_netlist_text.specs.NetlistText.{StandsFor}
use Rattle.dft_hier.proofs.OneModule.{given_are_over}
use Rattle.dft_netlist.proofs.RankLemmas.{order_ranks}
use Rattle.dft_patterns.specs.Patterns.{Patterns}
use Rattle.dft_replay.specs.declared.verdict.Verdict.{Verdict}
use Rattle.dft_replay.specs.declared.verdict.Verdict.TheVariants as verdict
use Rattle.dft_replay.specs.Fits.{first_misfit}
use Rattle.dft_replay.specs.Rows.{ports_of}
use Rattle.dft_replay.specs.Verdicts.{HasVerdict}
use Rattle.dft_replay.proofs.Soundness.{pass_sound}
use Rattle.dft_faults.specs.Faulty.{faulty}
use Rattle.dft_faults.proofs.Finished.{order_stays}
use Rattle.dft_grade.specs.declared.found.Graded.{Graded}
use Rattle.dft_grade.specs.AllGrades.{AreGrades, faults_in}
use Rattle.dft_grade.proofs.AllOfThem.{AreFaults, all_fail, listed_are}
use Rattle.dft_grade_report.specs.Written.{report_text as fault_report}
use Rattle.dft_scan_behavior.proofs.EventRuns.{events_run}
use Rattle.dft_scan_behavior.proofs.PlainShifts.{scanned_shifts, scanned_shows}
use Rattle.dft_scan_behavior.proofs.ShiftRuns.{shifts_run}
use Rattle.dft_scan_behavior.proofs.Reaching.{loads_reach, unloads_show}
use Rattle.dft_insert.proofs.Keeping.{adds_in_order, keeps_design}
use Rattle.dft_insert.specs.declared.style.Style.TheVariants.{Plain, Edt}
use Rattle.dft_insert.specs.Statements.{scanned}
use Rattle.dft_scan_frame.specs.Statements.{IsReady}
use Rattle.dft_insert.proofs.Agreed.{agrees_off}
use Rattle.dft_scan.specs.declared.error.ScanError.{ScanError}
use Rattle.dft_scan.specs.Refusals.{refusal}
use Rattle.dft_scan.specs.Scans.{netlist_text, report_text}
use Rattle.dft_stitch.specs.Chains.{plan_of}
use Rattle.dft_stitch.specs.Plans.{Plan}
use Rattle.dft_load_laws.specs.Loading.{rows_of}
use Rattle.dft_load_laws.proofs.Running.{loads_run, unloads_run}
use Rattle.dft_report.specs.declared.error.ReportError.{ReportError}
use Rattle.dft_report.specs.declared.report.Report.{Report}
use Rattle.dft_certify.specs.declared.error.CertifyError.{CertifyError}
use Rattle.dft_certify.specs.Certifying.{certify_refusal}
use Rattle.dft_certify.specs.Laws.{CertifiedExactly}
use Rattle.dft_certify_laws.specs.InRuns.{CertifiedInRuns}
use Rattle.dft_cubes.specs.declared.cube.Cube.{Cube}
use Rattle.dft_cubes.specs.Laws.{AreCubes}
use Rattle.dft_cubes.proofs.SoundLemmas.{cubes_sound}
use Rattle.dft_compile_laws.specs.Holding.{CompilationsHold, HoldsOf}
use Rattle.dft_compile_laws.proofs.Running.{ranked_run, sets_run}
use Rattle.dft_vectors.specs.PatternData.{PatternData}
use Rattle.dft_encode.specs.Compiled.{ArePatterns, Placing}
use Rattle.dft_compile.specs.declared.error.CompileError.{CompileError}
use Rattle.dft_compile.specs.declared.error.CompileError.TheVariants.{Rules, Stitch, Insert}
use Rattle.dft_compile.specs.Refusals.{first_failing, first_refusal, too_long}
use Rattle.dft_configuring.specs.declared.configuring.Configured.{Configured}
use Rattle.dft_configuring.specs.declared.wanted.Wanted.{Wanted}
use Rattle.dft_configuring.specs.Configured.{Passes as PassesChecks}
use Rattle.dft_compile.specs.Texts as compiled
use Rattle.dft_command_line.specs.Words.{Command, Replay, Scan, Compile, Certify, Grade, Configure, ReplayFiles, ScanFiles, CompileFiles, CertifyFiles, GradeFiles, ConfigureFiles, AreFor}
use Rattle.dft_command_line.proofs.Understood.{for_once}
use Rattle.dft_answers.specs.declared.answer.Answer.{Answer}
use Rattle.dft_answers.specs.declared.answer.Refusal.{Refusal}
use Rattle.dft_answers.specs.declared.answer.Status.TheVariants.{Done}
use Rattle.dft_answers.specs.declared.outcome.Outcome.{Outcome}
use Rattle.dft_answers.specs.declared.outcome.Outcome.TheVariants as outcome
use Rattle.dft_top.specs.declared.limits.TheConstants.{MAX_CONFIG_BYTES, MAX_CUBE_BYTES, MAX_NETLIST_BYTES, MAX_REPORT_BYTES}
use Rattle.dft_answers.specs.Answers.{status_of}
use Rattle.dft_answers.specs.Refusals.{compile_refusal, configure_refusal, report_refusal, scan_refusal}
use Rattle.dft_answers.specs.Refusals as refusals
use Rattle.dft_top.specs.Checks.{ConfigGives, ConfigText, CubeText, CubesGive, DesignGives, IsDesignOf, IsPlanned, LibraryGives, NetlistGives, NetlistText, PatternsGive, PlanGives, ReportGives}
use Rattle.dft_top.specs.Courses.{After, Reaches, Then}
use Rattle.dft_top.specs.Outcomes.{course_of_certify, course_of_compile, course_of_configure, course_of_grade, course_of_replay, course_of_scan, graded_as, IsCompiled, IsOutcomeOfConfiguring, IsOutcomeOfGraded, IsOutcomeOfGrading, IsOutcomeOfReport, IsOutcomeOfVerdict, IsOutcomeOfTest, IsOutcomeOfCubes, IsOutcomeOfPlacing, IsOutcomeOfScanOf, IsOutcomeOn, IsRefusal, IsScanned, outcome_of, refusal_of, wanted_of}
use Rattle.dft_top.specs.Outcomes as outcomes
use Rattle.dft_top.specs.Promises.{Certifies, Compiles, Configures, EveryRunShows, FaultsRun, Grades, Passes, Scans}
use Rattle.dft_top.specs.Run.{CertifiesTold, CompilesTold, ConfiguresTold, EndsFor, GradesTold, IsDelivered, IsOutcomeTold, PassesTold, ScansTold, Seen}
use Rattle.dft_top.specs.Saves.{AreSaved, HaveSaved, Saving, savings}
use Rattle.dft_configure_laws.proofs.MadeLemmas.{made_good, made_loaded, none_unsolvable}
use Rattle.dft_top.proofs.CubesNext.{ends_by_cubes}
use Rattle.dft_top.proofs.Lengths.{late_short, within}
use Rattle.dft_top.proofs.Readings.{text_of}
use Rattle.dft_top.proofs.Steps.{CertifyFor, CertifyOf, CertifyOn, CertifyOver, CertifyWith, CompileOf, CompileOn, CompileOver, CompileWith, GradeOn, GradeOver, ReplayOn, ReplayOver, ScanOn, ScanOver, ConfigureOver}

not_done : (refusal : Refusal) (o : Outcome) → o ≡ outcome.Refused refusal → status_of o ≡ Done → ⊥
not_done refusal o is done = let e = ap status_of is in cc

-- where the outcome is Done, each file gave a value
pub then_done : {A : Type 0} (gives : Result A Refusal → Type 0) (next : A → Outcome → Type 0) (o : Outcome) → status_of o ≡ Done → Then gives next o → After gives (λ value. next value o)
then_done gives next o done (inl x) = x
then_done gives next o done (inr x) = absurd (not_done x.0 o x.1.1 done)

pub design_of : (cells : List Cell) (name : List ℕ) (held : Held) (n : Netlist) → NetlistGives cells name held (Ok n) → (text : List ℕ) × IsDesignOf cells text n
design_of cells name held n given = text_of MAX_NETLIST_BYTES (codes "netlist") (NetlistText cells) (file_at name held) n given

-- ---- a replay

verdict_passed : (n : Netlist) (p : Patterns) (v : Verdict) → HasVerdict n p v → status_of (outcome_of p v) ≡ Done → (compared : ℕ) × HasVerdict n p (verdict.Pass compared)
verdict_passed n p (verdict.Pass compared) has done = (compared, has)
verdict_passed n p (verdict.Mismatch vector signal) has done = absurd cc
verdict_passed n p (verdict.Undetermined vector signal) has done = absurd cc

on_passed : (n : Netlist) (p : Patterns) (misfit : Option (List ℕ)) (o : Outcome) → IsOutcomeOn n p misfit o → status_of o ≡ Done → (misfit ≡ None) × ((compared : ℕ) × HasVerdict n p (verdict.Pass compared))
on_passed n p (Some name) o is done = absurd (let e = ap status_of is in cc)
on_passed n p None o is done = (refl, verdict_passed n p is.0 is.1.0 (ap status_of (sym is.1.1) ∙ done))

every_run : (cells : List Cell) (text : List ℕ) (n : Netlist) (p : Patterns) → IsDesignOf cells text n → (compared : ℕ) × HasVerdict n p (verdict.Pass compared) → EveryRunShows n p
every_run cells text n p design passed =
    let ranked = order_ranks n design.order design.sound design.ordered in
    λ start turns run. pass_sound n ranked.0 p passed.0 start turns ranked.1 passed.1 run

passes : (files : ReplayFiles) (held : Held) (o : Outcome) → status_of o ≡ Done → Reaches (course_of_replay files) held o → Passes files held
passes files held o done h =
    let x = then_done (LibraryGives files.library held) (ReplayOver files held) o done h in
    let y = then_done (NetlistGives x.0 files.netlist held) (ReplayOn files held) o done x.1.1 in
    let n = y.0 in
    let z = then_done (PatternsGive files.patterns held) (λ p. IsOutcomeOn n p (first_misfit n p.signals)) o done y.1.1 in
    let passed = on_passed n z.0 (first_misfit n z.0.signals) o z.1.1 done in
    let design = design_of x.0 files.netlist held n y.1.0 in record {
      cells = x.0;
      library = x.1.0;
      netlist = n;
      design = y.1.0;
      patterns = z.0;
      vectors = z.1.0;
      fit = passed.0;
      passed = passed.1;
      shown = every_run x.0 design.0 n z.0 design.1 passed.1;
      runs = λ start low. sets_run n design.1.order z.0 (ports_of n z.0) start design.1.sound design.1.ordered low;
    }

-- ---- a scan

pub refusal_not_done : (r : Option Refusal) (o : Outcome) → IsRefusal r o → status_of o ≡ Done → ⊥
refusal_not_done None o is done = is
refusal_not_done (Some refusal) o is done = not_done refusal o is done

scan_done : (n : Netlist) (c : Config) (refused : Option ScanError) (o : Outcome) → status_of o ≡ Done → IsOutcomeOfScanOf n c refused o → IsScanned n c o
scan_done n c (Some error) o done h = absurd (refusal_not_done (scan_refusal error) o h done)
scan_done n c None o done h = h

-- what is saved of a scan
abbrev two_savings : (files : ScanFiles) → Netlist → Config → List Saving
two_savings files n c = record { name = files.out; bytes = netlist_text n c } ∷ record { name = files.report; bytes = report_text n c } ∷ []

scans : (files : ScanFiles) (old new : Held) (o : Outcome) → status_of o ≡ Done → Reaches (course_of_scan files) old o → HaveSaved (savings (Some (Scan files)) o) (Some old) (Some new) → Scans files old new
scans files old new o done h saved =
    let x = then_done (LibraryGives files.library old) (ScanOver files old) o done h in
    let y = then_done (ConfigGives files.config old) (ScanOn files x.0 old) o done x.1.1 in
    let c = y.0 in
    let z = then_done (NetlistGives x.0 files.netlist old) (λ n. IsOutcomeOfScanOf n c (refusal n c)) o done y.1.1 in
    let n = z.0 in
    let done_scan = scan_done n c (refusal n c) o done z.1.1 in
    let ready = done_scan.ready in
    let left : AreSaved (two_savings files n c) old new = subst (λ (end : Outcome). HaveSaved (savings (Some (Scan files)) end) (Some old) (Some new)) done_scan.is saved in
    let design = design_of x.0 files.netlist old n z.1.0 in record {
      cells = x.0;
      library = x.1.0;
      config = c;
      settings = y.1.0;
      netlist = n;
      design = z.1.0;
      ready = ready;
      out = left.whole.0;
      report = left.whole.1.0;
      others = λ name a b. left.others name (differ files.out name (λ e. a (sym e)), (differ files.report name (λ e. b (sym e)), tt));
      reads = subst (λ (cells : List Cell). StandsFor cells (netlist_text n c) (scanned Plain n c)) (given_are_over x.0 design.0 n design.1.stands).cells done_scan.reads;
      keeps = keeps_design Plain n c ready;
      adds = adds_in_order Plain n c;
      agrees = agrees_off Plain n c ready;
      events = events_run Plain n c ready;
      shifts = scanned_shifts n c ready;
      shows = scanned_shows n c ready;
      carried = λ cycles table. shifts_run n c cycles table ready;
    }

-- ---- a compilation

-- the cubes of a held text
pub are_cubes : (n : Netlist) (c : Config) (name : List ℕ) (held : Held) (cubes : List Cube) → CubesGive n c name held (Ok cubes) → AreCubes n c cubes
are_cubes n c name held cubes given = let text = text_of MAX_CUBE_BYTES (codes "cubes") (CubeText n c) (file_at name held) cubes given in cubes_sound n c text.0 cubes text.1

placed_done : (n : Netlist) (c : Config) (cubes : List Cube) (placing : Placing c (plan_of n c) cubes) (list : List PatternData) (refused : Option CompileError) (o : Outcome) → status_of o ≡ Done → IsOutcomeOfPlacing n c cubes placing list refused o →
    (refused ≡ None) × IsCompiled n c cubes placing list o
placed_done n c cubes placing list (Some error) o done h = absurd (refusal_not_done (compile_refusal error) o h done)
placed_done n c cubes placing list None o done h = (refl, h)

-- what is saved of a compilation
abbrev three_savings : (files : CompileFiles) (n : Netlist) (c : Config) (cubes : List Cube) → Placing c (plan_of n c) cubes → List PatternData → List Saving
three_savings files n c cubes placing list =
    record { name = files.out_netlist; bytes = compiled.netlist_text n c }
    ∷ record { name = files.out_patterns; bytes = compiled.pattern_text n c list }
    ∷ record { name = files.out_report; bytes = compiled.report_text n c placing.rows cubes placing.placed }
    ∷ []

-- what a compilation that is done made
pub record IsMade (files : CompileFiles) (held : Held) (o : Outcome) : Type 0 where
  pub cells : List Cell
  pub library : LibraryGives files.library held (Ok cells)
  pub config : Config
  pub settings : ConfigGives files.config held (Ok config)
  pub netlist : Netlist
  pub design : NetlistGives cells files.netlist held (Ok netlist)
  pub ready : IsReady netlist config
  pub accepted : first_refusal netlist config ≡ None
  pub sound : IsNetlist (scanned Edt netlist config)
  pub order : List ℕ
  pub ordered : IsOrder (scanned Edt netlist config) order
  pub cubes : List Cube
  pub given : CubesGive netlist config files.cubes held (Ok cubes)
  pub placing : Placing config (plan_of netlist config) cubes
  pub list : List PatternData
  pub are : ArePatterns netlist config (plan_of netlist config) placing.rows placing.merged list
  pub late : refusal_of netlist config cubes placing list ≡ None
  pub is : IsCompiled netlist config cubes placing list o
  pub reads : StandsFor cells (compiled.netlist_text netlist config) (scanned Edt netlist config)
  pub holds : HoldsOf netlist config cubes placing list

pub made : CompilationsHold → (files : CompileFiles) (held : Held) (o : Outcome) → status_of o ≡ Done → Reaches (course_of_compile files) held o → IsMade files held o
made hold files old o done h =
    let x = then_done (LibraryGives files.library old) (CompileOver files old) o done h in
    let y = then_done (ConfigGives files.config old) (CompileOn files x.0 old) o done x.1.1 in
    let c = y.0 in
    let z = then_done (NetlistGives x.0 files.netlist old) (CompileOf files c old) o done y.1.1 in
    let n = z.0 in
    let p = then_done (DesignGives n c) (CompileWith n c files.cubes old) o done z.1.1 in
    let u = then_done (CubesGive n c files.cubes old) (λ cubes. IsOutcomeOfCubes n c cubes) o done p.1.1 in
    let cubes = u.0 in
    let placing = u.1.1.placing in
    let list = u.1.1.list in
    let placed = placed_done n c cubes placing list (refusal_of n c cubes placing list) o done u.1.1.outcome in
    let is = placed.1 in
    let design = design_of x.0 files.netlist old n z.1.0 in record {
      cells = x.0;
      library = x.1.0;
      config = c;
      settings = y.1.0;
      netlist = n;
      design = z.1.0;
      ready = p.1.0.ready;
      accepted = p.1.0.accepted;
      sound = p.1.0.sound;
      order = p.1.0.order;
      ordered = p.1.0.ordered;
      cubes = cubes;
      given = u.1.0;
      placing = placing;
      list = list;
      are = u.1.1.are;
      late = placed.0;
      is = is;
      reads = subst (λ (cells : List Cell). StandsFor cells (compiled.netlist_text n c) (scanned Edt n c)) (given_are_over x.0 design.0 n design.1.stands).cells is.reads;
      holds = hold n c p.1.0.order cubes placing list p.1.0.ready p.1.0.sound p.1.0.ordered (are_cubes n c files.cubes old cubes u.1.0) u.1.1.are;
    }

compiles : CompilationsHold → (files : CompileFiles) (old new : Held) (o : Outcome) → status_of o ≡ Done → Reaches (course_of_compile files) old o → HaveSaved (savings (Some (Compile files)) o) (Some old) (Some new) → Compiles files old new
compiles hold files old new o done h saved =
    let m = made hold files old o done h in
    let n = m.netlist in
    let c = m.config in
    let short = late_short n c m.cubes m.placing m.list m.late in
    let left : AreSaved (three_savings files n c m.cubes m.placing m.list) old new = subst (λ (end : Outcome). HaveSaved (savings (Some (Compile files)) end) (Some old) (Some new)) m.is.is saved in record {
      cells = m.cells;
      library = m.library;
      config = c;
      settings = m.settings;
      netlist = n;
      design = m.design;
      ready = m.ready;
      accepted = m.accepted;
      cubes = m.cubes;
      given = m.given;
      sound = m.sound;
      order = m.order;
      ordered = m.ordered;
      placing = m.placing;
      list = m.list;
      are = m.are;
      few = m.is.few;
      patterns_short = short.0;
      report_short = short.1;
      out_netlist = left.whole.0;
      out_patterns = left.whole.1.0;
      out_report = left.whole.1.1.0;
      others = λ name a b e. left.others name
          (differ files.out_netlist name (λ q. a (sym q)), (differ files.out_patterns name (λ q. b (sym q)), (differ files.out_report name (λ q. e (sym q)), tt)));
      reads = m.reads;
      stands = m.holds.reads m.is.few;
      told = m.is.told;
      entries = refl;
      keeps = keeps_design Edt n c m.ready;
      adds = adds_in_order Edt n c;
      agrees = agrees_off Edt n c m.ready;
      events = events_run Edt n c m.ready;
      loads = λ ports suits. (loads_reach n c ports m.ready suits).0;
      unloads = λ ports suits. (unloads_show n c ports m.ready suits).0;
      unloaded = λ ports suits masks cycles table. unloads_run n c ports masks cycles table m.ready suits;
      holds = m.holds;
    }

-- ---- a test of certificates

test_done : (report : Report) (fault : Option CertifyError) (o : Outcome) → status_of o ≡ Done → IsOutcomeOfTest report fault o → fault ≡ None
test_done report (Some error) o done h = absurd (refusal_not_done (refusals.certify_refusal error) o h done)
test_done report None o done h = refl

-- a plan that the checks pass
pub planned_is : (n : Netlist) (c : Config) (plan : Plan) → IsPlanned n c plan → PlanGives n c (Ok (plan_of n c))
planned_is n c plan planned = record { is = refl; ready = planned.ready; accepted = planned.accepted }

certifies : CertifiedExactly → CertifiedInRuns → (files : CertifyFiles) (held : Held) (o : Outcome) → status_of o ≡ Done → Reaches (course_of_certify files) held o → Certifies files held
certifies exact never files held o done h =
    let x = then_done (LibraryGives files.library held) (CertifyOver files held) o done h in
    let y = then_done (ConfigGives files.config held) (CertifyOn files x.0 held) o done x.1.1 in
    let c = y.0 in
    let z = then_done (NetlistGives x.0 files.netlist held) (CertifyOf files c held) o done y.1.1 in
    let n = z.0 in
    let p = then_done (PlanGives n c) (CertifyWith n c files.cubes files.report held) o done z.1.1 in
    let u = then_done (CubesGive n c files.cubes held) (CertifyFor n c files.report held) o done p.1.1 in
    let cubes = u.0 in
    let r = then_done (ReportGives files.report held) (λ report. IsOutcomeOfReport n c cubes report) o done u.1.1 in
    let report = r.0 in
    let rows = r.1.1.0 in
    let passed = test_done report (certify_refusal n c.ring (rows_of n c rows) rows.columns cubes report) o done r.1.1.1.1 in record {
      cells = x.0;
      library = x.1.0;
      config = c;
      settings = y.1.0;
      netlist = n;
      design = z.1.0;
      ready = p.1.0.ready;
      planned = planned_is n c p.0 p.1.0;
      cubes = cubes;
      given = u.1.0;
      report = report;
      told = r.1.0;
      rows = rows;
      equations = r.1.1.1.0;
      certified = (exact n c.ring (rows_of n c rows) rows.columns cubes report).0 passed;
      never = λ ports suits k entry lines cube at told named table loads. never n c ports rows cubes report p.1.0.ready suits r.1.1.1.0 passed k entry lines cube at told named table loads;
      carried = λ ports suits table. loads_run n c ports table p.1.0.ready suits;
    }

-- ---- a grading

-- what a grading that is done came to
record IsGradedDone (n : Netlist) (p : Patterns) (misfit : Option (List ℕ)) (o : Outcome) : Type 0 where
  fit : misfit ≡ None
  passed : (compared : ℕ) × HasVerdict n p (verdict.Pass compared)
  graded : List Graded
  are : AreGrades n p graded
  short : too_long (fault_report n p graded) ≡ None
  is : o ≡ graded_as n p graded

graded_done : (n : Netlist) (p : Patterns) (compared : ℕ) (graded : List Graded) (long : Option ReportError) (o : Outcome) → too_long (fault_report n p graded) ≡ long → status_of o ≡ Done → HasVerdict n p (verdict.Pass compared) → AreGrades n p graded →
    IsOutcomeOfGraded n p graded long o → IsGradedDone n p None o
graded_done n p compared graded (Some error) o length_is done has are is = absurd (refusal_not_done (report_refusal error) o is done)
graded_done n p compared graded None o length_is done has are is = record { fit = refl; passed = (compared, has); graded = graded; are = are; short = length_is; is = is }

verdict_graded : (n : Netlist) (p : Patterns) (v : Verdict) (o : Outcome) → status_of o ≡ Done → HasVerdict n p v → IsOutcomeOfVerdict n p v o → IsGradedDone n p None o
verdict_graded n p (verdict.Pass compared) o done has x = graded_done n p compared x.0 (too_long (fault_report n p x.0)) o refl done has x.1.0 x.1.1
verdict_graded n p (verdict.Mismatch vector signal) o done has is = absurd (let e = ap status_of is in cc)
verdict_graded n p (verdict.Undetermined vector signal) o done has is = absurd (let e = ap status_of is in cc)

grading_done : (n : Netlist) (p : Patterns) (misfit : Option (List ℕ)) (o : Outcome) → status_of o ≡ Done → IsOutcomeOfGrading n p misfit o → IsGradedDone n p misfit o
grading_done n p (Some name) o done is = absurd (not_done _ o is done)
grading_done n p None o done is = verdict_graded n p is.0 o done is.1.0 is.1.1

faults_run : (n : Netlist) (rank : ℕ → ℕ) (p : Patterns) (graded : List Graded) → IsOrdered n rank → AreFaults n (faults_in graded) → FaultsRun n p graded
faults_run n rank p [] ordered are = tt
faults_run n rank p (g ∷ graded) ordered are = (
  λ start low. ranked_run (faulty n g.fault) rank p (ports_of (faulty n g.fault) p) start (order_stays n g.fault rank (are zero g.fault refl) ordered) low,
  faults_run n rank p graded ordered (λ place f at. are (suc place) f at),
)

-- what is saved of a grading
abbrev one_saving : (files : GradeFiles) → Netlist → Patterns → List Graded → List Saving
one_saving files n p graded = record { name = files.out; bytes = fault_report n p graded } ∷ []

grades : (files : GradeFiles) (old new : Held) (o : Outcome) → status_of o ≡ Done → Reaches (course_of_grade files) old o → HaveSaved (savings (Some (Grade files)) o) (Some old) (Some new) → Grades files old new
grades files old new o done h saved =
    let x = then_done (LibraryGives files.library old) (GradeOver files old) o done h in
    let y = then_done (NetlistGives x.0 files.netlist old) (GradeOn files old) o done x.1.1 in
    let n = y.0 in
    let z = then_done (PatternsGive files.patterns old) (λ p. IsOutcomeOfGrading n p (first_misfit n p.signals)) o done y.1.1 in
    let p = z.0 in
    let d = grading_done n p (first_misfit n p.signals) o done z.1.1 in
    let graded = d.graded in
    let design = design_of x.0 files.netlist old n y.1.0 in
    let ranked = order_ranks n design.1.order design.1.sound design.1.ordered in
    let left : AreSaved (one_saving files n p graded) old new = subst (λ (end : Outcome). HaveSaved (savings (Some (Grade files)) end) (Some old) (Some new)) d.is saved in record {
      replay = record {
        cells = x.0;
        library = x.1.0;
        netlist = n;
        design = y.1.0;
        patterns = p;
        vectors = z.1.0;
        fit = d.fit;
        passed = d.passed;
        shown = every_run x.0 design.0 n p design.1 d.passed;
        runs = λ start low. sets_run n design.1.order p (ports_of n p) start design.1.sound design.1.ordered low;
      };
      graded = graded;
      are = d.are;
      short = within MAX_REPORT_BYTES (length (fault_report n p graded)) _ (nat_lt MAX_REPORT_BYTES (length (fault_report n p graded))) refl d.short;
      out = left.whole.0;
      others = λ name a. left.others name (differ files.out name (λ e. a (sym e)), tt);
      fail = all_fail n ranked.0 p graded ranked.1 d.are;
      run = faults_run n ranked.0 p graded ranked.1 (subst (AreFaults n) (sym d.are.faults) (listed_are n p));
    }

-- ---- a made configuration

configuring_done : (n : Netlist) (wanted : Wanted) (o : Outcome) → status_of o ≡ Done → IsOutcomeOfConfiguring n wanted o → outcomes.IsMade n wanted o
configuring_done n wanted o done (inl made) = made
configuring_done n wanted o done (inr unmade) = absurd (refusal_not_done (configure_refusal unmade.error) o unmade.is done)

-- what is saved of it
abbrev text_saving : (files : ConfigureFiles) → Configured → List Saving
text_saving files configured = record { name = files.out; bytes = configured.text.items } ∷ []

-- the saved text is read as the configuration, which no check refuses
configuration_given : (name : List ℕ) (held : Held) (text : List ℕ) (config : Config) → file_at name held ≡ Some text → length text ≤ MAX_CONFIG_BYTES → IsConfig text config → IsInRange config → ConfigGives name held (Ok config)
configuration_given name held text config at short stands range =
    subst (λ (q : Option (List ℕ)). FileGives MAX_CONFIG_BYTES (codes "config") ConfigText q (Ok config)) (sym at) (short, record { stands = stands; range = range })

-- a configuration that passes is accepted
accepted_so : (n : Netlist) (config : Config) → PassesChecks n config → first_refusal n config ≡ None
accepted_so n config passes = (λ i. first_failing (option_map Rules (passes.scanned i) ∷ option_map Stitch (passes.planned i) ∷ option_map Insert (passes.inserted i) ∷ []))

configures : (files : ConfigureFiles) (old new : Held) (o : Outcome) → status_of o ≡ Done → Reaches (course_of_configure files) old o → HaveSaved (savings (Some (Configure files)) o) (Some old) (Some new) → Configures files old new
configures files old new o done h saved =
    let x = then_done (LibraryGives files.library old) (ConfigureOver files old) o done h in
    let y = then_done (NetlistGives x.0 files.netlist old) (λ n. IsOutcomeOfConfiguring n (wanted_of files.numbers)) o done x.1.1 in
    let wanted = wanted_of files.numbers in
    let d = configuring_done y.0 wanted o done y.1.1 in
    let accepted = accepted_so y.0 d.configured.config d.made.passes in
    let left : AreSaved (text_saving files d.configured) old new = subst (λ (end : Outcome). HaveSaved (savings (Some (Configure files)) end) (Some old) (Some new)) d.is saved in record {
      cells = x.0;
      library = x.1.0;
      netlist = y.0;
      design = y.1.0;
      configured = d.configured;
      made = d.made;
      out = left.whole.0;
      others = λ name a. left.others name (differ files.out name (λ e. a (sym e)), tt);
      settings = configuration_given files.out new d.configured.text.items d.configured.config left.whole.0 d.made.short d.made.read d.made.range;
      ready = d.ready;
      accepted = accepted;
      compiled = ends_by_cubes x.0 y.0 d.configured.config accepted;
      good = made_good y.0 wanted d.configured d.made;
      loads = made_loaded y.0 wanted d.configured d.ready d.made;
      carried = λ ports suits table. loads_run y.0 d.configured.config ports table d.ready suits;
      solvable = none_unsolvable y.0 wanted d.configured d.ready d.made;
    }

-- ---- of a run

-- what a run that answers Done came to
pub record IsDone (command : Option Command) (before after : Seen) : Type 0 where
  pub o : Outcome
  pub told : IsOutcomeTold command before.held o
  pub done : status_of o ≡ Done
  pub saved : HaveSaved (savings command o) before.held after.held

delivered_done : (command : Option Command) (o : Outcome) (before after : Seen) (answer : Answer) → IsOutcomeTold command before.held o → IsDelivered command o before after answer → answer.status ≡ Done → IsDone command before after
delivered_done command o before after answer told (inl x) done = record { o = o; told = told; done = ap (λ (a : Answer). a.status) (sym x.answers) ∙ done; saved = x.saved }
delivered_done command o before after answer told (inr (inl x)) done = absurd (let e = ap (λ (a : Answer). a.status) x.answers in cc)
delivered_done command o before after answer told (inr (inr (inl x))) done = absurd (let e = ap (λ (a : Answer). a.status) x.answers in cc)
delivered_done command o before after answer told (inr (inr (inr x))) done = absurd (let e = ap (λ (a : Answer). a.status) x.answers in cc)

pub ends_done : (command : Option Command) (before after : Seen) (answer : Answer) → EndsFor command before after answer → answer.status ≡ Done → IsDone command before after
ends_done command before after answer (inl x) done = delivered_done command x.o before after answer x.told x.delivered done
ends_done command before after answer (inr (inl x)) done = absurd (let e = ap (λ (a : Answer). a.status) x.answers in cc)
ends_done command before after answer (inr (inr x)) done = absurd (let e = ap (λ (a : Answer). a.status) x.1 in cc)

told_passes : (files : ReplayFiles) (held : Option Held) (o : Outcome) → status_of o ≡ Done → Told (λ h. Reaches (course_of_replay files) h o) held → Told (Passes files) held
told_passes files None o done told = tt
told_passes files (Some held) o done told = passes files held o done told

-- where nothing is told, nothing is told then
pub saved_untold : (all : List Saving) (held' : Option Held) → HaveSaved all None held' → held' ≡ None
saved_untold [] held' saved = saved
saved_untold (s ∷ all) held' saved = saved

pub saved_lost : (all : List Saving) (old : Held) → HaveSaved all (Some old) None → ⊥
saved_lost [] old saved = cc
saved_lost (s ∷ all) old saved = saved

told_scans : (files : ScanFiles) (held held' : Option Held) (o : Outcome) → status_of o ≡ Done → Told (λ h. Reaches (course_of_scan files) h o) held → HaveSaved (savings (Some (Scan files)) o) held held' → ToldChange (Scans files) held held'
told_scans files None held' o done told saved = saved_untold (savings (Some (Scan files)) o) held' saved
told_scans files (Some old) None o done told saved = saved_lost (savings (Some (Scan files)) o) old saved
told_scans files (Some old) (Some new) o done told saved = scans files old new o done told saved

told_compiles : CompilationsHold → (files : CompileFiles) (held held' : Option Held) (o : Outcome) → status_of o ≡ Done → Told (λ h. Reaches (course_of_compile files) h o) held → HaveSaved (savings (Some (Compile files)) o) held held' → ToldChange (Compiles files) held held'
told_compiles hold files None held' o done told saved = saved_untold (savings (Some (Compile files)) o) held' saved
told_compiles hold files (Some old) None o done told saved = saved_lost (savings (Some (Compile files)) o) old saved
told_compiles hold files (Some old) (Some new) o done told saved = compiles hold files old new o done told saved

told_certifies : CertifiedExactly → CertifiedInRuns → (files : CertifyFiles) (held : Option Held) (o : Outcome) → status_of o ≡ Done → Told (λ h. Reaches (course_of_certify files) h o) held → Told (Certifies files) held
told_certifies exact never files None o done told = tt
told_certifies exact never files (Some held) o done told = certifies exact never files held o done told

told_grades : (files : GradeFiles) (held held' : Option Held) (o : Outcome) → status_of o ≡ Done → Told (λ h. Reaches (course_of_grade files) h o) held → HaveSaved (savings (Some (Grade files)) o) held held' → ToldChange (Grades files) held held'
told_grades files None held' o done told saved = saved_untold (savings (Some (Grade files)) o) held' saved
told_grades files (Some old) None o done told saved = saved_lost (savings (Some (Grade files)) o) old saved
told_grades files (Some old) (Some new) o done told saved = grades files old new o done told saved

-- of words that are for a command
pub passes_for : (words : List (List ℕ)) (command : Option Command) (before after : Seen) (answer : Answer) → AreFor words command → EndsFor command before after answer → PassesTold words before.held answer
passes_for words command before after answer are ended files is done =
    let ends = subst (λ (command : Option Command). EndsFor command before after answer) (for_once words command (Some (Replay files)) are is) ended in
    let d = ends_done (Some (Replay files)) before after answer ends done in
    told_passes files before.held d.o d.done d.told.told

pub scans_for : (words : List (List ℕ)) (command : Option Command) (before after : Seen) (answer : Answer) → AreFor words command → EndsFor command before after answer → ScansTold words before.held after.held answer
scans_for words command before after answer are ended files is done =
    let ends = subst (λ (command : Option Command). EndsFor command before after answer) (for_once words command (Some (Scan files)) are is) ended in
    let d = ends_done (Some (Scan files)) before after answer ends done in
    told_scans files before.held after.held d.o d.done d.told.told d.saved

pub compiles_for : CompilationsHold → (words : List (List ℕ)) (command : Option Command) (before after : Seen) (answer : Answer) → AreFor words command → EndsFor command before after answer → CompilesTold words before.held after.held answer
compiles_for hold words command before after answer are ended files is done =
    let ends = subst (λ (command : Option Command). EndsFor command before after answer) (for_once words command (Some (Compile files)) are is) ended in
    let d = ends_done (Some (Compile files)) before after answer ends done in
    told_compiles hold files before.held after.held d.o d.done d.told.told d.saved

pub certifies_for : CertifiedExactly → CertifiedInRuns → (words : List (List ℕ)) (command : Option Command) (before after : Seen) (answer : Answer) → AreFor words command → EndsFor command before after answer → CertifiesTold words before.held answer
certifies_for exact never words command before after answer are ended files is done =
    let ends = subst (λ (command : Option Command). EndsFor command before after answer) (for_once words command (Some (Certify files)) are is) ended in
    let d = ends_done (Some (Certify files)) before after answer ends done in
    told_certifies exact never files before.held d.o d.done d.told.told

pub grades_for : (words : List (List ℕ)) (command : Option Command) (before after : Seen) (answer : Answer) → AreFor words command → EndsFor command before after answer → GradesTold words before.held after.held answer
grades_for words command before after answer are ended files is done =
    let ends = subst (λ (command : Option Command). EndsFor command before after answer) (for_once words command (Some (Grade files)) are is) ended in
    let d = ends_done (Some (Grade files)) before after answer ends done in
    told_grades files before.held after.held d.o d.done d.told.told d.saved

told_configures : (files : ConfigureFiles) (held held' : Option Held) (o : Outcome) → status_of o ≡ Done → Told (λ h. Reaches (course_of_configure files) h o) held → HaveSaved (savings (Some (Configure files)) o) held held' → ToldChange (Configures files) held held'
told_configures files None held' o done told saved = saved_untold (savings (Some (Configure files)) o) held' saved
told_configures files (Some old) None o done told saved = saved_lost (savings (Some (Configure files)) o) old saved
told_configures files (Some old) (Some new) o done told saved = configures files old new o done told saved

pub configures_for : (words : List (List ℕ)) (command : Option Command) (before after : Seen) (answer : Answer) → AreFor words command → EndsFor command before after answer → ConfiguresTold words before.held after.held answer
configures_for words command before after answer are ended files is done =
    let ends = subst (λ (command : Option Command). EndsFor command before after answer) (for_once words command (Some (Configure files)) are is) ended in
    let d = ends_done (Some (Configure files)) before after answer ends done in
    told_configures files before.held after.held d.o d.done d.told.told d.saved
