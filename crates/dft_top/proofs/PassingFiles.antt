-- Files that pass all checks are never refused.
use Rattle.std.proofs.Common.{ℕ, ◌≡◌, inl, inr, List, codes, Option, None, Some, Ok, subst}
use Rattle.dft_files.specs.Outside.{Held, file_at}
use Rattle.dft_cells.specs.declared.cell.Cell.{Cell}
use Rattle.dft_config.specs.Config.{Config}
use Rattle.dft_netlist.specs.Netlist.{Netlist}
use Rattle.dft_netlist.proofs.RankLemmas.{order_ranks}
use Rattle.dft_patterns.specs.Patterns.{Patterns}
use Rattle.dft_replay.specs.Fits.{first_misfit}
use Rattle.dft_scan.specs.declared.error.ScanError.{ScanError}
use Rattle.dft_scan.specs.Refusals.{refusal}
use Rattle.dft_scan.specs.Scans.{counts_of, netlist_text, report_text}
use Rattle.dft_stitch.specs.Chains.{plan_of}
use Rattle.dft_stitch.specs.Plans.{Plan}
use Rattle.dft_equations.specs.LoadRows.{LoadRows}
use Rattle.dft_load_laws.specs.Loading.{AreRows, rows_of}
use Rattle.dft_report.specs.declared.report.Report.{Report}
use Rattle.dft_certify.specs.declared.error.CertifyError.{CertifyError}
use Rattle.dft_certify.specs.Certifying.{certify_refusal}
use Rattle.dft_cubes.specs.declared.cube.Cube.{Cube}
use Rattle.dft_vectors.specs.PatternData.{PatternData}
use Rattle.dft_encode.specs.Compiled.{ArePatterns, Placing}
use Rattle.dft_compile.specs.Refusals.{first_refusal}
use Rattle.dft_command_line.specs.Words.{Command, Replay, Scan, Compile, Certify, Grade, Configure, Seek, ReplayFiles, ScanFiles, CompileFiles, CertifyFiles, GradeFiles}
use Rattle.dft_command_line.proofs.Understood.{for_once}
use Rattle.dft_answers.specs.declared.outcome.Outcome.{Outcome}
use Rattle.dft_answers.specs.declared.outcome.Outcome.TheVariants.{Finished}
use Rattle.dft_answers.specs.declared.outcome.Work.TheVariants.{Scanned}
use Rattle.dft_top.specs.declared.limits.TheConstants.{MAX_CONFIG_BYTES, MAX_CUBE_BYTES, MAX_NETLIST_BYTES, MAX_PATTERN_BYTES, MAX_REPORT_BYTES}
use Rattle.dft_top.specs.Checks.{ConfigGives, ConfigText, CubeText, CubesGive, LibraryGives, NetlistGives, NetlistText, PatternText, PatternsGive, PlanGives, ReportGives, ReportText, plan_refusal}
use Rattle.dft_top.specs.Courses.{Reaches, Then}
use Rattle.dft_top.specs.Outcomes.{IsCompiled, IsOutcomeFor, IsOutcomeOfConfiguring, IsOutcomeOfGrading, IsOutcomeOfReport, IsOutcomeOfTest, course_of_certify, course_of_compile, course_of_grade, course_of_replay, course_of_scan, IsOutcomeOfCubes, IsOutcomeOfScanOf, IsOutcomeOfSeek, IsOutcomeOfTold, refusal_of, IsOutcomeOn, wanted_of}
use Rattle.dft_top.specs.Laws.{PassingIsCertified, PassingIsCompiled, PassingIsConfigured, PassingIsGraded, PassingIsReplayed, PassingIsScanned, PassingIsSought}
use Rattle.dft_top.proofs.CompileLemmas.{compiled_due}
use Rattle.dft_top.proofs.Promised.{design_of}
use Rattle.dft_top.proofs.CubesNext.{cubes_next}
use Rattle.dft_top.proofs.CertifyLemmas.{report_over}
use Rattle.dft_top.proofs.Gradings.{graded_due}
use Rattle.dft_top.proofs.Configurings.{configured_due}
use Rattle.dft_top.proofs.Seekings.{search_due}
use Rattle.dft_cubes.specs.Cubes.{domain_named}
use Rattle.dft_seeking.specs.declared.error.SeekError.{SeekError}
use Rattle.dft_top.proofs.Readings.{config_text_one, cube_text_one, file_one, given_next, library_gives_one, netlist_text_one, pattern_text_one, report_text_one, accepted_or_refused}
use Rattle.dft_top.proofs.Steps.{CertifyFor, CertifyOf, CertifyOn, CertifyOver, CertifyWith, ConfigureOver, GradeOn, GradeOver, ReplayOn, ReplayOver, ScanOn, ScanOver, SeekOf, SeekOn, SeekOver}

-- where a design is given, the patterns are next
pub replay_read : (files : ReplayFiles) (held : Held) (cells : List Cell) (n : Netlist) (o : Outcome) → LibraryGives files.library held (Ok cells) → NetlistGives cells files.netlist held (Ok n) →
    Reaches (course_of_replay files) held o → Then (PatternsGive files.patterns held) (λ p. IsOutcomeOn n p (first_misfit n p.signals)) o
replay_read files held cells n o library netlist is =
    let over = given_next (LibraryGives files.library held) (ReplayOver files held) o cells (library_gives_one files.library held) library is in
    given_next (NetlistGives cells files.netlist held) (ReplayOn files held) o n (file_one MAX_NETLIST_BYTES (codes "netlist") (NetlistText cells) (netlist_text_one cells) (file_at files.netlist held)) netlist over

pub replay_due : (files : ReplayFiles) (held : Held) (cells : List Cell) (n : Netlist) (p : Patterns) (o : Outcome) → LibraryGives files.library held (Ok cells) → NetlistGives cells files.netlist held (Ok n) →
    PatternsGive files.patterns held (Ok p) → Reaches (course_of_replay files) held o → IsOutcomeOn n p (first_misfit n p.signals) o
replay_due files held cells n p o library netlist patterns is =
    given_next (PatternsGive files.patterns held) (λ p. IsOutcomeOn n p (first_misfit n p.signals)) o p (file_one MAX_PATTERN_BYTES (codes "patterns") PatternText pattern_text_one (file_at files.patterns held)) patterns (replay_read files held cells n o library netlist is)

scan_due : (files : ScanFiles) (held : Held) (cells : List Cell) (c : Config) (n : Netlist) (o : Outcome) → LibraryGives files.library held (Ok cells) → ConfigGives files.config held (Ok c) →
    NetlistGives cells files.netlist held (Ok n) → refusal n c ≡ None → Reaches (course_of_scan files) held o → o ≡ Finished (Scanned (counts_of n c) (netlist_text n c) (report_text n c))
scan_due files held cells c n o library config netlist none is =
    let over = given_next (LibraryGives files.library held) (ScanOver files held) o cells (library_gives_one files.library held) library is in
    let on = given_next (ConfigGives files.config held) (ScanOn files cells held) o c (file_one MAX_CONFIG_BYTES (codes "config") ConfigText config_text_one (file_at files.config held)) config over in
    let scan = given_next (NetlistGives cells files.netlist held) (λ n. IsOutcomeOfScanOf n c (refusal n c)) o n (file_one MAX_NETLIST_BYTES (codes "netlist") (NetlistText cells) (netlist_text_one cells) (file_at files.netlist held)) netlist on in
    (subst (λ (refused : Option ScanError). IsOutcomeOfScanOf n c refused o) none scan).is

compile_due : (files : CompileFiles) (held : Held) (cells : List Cell) (c : Config) (n : Netlist) (cubes : List Cube) (placing : Placing c (plan_of n c) cubes) (list : List PatternData) (o : Outcome) → (library : LibraryGives files.library held (Ok cells)) →
    (config : ConfigGives files.config held (Ok c)) → (netlist : NetlistGives cells files.netlist held (Ok n)) → (first : first_refusal n c ≡ None) → (given : CubesGive n c files.cubes held (Ok cubes)) →
    (are : ArePatterns n c (plan_of n c) placing.rows placing.merged list) → (late : refusal_of n c cubes placing list ≡ None) → (is : Reaches (course_of_compile files) held o) → IsCompiled n c cubes placing list o
compile_due files held cells c n cubes placing list o library config netlist first given are late is =
    let design = design_of cells files.netlist held n netlist in
    let ranked = order_ranks n design.1.order design.1.sound design.1.ordered in
    compiled_due n ranked.0 c cubes placing list o ranked.1 are late
    (given_next (CubesGive n c files.cubes held) (λ cubes. IsOutcomeOfCubes n c cubes) o cubes (file_one MAX_CUBE_BYTES (codes "cubes") (CubeText n c) (cube_text_one n c) (file_at files.cubes held)) given
    (cubes_next files held cells c n o library config netlist first is))

plan_next : (n : Netlist) (c : Config) (next : Plan → Outcome → Type 0) (o : Outcome) → plan_refusal n c ≡ None → Then (PlanGives n c) next o → (plan : Plan) × next plan o
plan_next n c next o none (inl x) = (x.0, x.1.1)
plan_next n c next o none (inr x) = absurd (accepted_or_refused (plan_refusal n c) x.1.0.0 none x.1.0.1.0)

pub certify_due : (files : CertifyFiles) (held : Held) (cells : List Cell) (c : Config) (n : Netlist) (cubes : List Cube) (report : Report) (rows : LoadRows) (o : Outcome) → (library : LibraryGives files.library held (Ok cells)) →
    (config : ConfigGives files.config held (Ok c)) → (netlist : NetlistGives cells files.netlist held (Ok n)) → (none : plan_refusal n c ≡ None) → (given : CubesGive n c files.cubes held (Ok cubes)) → (told : ReportGives files.report held (Ok report)) →
    (are : AreRows n c rows) → (is : Reaches (course_of_certify files) held o) → IsOutcomeOfTest report (certify_refusal n c.ring (rows_of n c rows) rows.columns cubes report) o
certify_due files held cells c n cubes report rows o library config netlist none given told are is =
    let over = given_next (LibraryGives files.library held) (CertifyOver files held) o cells (library_gives_one files.library held) library is in
    let on = given_next (ConfigGives files.config held) (CertifyOn files cells held) o c (file_one MAX_CONFIG_BYTES (codes "config") ConfigText config_text_one (file_at files.config held)) config over in
    let of = given_next (NetlistGives cells files.netlist held) (CertifyOf files c held) o n (file_one MAX_NETLIST_BYTES (codes "netlist") (NetlistText cells) (netlist_text_one cells) (file_at files.netlist held)) netlist on in
    let with = plan_next n c (CertifyWith n c files.cubes files.report held) o none of in
    let for = given_next (CubesGive n c files.cubes held) (CertifyFor n c files.report held) o cubes (file_one MAX_CUBE_BYTES (codes "cubes") (CubeText n c) (cube_text_one n c) (file_at files.cubes held)) given with.1 in
    report_over n c cubes report rows o are
    (given_next (ReportGives files.report held) (λ report. IsOutcomeOfReport n c cubes report) o report (file_one MAX_REPORT_BYTES (codes "report") ReportText report_text_one (file_at files.report held)) told for)

grade_due : (files : GradeFiles) (held : Held) (cells : List Cell) (n : Netlist) (p : Patterns) (o : Outcome) → LibraryGives files.library held (Ok cells) → NetlistGives cells files.netlist held (Ok n) →
    PatternsGive files.patterns held (Ok p) → Reaches (course_of_grade files) held o → IsOutcomeOfGrading n p (first_misfit n p.signals) o
grade_due files held cells n p o library netlist patterns is =
    let over = given_next (LibraryGives files.library held) (GradeOver files held) o cells (library_gives_one files.library held) library is in
    let on = given_next (NetlistGives cells files.netlist held) (GradeOn files held) o n (file_one MAX_NETLIST_BYTES (codes "netlist") (NetlistText cells) (netlist_text_one cells) (file_at files.netlist held)) netlist over in
    given_next (PatternsGive files.patterns held) (λ p. IsOutcomeOfGrading n p (first_misfit n p.signals)) o p (file_one MAX_PATTERN_BYTES (codes "patterns") PatternText pattern_text_one (file_at files.patterns held)) patterns on

pub passing_graded : PassingIsGraded
passing_graded words files held cells n p compared graded o is library netlist patterns fit has are short x =
    let design = design_of cells files.netlist held n netlist in
    let ranked = order_ranks n design.1.order design.1.sound design.1.ordered in
    let reached = subst (λ (command : Option Command). IsOutcomeFor command held o) (for_once words x.0 (Some (Grade files)) x.1.0 is) x.1.1 in
    graded_due n p ranked.0 compared graded o (first_misfit n p.signals) ranked.1 fit has are short (grade_due files held cells n p o library netlist patterns reached)

pub passing_configured : PassingIsConfigured
passing_configured words files held cells n configured o is library netlist made x =
    let reached = subst (λ (command : Option Command). IsOutcomeFor command held o) (for_once words x.0 (Some (Configure files)) x.1.0 is) x.1.1 in
    let over = given_next (LibraryGives files.library held) (ConfigureOver files held) o cells (library_gives_one files.library held) library reached in
    let on = given_next (NetlistGives cells files.netlist held) (λ m. IsOutcomeOfConfiguring m (wanted_of files.numbers)) o n (file_one MAX_NETLIST_BYTES (codes "netlist") (NetlistText cells) (netlist_text_one cells) (file_at files.netlist held)) netlist over in
    configured_due n (wanted_of files.numbers) configured o made on

pub passing_sought : PassingIsSought
passing_sought words files held cells c n domain told o is library config netlist none named are passes x =
    let design = design_of cells files.netlist held n netlist in
    let ranked = order_ranks n design.1.order design.1.sound design.1.ordered in
    let reached = subst (λ (command : Option Command). IsOutcomeFor command held o) (for_once words x.0 (Some (Seek files)) x.1.0 is) x.1.1 in
    let over = given_next (LibraryGives files.library held) (SeekOver files held) o cells (library_gives_one files.library held) library reached in
    let on = given_next (ConfigGives files.config held) (SeekOn files cells held) o c (file_one MAX_CONFIG_BYTES (codes "config") ConfigText config_text_one (file_at files.config held)) config over in
    let of = given_next (NetlistGives cells files.netlist held) (SeekOf files c held) o n (file_one MAX_NETLIST_BYTES (codes "netlist") (NetlistText cells) (netlist_text_one cells) (file_at files.netlist held)) netlist on in
    let with = plan_next n c (λ plan. IsOutcomeOfSeek n c files.clock files.limit (domain_named c files.clock)) o none of in
    subst (λ (refused : Option SeekError). IsOutcomeOfTold n c told refused o) passes
    (search_due n c domain files.limit ranked.0 told o ranked.1 are (subst (λ (place : Option ℕ). IsOutcomeOfSeek n c files.clock files.limit place o) named with.1))

pub passing_replayed : PassingIsReplayed
passing_replayed words files held cells n p o is library netlist patterns x =
    replay_due files held cells n p o library netlist patterns (subst (λ (command : Option Command). IsOutcomeFor command held o) (for_once words x.0 (Some (Replay files)) x.1.0 is) x.1.1)

pub passing_scanned : PassingIsScanned
passing_scanned words files held cells c n o is library config netlist none x =
    scan_due files held cells c n o library config netlist none (subst (λ (command : Option Command). IsOutcomeFor command held o) (for_once words x.0 (Some (Scan files)) x.1.0 is) x.1.1)

pub passing_compiled : PassingIsCompiled
passing_compiled words files held cells c n cubes placing list o is library config netlist first given are late x =
    compile_due files held cells c n cubes placing list o library config netlist first given are late
    (subst (λ (command : Option Command). IsOutcomeFor command held o) (for_once words x.0 (Some (Compile files)) x.1.0 is) x.1.1)

pub passing_certified : PassingIsCertified
passing_certified words files held cells c n cubes report rows o is library config netlist none given told are passes x =
    subst (λ (fault : Option CertifyError). IsOutcomeOfTest report fault o) passes
    (certify_due files held cells c n cubes report rows o library config netlist none given told are
    (subst (λ (command : Option Command). IsOutcomeFor command held o) (for_once words x.0 (Some (Certify files)) x.1.0 is) x.1.1))
