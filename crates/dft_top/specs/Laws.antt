-- That words and files have one outcome at most, and which it is where each file passes its checks.
use Rattle.std.specs.Prelude.{ℕ, ◌≡◌, List, None, Some, Ok}
use Rattle.dft_files.specs.Outside.{Held}
use Rattle.dft_cells.specs.declared.cell.Cell.{Cell}
use Rattle.dft_config.specs.Config.{Config}
use Rattle.dft_netlist.specs.Drivers.{IsOrdered}
use Rattle.dft_netlist.specs.Netlist.{Netlist}
use Rattle.dft_patterns.specs.Patterns.{Patterns}
use Rattle.dft_replay.specs.declared.verdict.Verdict.TheVariants.{Pass}
use Rattle.dft_replay.specs.Fits.{first_misfit}
use Rattle.dft_replay.specs.Verdicts.{HasVerdict}
use Rattle.dft_grade.specs.declared.found.Graded.{Graded}
use Rattle.dft_grade.specs.AllGrades.{AreGrades}
use Rattle.dft_grade_report.specs.Written.{report_text as fault_report}
use Rattle.dft_scan.specs.Refusals.{refusal}
use Rattle.dft_scan.specs.Scans.{counts_of, netlist_text, report_text}
use Rattle.dft_stitch.specs.Chains.{plan_of}
use Rattle.dft_cubes.specs.declared.cube.Cube.{Cube}
use Rattle.dft_vectors.specs.PatternData.{PatternData}
use Rattle.dft_encode.specs.Compiled.{ArePatterns, Placing}
use Rattle.dft_compile.specs.Refusals.{first_refusal, too_long}
use Rattle.dft_equations.specs.LoadRows.{LoadRows}
use Rattle.dft_load_laws.specs.Loading.{AreRows, rows_of}
use Rattle.dft_report.specs.declared.report.Report.{Report}
use Rattle.dft_certify.specs.Certifying.{certify_refusal, unsolvable_in}
use Rattle.dft_command_line.specs.Words.{ReplayFiles, ScanFiles, CompileFiles, CertifyFiles, GradeFiles, ConfigureFiles, SeekFiles, IsReplay, IsScan, IsCompile, IsCertify, IsGrade, IsConfigure, IsSeek}
use Rattle.dft_cubes.specs.Cubes.{domain_named}
use Rattle.dft_seeking.specs.Refusals.{refusal as unsaved}
use Rattle.dft_seeking.specs.Told.{Told, AreTold}
use Rattle.dft_configuring.specs.declared.configuring.Configured.{Configured}
use Rattle.dft_configuring.specs.Configured.{IsConfigured}
use Rattle.dft_answers.specs.declared.outcome.Outcome.{Outcome}
use Rattle.dft_answers.specs.declared.outcome.Outcome.TheVariants.{Finished}
use Rattle.dft_answers.specs.declared.outcome.Work.TheVariants.{Scanned, Certified}
use Rattle.dft_answers.specs.declared.outcome.Work.TheVariants as work
use Rattle.dft_top.specs.Checks.{ConfigGives, CubesGive, LibraryGives, NetlistGives, PatternsGive, ReportGives, plan_refusal}
use Rattle.dft_top.specs.Outcomes.{IsCompiled, IsOutcome, IsOutcomeOfTold, IsOutcomeOn, graded_as, refusal_of, wanted_of}

abbrev pub OutcomeIsOne : Type 0
OutcomeIsOne = (words : List (List ℕ)) (held : Held) (a b : Outcome) → IsOutcome words held a → IsOutcome words held b → a ≡ b

-- Where the nets of a design have an order, each placement of cubes has patterns.
abbrev pub PlacementsHavePatterns : Type 0
PlacementsHavePatterns =
    (n : Netlist) (rank : ℕ → ℕ) (config : Config) (cubes : List Cube) (placing : Placing config (plan_of n config) cubes) → IsOrdered n rank →
    (list : List PatternData) × ArePatterns n config (plan_of n config) placing.rows placing.merged list

-- where each file of a replay passes its checks, the outcome is that of the patterns on the netlist
abbrev pub PassingIsReplayed : Type 0
PassingIsReplayed =
    (words : List (List ℕ)) (files : ReplayFiles) (held : Held) (cells : List Cell) (n : Netlist) (p : Patterns) (o : Outcome) → IsReplay words files →
    LibraryGives files.library held (Ok cells) → NetlistGives cells files.netlist held (Ok n) → PatternsGive files.patterns held (Ok p) →
    IsOutcome words held o → IsOutcomeOn n p (first_misfit n p.signals) o

-- where each file of a scan passes its checks, and no check of the scan fails, the design is scanned
abbrev pub PassingIsScanned : Type 0
PassingIsScanned =
    (words : List (List ℕ)) (files : ScanFiles) (held : Held) (cells : List Cell) (config : Config) (n : Netlist) (o : Outcome) → IsScan words files →
    LibraryGives files.library held (Ok cells) → ConfigGives files.config held (Ok config) → NetlistGives cells files.netlist held (Ok n) → refusal n config ≡ None →
    IsOutcome words held o → o ≡ Finished (Scanned (counts_of n config) (netlist_text n config) (report_text n config))

-- where each file of a compilation passes its checks, and no check of the design, of its placed cubes and of their patterns fails, the cubes are compiled
abbrev pub PassingIsCompiled : Type 0
PassingIsCompiled =
    (words : List (List ℕ)) (files : CompileFiles) (held : Held) (cells : List Cell) (config : Config) (n : Netlist) (cubes : List Cube) (placing : Placing config (plan_of n config) cubes) (list : List PatternData) (o : Outcome) → IsCompile words files →
    LibraryGives files.library held (Ok cells) → ConfigGives files.config held (Ok config) → NetlistGives cells files.netlist held (Ok n) → first_refusal n config ≡ None →
    CubesGive n config files.cubes held (Ok cubes) → ArePatterns n config (plan_of n config) placing.rows placing.merged list → refusal_of n config cubes placing list ≡ None → IsOutcome words held o →
    IsCompiled n config cubes placing list o

-- where each file of a test of certificates passes its checks, and no check of the design and of the report's sums fails, the cubes that are reported
-- unsolvable are certified
abbrev pub PassingIsCertified : Type 0
PassingIsCertified =
    (words : List (List ℕ)) (files : CertifyFiles) (held : Held) (cells : List Cell) (config : Config) (n : Netlist) (cubes : List Cube) (report : Report) (rows : LoadRows) (o : Outcome) → IsCertify words files →
    LibraryGives files.library held (Ok cells) → ConfigGives files.config held (Ok config) → NetlistGives cells files.netlist held (Ok n) → plan_refusal n config ≡ None →
    CubesGive n config files.cubes held (Ok cubes) → ReportGives files.report held (Ok report) → AreRows n config rows →
    certify_refusal n config.ring (rows_of n config rows) rows.columns cubes report ≡ None → IsOutcome words held o → o ≡ Finished (Certified (unsolvable_in report.cubes))

-- where each file of a grading passes its checks, each signal is a bit of a port, the patterns pass, and the report of the grades is not too long, the
-- faults are graded
abbrev pub PassingIsGraded : Type 0
PassingIsGraded =
    (words : List (List ℕ)) (files : GradeFiles) (held : Held) (cells : List Cell) (n : Netlist) (p : Patterns) (compared : ℕ) (graded : List Graded) (o : Outcome) → IsGrade words files →
    LibraryGives files.library held (Ok cells) → NetlistGives cells files.netlist held (Ok n) → PatternsGive files.patterns held (Ok p) → first_misfit n p.signals ≡ None → HasVerdict n p (Pass compared) →
    AreGrades n p graded → too_long (fault_report n p graded) ≡ None → IsOutcome words held o → o ≡ graded_as n p graded

-- where each file of a made configuration passes its checks, and one is made for the netlist, it is the outcome
abbrev pub PassingIsConfigured : Type 0
PassingIsConfigured =
    (words : List (List ℕ)) (files : ConfigureFiles) (held : Held) (cells : List Cell) (n : Netlist) (configured : Configured) (o : Outcome) → IsConfigure words files →
    LibraryGives files.library held (Ok cells) → NetlistGives cells files.netlist held (Ok n) → IsConfigured n (wanted_of files.numbers) configured → IsOutcome words held o →
    o ≡ Finished (work.Configured configured.counts configured.text.items)

-- where each file of a search passes its checks and its clock is a domain, what is told of all faults is its outcome, unless there are too many cubes or a
-- text of it is too long
abbrev pub PassingIsSought : Type 0
PassingIsSought =
    (words : List (List ℕ)) (files : SeekFiles) (held : Held) (cells : List Cell) (config : Config) (n : Netlist) (domain : ℕ) (told : List Told) (o : Outcome) → IsSeek words files →
    LibraryGives files.library held (Ok cells) → ConfigGives files.config held (Ok config) → NetlistGives cells files.netlist held (Ok n) → plan_refusal n config ≡ None →
    domain_named config files.clock ≡ Some domain → AreTold n config domain files.limit told → unsaved n config told ≡ None → IsOutcome words held o →
    IsOutcomeOfTold n config told None o
