-- What a command comes to, from its words and the files that are held.
use Rattle.std.specs.Prelude.{ℕ, ◌<◌, ◌≤◌, ◌^◌, ◌≡◌, ◌⊎◌, Bool, true, false, List, [], ◌∷◌, codes, length, Option, None, Some, option_map, Ok, slice_get}
use Rattle.dft_files.specs.Outside.{Held}
use Rattle.dft_config.specs.Config.{Config}
use Rattle.dft_scan_frame.specs.Statements.{IsReady}
use Rattle.dft_insert.specs.Statements.{scanned}
use Rattle.dft_insert.specs.declared.style.Style.TheVariants.{Plain, Edt}
use Rattle.dft_netlist.specs.Netlist.{Netlist}
use Rattle.dft_netlist_text.specs.NetlistText.{StandsFor}
use Rattle.dft_patterns.specs.declared.signal.StilSignal.{StilSignal}
use Rattle.dft_patterns.specs.Patterns.{Patterns}
use Rattle.dft_replay.specs.declared.verdict.Verdict.{Verdict}
use Rattle.dft_replay.specs.declared.verdict.Verdict.TheVariants as verdict
use Rattle.dft_replay.specs.Fits.{first_misfit}
use Rattle.dft_replay.specs.Verdicts.{HasVerdict}
use Rattle.dft_grade.specs.declared.found.Graded.{Graded}
use Rattle.dft_grade.specs.AllGrades.{AreGrades}
use Rattle.dft_grade_report.specs.Counted.{counts_of as graded_counts}
use Rattle.dft_grade_report.specs.Written.{report_text as fault_report}
use Rattle.dft_scan.specs.declared.error.ScanError.{ScanError}
use Rattle.dft_scan.specs.Refusals.{refusal}
use Rattle.dft_scan.specs.Scans.{counts_of, netlist_text, report_text}
use Rattle.dft_stitch.specs.Chains.{plan_of}
use Rattle.dft_cubes.specs.declared.cube.Cube.{Cube}
use Rattle.dft_vectors.specs.PatternData.{PatternData}
use Rattle.dft_encode.specs.Compiled.{Placing, ArePatterns}
use Rattle.dft_compile.specs.declared.error.CompileError.{CompileError}
use Rattle.dft_compile.specs.declared.error.CompileError.TheVariants.{Patterns as TooManyPatterns, Report as TooLongReport}
use Rattle.dft_compile.specs.Refusals.{first_failing, too_long, too_many}
use Rattle.dft_compile.specs.Texts as compiled
use Rattle.dft_compile.specs.Reports.{compile_report}
use Rattle.dft_report_reader.specs.Reading.{report_of}
use Rattle.dft_compile.specs.declared.texts.Counts.{Counts}
use Rattle.dft_equations.specs.LoadRows.{LoadRows}
use Rattle.dft_load_laws.specs.Loading.{AreRows, rows_of}
use Rattle.dft_report.specs.declared.error.ReportError.{ReportError}
use Rattle.dft_report.specs.declared.report.Report.{Report}
use Rattle.dft_certify.specs.declared.error.CertifyError.{CertifyError}
use Rattle.dft_certify.specs.Certifying.{certify_refusal, unsolvable_in}
use Rattle.dft_configuring.specs.declared.configuring.Configured.{Configured}
use Rattle.dft_configuring.specs.declared.error.ConfigureError.{ConfigureError}
use Rattle.dft_configuring.specs.declared.wanted.Wanted.{Wanted}
use Rattle.dft_configuring.specs.Configured.{IsConfigured}
use Rattle.dft_configuring.specs.Refusals as unmade
use Rattle.dft_configuring.specs.Wanted.{IsWanted}
use Rattle.dft_base.specs.Names.{printable}
use Rattle.dft_cubes.specs.Cubes.{domain_named}
use Rattle.dft_cubes_out.specs.Written.{cubes_text}
use Rattle.dft_seeking.specs.declared.error.SeekError.{SeekError}
use Rattle.dft_seeking.specs.Refusals.{refusal as unsaved}
use Rattle.dft_seeking.specs.Told.{Told, AreTold, cubes_in}
use Rattle.dft_seeking.specs.Told.{counts_of as sought_counts}
use Rattle.dft_seeking.specs.Written.{report_text as sought_report}
use Rattle.dft_generate.specs.Jobs.{IsSize}
use Rattle.dft_generate.specs.Words.{words_of}
use Rattle.dft_generate.specs.Netlists.{netlist_text as job_netlist}
use Rattle.dft_generate.specs.Configurations.{configuration_text as job_configuration}
use Rattle.dft_generate.specs.Cubes.{cubes_text as job_cubes}
use Rattle.dft_command_line.specs.Words.{Command, Replay, Scan, Compile, Certify, Generate, Grade, ReplayFiles, ScanFiles, CompileFiles, CertifyFiles, GradeFiles, JobNumbers, HardwareNumbers, ConfigureFiles, Configure, SeekFiles, Seek, AreFor}
use Rattle.dft_answers.specs.declared.answer.Code.TheVariants.{P7, X1}
use Rattle.dft_answers.specs.declared.answer.Refusal.{Refusal}
use Rattle.dft_answers.specs.declared.outcome.Outcome.{Outcome}
use Rattle.dft_answers.specs.declared.outcome.Outcome.TheVariants.{Usage, Refused, Finished}
use Rattle.dft_answers.specs.declared.outcome.Replayed.{Replayed as ReplayEnd}
use Rattle.dft_answers.specs.declared.outcome.Replayed.TheVariants.{Passed, Mismatch, Undetermined}
use Rattle.dft_answers.specs.declared.outcome.Work.TheVariants.{Replayed, Scanned, Compiled, Certified, Generated}
use Rattle.dft_answers.specs.declared.outcome.Work.TheVariants as work
use Rattle.dft_answers.specs.Refusals.{named, scan_refusal, compile_refusal, configure_refusal, report_refusal, seek_refusal}
use Rattle.dft_answers.specs.Refusals as refusals
use Rattle.dft_top.specs.Checks.{LibraryGives, ConfigGives, NetlistGives, PatternsGive, DesignGives, CubesGive, PlanGives, ReportGives}
use Rattle.dft_top.specs.Courses.{Course, Step, End, Reaches, Loads, TurnComes}

-- ---- a replay

-- the name of the signal with a number; there is one with each number that a verdict has
abbrev pub name_at : Option StilSignal → List ℕ
name_at None = []
name_at (Some signal) = signal.name

abbrev pub signal_name : List StilSignal → ℕ → List ℕ
signal_name signals i = name_at (slice_get signals i)

-- what a verdict is told as
abbrev pub replayed_as : Patterns → Verdict → ReplayEnd
replayed_as p (verdict.Pass compared) = Passed (length p.vectors) compared
replayed_as p (verdict.Mismatch vector signal) = Mismatch vector (signal_name p.signals signal)
replayed_as p (verdict.Undetermined vector signal) = Undetermined vector (signal_name p.signals signal)

abbrev pub outcome_of : Patterns → Verdict → Outcome
outcome_of p v = Finished (Replayed (replayed_as p v))

-- the first signal that is no bit of a port with its direction is refused, and else there is a verdict
abbrev pub IsOutcomeOn : Netlist → Patterns → Option (List ℕ) → Outcome → Type 0
IsOutcomeOn n p (Some name) o = o ≡ Refused (named P7 name)
IsOutcomeOn n p None o = (v : Verdict) × (HasVerdict n p v × (o ≡ outcome_of p v))

-- the library, then the netlist, then the patterns, and then the verdict
abbrev pub course_of_replay : ReplayFiles → Course
course_of_replay files =
    Step files.library (LibraryGives files.library) (λ cells.
    Step (Some files.netlist) (NetlistGives cells files.netlist) (λ n.
    Step (Some files.patterns) (PatternsGive files.patterns) (λ p.
    End (IsOutcomeOn n p (first_misfit n p.signals)))))

-- ---- a scan

-- The design is scanned: the outcome has the written form of its scanned netlist, and its report. The text stands for the netlist.
pub record IsScanned (n : Netlist) (config : Config) (o : Outcome) : Type 0 where
  pub ready : IsReady n config
  pub is : o ≡ Finished (Scanned (counts_of n config) (netlist_text n config) (report_text n config))
  pub reads : StandsFor n.library (netlist_text n config) (scanned Plain n config)

-- an error is a refusal, but for want of memory
abbrev pub IsRefusal : Option Refusal → Outcome → Type 0
IsRefusal None o = ⊥
IsRefusal (Some refusal) o = o ≡ Refused refusal

-- the first check that fails on the design is refused: of the scan rules, the plan, the insertion, the report; and else it is scanned
abbrev pub IsOutcomeOfScanOf : Netlist → Config → Option ScanError → Outcome → Type 0
IsOutcomeOfScanOf n config (Some error) o = IsRefusal (scan_refusal error) o
IsOutcomeOfScanOf n config None o = IsScanned n config o

-- the library, then the configuration, then the netlist, and then the scan
abbrev pub course_of_scan : ScanFiles → Course
course_of_scan files =
    Step files.library (LibraryGives files.library) (λ cells.
    Step (Some files.config) (ConfigGives files.config) (λ config.
    Step (Some files.netlist) (NetlistGives cells files.netlist) (λ n.
    End (IsOutcomeOfScanOf n config (refusal n config)))))

-- ---- a compilation

-- The cubes are compiled, where they are placed so and these are the patterns: the outcome has the written forms of the scanned netlist, of the
-- patterns and of the report. The netlist's text stands for it, the patterns' vectors can be counted, and the report's text is read as the report.
pub record IsCompiled (n : Netlist) (config : Config) (cubes : List Cube) (placing : Placing config (plan_of n config) cubes) (list : List PatternData) (o : Outcome) : Type 0 where
  pub is : o ≡ Finished (Compiled (compiled.counts_of n config placing.placed list) (compiled.netlist_text n config) (compiled.pattern_text n config list)
      (compiled.report_text n config placing.rows cubes placing.placed))
  pub reads : StandsFor n.library (compiled.netlist_text n config) (scanned Edt n config)
  pub few : length (compiled.pattern_set n config list).vectors < 2 ^ 32
  pub told : report_of (compiled.report_text n config placing.rows cubes placing.placed) ≡ Ok (compile_report n config (rows_of n config placing.rows) cubes placing.placed)

-- the first check that fails on the texts of placed cubes is refused, and else they are compiled
abbrev pub IsOutcomeOfPlacing : (n : Netlist) (config : Config) (cubes : List Cube) → Placing config (plan_of n config) cubes → List PatternData → Option CompileError → Outcome → Type 0
IsOutcomeOfPlacing n config cubes placing list (Some error) o = IsRefusal (compile_refusal error) o
IsOutcomeOfPlacing n config cubes placing list None o = IsCompiled n config cubes placing list o

-- the refusal of placed cubes with these patterns, if there is one: the text of the patterns is too long, or that of the report
abbrev pub refusal_of : (n : Netlist) (config : Config) (cubes : List Cube) → Placing config (plan_of n config) cubes → List PatternData → Option CompileError
refusal_of n config cubes placing list =
    first_failing
    (option_map TooManyPatterns (too_many (length (compiled.pattern_text n config list)))
    ∷ option_map TooLongReport (too_long (compiled.report_text n config placing.rows cubes placing.placed))
    ∷ [])

-- the cubes are placed, these are the patterns of that, and it is their outcome
pub record IsOutcomeOfCubes (n : Netlist) (config : Config) (cubes : List Cube) (o : Outcome) : Type 0 where
  pub placing : Placing config (plan_of n config) cubes
  pub list : List PatternData
  pub are : ArePatterns n config (plan_of n config) placing.rows placing.merged list
  pub outcome : IsOutcomeOfPlacing n config cubes placing list (refusal_of n config cubes placing list) o

-- the cubes, and then their placement
abbrev pub course_of_cubes : Netlist → Config → (cubes : List ℕ) → Course
course_of_cubes n config cubes = Step (Some cubes) (CubesGive n config cubes) (λ given. End (IsOutcomeOfCubes n config given))

-- the checks of the scan rules, of the plan and of the insertion, and then the cubes
abbrev pub course_of_design : Netlist → Config → (cubes : List ℕ) → Course
course_of_design n config cubes = Step None (λ held. DesignGives n config) (λ prepared. course_of_cubes n config cubes)

-- the library, then the configuration, then the netlist, and then the design
abbrev pub course_of_compile : CompileFiles → Course
course_of_compile files =
    Step files.library (LibraryGives files.library) (λ cells.
    Step (Some files.config) (ConfigGives files.config) (λ config.
    Step (Some files.netlist) (NetlistGives cells files.netlist) (λ n.
    course_of_design n config files.cubes)))

-- ---- a test of certificates

-- the first test that fails is refused, and else the cubes that are reported unsolvable are certified
abbrev pub IsOutcomeOfTest : Report → Option CertifyError → Outcome → Type 0
IsOutcomeOfTest report (Some error) o = IsRefusal (refusals.certify_refusal error) o
IsOutcomeOfTest report None o = o ≡ Finished (Certified (unsolvable_in report.cubes))

-- the report is tested over the load equations of the planned chains
abbrev pub IsOutcomeOfReport : Netlist → Config → List Cube → Report → Outcome → Type 0
IsOutcomeOfReport n config cubes report o =
    (rows : LoadRows) × (AreRows n config rows × IsOutcomeOfTest report (certify_refusal n config.ring (rows_of n config rows) rows.columns cubes report) o)

-- the report, and then its tests
abbrev pub course_of_report : Netlist → Config → List Cube → (report : List ℕ) → Course
course_of_report n config cubes report = Step (Some report) (ReportGives report) (λ given. End (IsOutcomeOfReport n config cubes given))

-- the cubes, and then the report
abbrev pub course_of_certified : Netlist → Config → (cubes report : List ℕ) → Course
course_of_certified n config cubes report = Step (Some cubes) (CubesGive n config cubes) (λ given. course_of_report n config given report)

-- the checks of the scan rules and of the plan, and then the cubes
abbrev pub course_of_planned : Netlist → Config → (cubes report : List ℕ) → Course
course_of_planned n config cubes report = Step None (λ held. PlanGives n config) (λ plan. course_of_certified n config cubes report)

-- the library, then the configuration, then the netlist, and then the plan
abbrev pub course_of_certify : CertifyFiles → Course
course_of_certify files =
    Step files.library (LibraryGives files.library) (λ cells.
    Step (Some files.config) (ConfigGives files.config) (λ config.
    Step (Some files.netlist) (NetlistGives cells files.netlist) (λ n.
    course_of_planned n config files.cubes files.report)))

-- ---- a generated job

-- three texts, as files that have the names of the options of a compilation
abbrev pub texts_held : (netlist config cubes : List ℕ) → Held
texts_held netlist config cubes = (codes "netlist", netlist) ∷ (codes "config", config) ∷ (codes "cubes", cubes) ∷ []

-- those of a job
abbrev pub job_held : JobNumbers → Held
job_held numbers =
    let words = words_of numbers.seed numbers.size in texts_held (job_netlist numbers.size words) job_configuration (job_cubes numbers.size words)

abbrev pub job_files : CompileFiles
job_files = record {
  library = None;
  netlist = codes "netlist";
  config = codes "config";
  cubes = codes "cubes";
  out_netlist = codes "out-netlist";
  out_patterns = codes "out-patterns";
  out_report = codes "out-report";
}

-- what a compilation makes, as files that have the names of the options of a replay
abbrev pub made_held : (netlist patterns : List ℕ) → Held
made_held netlist patterns = (codes "netlist", netlist) ∷ (codes "patterns", patterns) ∷ []

abbrev pub made_files : ReplayFiles
made_files = record { library = None; netlist = codes "netlist"; patterns = codes "patterns" }

-- what a compilation with these counts, and then this outcome of a replay, come to
abbrev pub generated : Counts → Outcome → Outcome
generated counts (Finished (Replayed replay)) = Finished (Generated counts replay)
generated counts o = o

-- What a compilation made is replayed; a refusal of either is the outcome.
abbrev pub IsReplayedOf : (compilation : Outcome) → Outcome → Type 0
IsReplayedOf (Refused refusal) o = o ≡ Refused refusal
IsReplayedOf (Finished (Compiled counts netlist patterns report)) o =
    (replay : Outcome) × (Reaches (course_of_replay made_files) (made_held netlist patterns) replay × (o ≡ generated counts replay))
IsReplayedOf compilation o = ⊥

-- The texts of the job are compiled, and what comes of it is replayed.
abbrev pub IsOutcomeOfJob : JobNumbers → Outcome → Type 0
IsOutcomeOfJob numbers o = (compilation : Outcome) × (Reaches (course_of_compile job_files) (job_held numbers) compilation × IsReplayedOf compilation o)

-- nothing is loaded
abbrev pub course_of_generate : JobNumbers → Course
course_of_generate numbers = End (IsOutcomeOfJob numbers)

-- ---- a grading

-- a replay passed
abbrev pub is_pass : Outcome → Bool
is_pass (Finished (Replayed (Passed vectors compared))) = true
is_pass o = false

-- what these grades are told as: how many there are, and the text of their report
abbrev pub graded_as : Netlist → Patterns → List Graded → Outcome
graded_as n p graded =
    let counts = graded_counts graded in Finished (work.Graded counts.faults counts.detected counts.undetected (fault_report n p graded))

-- a report that is too long is refused, and else the faults are graded
abbrev pub IsOutcomeOfGraded : Netlist → Patterns → List Graded → Option ReportError → Outcome → Type 0
IsOutcomeOfGraded n p graded (Some error) o = IsRefusal (report_refusal error) o
IsOutcomeOfGraded n p graded None o = o ≡ graded_as n p graded

-- these are the grades of all faults, and it is their outcome
abbrev pub IsOutcomeOfGrades : Netlist → Patterns → Outcome → Type 0
IsOutcomeOfGrades n p o = (graded : List Graded) × (AreGrades n p graded × IsOutcomeOfGraded n p graded (too_long (fault_report n p graded)) o)

-- the first signal that is no bit of a port with its direction is refused, and else the faults are graded
abbrev pub IsOutcomeOfFaults : Netlist → Patterns → Option (List ℕ) → Outcome → Type 0
IsOutcomeOfFaults n p (Some name) o = o ≡ Refused (named P7 name)
IsOutcomeOfFaults n p None o = IsOutcomeOfGrades n p o

-- patterns that pass are graded, and else the verdict is the outcome
abbrev pub IsOutcomeOfVerdict : Netlist → Patterns → Verdict → Outcome → Type 0
IsOutcomeOfVerdict n p (verdict.Pass compared) o = IsOutcomeOfGrades n p o
IsOutcomeOfVerdict n p (verdict.Mismatch vector signal) o = o ≡ outcome_of p (verdict.Mismatch vector signal)
IsOutcomeOfVerdict n p (verdict.Undetermined vector signal) o = o ≡ outcome_of p (verdict.Undetermined vector signal)

-- the first signal that is no bit of a port with its direction is refused, and else there is a verdict
abbrev pub IsOutcomeOfGrading : Netlist → Patterns → Option (List ℕ) → Outcome → Type 0
IsOutcomeOfGrading n p (Some name) o = o ≡ Refused (named P7 name)
IsOutcomeOfGrading n p None o = (v : Verdict) × (HasVerdict n p v × IsOutcomeOfVerdict n p v o)

-- the library, then the netlist, then the patterns, and then the verdict and the grades
abbrev pub course_of_grade : GradeFiles → Course
course_of_grade files =
    Step files.library (LibraryGives files.library) (λ cells.
    Step (Some files.netlist) (NetlistGives cells files.netlist) (λ n.
    Step (Some files.patterns) (PatternsGive files.patterns) (λ p.
    End (IsOutcomeOfGrading n p (first_misfit n p.signals)))))

-- ---- a made configuration

-- what the numbers of the words wish
abbrev pub wanted_of : HardwareNumbers → Wanted
wanted_of numbers = record { chains = numbers.chains; length = numbers.longest; channels = numbers.channels; outputs = numbers.outputs; masks = numbers.masks }

-- A configuration is made, under which the design is ready: the outcome has what is counted of it, and its text.
pub record IsMade (n : Netlist) (wanted : Wanted) (o : Outcome) : Type 0 where
  pub configured : Configured
  pub made : IsConfigured n wanted configured
  pub ready : IsReady n configured.config
  pub is : o ≡ Finished (work.Configured configured.counts configured.text.items)

-- The first check that fails is refused.
pub record IsUnmade (n : Netlist) (wanted : Wanted) (o : Outcome) : Type 0 where
  pub error : ConfigureError
  pub refused : unmade.IsRefused n wanted error
  pub is : IsRefusal (configure_refusal error) o

-- a configuration is made, or refused
abbrev pub IsOutcomeOfConfiguring : Netlist → Wanted → Outcome → Type 0
IsOutcomeOfConfiguring n wanted o = IsMade n wanted o ⊎ IsUnmade n wanted o

-- the library, then the netlist, and then the configuration
abbrev pub course_of_configure : ConfigureFiles → Course
course_of_configure files =
    Step files.library (LibraryGives files.library) (λ cells.
    Step (Some files.netlist) (NetlistGives cells files.netlist) (λ n.
    End (IsOutcomeOfConfiguring n (wanted_of files.numbers))))

-- ---- a search of cubes

-- what the searches tell is the outcome, with the cube file and the report, unless a check of these refuses it
abbrev pub IsOutcomeOfTold : Netlist → Config → List Told → Option SeekError → Outcome → Type 0
IsOutcomeOfTold n config told (Some error) o = IsRefusal (seek_refusal error) o
IsOutcomeOfTold n config told None o = o ≡ Finished (work.Sought (sought_counts told) (cubes_text n config (cubes_in told)) (sought_report n told))

-- all faults are searched, this is told of them, and it is its outcome
pub record IsOutcomeOfSearch (n : Netlist) (config : Config) (domain limit : ℕ) (o : Outcome) : Type 0 where
  pub told : List Told
  pub are : AreTold n config domain limit told
  pub outcome : IsOutcomeOfTold n config told (unsaved n config told) o

-- a clock that is no domain is refused
abbrev pub IsOutcomeOfSeek : Netlist → Config → (clock : List ℕ) → (limit : ℕ) → (domain : Option ℕ) → Outcome → Type 0
IsOutcomeOfSeek n config clock limit None o = o ≡ Refused (named X1 (printable clock))
IsOutcomeOfSeek n config clock limit (Some domain) o = IsOutcomeOfSearch n config domain limit o

-- the checks of the scan rules and of the plan, then the clock, and then the searches
abbrev pub course_of_search : Netlist → Config → (clock : List ℕ) → (limit : ℕ) → Course
course_of_search n config clock limit = Step None (λ held. PlanGives n config) (λ plan. End (IsOutcomeOfSeek n config clock limit (domain_named config clock)))

-- the library, then the configuration, then the netlist, and then the design
abbrev pub course_of_seek : SeekFiles → Course
course_of_seek files =
    Step files.library (LibraryGives files.library) (λ cells.
    Step (Some files.config) (ConfigGives files.config) (λ config.
    Step (Some files.netlist) (NetlistGives cells files.netlist) (λ n.
    course_of_search n config files.clock files.limit)))

-- ---- of words

-- what words are for: Usage, or what the command comes to
abbrev pub course_of : Option Command → Course
course_of None = End (λ o. o ≡ Usage)
course_of (Some (Replay files)) = course_of_replay files
course_of (Some (Scan files)) = course_of_scan files
course_of (Some (Compile files)) = course_of_compile files
course_of (Some (Certify files)) = course_of_certify files
course_of (Some (Generate numbers)) = course_of_generate numbers
course_of (Some (Grade files)) = course_of_grade files
course_of (Some (Configure files)) = course_of_configure files
course_of (Some (Seek files)) = course_of_seek files

abbrev pub IsOutcomeFor : Option Command → Held → Outcome → Type 0
IsOutcomeFor command held o = Reaches (course_of command) held o

abbrev pub IsOutcome : List (List ℕ) → Held → Outcome → Type 0
IsOutcome words held o = (command : Option Command) × (AreFor words command × IsOutcomeFor command held o)

-- a job has as many cells as a job may have, and what is wished of a configuration is within its bounds
abbrev pub IsSized : Option Command → Type 0
IsSized None = Unit {0}
IsSized (Some (Replay files)) = Unit {0}
IsSized (Some (Scan files)) = Unit {0}
IsSized (Some (Compile files)) = Unit {0}
IsSized (Some (Certify files)) = Unit {0}
IsSized (Some (Generate numbers)) = IsSize numbers.size
IsSized (Some (Grade files)) = Unit {0}
IsSized (Some (Configure files)) = IsWanted (wanted_of files.numbers)
IsSized (Some (Seek files)) = files.limit ≤ 1000000

-- ---- which file is loaded

-- the name is one that the words give for a file that the command loads
abbrev pub IsLoaded : Option Command → (name : List ℕ) → Type 0
IsLoaded command name = Loads (course_of command) name

-- The turn of the file with this name comes: no check before its load fails.
abbrev pub HasTurn : Option Command → Held → (name : List ℕ) → Type 0
HasTurn command held name = TurnComes (course_of command) held name
