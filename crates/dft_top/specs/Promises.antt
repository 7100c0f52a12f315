-- What Done promises of a command.
use Rattle.std.specs.Prelude.{ℕ, ◌<◌, ◌≤◌, ◌^◌, ◌≡◌, Bool, List, length, None, Some, Ok, slice_get}
use Rattle.std.specs.List.{AllByRecursion}
use Rattle.dft_files.specs.Outside.{Held, file_at}
use Rattle.dft_cells.specs.declared.cell.Cell.{Cell}
use Rattle.dft_config.specs.Config.{Config}
use Rattle.dft_netlist.specs.Netlist.{Netlist}
use Rattle.dft_behavior.specs.Logic.{Ports}
use Rattle.dft_netlist_text.specs.NetlistText.{StandsFor}
use Rattle.dft_netlist.specs.Orders.{IsOrder}
use Rattle.dft_behavior.specs.Runs.{Now, Turn, AreLow}
use Rattle.dft_netlist.specs.Sound.{IsNetlist}
use Rattle.dft_patterns.specs.Patterns.{Patterns}
use Rattle.dft_replay.specs.declared.verdict.Verdict.{Verdict}
use Rattle.dft_replay.specs.declared.verdict.Verdict.TheVariants.{Pass}
use Rattle.dft_replay.specs.Fits.{first_misfit}
use Rattle.dft_replay.specs.Rows.{rows_of}
use Rattle.dft_replay.specs.Verdicts.{HasVerdict}
use Rattle.dft_replay.specs.Laws.{IsRunOf, AllShow, HoldsInRuns}
use Rattle.dft_faults.specs.Faulty.{faulty}
use Rattle.dft_grade.specs.declared.found.Graded.{Graded}
use Rattle.dft_grade.specs.AllGrades.{AllFail, AreGrades}
use Rattle.dft_grade_report.specs.Written.{report_text as fault_report}
use Rattle.dft_scan_behavior.specs.PlainLaws.{ChainsShift, ChainsShow}
use Rattle.dft_scan_frame.specs.Statements.{IsReady}
use Rattle.dft_insert.specs.declared.style.Style.TheVariants.{Plain, Edt}
use Rattle.dft_insert.specs.Statements.{IsAdded, IsKept, scanned}
use Rattle.dft_insert.specs.Agreeing.{IsSameWhileOff}
use Rattle.dft_scan.specs.Scans.{netlist_text, report_text}
use Rattle.dft_scan_behavior.specs.EdtVectors.{SuitsEdt}
use Rattle.dft_scan_behavior.specs.Existence.{EventsRun, ShiftRun}
use Rattle.dft_scan_behavior.specs.Experiments.{LoadsInRuns, UnloadsInRuns}
use Rattle.dft_stitch.specs.Chains.{plan_of}
use Rattle.dft_cubes.specs.declared.cube.Cube.{Cube}
use Rattle.dft_vectors.specs.PatternData.{PatternData}
use Rattle.dft_encode.specs.Compiled.{ArePatterns, Placing}
use Rattle.dft_compile.specs.Refusals.{first_refusal}
use Rattle.dft_compile.specs.Texts as compiled
use Rattle.dft_compile.specs.Reports.{compile_report}
use Rattle.dft_compile_laws.specs.Holding.{HoldsOf, without_notes}
use Rattle.dft_compile_laws.specs.Passing.{set_of}
use Rattle.dft_compile_laws.specs.Reporting.{entries_of}
use Rattle.dft_report_reader.specs.Reading.{report_of}
use Rattle.dft_stil_text.specs.PatternText as pattern
use Rattle.dft_config.specs.Ring.{Table}
use Rattle.dft_equations.specs.LoadRows.{LoadRows}
use Rattle.dft_load_laws.specs.Loading.{AreRows, LoadRun, LoadsOnce, rows_of as load_rows}
use Rattle.dft_load_laws.specs.Unloading.{UnloadRun}
use Rattle.dft_report.specs.declared.report.CubeLine.TheVariants.{Unsolvable}
use Rattle.dft_report.specs.declared.report.CubeReport.{CubeReport}
use Rattle.dft_report.specs.declared.report.Report.{Report}
use Rattle.dft_report.specs.declared.report.SumLine.{SumLine}
use Rattle.dft_certify.specs.Certifying.{cube_named}
use Rattle.dft_certify.specs.Laws.{AllCertified}
use Rattle.dft_command_line.specs.Words.{IsCompile, ReplayFiles, ScanFiles, CompileFiles, CertifyFiles, GradeFiles, ConfigureFiles, SeekFiles}
use Rattle.dft_cubes.specs.Cubes.{domain_named}
use Rattle.dft_cubes_out.specs.Written.{cubes_text}
use Rattle.dft_seeking.specs.Laws.{AllTrue, GivesPlain, IsPlain}
use Rattle.dft_seeking.specs.Told.{Told, AreTold, cubes_in}
use Rattle.dft_seeking.specs.Written.{report_text as sought_report}
use Rattle.dft_configuring.specs.declared.configuring.Configured.{Configured}
use Rattle.dft_configuring.specs.Configured.{IsConfigured}
use Rattle.dft_configuring.specs.Searching.{IsGood}
use Rattle.dft_configure_laws.specs.MadeLoads.{LoadsFew, SolvesFew}
use Rattle.dft_answers.specs.declared.outcome.Outcome.{Outcome}
use Rattle.dft_top.specs.declared.limits.TheConstants.{MAX_PATTERN_BYTES, MAX_REPORT_BYTES}
use Rattle.dft_top.specs.Checks.{LibraryGives, ConfigGives, NetlistGives, PatternsGive, CubesGive, PlanGives, ReportGives}
use Rattle.dft_top.specs.Courses.{Reaches}
use Rattle.dft_top.specs.Outcomes.{IsOutcome, course_of_cubes, course_of_replay, outcome_of, wanted_of}

-- every run of the netlist over the patterns shows each compared bit as printed
abbrev pub EveryRunShows : Netlist → Patterns → Type 0
EveryRunShows n p = (start : Now) (turns : List Turn) → IsRunOf n p start turns → AllShow (rows_of n p) turns

-- from every start with low clocks there is a run of the netlist over the patterns
abbrev pub RunsFromEach : Netlist → Patterns → Type 0
RunsFromEach n p = (start : Now) → AreLow start.state → (turns : List Turn) × IsRunOf n p start turns

-- these are the netlist and the patterns of the held texts, over the cells of the library, with a verdict of Pass
pub record Passes (files : ReplayFiles) (held : Held) : Type 0 where
  pub cells : List Cell
  pub library : LibraryGives files.library held (Ok cells)
  pub netlist : Netlist
  pub design : NetlistGives cells files.netlist held (Ok netlist)
  pub patterns : Patterns
  pub vectors : PatternsGive files.patterns held (Ok patterns)
  pub fit : first_misfit netlist patterns.signals ≡ None
  pub passed : (compared : ℕ) × HasVerdict netlist patterns (Pass compared)
  pub shown : EveryRunShows netlist patterns
  pub runs : RunsFromEach netlist patterns

-- These are the netlist and the patterns of the held texts, over the cells of the library. Their verdict is no Pass, it is what the outcome tells,
-- and what it says holds in every run: where it is a mismatch, the bit that it names shows the opposite of what is printed, and is the first that does.
pub record Fails (files : ReplayFiles) (held : Held) : Type 0 where
  pub cells : List Cell
  pub library : LibraryGives files.library held (Ok cells)
  pub netlist : Netlist
  pub design : NetlistGives cells files.netlist held (Ok netlist)
  pub patterns : Patterns
  pub vectors : PatternsGive files.patterns held (Ok patterns)
  pub fit : first_misfit netlist patterns.signals ≡ None
  pub verdict : Verdict
  pub has : HasVerdict netlist patterns verdict
  pub failing : (compared : ℕ) → verdict ≡ Pass compared → ⊥
  pub told : Reaches (course_of_replay files) held (outcome_of patterns verdict)
  pub shown : HoldsInRuns netlist patterns verdict
  pub runs : RunsFromEach netlist patterns

-- The netlist and the configuration are those of the held texts, over the cells of the library, and the scan rules pass. Its scanned
-- netlist and its report are saved, and no other file is changed. The text that is saved stands for the scanned netlist, which keeps
-- the design, adds what it should in order, behaves as the design while scan is off, and whose chains shift. Both go through any events of the
-- design while scan is off, and each table of bits is shifted in by some run.
pub record Scans (files : ScanFiles) (old new : Held) : Type 0 where
  pub cells : List Cell
  pub library : LibraryGives files.library old (Ok cells)
  pub config : Config
  pub settings : ConfigGives files.config old (Ok config)
  pub netlist : Netlist
  pub design : NetlistGives cells files.netlist old (Ok netlist)
  pub ready : IsReady netlist config
  -- what is saved
  pub out : file_at files.out new ≡ Some (netlist_text netlist config)
  pub report : file_at files.report new ≡ Some (report_text netlist config)
  pub others : (name : List ℕ) → (name ≡ files.out → ⊥) → (name ≡ files.report → ⊥) → file_at name new ≡ file_at name old
  pub reads : StandsFor cells (netlist_text netlist config) (scanned Plain netlist config)
  -- what holds of it
  pub keeps : IsKept Plain netlist config
  pub adds : IsAdded Plain netlist config
  pub agrees : IsSameWhileOff Plain netlist config
  pub events : EventsRun Plain netlist config
  pub shifts : ChainsShift netlist config
  pub shows : ChainsShow netlist config
  pub carried : (cycles : ℕ) (table : Table) → ShiftRun netlist config cycles table

-- ---- a compilation

-- The netlist, the configuration and the cubes are those of the held texts, over the cells of the library, and the checks pass. The cubes are
-- placed, and the scanned netlist, the patterns of the placement and its report are saved; no other file is changed. The patterns' text that is saved
-- stands for them, and the report's is read as the report; the netlist's text stands for the scanned netlist, which is sound and in order. It keeps the
-- design, behaves as it while scan is off, and loads and unloads every table in every run; both go through any events of the design while scan is
-- off, and each table is loaded in some run, and unloaded in some with any masks. The patterns pass on it, and in every run each cube that is
-- reported encoded is loaded; a cube is reported unsolvable exactly where no table of channel bits loads it in any run.
pub record Compiles (files : CompileFiles) (old new : Held) : Type 0 where
  pub cells : List Cell
  pub library : LibraryGives files.library old (Ok cells)
  pub config : Config
  pub settings : ConfigGives files.config old (Ok config)
  pub netlist : Netlist
  pub design : NetlistGives cells files.netlist old (Ok netlist)
  pub ready : IsReady netlist config
  pub accepted : first_refusal netlist config ≡ None
  pub cubes : List Cube
  pub given : CubesGive netlist config files.cubes old (Ok cubes)
  -- what is made of them
  pub sound : IsNetlist (scanned Edt netlist config)
  pub order : List ℕ
  pub ordered : IsOrder (scanned Edt netlist config) order
  pub placing : Placing config (plan_of netlist config) cubes
  pub list : List PatternData
  pub are : ArePatterns netlist config (plan_of netlist config) placing.rows placing.merged list
  -- what is saved, the patterns and the report within their limits
  pub few : length (set_of netlist config list).vectors < 2 ^ 32
  pub patterns_short : length (compiled.pattern_text netlist config list) ≤ MAX_PATTERN_BYTES
  pub report_short : length (compiled.report_text netlist config placing.rows cubes placing.placed) ≤ MAX_REPORT_BYTES
  pub out_netlist : file_at files.out_netlist new ≡ Some (compiled.netlist_text netlist config)
  pub out_patterns : file_at files.out_patterns new ≡ Some (compiled.pattern_text netlist config list)
  pub out_report : file_at files.out_report new ≡ Some (compiled.report_text netlist config placing.rows cubes placing.placed)
  pub others : (name : List ℕ) → (name ≡ files.out_netlist → ⊥) → (name ≡ files.out_patterns → ⊥) → (name ≡ files.out_report → ⊥) → file_at name new ≡ file_at name old
  pub reads : StandsFor cells (compiled.netlist_text netlist config) (scanned Edt netlist config)
  pub stands : pattern.StandsFor (compiled.pattern_text netlist config list) (without_notes (set_of netlist config list))
  pub told : report_of (compiled.report_text netlist config placing.rows cubes placing.placed) ≡ Ok (compile_report netlist config (load_rows netlist config placing.rows) cubes placing.placed)
  -- the cubes of the report are the entries of which more is said
  pub entries : (compile_report netlist config (load_rows netlist config placing.rows) cubes placing.placed).cubes ≡ entries_of netlist config placing.rows cubes placing.placed
  -- what holds of it
  pub keeps : IsKept Edt netlist config
  pub adds : IsAdded Edt netlist config
  pub agrees : IsSameWhileOff Edt netlist config
  pub events : EventsRun Edt netlist config
  pub loads : (ports : Ports) → SuitsEdt netlist config ports → LoadsInRuns netlist config ports
  pub unloads : (ports : Ports) → SuitsEdt netlist config ports → UnloadsInRuns netlist config ports
  pub unloaded : (ports : Ports) → SuitsEdt netlist config ports → (masks : ℕ → Bool) (cycles : ℕ) (table : Table) → UnloadRun netlist config ports masks cycles table
  pub holds : HoldsOf netlist config cubes placing list

-- ---- a test of certificates

-- no table of channel bits loads a cube that the report calls unsolvable, in any run of the scanned netlist, under all ports that suit
abbrev pub NeverLoads : Netlist → Config → List Cube → Report → Type 0
NeverLoads n config cubes report =
    (ports : Ports) → SuitsEdt n config ports → (k : ℕ) (entry : CubeReport) (lines : List SumLine) (cube : Cube) → slice_get report.cubes k ≡ Some entry → entry.outcome ≡ Unsolvable lines →
    cube_named cubes entry.name ≡ Some cube → (table : Table) → LoadsOnce n config ports table cube.cells → ⊥

-- The netlist, the configuration, the cubes and the report are those of the held texts, over the cells of the library, and the scan rules and the
-- plan pass. The sums that the report prints for each cube that it calls unsolvable certify the cube of that name, over the load equations of the
-- planned chains; and no table of channel bits loads such a cube in any run.
pub record Certifies (files : CertifyFiles) (held : Held) : Type 0 where
  pub cells : List Cell
  pub library : LibraryGives files.library held (Ok cells)
  pub config : Config
  pub settings : ConfigGives files.config held (Ok config)
  pub netlist : Netlist
  pub design : NetlistGives cells files.netlist held (Ok netlist)
  pub ready : IsReady netlist config
  pub planned : PlanGives netlist config (Ok (plan_of netlist config))
  pub cubes : List Cube
  pub given : CubesGive netlist config files.cubes held (Ok cubes)
  pub report : Report
  pub told : ReportGives files.report held (Ok report)
  -- what is tested
  pub rows : LoadRows
  pub equations : AreRows netlist config rows
  pub certified : AllCertified netlist config.ring (load_rows netlist config rows) rows.columns cubes report.cubes
  -- what follows; each table is loaded in some run
  pub never : NeverLoads netlist config cubes report
  pub carried : (ports : Ports) → SuitsEdt netlist config ports → (table : Table) → LoadRun netlist config ports table

-- ---- a grading

-- the files that a grading replays
abbrev pub replay_of : GradeFiles → ReplayFiles
replay_of files = record { library = files.library; netlist = files.netlist; patterns = files.patterns }

-- with each of these faults the netlist has a run over the patterns, from every start with low clocks
abbrev pub FaultsRun : Netlist → Patterns → List Graded → Type 0
FaultsRun n p graded = AllByRecursion (λ g. RunsFromEach (faulty n g.fault) p) graded

-- The held patterns pass on the held netlist, and these are all its faults under them, in order, each with its grade. The report of them is saved,
-- and no other file is changed. A fault that is detected fails in every run: the strobe that its grade names shows the opposite of the printed bit.
pub record Grades (files : GradeFiles) (old new : Held) : Type 0 where
  pub replay : Passes (replay_of files) old
  pub graded : List Graded
  pub are : AreGrades replay.netlist replay.patterns graded
  -- what is saved, within its limit
  pub short : length (fault_report replay.netlist replay.patterns graded) ≤ MAX_REPORT_BYTES
  pub out : file_at files.out new ≡ Some (fault_report replay.netlist replay.patterns graded)
  pub others : (name : List ℕ) → (name ≡ files.out → ⊥) → file_at name new ≡ file_at name old
  -- what holds of it
  pub fail : AllFail replay.netlist replay.patterns graded
  pub run : FaultsRun replay.netlist replay.patterns graded

-- ---- a made configuration

-- A compilation of the netlist under the configuration, over the same cells, ends as its cubes do: the first check that fails is one of the cube file,
-- or of the length of the patterns or of the report, and else the cubes are compiled.
abbrev pub EndsByCubes : List Cell → Netlist → Config → Type 0
EndsByCubes cells n config =
    (words : List (List ℕ)) (files : CompileFiles) (held : Held) (o : Outcome) → IsCompile words files → LibraryGives files.library held (Ok cells) → ConfigGives files.config held (Ok config) →
    NetlistGives cells files.netlist held (Ok n) → IsOutcome words held o → Reaches (course_of_cubes n config files.cubes) held o

-- The netlist is that of the held text, over the cells of the library. A configuration is made for it, whose text is saved, and no other file is
-- changed. The saved text is read as it, and no check of a compilation before its cubes refuses the netlist under it. Its load equations are good:
-- none is empty and no two are the same. So some channel bits load any care bits of one scanned cell, or of two, in every run, of which each table has
-- one, and no cube of them is ever unsolvable.
pub record Configures (files : ConfigureFiles) (old new : Held) : Type 0 where
  pub cells : List Cell
  pub library : LibraryGives files.library old (Ok cells)
  pub netlist : Netlist
  pub design : NetlistGives cells files.netlist old (Ok netlist)
  pub configured : Configured
  pub made : IsConfigured netlist (wanted_of files.numbers) configured
  -- what is saved
  pub out : file_at files.out new ≡ Some configured.text.items
  pub others : (name : List ℕ) → (name ≡ files.out → ⊥) → file_at name new ≡ file_at name old
  -- what holds of it
  pub settings : ConfigGives files.out new (Ok configured.config)
  pub ready : IsReady netlist configured.config
  pub accepted : first_refusal netlist configured.config ≡ None
  pub compiled : EndsByCubes cells netlist configured.config
  pub good : IsGood netlist configured.config
  pub loads : LoadsFew netlist configured.config
  pub carried : (ports : Ports) → SuitsEdt netlist configured.config ports → (table : Table) → LoadRun netlist configured.config ports table
  pub solvable : SolvesFew netlist configured.config

-- ---- a search of cubes

-- The netlist is that of the held text, over the cells of the library, and the configuration that of its text, of which the clock is a domain; no check
-- of the scan rules and of the plan fails. What is told of all faults is saved as a cube file and a report, and no other file is changed. The saved
-- cube file is read as the cubes that were found, where no comment begins with the name of the clock, or of a cell or a port in it.
pub record Seeks (files : SeekFiles) (old new : Held) : Type 0 where
  pub cells : List Cell
  pub library : LibraryGives files.library old (Ok cells)
  pub config : Config
  pub settings : ConfigGives files.config old (Ok config)
  pub netlist : Netlist
  pub design : NetlistGives cells files.netlist old (Ok netlist)
  pub plan : PlanGives netlist config (Ok (plan_of netlist config))
  pub domain : ℕ
  pub clock : domain_named config files.clock ≡ Some domain
  pub told : List Told
  pub are : AreTold netlist config domain files.limit told
  -- what is saved
  pub cubes : file_at files.out_cubes new ≡ Some (cubes_text netlist config (cubes_in told))
  pub report : file_at files.out_report new ≡ Some (sought_report netlist told)
  pub others : (name : List ℕ) → (name ≡ files.out_cubes → ⊥) → (name ≡ files.out_report → ⊥) → file_at name new ≡ file_at name old
  pub reads : IsPlain files.clock → ((k : ℕ) (cube : Cube) → slice_get (cubes_in told) k ≡ Some cube → GivesPlain netlist cube) → CubesGive netlist config files.out_cubes new (Ok (cubes_in told))
  -- what holds of it
  pub holds : AllTrue netlist config domain told
