-- What the files of a command give, each by its checks: a value, or the refusal of the first check that fails.
use Rattle.std.specs.List.{All}
use Rattle.std.specs.Prelude.{ℕ, ◌<◌, ◌≤◌, ◌^◌, ◌≡◌, List, codes, length, Option, None, Some, option_map, [], ◌∷◌, Result, Ok, Err}
use Rattle.dft_files.specs.Outside.{Held, file_at}
use Rattle.dft_cells.specs.declared.cell.Cell.{Cell}
use Rattle.dft_library_text.specs.declared.refusal.LibraryError.{LibraryError}
use Rattle.dft_cells.specs.Standard.{standard_cells}
use Rattle.dft_library_text.specs.Reading.{IsLibraryOf, IsRefusedAs}
use Rattle.dft_config.specs.Config.{Config}
use Rattle.dft_config_text.specs.declared.error.ConfigError.{ConfigError}
use Rattle.dft_config.specs.Range.{IsInRange}
use Rattle.dft_config_text.specs.Refusals.{IsConfig}
use Rattle.dft_config_text.specs.Refusals as config
use Rattle.dft_netlist.specs.Netlist.{Netlist}
use Rattle.dft_netlist.specs.Orders.{IsOrder}
use Rattle.dft_netlist.specs.Sound.{IsNetlist}
use Rattle.dft_hier.specs.Laws.{Gives}
use Rattle.dft_netlist_reader.specs.declared.error.DesignError.{DesignError}
use Rattle.dft_netlist_reader.specs.Refusals.{HasNoDesign}
use Rattle.dft_stil_text.specs.declared.error.StilError.{StilError}
use Rattle.dft_patterns.specs.Patterns.{Patterns, IsWellFormed}
use Rattle.dft_stil_text.specs.PatternText as pattern
use Rattle.dft_stil_text.specs.declared.limits.TheConstants.{MAX_VECTORS}
use Rattle.dft_stil.specs.Refusals as stil
use Rattle.dft_cubes.specs.declared.cube.Cube.{Cube}
use Rattle.dft_cubes.specs.declared.error.CubeError.{CubeError}
use Rattle.dft_cubes.specs.Cubes.{cubes_of}
use Rattle.dft_cubes.specs.Cubes as cubes
use Rattle.dft_scan_frame.specs.Statements.{IsReady}
use Rattle.dft_insert.specs.declared.style.Style.TheVariants.{Edt}
use Rattle.dft_insert.specs.Statements.{scanned}
use Rattle.dft_rules.specs.Refusals as rules
use Rattle.dft_stitch.specs.Chains.{plan_of}
use Rattle.dft_stitch.specs.Limits as stitch
use Rattle.dft_stitch.specs.Planning.{Planned}
use Rattle.dft_stitch.specs.Plans.{Plan}
use Rattle.dft_report.specs.declared.report.Report.{Report}
use Rattle.dft_report_reader.specs.declared.error.ReadError.{ReadError}
use Rattle.dft_report_reader.specs.Reading.{report_of}
use Rattle.dft_report_reader.specs.Reading as reports
use Rattle.dft_compile.specs.declared.error.CompileError.{CompileError}
use Rattle.dft_compile.specs.declared.error.CompileError.TheVariants.{Rules, Stitch}
use Rattle.dft_compile.specs.Prepared.{IsPrepared}
use Rattle.dft_compile.specs.Refusals.{first_failing, first_refusal}
use Rattle.dft_answers.specs.declared.answer.Refusal.{Refusal}
use Rattle.dft_top.specs.declared.limits.TheConstants.{MAX_LIBRARY_BYTES, MAX_CONFIG_BYTES, MAX_NETLIST_BYTES, MAX_PATTERN_BYTES, MAX_CUBE_BYTES, MAX_REPORT_BYTES}
use Rattle.dft_answers.specs.Texts.{FileGives}
use Rattle.dft_answers.specs.Refusals.{library_refusal, config_refusal, design_refusal, stil_refusal, cube_refusal, compile_refusal, read_refusal}

-- ---- the library

abbrev pub LibraryText : (text : List ℕ) → Result (List Cell) Refusal → Type 0
LibraryText text (Ok cells) = IsLibraryOf text cells
LibraryText text (Err refusal) = (error : LibraryError) × (IsRefusedAs text error × (library_refusal error ≡ Some refusal))

-- where no library is named, it is the standard one
abbrev pub LibraryGives : (name : Option (List ℕ)) → Held → Result (List Cell) Refusal → Type 0
LibraryGives None held (Ok cells) = cells ≡ standard_cells
LibraryGives None held (Err refusal) = ⊥
LibraryGives (Some name) held r = FileGives MAX_LIBRARY_BYTES (codes "library") LibraryText (file_at name held) r

-- ---- the configuration

-- the configuration of a text, which is in range
pub record IsConfigOf (text : List ℕ) (config : Config) : Type 0 where
  pub stands : IsConfig text config
  pub range : IsInRange config

abbrev pub ConfigText : (text : List ℕ) → Result Config Refusal → Type 0
ConfigText text (Ok config) = IsConfigOf text config
ConfigText text (Err refusal) = (error : ConfigError) × (config.IsRefused text error × (config_refusal error ≡ Some refusal))

abbrev pub ConfigGives : (name : List ℕ) → Held → Result Config Refusal → Type 0
ConfigGives name held r = FileGives MAX_CONFIG_BYTES (codes "config") ConfigText (file_at name held) r

-- ---- the netlist

-- the design that a text stands for over the cells of a library: the flat netlist of its modules, finished, with an order of its nets
pub record IsDesignOf (cells : List Cell) (text : List ℕ) (n : Netlist) : Type 0 where
  pub stands : Gives cells text n
  pub sound : IsNetlist n
  pub order : List ℕ
  pub ordered : IsOrder n order

-- the first check that fails is that of the text, and else that of its modules
abbrev pub NetlistText : List Cell → (text : List ℕ) → Result Netlist Refusal → Type 0
NetlistText cells text (Ok n) = IsDesignOf cells text n
NetlistText cells text (Err refusal) = (error : DesignError) × (HasNoDesign cells text error × (design_refusal error ≡ Some refusal))

abbrev pub NetlistGives : List Cell → (name : List ℕ) → Held → Result Netlist Refusal → Type 0
NetlistGives cells name held r = FileGives MAX_NETLIST_BYTES (codes "netlist") (NetlistText cells) (file_at name held) r

-- ---- the patterns

-- the patterns that a text stands for, which are no more than a reader takes and are well formed
pub record ArePatternsOf (text : List ℕ) (p : Patterns) : Type 0 where
  pub stands : pattern.StandsFor text p
  pub few : length p.vectors ≤ MAX_VECTORS
  pub well_formed : IsWellFormed p

abbrev pub PatternText : (text : List ℕ) → Result Patterns Refusal → Type 0
PatternText text (Ok p) = ArePatternsOf text p
PatternText text (Err refusal) = (error : StilError) × (stil.IsRefused text error × (stil_refusal error ≡ Some refusal))

abbrev pub PatternsGive : (name : List ℕ) → Held → Result Patterns Refusal → Type 0
PatternsGive name held r = FileGives MAX_PATTERN_BYTES (codes "patterns") PatternText (file_at name held) r

-- ---- a design, before its cubes are read

-- the design as it is prepared, which no check refuses; the nets of its scanned netlist have an order
pub record IsReadied (n : Netlist) (config : Config) (p : Planned) : Type 0 where
  pub is : IsPrepared n config p
  pub ready : IsReady n config
  pub accepted : first_refusal n config ≡ None
  pub sound : IsNetlist (scanned Edt n config)
  pub order : List ℕ
  pub ordered : IsOrder (scanned Edt n config) order

-- a refusal is that of the first check that fails
abbrev pub DesignGives : Netlist → Config → Result Planned Refusal → Type 0
DesignGives n config (Ok p) = IsReadied n config p
DesignGives n config (Err refusal) = (error : CompileError) × ((first_refusal n config ≡ Some error) × (compile_refusal error ≡ Some refusal))

-- ---- the cubes

abbrev pub CubeText : Netlist → Config → (text : List ℕ) → Result (List Cube) Refusal → Type 0
CubeText n config text (Ok given) = cubes_of n config text ≡ Ok given
CubeText n config text (Err refusal) = (error : CubeError) × (cubes.IsRefused (cubes_of n config text) error × (cube_refusal error ≡ Some refusal))

-- there are no more cubes than a file may have, and each gives fewer cells than a number of 32 bits counts
pub record AreFew (given : List Cube) : Type 0 where
  pub count : length given ≤ 65536
  pub cells : All (λ cube. length cube.cells < 2 ^ 32) given

abbrev pub CubesGive : Netlist → Config → (name : List ℕ) → Held → Result (List Cube) Refusal → Type 0
CubesGive n config name held r = FileGives MAX_CUBE_BYTES (codes "cubes") (CubeText n config) (file_at name held) r

-- ---- a design, before the cubes of a report are read

-- the first check that fails, of the scan rules and then of the plan; nothing is inserted
abbrev pub plan_refusal : Netlist → Config → Option CompileError
plan_refusal n config = first_failing (option_map Rules (rules.refusal n config) ∷ option_map Stitch (stitch.refusal n config) ∷ [])

-- the chains of a design that no check refuses
pub record IsPlanned (n : Netlist) (config : Config) (plan : Plan) : Type 0 where
  pub is : plan ≡ plan_of n config
  pub ready : IsReady n config
  pub accepted : plan_refusal n config ≡ None

abbrev pub PlanGives : Netlist → Config → Result Plan Refusal → Type 0
PlanGives n config (Ok plan) = IsPlanned n config plan
PlanGives n config (Err refusal) = (error : CompileError) × ((plan_refusal n config ≡ Some error) × (compile_refusal error ≡ Some refusal))

-- ---- the report

abbrev pub ReportText : (text : List ℕ) → Result Report Refusal → Type 0
ReportText text (Ok report) = report_of text ≡ Ok report
ReportText text (Err refusal) = (error : ReadError) × (reports.IsRefused (report_of text) error × (read_refusal error ≡ Some refusal))

abbrev pub ReportGives : (name : List ℕ) → Held → Result Report Refusal → Type 0
ReportGives name held r = FileGives MAX_REPORT_BYTES (codes "report") ReportText (file_at name held) r
