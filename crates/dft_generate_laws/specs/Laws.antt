-- Laws of generated jobs.
use Rattle.std.specs.Prelude.{ℕ, ◌+◌, ◌*◌, ◌/◌, ◌≡◌, ◌≤◌, List, length, Ok, None}
use Rattle.dft_cells.specs.Standard.{standard_cells}
use Rattle.dft_netlist_text.specs.NetlistText.{StandsFor}
use Rattle.dft_config_text.specs.Refusals.{IsConfig}
use Rattle.dft_rules.specs.Refusals as rules
use Rattle.dft_stil_text.specs.declared.limits.TheConstants.{MAX_VECTORS}
use Rattle.dft_stitch.specs.Chains.{plan_of}
use Rattle.dft_stitch.specs.Limits as limits
use Rattle.dft_insert.specs.declared.style.Style.TheVariants.{Edt}
use Rattle.dft_insert.specs.Refusals as insert
use Rattle.dft_insert.specs.Statements.{scanned}
use Rattle.dft_stil_tokens.specs.declared.blanks.TheConstants.{MAX_TEXT}
use Rattle.dft_stil_out.specs.WrittenLength.{written_length}
use Rattle.dft_vectors.specs.Signals.{signals_of}
use Rattle.dft_vectors.specs.VectorList.{captures_in, notes_of}
use Rattle.dft_encode.specs.Compiled.{Placing}
use Rattle.dft_encode.specs.Laws.{vectors_in}
use Rattle.dft_cubes.specs.Cubes.{cubes_of}
use Rattle.dft_report.specs.declared.limits.TheConstants.{MAX_BYTES}
use Rattle.dft_compile.specs.Texts.{netlist_text as scanned_text, report_text}
use Rattle.dft_generate.specs.Configurations.{configuration, configuration_text}
use Rattle.dft_generate.specs.Configurations as stated
use Rattle.dft_generate.specs.Cubes.{cubes_text}
use Rattle.dft_generate.specs.declared.job.Job.{Job}
use Rattle.dft_generate.specs.Jobs.{IsSize, IsJob}
use Rattle.dft_generate.specs.Netlists.{netlist_text}
use Rattle.dft_generate.specs.Words.{words_of}
use Rattle.dft_generate_laws.specs.CubeLists.{cubes_in, AreWords}
use Rattle.dft_generate_laws.specs.Designs.{design}

-- the netlist of every size, from whatever words, stands for the stated design over the standard library
abbrev pub NetlistsAreRead : Type 0
NetlistsAreRead = (size : ℕ) (words : List ℕ) → IsSize size → StandsFor standard_cells (netlist_text size words) (design size words)

-- the cubes of every size, from words that are enough, are read for that design and the stated configuration as the stated cubes
abbrev pub CubesAreRead : Type 0
CubesAreRead = (size : ℕ) (words : List ℕ) → IsSize size → AreWords size words → cubes_of (design size words) configuration (cubes_text size words) ≡ Ok (cubes_in size words)

-- a seed gives words that are enough, each of 32 bits
abbrev pub SeedsGiveWords : Type 0
SeedsGiveWords = (seed size : ℕ) → AreWords size (words_of seed size)

-- no check before the cubes refuses the design with the stated configuration: no scan rule, no limit of the plan, and nothing that insertion adds
pub record IsAccepted (size : ℕ) (words : List ℕ) : Type 0 where
  pub rules : rules.refusal (design size words) configuration ≡ None
  pub plan : limits.refusal (design size words) configuration ≡ None
  pub insertion : insert.refusal Edt (design size words) configuration (plan_of (design size words) configuration) ≡ None

-- so it is for every size, from whatever words
abbrev pub DesignsAreAccepted : Type 0
DesignsAreAccepted = (size : ℕ) (words : List ℕ) → IsSize size → IsAccepted size words

-- the three texts of a job are read: the netlist as the stated design, the configuration and the cubes as the stated ones
pub record IsRead (size : ℕ) (words : List ℕ) (job : Job) : Type 0 where
  pub netlist : StandsFor standard_cells job.netlist.items (design size words)
  pub configuration : IsConfig job.configuration.items stated.configuration
  pub cubes : cubes_of (design size words) stated.configuration job.cubes.items ≡ Ok (cubes_in size words)

-- the configuration text of a generated job is read as the stated configuration
abbrev pub ConfigurationIsRead : Type 0
ConfigurationIsRead = IsConfig configuration_text configuration

-- so are those of the job of every seed and size
abbrev pub JobsAreRead : Type 0
JobsAreRead = (seed size : ℕ) (job : Job) → IsSize size → IsJob size (words_of seed size) job → IsRead size (words_of seed size) job

-- up to a size of 16,240, however the cubes are placed, their patterns take no more vectors than a reader of pattern texts takes
abbrev pub PatternsFit : Type 0
PatternsFit =
    (size : ℕ) (words : List ℕ) → IsSize size → size ≤ 16240 → (placing : Placing configuration (plan_of (design size words) configuration) (cubes_in size words)) →
    vectors_in (plan_of (design size words) configuration).cycles (captures_in placing.merged) ≤ MAX_VECTORS

-- of every size, and however the cubes are placed, the text of their patterns is no longer than a pattern text may be
abbrev pub PatternTextsFit : Type 0
PatternTextsFit =
    (size : ℕ) (words : List ℕ) → IsSize size → (placing : Placing configuration (plan_of (design size words) configuration) (cubes_in size words)) →
    let cycles = (plan_of (design size words) configuration).cycles in
    let captures = captures_in placing.merged in written_length (signals_of (scanned Edt (design size words) configuration)) (vectors_in cycles captures) (notes_of cycles captures) ≤ MAX_TEXT

-- of every size, and however the cubes are placed, the report is no longer than a report may be
abbrev pub ReportsFit : Type 0
ReportsFit =
    (size : ℕ) (words : List ℕ) → IsSize size → (placing : Placing configuration (plan_of (design size words) configuration) (cubes_in size words)) →
    length (report_text (design size words) configuration placing.rows (cubes_in size words) placing.placed) ≤ MAX_BYTES

-- the text of the scanned netlist is short: at most 1,600 bytes for each cell and 900,000 more
abbrev pub ScannedAreShort : Type 0
ScannedAreShort = (size : ℕ) (words : List ℕ) → IsSize size → length (scanned_text (design size words) configuration) ≤ 1600 * size + 900000

-- the texts are short: at most 100 bytes for each cell and 81 more, 1,024, and 80 for each cube
pub record AreShort (size : ℕ) (words : List ℕ) : Type 0 where
  pub netlist : length (netlist_text size words) ≤ 100 * size + 81
  pub configuration : length configuration_text ≤ 1024
  pub cubes : length (cubes_text size words) ≤ 80 * (size / 4)

-- so are those of every seed and size
abbrev pub TextsAreShort : Type 0
TextsAreShort = (seed size : ℕ) → IsSize size → AreShort size (words_of seed size)
