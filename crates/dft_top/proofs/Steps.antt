-- What comes behind each file of a command.
use Rattle.std.proofs.Common.{ℕ, List}
use Rattle.dft_files.specs.Outside.{Held}
use Rattle.dft_cells.specs.declared.cell.Cell.{Cell}
use Rattle.dft_config.specs.Config.{Config}
use Rattle.dft_netlist.specs.Netlist.{Netlist}
use Rattle.dft_replay.specs.Fits.{first_misfit}
use Rattle.dft_scan.specs.Refusals.{refusal}
use Rattle.dft_stitch.specs.Planning.{Planned}
use Rattle.dft_cubes.specs.declared.cube.Cube.{Cube}
use Rattle.dft_stitch.specs.Plans.{Plan}
use Rattle.dft_command_line.specs.Words.{ReplayFiles, ScanFiles, CompileFiles, CertifyFiles, GradeFiles, ConfigureFiles, SeekFiles}
use Rattle.dft_answers.specs.declared.outcome.Outcome.{Outcome}
use Rattle.dft_top.specs.Checks.{ConfigGives, NetlistGives, PatternsGive}
use Rattle.dft_top.specs.Courses.{Reaches, Then}
use Rattle.dft_top.specs.Outcomes.{IsOutcomeOn, IsOutcomeOfGrading, IsOutcomeOfScanOf, course_of_certified, course_of_cubes, course_of_design, course_of_planned, course_of_report, course_of_search, IsOutcomeOfConfiguring, wanted_of}

-- ---- behind each file of a replay

abbrev pub ReplayOn : ReplayFiles → Held → Netlist → Outcome → Type 0
ReplayOn files h n = Then (PatternsGive files.patterns h) (λ p. IsOutcomeOn n p (first_misfit n p.signals))

abbrev pub ReplayOver : ReplayFiles → Held → List Cell → Outcome → Type 0
ReplayOver files h cells = Then (NetlistGives cells files.netlist h) (ReplayOn files h)

-- ---- behind each file of a scan

abbrev pub ScanOn : ScanFiles → List Cell → Held → Config → Outcome → Type 0
ScanOn files cells h config = Then (NetlistGives cells files.netlist h) (λ n. IsOutcomeOfScanOf n config (refusal n config))

abbrev pub ScanOver : ScanFiles → Held → List Cell → Outcome → Type 0
ScanOver files h cells = Then (ConfigGives files.config h) (ScanOn files cells h)

-- ---- behind each file of a compilation

abbrev pub CompileOf : CompileFiles → Config → Held → Netlist → Outcome → Type 0
CompileOf files config h n = Reaches (course_of_design n config files.cubes) h

abbrev pub CompileOn : CompileFiles → List Cell → Held → Config → Outcome → Type 0
CompileOn files cells h config = Then (NetlistGives cells files.netlist h) (CompileOf files config h)

abbrev pub CompileOver : CompileFiles → Held → List Cell → Outcome → Type 0
CompileOver files h cells = Then (ConfigGives files.config h) (CompileOn files cells h)

-- behind the checks of the design
abbrev pub CompileWith : Netlist → Config → (cubes : List ℕ) → Held → Planned → Outcome → Type 0
CompileWith n config cubes h prepared = Reaches (course_of_cubes n config cubes) h

-- ---- behind each file of a test of certificates

abbrev pub CertifyOf : CertifyFiles → Config → Held → Netlist → Outcome → Type 0
CertifyOf files config h n = Reaches (course_of_planned n config files.cubes files.report) h

abbrev pub CertifyOn : CertifyFiles → List Cell → Held → Config → Outcome → Type 0
CertifyOn files cells h config = Then (NetlistGives cells files.netlist h) (CertifyOf files config h)

abbrev pub CertifyOver : CertifyFiles → Held → List Cell → Outcome → Type 0
CertifyOver files h cells = Then (ConfigGives files.config h) (CertifyOn files cells h)

-- behind the plan of the design
abbrev pub CertifyWith : Netlist → Config → (cubes report : List ℕ) → Held → Plan → Outcome → Type 0
CertifyWith n config cubes report h plan = Reaches (course_of_certified n config cubes report) h

-- behind the cubes
abbrev pub CertifyFor : Netlist → Config → (report : List ℕ) → Held → List Cube → Outcome → Type 0
CertifyFor n config report h cubes = Reaches (course_of_report n config cubes report) h

-- ---- behind each file of a grading

abbrev pub GradeOn : GradeFiles → Held → Netlist → Outcome → Type 0
GradeOn files h n = Then (PatternsGive files.patterns h) (λ p. IsOutcomeOfGrading n p (first_misfit n p.signals))

abbrev pub GradeOver : GradeFiles → Held → List Cell → Outcome → Type 0
GradeOver files h cells = Then (NetlistGives cells files.netlist h) (GradeOn files h)

-- ---- behind each file of a made configuration

abbrev pub ConfigureOver : ConfigureFiles → Held → List Cell → Outcome → Type 0
ConfigureOver files h cells = Then (NetlistGives cells files.netlist h) (λ n. IsOutcomeOfConfiguring n (wanted_of files.numbers))

-- ---- behind each file of a search

abbrev pub SeekOf : SeekFiles → Config → Held → Netlist → Outcome → Type 0
SeekOf files config h n = Reaches (course_of_search n config files.clock files.limit) h

abbrev pub SeekOn : SeekFiles → List Cell → Held → Config → Outcome → Type 0
SeekOn files cells h config = Then (NetlistGives cells files.netlist h) (SeekOf files config h)

abbrev pub SeekOver : SeekFiles → Held → List Cell → Outcome → Type 0
SeekOver files h cells = Then (ConfigGives files.config h) (SeekOn files cells h)
