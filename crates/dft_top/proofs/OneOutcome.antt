-- Words and held files have one outcome at most.
use Rattle.std.proofs.Common.{ℕ, ◌≡◌, List, codes, sym, ap, ◌∙◌, Option, None, Some, Result, Ok, subst}
use Rattle.dft_files.specs.Outside.{Held, file_at}
use Rattle.dft_cells.specs.declared.cell.Cell.{Cell}
use Rattle.dft_config.specs.Config.{Config}
use Rattle.dft_cubes.specs.declared.cube.Cube.{Cube}
use Rattle.dft_netlist.specs.Drivers.{IsOrdered}
use Rattle.dft_netlist.specs.Netlist.{Netlist}
use Rattle.dft_netlist.proofs.RankLemmas.{order_ranks}
use Rattle.dft_patterns.specs.Patterns.{Patterns}
use Rattle.dft_replay.specs.Fits.{first_misfit}
use Rattle.dft_replay.proofs.Uniqueness.{verdict_one}
use Rattle.dft_scan.specs.declared.error.ScanError.{ScanError}
use Rattle.dft_scan.specs.Refusals.{refusal}
use Rattle.dft_command_line.specs.Words.{Command, Replay, Scan, Compile, Certify, Generate, Grade, Configure, Seek, ReplayFiles, ScanFiles, CompileFiles, CertifyFiles, GradeFiles, ConfigureFiles, SeekFiles, JobNumbers}
use Rattle.dft_command_line.proofs.Understood.{for_once}
use Rattle.dft_answers.specs.declared.answer.Refusal.{Refusal}
use Rattle.dft_answers.specs.declared.outcome.Outcome.{Outcome}
use Rattle.dft_answers.specs.declared.outcome.Outcome.TheVariants as outcome
use Rattle.dft_answers.specs.declared.outcome.Work.TheVariants.{Compiled}
use Rattle.dft_top.specs.declared.limits.TheConstants.{MAX_CONFIG_BYTES, MAX_CUBE_BYTES, MAX_NETLIST_BYTES, MAX_PATTERN_BYTES, MAX_REPORT_BYTES}
use Rattle.dft_answers.specs.Refusals.{scan_refusal}
use Rattle.dft_top.specs.Checks.{ConfigGives, ConfigText, CubeText, CubesGive, NetlistGives, NetlistText, PatternText, ReportText}
use Rattle.dft_top.specs.Outcomes.{IsOutcomeFor, IsOutcomeOfJob, IsOutcomeOfScanOf, IsOutcomeOn, IsReplayedOf, course_of, course_of_certify, course_of_compile, course_of_configure, course_of_grade, course_of_replay, course_of_scan, course_of_seek, generated, job_files, job_held, made_files, made_held, outcome_of, wanted_of}
use Rattle.dft_top.specs.Laws.{OutcomeIsOne}
use Rattle.dft_top.proofs.CompileLemmas.{cubes_one}
use Rattle.dft_top.proofs.Readings.{config_text_one, cube_text_one, design_gives_one, file_one, library_gives_one, netlist_text_one, pattern_text_one, plan_gives_one, report_text_one, text_of}
use Rattle.dft_top.proofs.CertifyLemmas.{report_one, refusal_one}
use Rattle.dft_top.proofs.Determined.{IsDetermined, reaches_one}
use Rattle.dft_top.proofs.Gradings.{grading_one}
use Rattle.dft_top.proofs.Configurings.{configuring_one}
use Rattle.dft_top.proofs.Seekings.{seeking_one}
use Rattle.dft_cubes.specs.Cubes.{domain_named}

-- ---- a replay

on_one : (n : Netlist) (p : Patterns) (rank : ℕ → ℕ) (a b : Outcome) (misfit : Option (List ℕ)) → IsOrdered n rank → IsOutcomeOn n p misfit a → IsOutcomeOn n p misfit b → a ≡ b
on_one n p rank a b (Some name) ordered x y = x ∙ sym y
on_one n p rank a b None ordered x y = x.1.1 ∙ ap (outcome_of p) (verdict_one n rank p x.0 y.0 ordered x.1.0 y.1.0) ∙ sym y.1.1

-- the netlist of a file has an order
ordered_of : (cells : List Cell) (name : List ℕ) (held : Held) (n : Netlist) → NetlistGives cells name held (Ok n) → (rank : ℕ → ℕ) × IsOrdered n rank
ordered_of cells name held n given =
    let design = (text_of MAX_NETLIST_BYTES (codes "netlist") (NetlistText cells) (file_at name held) n given).1 in order_ranks n design.order design.sound design.ordered

netlist_one : (cells : List Cell) (name : List ℕ) (held : Held) (r s : Result Netlist Refusal) → NetlistGives cells name held r → NetlistGives cells name held s → r ≡ s
netlist_one cells name held = file_one MAX_NETLIST_BYTES (codes "netlist") (NetlistText cells) (netlist_text_one cells) (file_at name held)

config_one : (name : List ℕ) (held : Held) (r s : Result Config Refusal) → ConfigGives name held r → ConfigGives name held s → r ≡ s
config_one name held = file_one MAX_CONFIG_BYTES (codes "config") ConfigText config_text_one (file_at name held)

given_cubes_one : (n : Netlist) (c : Config) (name : List ℕ) (held : Held) (r s : Result (List Cube) Refusal) → CubesGive n c name held r → CubesGive n c name held s → r ≡ s
given_cubes_one n c name held = file_one MAX_CUBE_BYTES (codes "cubes") (CubeText n c) (cube_text_one n c) (file_at name held)

replay_determined : (files : ReplayFiles) (held : Held) → IsDetermined (course_of_replay files) held
replay_determined files held = (
  library_gives_one files.library held,
  λ cells _. (
    netlist_one cells files.netlist held,
    λ n given. (
      file_one MAX_PATTERN_BYTES (codes "patterns") PatternText pattern_text_one (file_at files.patterns held),
      λ p _ a b x y. let ranked = ordered_of cells files.netlist held n given in on_one n p ranked.0 a b (first_misfit n p.signals) ranked.1 x y,
    ),
  ),
)

-- ---- a grading

grade_determined : (files : GradeFiles) (held : Held) → IsDetermined (course_of_grade files) held
grade_determined files held = (
  library_gives_one files.library held,
  λ cells _. (
    netlist_one cells files.netlist held,
    λ n given. (
      file_one MAX_PATTERN_BYTES (codes "patterns") PatternText pattern_text_one (file_at files.patterns held),
      λ p _ a b x y. let ranked = ordered_of cells files.netlist held n given in grading_one n p ranked.0 a b (first_misfit n p.signals) ranked.1 x y,
    ),
  ),
)

-- ---- a made configuration

configure_determined : (files : ConfigureFiles) (held : Held) → IsDetermined (course_of_configure files) held
configure_determined files held = (
  library_gives_one files.library held,
  λ cells _. (netlist_one cells files.netlist held, λ n _ a b x y. configuring_one n (wanted_of files.numbers) a b x y),
)

-- ---- a scan

scan_of_one : (n : Netlist) (c : Config) (refused : Option ScanError) (a b : Outcome) → IsOutcomeOfScanOf n c refused a → IsOutcomeOfScanOf n c refused b → a ≡ b
scan_of_one n c (Some error) a b x y = refusal_one (scan_refusal error) a b x y
scan_of_one n c None a b x y = x.is ∙ sym y.is

scan_determined : (files : ScanFiles) (held : Held) → IsDetermined (course_of_scan files) held
scan_determined files held = (
  library_gives_one files.library held,
  λ cells _. (
    config_one files.config held,
    λ c _. (netlist_one cells files.netlist held, λ n _ a b x y. scan_of_one n c (refusal n c) a b x y),
  ),
)

-- ---- a compilation

compile_determined : (files : CompileFiles) (held : Held) → IsDetermined (course_of_compile files) held
compile_determined files held = (
  library_gives_one files.library held,
  λ cells _. (
    config_one files.config held,
    λ c _. (
      netlist_one cells files.netlist held,
      λ n given. (
        design_gives_one n c,
        λ prepared _. (given_cubes_one n c files.cubes held, λ cubes _ a b x y. let ranked = ordered_of cells files.netlist held n given in cubes_one n ranked.0 c cubes a b ranked.1 x y),
      ),
    ),
  ),
)

-- ---- a test of certificates

certify_determined : (files : CertifyFiles) (held : Held) → IsDetermined (course_of_certify files) held
certify_determined files held = (
  library_gives_one files.library held,
  λ cells _. (
    config_one files.config held,
    λ c _. (
      netlist_one cells files.netlist held,
      λ n _. (
        plan_gives_one n c,
        λ plan _. (
          given_cubes_one n c files.cubes held,
          λ cubes _. (file_one MAX_REPORT_BYTES (codes "report") ReportText report_text_one (file_at files.report held), λ report _ a b x y. report_one n c cubes report a b x y),
        ),
      ),
    ),
  ),
)

-- ---- a search of cubes

seek_determined : (files : SeekFiles) (held : Held) → IsDetermined (course_of_seek files) held
seek_determined files held = (
  library_gives_one files.library held,
  λ cells _. (
    config_one files.config held,
    λ c _. (
      netlist_one cells files.netlist held,
      λ n given. (
        plan_gives_one n c,
        λ plan _ a b x y. let ranked = ordered_of cells files.netlist held n given in seeking_one n c files.clock files.limit (domain_named c files.clock) ranked.0 a b ranked.1 x y,
      ),
    ),
  ),
)

-- ---- a generated job

replayed_one : (compilation a b : Outcome) → IsReplayedOf compilation a → IsReplayedOf compilation b → a ≡ b
replayed_one (outcome.Refused refusal) a b x y = x ∙ sym y
replayed_one (outcome.Finished (Compiled counts netlist patterns report)) a b x y =
    x.1.1 ∙ ap (generated counts) (reaches_one (course_of_replay made_files) (made_held netlist patterns) x.0 y.0 (replay_determined made_files (made_held netlist patterns)) x.1.0 y.1.0) ∙ sym y.1.1
replayed_one compilation a b x y = absurd x

job_one : (numbers : JobNumbers) (a b : Outcome) → IsOutcomeOfJob numbers a → IsOutcomeOfJob numbers b → a ≡ b
job_one numbers a b x y =
    let same = reaches_one (course_of_compile job_files) (job_held numbers) y.0 x.0 (compile_determined job_files (job_held numbers)) y.1.0 x.1.0 in
    replayed_one x.0 a b x.1.1 (subst (λ (compilation : Outcome). IsReplayedOf compilation b) same y.1.1)

-- ---- of words

-- every command comes to one outcome at most
pub determined : (command : Option Command) (held : Held) → IsDetermined (course_of command) held
determined None held = λ a b x y. x ∙ sym y
determined (Some (Replay files)) held = replay_determined files held
determined (Some (Scan files)) held = scan_determined files held
determined (Some (Compile files)) held = compile_determined files held
determined (Some (Certify files)) held = certify_determined files held
determined (Some (Generate numbers)) held = λ a b x y. job_one numbers a b x y
determined (Some (Grade files)) held = grade_determined files held
determined (Some (Configure files)) held = configure_determined files held
determined (Some (Seek files)) held = seek_determined files held

pub outcome_one : OutcomeIsOne
outcome_one words held a b x y =
    reaches_one (course_of x.0) held a b (determined x.0 held) x.1.1 (subst (λ (command : Option Command). IsOutcomeFor command held b) (for_once words y.0 x.0 y.1.0 x.1.0) y.1.1)
