-- A job that is compiled passes when it is replayed.
use Rattle.std.proofs.Common.{◌≡◌, ◌∙◌, List, refl, ap, subst, ℕ}
use Rattle.dft_cells.specs.declared.cell.Cell.{Cell}
use Rattle.dft_cells.specs.Standard.{standard_cells}
use Rattle.dft_hier.specs.Laws.{Gives}
use Rattle.dft_stil_text.specs.PatternText as pattern
use Rattle.dft_compile_laws.specs.Passing.{set_of}
use Rattle.dft_insert.specs.declared.style.Style.TheVariants.{Edt}
use Rattle.dft_insert.specs.Statements.{scanned}
use Rattle.dft_insert.proofs.Keeping.{keeps_design}
use Rattle.dft_compile_laws.specs.Holding.{CompilationsHold, without_notes}
use Rattle.dft_compile.specs.declared.texts.Counts.{Counts}
use Rattle.dft_compile.specs.Texts.{netlist_text, pattern_text}
use Rattle.dft_command_line.specs.Words.{JobNumbers}
use Rattle.dft_answers.specs.declared.answer.Status.TheVariants.{Done}
use Rattle.dft_answers.specs.declared.outcome.Outcome.{Outcome}
use Rattle.dft_answers.specs.declared.outcome.Outcome.TheVariants as outcome
use Rattle.dft_answers.specs.declared.outcome.Work.TheVariants.{Compiled}
use Rattle.dft_answers.specs.Answers.{status_of}
use Rattle.dft_top.specs.Courses.{Reaches}
use Rattle.dft_top.specs.Outcomes.{IsOutcomeOfJob, IsReplayedOf, course_of_compile, course_of_replay, generated, job_files, job_held, made_files, made_held}
use Rattle.dft_top.proofs.Promised.{IsMade, made}
use Rattle.dft_top.proofs.Replays.{IsAccepted, replay_passes}
use Rattle.dft_top.proofs.ScannedDesigns.{loaded_named, scanned_given}

-- a job that is not refused is done
abbrev pub JobsPass : Type 0
JobsPass = (numbers : JobNumbers) (o : Outcome) → IsAccepted o → IsOutcomeOfJob numbers o → status_of o ≡ Done

-- what a compilation made of a job
made_done : (numbers : JobNumbers) (counts : Counts) (netlist patterns report : List ℕ) (replay : Outcome) → IsAccepted replay → IsMade job_files (job_held numbers) (outcome.Finished (Compiled counts netlist patterns report)) →
    Reaches (course_of_replay made_files) (made_held netlist patterns) replay → status_of (generated counts replay) ≡ Done
made_done numbers counts netlist patterns report replay accepts m x =
    let n = m.netlist in
    let c = m.config in
    let list = m.list in
    let text : netlist_text n c ≡ netlist = (let e = m.is.is in cc) in
    let played : pattern_text n c list ≡ patterns = (let e = m.is.is in cc) in
    let given : Gives m.cells (netlist_text n c) (scanned Edt n c) =
    scanned_given Edt m.cells (netlist_text n c) n c (loaded_named m.cells job_files.netlist (job_held numbers) n m.design) (keeps_design Edt n c m.ready) m.reads in
    let stands : Gives standard_cells netlist (scanned Edt n c) =
    subst (λ (t : List ℕ). Gives standard_cells t (scanned Edt n c)) text (subst (λ (cells : List Cell). Gives cells (netlist_text n c) (scanned Edt n c)) m.library given) in
    let reads : pattern.StandsFor patterns (without_notes (set_of n c list)) = subst (λ (t : List ℕ). pattern.StandsFor t (without_notes (set_of n c list))) played (m.holds.reads m.is.few) in
    ap (λ (o : Outcome). status_of (generated counts o))
    (replay_passes made_files (made_held netlist patterns) standard_cells (scanned Edt n c) (without_notes (set_of n c list)) netlist patterns _ replay accepts refl refl refl stands reads m.holds.passes.verdict x)

compiled_done : CompilationsHold → (numbers : JobNumbers) (compilation o : Outcome) → IsAccepted o → Reaches (course_of_compile job_files) (job_held numbers) compilation → IsReplayedOf compilation o → status_of o ≡ Done
compiled_done hold numbers (outcome.Refused refusal) o accepts is x = absurd (accepts refusal x)
compiled_done hold numbers (outcome.Finished (Compiled counts netlist patterns report)) o accepts is x =
    ap status_of x.1.1
    ∙ made_done numbers counts netlist patterns report x.0 (λ refusal same. accepts refusal (x.1.1 ∙ ap (generated counts) same))
    (made hold job_files (job_held numbers) (outcome.Finished (Compiled counts netlist patterns report)) refl is) x.1.0
compiled_done hold numbers compilation o accepts is x = absurd x

pub jobs_pass : CompilationsHold → JobsPass
jobs_pass hold numbers o accepts x = compiled_done hold numbers x.0 o accepts x.1.0 x.1.1
