-- What a generated job comes to.
use Rattle.std.proofs.Common.{ℕ, ◌≡◌, List, Result, Ok, Err, refl, subst, sym}
use Rattle.dft_files.specs.Outside.{Held}
use Rattle.dft_compile.specs.declared.texts.Counts.{Counts}
use Rattle.dft_command_line.specs.Words.{JobNumbers}
use Rattle.dft_answers.specs.declared.outcome.Outcome.{Outcome}
use Rattle.dft_answers.specs.declared.outcome.Outcome.TheVariants as outcome
use Rattle.dft_answers.specs.declared.outcome.Work.TheVariants.{Compiled}
use Rattle.dft_answers.specs.declared.stop.Stop.{Stop}
use Rattle.dft_answers.specs.declared.stop.Stop.TheVariants.{Refused, ReadFault, OutOfMemory}
use Rattle.dft_top.specs.Courses.{Reaches}
use Rattle.dft_top.specs.Follows.{ComesTo, Follows, still}
use Rattle.dft_top.specs.Outcomes.{IsOutcomeOfJob, IsReplayedOf, course_of_compile, course_of_replay, generated, job_files, job_held, made_files, made_held, texts_held}

-- ---- the texts

pub texts_same : (a b c x y z : List ℕ) (r : Result Outcome Stop) → a ≡ x → b ≡ y → c ≡ z → Follows (course_of_compile job_files) (still (texts_held a b c)) (still (texts_held a b c)) r →
    Follows (course_of_compile job_files) (still (texts_held x y z)) (still (texts_held x y z)) r
texts_same a b c x y z r p q s follows = subst (λ (held : Held). Follows (course_of_compile job_files) (still held) (still held) r) (λ i. texts_held (p i) (q i) (s i)) follows

-- ---- the compilation, and what comes behind it

pub job_stops : (numbers : JobNumbers) (stop : Stop) → ComesTo (Reaches (course_of_compile job_files) (job_held numbers)) (Err stop) → ComesTo (IsOutcomeOfJob numbers) (Err stop)
job_stops numbers (Refused refusal) comes = (outcome.Refused refusal, (comes, refl))
job_stops numbers ReadFault comes = tt
job_stops numbers OutOfMemory comes = tt

pub job_then : (numbers : JobNumbers) (compilation : Outcome) (r : Result Outcome Stop) → Reaches (course_of_compile job_files) (job_held numbers) compilation → ComesTo (IsReplayedOf compilation) r → ComesTo (IsOutcomeOfJob numbers) r
job_then numbers compilation (Ok o) is comes = (compilation, (is, comes))
job_then numbers compilation (Err (Refused refusal)) is comes = (compilation, (is, comes))
job_then numbers compilation (Err ReadFault) is comes = tt
job_then numbers compilation (Err OutOfMemory) is comes = tt

-- ---- the replay

replay_stops : (counts : Counts) (netlist patterns report : List ℕ) (stop : Stop) → ComesTo (Reaches (course_of_replay made_files) (made_held netlist patterns)) (Err stop) →
    ComesTo (IsReplayedOf (outcome.Finished (Compiled counts netlist patterns report))) (Err stop)
replay_stops counts netlist patterns report (Refused refusal) comes = (outcome.Refused refusal, (comes, refl))
replay_stops counts netlist patterns report ReadFault comes = tt
replay_stops counts netlist patterns report OutOfMemory comes = tt

-- a stop of the replay of what this compilation made
pub stops_replayed : (o : Outcome) (counts : Counts) (netlist patterns report a b : List ℕ) (stop : Stop) (r : Result Outcome Stop) → o ≡ outcome.Finished (Compiled counts netlist patterns report) → a ≡ netlist → b ≡ patterns → r ≡ Err stop →
    ComesTo (Reaches (course_of_replay made_files) (made_held a b)) (Err stop) → ComesTo (IsReplayedOf o) r
stops_replayed o counts netlist patterns report a b stop r compiled p q stops comes =
    subst (λ (compilation : Outcome). ComesTo (IsReplayedOf compilation) r) (sym compiled)
    (subst (ComesTo (IsReplayedOf (outcome.Finished (Compiled counts netlist patterns report)))) (sym stops)
    (replay_stops counts netlist patterns report stop (subst (λ (held : Held). ComesTo (Reaches (course_of_replay made_files) held) (Err stop)) (λ i. made_held (p i) (q i)) comes)))

-- what the replay comes to
pub is_replayed : (o : Outcome) (counts : Counts) (netlist patterns report a b : List ℕ) (replay end : Outcome) → o ≡ outcome.Finished (Compiled counts netlist patterns report) → a ≡ netlist → b ≡ patterns → end ≡ generated counts replay →
    Reaches (course_of_replay made_files) (made_held a b) replay → IsReplayedOf o end
is_replayed o counts netlist patterns report a b replay end compiled p q same is =
    subst (λ (compilation : Outcome). IsReplayedOf compilation end) (sym compiled) (replay, (subst (λ (held : Held). Reaches (course_of_replay made_files) held replay) (λ i. made_held (p i) (q i)) is, same))
