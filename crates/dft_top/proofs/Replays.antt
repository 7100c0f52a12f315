-- A replay of texts that stand for a design and for patterns that pass on it.
use Rattle.std.proofs.Common.{ℕ, ◌≡◌, ◌∙◌, inl, inr, List, length, codes, sym, ap, subst, Option, None, Some, Result, Ok}
use Rattle.dft_files.specs.Outside.{Held, file_at}
use Rattle.dft_cells.specs.declared.cell.Cell.{Cell}
use Rattle.dft_netlist.specs.Drivers.{IsOrdered}
use Rattle.dft_netlist.specs.Netlist.{Netlist}
use Rattle.dft_netlist.proofs.RankLemmas.{order_ranks}
use Rattle.dft_hier.specs.Laws.{Gives}
use Rattle.dft_hier.proofs.OneDesign.{gives_one}
use Rattle.dft_patterns.specs.Patterns.{Patterns}
use Rattle.dft_stil_text.specs.PatternText as pattern
use Rattle.dft_replay.specs.declared.verdict.Verdict.{Verdict}
use Rattle.dft_replay.specs.declared.verdict.Verdict.TheVariants as verdict
use Rattle.dft_replay.specs.Fits.{first_misfit}
use Rattle.dft_replay.specs.Verdicts.{HasVerdict}
use Rattle.dft_replay.proofs.Uniqueness.{verdict_one}
use Rattle.dft_command_line.specs.Words.{ReplayFiles}
use Rattle.dft_answers.specs.declared.answer.Refusal.{Refusal}
use Rattle.dft_answers.specs.declared.outcome.Outcome.{Outcome}
use Rattle.dft_answers.specs.declared.outcome.Outcome.TheVariants.{Finished, Refused}
use Rattle.dft_answers.specs.declared.outcome.Replayed.TheVariants.{Passed}
use Rattle.dft_answers.specs.declared.outcome.Work.TheVariants.{Replayed}
use Rattle.dft_top.specs.declared.limits.TheConstants.{MAX_NETLIST_BYTES, MAX_PATTERN_BYTES}
use Rattle.dft_answers.specs.Texts.{FileGives}
use Rattle.dft_top.specs.Checks.{ArePatternsOf, IsDesignOf, LibraryGives, NetlistGives, NetlistText, PatternText, PatternsGive}
use Rattle.dft_top.specs.Courses.{After, Reaches, Then}
use Rattle.dft_top.specs.Outcomes.{IsOutcomeOn, course_of_replay, outcome_of}
use Rattle.dft_top.proofs.Readings.{given_next, library_gives_one, patterns_one}
use Rattle.dft_top.proofs.Steps.{ReplayOn, ReplayOver}

-- no check fails
abbrev pub IsAccepted : Outcome → Type 0
IsAccepted o = (refusal : Refusal) → o ≡ Refused refusal → ⊥

-- where no check fails, each step gave a value
pub then_accepts : {A : Type 0} (gives : Result A Refusal → Type 0) (next : A → Outcome → Type 0) (o : Outcome) → IsAccepted o → Then gives next o → After gives (λ value. next value o)
then_accepts gives next o accepts (inl x) = x
then_accepts gives next o accepts (inr x) = absurd (accepts x.0 x.1.1)

-- what the text of a file gives
pub text_at : {A : Type 0} (limit : ℕ) (option : List ℕ) (text_gives : List ℕ → Result A Refusal → Type 0) (file : Option (List ℕ)) (text : List ℕ) (value : A) → file ≡ Some text → FileGives limit option text_gives file (Ok value) → text_gives text (Ok value)
text_at limit option text_gives file text value at given = (subst (λ (f : Option (List ℕ)). FileGives limit option text_gives f (Ok value)) at given).1

pub on_verdict : (n : Netlist) (p : Patterns) (misfit : Option (List ℕ)) (o : Outcome) → IsAccepted o → IsOutcomeOn n p misfit o → (v : Verdict) × (HasVerdict n p v × (o ≡ outcome_of p v))
on_verdict n p (Some name) o accepts is = absurd (accepts _ is)
on_verdict n p None o accepts is = is

-- a verdict of Pass is the only one
pub on_passes : (n m : Netlist) (p q : Patterns) (rank : ℕ → ℕ) (compared : ℕ) (o : Outcome) → IsOrdered m rank → m ≡ n → q ≡ p → HasVerdict n p (verdict.Pass compared) →
    (v : Verdict) × (HasVerdict m q v × (o ≡ outcome_of q v)) → o ≡ Finished (Replayed (Passed (length p.vectors) compared))
on_passes n m p q rank compared o ordered netlist patterns passes x =
    let has : HasVerdict m q (verdict.Pass compared) = subst (λ (l : Netlist). HasVerdict l q (verdict.Pass compared)) (sym netlist) (subst (λ (r : Patterns). HasVerdict n r (verdict.Pass compared)) (sym patterns) passes) in
    let same : x.0 ≡ verdict.Pass compared = verdict_one m rank q x.0 (verdict.Pass compared) ordered x.1.0 has in
    x.1.1 ∙ ap (outcome_of q) same ∙ ap (λ (r : Patterns). Finished (Replayed (Passed (length r.vectors) compared))) patterns

pub replay_passes : (files : ReplayFiles) (held : Held) (cells : List Cell) (n : Netlist) (p : Patterns) (netlist text : List ℕ) (compared : ℕ) (o : Outcome) → (accepts : IsAccepted o) → (library : LibraryGives files.library held (Ok cells)) →
    (at_netlist : file_at files.netlist held ≡ Some netlist) → (at_patterns : file_at files.patterns held ≡ Some text) → (stands : Gives cells netlist n) → (reads : pattern.StandsFor text p) → (passes : HasVerdict n p (verdict.Pass compared)) →
    Reaches (course_of_replay files) held o → o ≡ Finished (Replayed (Passed (length p.vectors) compared))
replay_passes files held cells n p netlist text compared o accepts library at_netlist at_patterns stands reads passes x =
    let over = given_next (LibraryGives files.library held) (ReplayOver files held) o cells (library_gives_one files.library held) library x in
    let design = then_accepts (NetlistGives cells files.netlist held) (ReplayOn files held) o accepts over in
    let m = design.0 in
    let patterns = then_accepts (PatternsGive files.patterns held) (λ q. IsOutcomeOn m q (first_misfit m q.signals)) o accepts design.1.1 in
    let q = patterns.0 in
    let is : IsDesignOf cells netlist m = text_at MAX_NETLIST_BYTES (codes "netlist") (NetlistText cells) (file_at files.netlist held) netlist m at_netlist design.1.0 in
    let are : ArePatternsOf text q = text_at MAX_PATTERN_BYTES (codes "patterns") PatternText (file_at files.patterns held) text q at_patterns patterns.1.0 in
    let ranked = order_ranks m is.order is.sound is.ordered in
    on_passes n m p q ranked.0 compared o ranked.1 (gives_one cells netlist m n is.stands stands) (patterns_one text q p are.stands reads) passes (on_verdict m q (first_misfit m q.signals) o accepts patterns.1.1)
