-- What a search of cubes comes to.
use Rattle.std.proofs.Common.{ℕ, ◌≡◌, ◌∙◌, List, refl, sym, subst, Option, None, Some, Result, Ok, Err}
use Rattle.dft_netlist.specs.Netlist.{Netlist}
use Rattle.dft_netlist.specs.Drivers.{IsOrdered}
use Rattle.dft_config.specs.Config.{Config}
use Rattle.dft_seeking.specs.declared.error.SeekError.{SeekError}
use Rattle.dft_seeking.specs.declared.error.SeekError.TheVariants.{TooManyCubes, LongCubes, LongReport, Memory}
use Rattle.dft_seeking.specs.Refusals.{IsRefused, refusal}
use Rattle.dft_cubes_out.specs.Written.{cubes_text}
use Rattle.dft_seeking.specs.declared.seeking.Sought.{Sought}
use Rattle.dft_seeking.specs.Gathers.{IsDone}
use Rattle.dft_seeking.specs.Told.{Told, AreTold, counts_of, cubes_in}
use Rattle.dft_seeking.specs.Written.{report_text}
use Rattle.dft_seeking.proofs.OneLemmas.{told_one}
use Rattle.dft_answers.specs.declared.answer.Refusal.{Refusal}
use Rattle.dft_answers.specs.declared.outcome.Outcome.{Outcome}
use Rattle.dft_answers.specs.declared.outcome.Outcome.TheVariants.{Finished, Refused}
use Rattle.dft_answers.specs.declared.outcome.Work.TheVariants as work
use Rattle.dft_answers.specs.Refusals.{seek_refusal}
use Rattle.dft_answers.specs.declared.stop.Stop.{Stop}
use Rattle.dft_answers.specs.declared.stop.Stop.TheVariants as stop
use Rattle.dft_answers.specs.Steps.{IsGiven, SeenFiles}
use Rattle.dft_cubes.specs.Cubes.{domain_named}
use Rattle.dft_stitch.specs.Chains.{plan_of}
use Rattle.dft_top.specs.Checks.{PlanGives}
use Rattle.dft_top.specs.Courses.{End}
use Rattle.dft_top.specs.Follows.{ComesTo, Follows}
use Rattle.dft_top.specs.Outcomes.{IsOutcomeOfSearch, IsOutcomeOfSeek, IsOutcomeOfTold, course_of_search}
use Rattle.dft_top.proofs.CertifyLemmas.{refusal_is, refusal_one}
use Rattle.dft_top.proofs.Following.{end_follows, given_takes, step_follows, stop_follows}

outcome_of_told_one : (n : Netlist) (config : Config) (told : List Told) (refused : Option SeekError) (a b : Outcome) → IsOutcomeOfTold n config told refused a → IsOutcomeOfTold n config told refused b → a ≡ b
outcome_of_told_one n config told (Some error) a b x y = refusal_one (seek_refusal error) a b x y
outcome_of_told_one n config told None a b x y = x ∙ sym y

-- the outcome of what is told, where it is told
pub search_due : (n : Netlist) (config : Config) (domain limit : ℕ) (rank : ℕ → ℕ) (told : List Told) (o : Outcome) → IsOrdered n rank → AreTold n config domain limit told → IsOutcomeOfSearch n config domain limit o → IsOutcomeOfTold n config told (refusal n config told) o
search_due n config domain limit rank told o ordered are x =
    subst (λ (all : List Told). IsOutcomeOfTold n config all (refusal n config all) o) (told_one n config domain limit x.told told rank ordered x.are are) x.outcome

search_one : (n : Netlist) (config : Config) (domain limit : ℕ) (rank : ℕ → ℕ) (a b : Outcome) → IsOrdered n rank → IsOutcomeOfSearch n config domain limit a → IsOutcomeOfSearch n config domain limit b → a ≡ b
search_one n config domain limit rank a b ordered x y = outcome_of_told_one n config y.told (refusal n config y.told) a b (search_due n config domain limit rank y.told a ordered y.are x) y.outcome

-- a design, a configuration, a clock and a limit have one outcome at most
pub seeking_one : (n : Netlist) (config : Config) (clock : List ℕ) (limit : ℕ) (domain : Option ℕ) (rank : ℕ → ℕ) (a b : Outcome) → IsOrdered n rank → IsOutcomeOfSeek n config clock limit domain a → IsOutcomeOfSeek n config clock limit domain b → a ≡ b
seeking_one n config clock limit None rank a b ordered x y = x ∙ sym y
seeking_one n config clock limit (Some domain) rank a b ordered x y = search_one n config domain limit rank a b ordered x y

-- ---- in code

-- the error that is told as a refusal is no want of memory
refused_by : (n : Netlist) (config : Config) (domain limit : ℕ) (error : SeekError) (told : Refusal) → IsRefused n config domain limit error → seek_refusal error ≡ Some told → (all : List Told) × (AreTold n config domain limit all × (refusal n config all ≡ Some error))
refused_by n config domain limit TooManyCubes told is e = is
refused_by n config domain limit (LongCubes bytes) told is e = is
refused_by n config domain limit (LongReport bytes) told is e = is
refused_by n config domain limit (Memory error) told is e = absurd cc

pub refused_search : (n : Netlist) (config : Config) (domain limit : ℕ) (error : SeekError) (told : Refusal) → IsRefused n config domain limit error → seek_refusal error ≡ Some told → IsOutcomeOfSearch n config domain limit (Refused told)
refused_search n config domain limit error told is e =
    let r = refused_by n config domain limit error told is e in
    record {
      told = r.0;
      are = r.1.0;
      outcome = subst (λ (refused : Option SeekError). IsOutcomeOfTold n config r.0 refused (Refused told)) (sym r.1.1) (refusal_is (seek_refusal error) told e);
    }

pub done_search : (n : Netlist) (config : Config) (domain limit : ℕ) (s : Sought) (o : Outcome) → IsDone n config domain limit s → o ≡ Finished (work.Sought s.counts s.cubes.items s.report.items) → IsOutcomeOfSearch n config domain limit o
done_search n config domain limit s o done is =
    let ended = done.ended in
    let told : o ≡ Finished (work.Sought (counts_of done.told) (cubes_text n config (cubes_in done.told)) (report_text n done.told)) = is ∙ (λ i. Finished (work.Sought (ended.counts i) (ended.cubes i) (ended.report i))) in
    record {
      told = done.told;
      are = done.are;
      outcome = subst (λ (refused : Option SeekError). IsOutcomeOfTold n config done.told refused o) (sym ended.passed) told;
    }

domain_searched : (n : Netlist) (config : Config) (clock : List ℕ) (limit domain : ℕ) (r : Result Outcome Stop) → ComesTo (IsOutcomeOfSearch n config domain limit) r → ComesTo (IsOutcomeOfSeek n config clock limit (Some domain)) r
domain_searched n config clock limit domain (Ok o) comes = comes
domain_searched n config clock limit domain (Err (stop.Refused refusal)) comes = comes
domain_searched n config clock limit domain (Err stop.ReadFault) comes = tt
domain_searched n config clock limit domain (Err stop.OutOfMemory) comes = tt

-- the clock names the domain that is searched
pub clock_searched : (n : Netlist) (config : Config) (clock : List ℕ) (limit domain : ℕ) (named : Option ℕ) (r : Result Outcome Stop) → Some domain ≡ named → ComesTo (IsOutcomeOfSearch n config domain limit) r →
    ComesTo (IsOutcomeOfSeek n config clock limit named) r
clock_searched n config clock limit domain named r is comes =
    subst (λ (named : Option ℕ). ComesTo (IsOutcomeOfSeek n config clock limit named) r) is (domain_searched n config clock limit domain r comes)

-- a design that is planned is searched, whatever the files are
pub design_searched : (n : Netlist) (config : Config) (clock : List ℕ) (limit : ℕ) (seen : SeenFiles) (r : Result Outcome Stop) → PlanGives n config (Ok (plan_of n config)) → (r ≡ Err stop.ReadFault → ⊥) →
    ComesTo (IsOutcomeOfSeek n config clock limit (domain_named config clock)) r → Follows (course_of_search n config clock limit) seen seen r
design_searched n config clock limit seen r given quiet comes =
    step_follows None (λ held. PlanGives n config) (λ plan. End (IsOutcomeOfSeek n config clock limit (domain_named config clock))) seen seen seen (plan_of n config) r (given_takes (PlanGives n config) seen (Ok (plan_of n config)) given)
    (end_follows (IsOutcomeOfSeek n config clock limit (domain_named config clock)) seen r quiet comes)

-- a design that cannot be planned is refused, whatever the files are
pub design_refused : (n : Netlist) (config : Config) (clock : List ℕ) (limit : ℕ) (seen : SeenFiles) (stops : Stop) → IsGiven (PlanGives n config) (Err stops) → Follows (course_of_search n config clock limit) seen seen (Err stops)
design_refused n config clock limit seen stops given =
    stop_follows None (λ held. PlanGives n config) (λ plan. End (IsOutcomeOfSeek n config clock limit (domain_named config clock))) seen seen stops (Err stops) refl (given_takes (PlanGives n config) seen (Err stops) given)
