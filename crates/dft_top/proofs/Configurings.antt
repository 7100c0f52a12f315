-- What a made configuration comes to.
use Rattle.std.proofs.Common.{ℕ, ◌≡◌, ◌∙◌, inl, inr, List, sym, ap₂, subst}
use Rattle.dft_netlist.specs.Netlist.{Netlist}
use Rattle.dft_configuring.specs.declared.configuring.Configured.{Configured}
use Rattle.dft_configuring.specs.declared.counting.MadeCounts.{MadeCounts}
use Rattle.dft_configuring.specs.declared.error.ConfigureError.{ConfigureError}
use Rattle.dft_configuring.specs.declared.error.ConfigureError.TheVariants.{NoClock, TooMany, Rules, NoRing, LongText, Stitch, Insert, Memory}
use Rattle.dft_configuring.specs.declared.wanted.Wanted.{Wanted}
use Rattle.dft_configuring.specs.Configured.{IsConfigured}
use Rattle.dft_configuring.proofs.OneLemmas.{IsCause, configured_one, not_refused, refused_one}
use Rattle.dft_answers.specs.declared.outcome.Outcome.{Outcome}
use Rattle.dft_answers.specs.declared.outcome.Outcome.TheVariants.{Finished}
use Rattle.dft_answers.specs.declared.outcome.Work.TheVariants as work
use Rattle.dft_answers.specs.Refusals.{configure_refusal}
use Rattle.dft_top.specs.Outcomes.{IsMade, IsOutcomeOfConfiguring, IsRefusal, IsUnmade}
use Rattle.dft_top.proofs.CertifyLemmas.{refusal_one}

-- an error that is a refusal is no want of memory
cause_of : (error : ConfigureError) (o : Outcome) → IsRefusal (configure_refusal error) o → IsCause error
cause_of NoClock o is = tt
cause_of (TooMany what most) o is = tt
cause_of (Rules error) o is = tt
cause_of NoRing o is = tt
cause_of (LongText bytes) o is = tt
cause_of (Stitch error) o is = tt
cause_of (Insert error) o is = tt
cause_of (Memory error) o is = is

made_or_unmade : (n : Netlist) (wanted : Wanted) (a b : Outcome) → IsMade n wanted a → IsUnmade n wanted b → ⊥
made_or_unmade n wanted a b x y = not_refused n wanted x.configured y.error (cause_of y.error b y.is) x.made y.refused

-- a netlist and a wish have one outcome at most
pub configuring_one : (n : Netlist) (wanted : Wanted) (a b : Outcome) → IsOutcomeOfConfiguring n wanted a → IsOutcomeOfConfiguring n wanted b → a ≡ b
configuring_one n wanted a b (inl x) (inl y) =
    let same = configured_one n wanted x.configured y.configured x.made y.made in
    x.is ∙ ap₂ (λ (counts : MadeCounts) (text : List ℕ). Finished (work.Configured counts text)) same.counts same.text ∙ sym y.is
configuring_one n wanted a b (inl x) (inr y) = absurd (made_or_unmade n wanted a b x y)
configuring_one n wanted a b (inr x) (inl y) = absurd (made_or_unmade n wanted b a y x)
configuring_one n wanted a b (inr x) (inr y) =
    let same = refused_one n wanted x.error y.error (cause_of x.error a x.is) (cause_of y.error b y.is) x.refused y.refused in
    refusal_one (configure_refusal y.error) a b (subst (λ (e : ConfigureError). IsRefusal (configure_refusal e) a) same x.is) y.is

-- where a configuration is made, it is the outcome
pub configured_due : (n : Netlist) (wanted : Wanted) (configured : Configured) (o : Outcome) → IsConfigured n wanted configured → IsOutcomeOfConfiguring n wanted o → o ≡ Finished (work.Configured configured.counts configured.text.items)
configured_due n wanted configured o made (inl x) =
    let same = configured_one n wanted x.configured configured x.made made in
    x.is ∙ ap₂ (λ (counts : MadeCounts) (text : List ℕ). Finished (work.Configured counts text)) same.counts same.text
configured_due n wanted configured o made (inr y) = absurd (not_refused n wanted configured y.error (cause_of y.error o y.is) made y.refused)
