use Rattle.std.proofs.Common.{ℕ, List, Option, inl, inr, refl, sym, ap, subst}
use Rattle.dft_configuring.specs.declared.wanted.Wanted.{Wanted}
use Rattle.dft_configuring.specs.Configured.{IsConfigured}
use Rattle.dft_configuring.specs.Refusals.{IsRefused}
use Rattle.dft_scan_frame.proofs.ReadyLemmas.{ready_of}
use Rattle.dft_answers.specs.declared.answer.Refusal.{Refusal}
use Rattle.dft_answers.specs.declared.outcome.Outcome.TheVariants.{Finished, Refused}
use Rattle.dft_answers.specs.declared.outcome.Work.TheVariants as work
use Rattle.dft_top.specs.Outcomes.{IsRefusal}
use Rattle.dft_top.proofs.configuring.outcome_of_design.Goals as goal

pub returns-in-Ok-clause-outcome : goal.returns-in-Ok-clause-outcome
returns-in-Ok-clause-outcome c =
    inl (record {
      configured = c.in-Ok.configured;
      made = subst (λ (wanted : Wanted). IsConfigured c.args.design.now wanted c.in-Ok.configured) c.wanted_of.ensures c.in-Ok.ensures.configured;
      ready =
          let s = c.soundness.ensures in
          let is = c.in-Ok.ensures.configured in
          ready_of c.args.design.now c.in-Ok.configured.config s.netlist s.library s.single s.ordered is.range is.passes.scanned;
      is = ap (λ (text : List ℕ). Finished (work.Configured c.in-Ok.configured.counts text)) c.from_vec.ensures;
    })

pub returns-in_ok-configure_refusal-in-Err-clause-outcome : goal.returns-in_ok-configure_refusal-in-Err-clause-outcome
returns-in_ok-configure_refusal-in-Err-clause-outcome c =
    let refusal = c.in_ok-configure_refusal-in-Err.field-0 in
    inr (record {
      error = c.in-Err.error;
      refused = subst (λ (wanted : Wanted). IsRefused c.args.design.now wanted c.in-Err.error) c.wanted_of.ensures c.in-Err.ensures.refused;
      is = subst (λ (told : Option Refusal). IsRefusal told (Refused refusal)) (sym c.in_ok-configure_refusal-in-Err.ensures) refl;
    })
