-- What the search from here finds, the whole search finds.
use Rattle.std.proofs.Common.{◌≡◌, ◌≤◌, ◌∙◌, ℕ, Ok, Some, refl, arith, subst, sym}
use Rattle.std.proofs.lemmas.Result.{err_from_is_err_and}
use Rattle.dft_config.specs.declared.config.RingConfig.{RingConfig}
use Rattle.dft_config_out.specs.Written.{config_of, made_text}
use Rattle.dft_stitch.specs.Limits.{refusal}
use Rattle.dft_configuring.specs.declared.error.ConfigureError.{ConfigureError}
use Rattle.dft_configuring.specs.Long.{long_text}
use Rattle.dft_configuring.specs.Refusals.{IsPassed}
use Rattle.dft_configuring.specs.Rooted.{cell_count, chain_count}
use Rattle.dft_configuring.specs.Searching.{IsBad, IsGood, Search, first_warm, tried}
use Rattle.dft_configuring.specs.Steps.{IsTried, IsWritten}
use Rattle.dft_configuring.proofs.PlanLemmas.{limit_map, tried_fits}
use Rattle.dft_configuring.proofs.RuleLemmas.{same_rules}
use Rattle.dft_configuring.proofs.SearchLemmas.{ends_here, finds_here, leads_one, passes_here}
use Rattle.dft_configuring.proofs.Writable.{made_writable}
use Rattle.dft_configuring.proofs.searching.search.Goals as goal

pub loop-warm-init : goal.loop-warm-init
loop-warm-init c = record {
  frame = c.requires.frame;
  ring = refl;
  leads = λ found search. rw c.first_for-first.ensures at search;
}

pub written_if_good-requires-clause-writable : goal.written_if_good-requires-clause-writable
written_if_good-requires-clause-writable c =
    let warm : c.warm_up.new.made.warm ≤ 4095 = subst (λ (k : ℕ). k ≤ 4095) (sym c.in_ok-warm_up.ensures.warm) (omega (arith, c.loop-warm-test.true)) in
    made_writable c.args.design.now c.args.wanted.now c.warm_up.new.made c.soundness.ensures.netlist c.requires.wanted c.requires.accepted c.in_ok-warm_up.ensures.made warm

pub written_if_good-requires-clause-passed : goal.written_if_good-requires-clause-passed
written_if_good-requires-clause-passed c =
    let n = c.args.design.now in
    let frame = c.in_ok-warm_up.ensures.made.frame in
    same_rules n c.warm_up.new.made (chain_count n c.args.wanted.now) frame.domains frame.resets frame.chains ∙ c.requires.accepted.scanned

pub returns-in_err-found-clause-refused : goal.returns-in_err-found-clause-refused
returns-in_err-found-clause-refused c =
    let few : c.loop-warm.warm ≤ 4095 = omega (arith, c.loop-warm-test.true) in
    let n = c.args.design.now in
    let wanted = c.args.wanted.now in
    let made = c.warm_up.new.made in
    let p = err_from_is_err_and c.from_residual-in_err-found.result c.from_residual-in_err-found.ensures.1 in
    let passed : (error : ConfigureError) → tried n made ≡ Some error → IsPassed n wanted error =
    λ error is. record {
      ring = c.args.made.now.ring;
      is = c.requires.frame.ring;
      search = passes_here n wanted (first_warm c.args.made.now.ring.stages wanted.channels) c.loop-warm.warm made error few c.in_ok-warm_up.ensures.made c.in_ok-warm_up.ensures.warm is c.loop-warm.invariant.leads;
    } in
    rw (p.1, p.2) (limit_map (λ error. tried n made ≡ Some error) (IsPassed n wanted) passed c.in_err-found.field-0.0 c.in_err-found.ensures.refused)

pub returns-in-Some-clause-chosen : goal.returns-in-Some-clause-chosen
returns-in-Some-clause-chosen c =
    let few : c.loop-warm.warm ≤ 4095 = omega (arith, c.loop-warm-test.true) in
    let n = c.args.design.now in
    let wanted = c.args.wanted.now in
    let made = c.warm_up.new.made in
    let is : IsWritten c.args.cells made c.in-Some.written × IsGood n (config_of made) = subst (IsTried n c.args.cells made) c.in-Some.is c.in_ok-found.ensures.found in
    let ring : made.ring ≡ c.args.made.now.ring = c.warm_up.ensures.ring ∙ c.loop-warm.invariant.ring in
    record {
      is = c.in_ok-warm_up.ensures.made;
      first = subst (λ (r : RingConfig). Search n wanted (first_warm r.stages wanted.channels) (Ok made)) (sym ring) (finds_here n wanted (first_warm c.args.made.now.ring.stages wanted.channels) c.loop-warm.warm made few c.in_ok-warm_up.ensures.made c.in_ok-warm_up.ensures.warm c.in_ok-found.ensures.fits is.1 c.loop-warm.invariant.leads);
    }

pub returns-in-Some-clause-written : goal.returns-in-Some-clause-written
returns-in-Some-clause-written c =
    let n = c.args.design.now in
    let made = c.warm_up.new.made in
    let is : IsWritten c.args.cells made c.in-Some.written × IsGood n (config_of made) = subst (IsTried n c.args.cells made) c.in-Some.is c.in_ok-found.ensures.found in
    is.0

pub returns-in-Some-clause-fits : goal.returns-in-Some-clause-fits
unfolding tried
returns-in-Some-clause-fits c =
    let n = c.args.design.now in
    let made = c.warm_up.new.made in
    let is : IsWritten c.args.cells made c.in-Some.written × IsGood n (config_of made) = subst (IsTried n c.args.cells made) c.in-Some.is c.in_ok-found.ensures.found in
    rw is.0.config (tried_fits (long_text (made_text (cell_count n) made)) (refusal n (config_of made)) c.in_ok-found.ensures.fits)

pub loop-warm-preserved : goal.loop-warm-preserved
loop-warm-preserved c =
    let few : c.loop-warm.warm ≤ 4095 = omega (arith, c.loop-warm-test.true) in
    let n = c.args.design.now in
    let wanted = c.args.wanted.now in
    let made = c.warm_up.new.made in
    let bad : IsBad n (config_of made) = subst (IsTried n c.args.cells made) c.in-None.is c.in_ok-found.ensures.found in
    record {
      frame = c.in_ok-warm_up.ensures.made.frame;
      ring = c.warm_up.ensures.ring ∙ c.loop-warm.invariant.ring;
      leads = leads_one n wanted (first_warm c.args.made.now.ring.stages wanted.channels) c.loop-warm.warm made few c.in_ok-warm_up.ensures.made c.in_ok-warm_up.ensures.warm c.in_ok-found.ensures.fits bad c.loop-warm.invariant.leads;
    }

pub returns-clause-refused : goal.returns-clause-refused
returns-clause-refused c =
    let n = c.args.design.now in
    let wanted = c.args.wanted.now in
    rw c.too_many_cycles.ensures
    (record {
      ring = c.args.made.now.ring;
      is = c.requires.frame.ring;
      search = ends_here n wanted (first_warm c.args.made.now.ring.stages wanted.channels) c.loop-warm.warm (omega (arith, c.loop-warm-test.false)) c.loop-warm.invariant.leads;
    })
