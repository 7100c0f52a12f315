use Rattle.std.proofs.Common.{◌∙◌, sym, ap, false, get_or}
use Rattle.dft_patterns.specs.Steadiness.{first_not_low, first_unsteady_from, pulses}
use Rattle.dft_patterns.proofs.SteadyLemmas.{vector_passed, vector_found}
use Rattle.dft_patterns.proofs.steadiness.first_unsteady.Goals as goal

pub returns-in-Some : goal.returns-in-Some
returns-in-Some c =
    vector_found _ _ c.in_ok-flags.flags.items c.as_slice.result.now c.loop-vector.vector c.in-Some.signal _ _ c.in_ok-flags.ensures c.loop-vector-test.true (c.as_slice.ensures ∙ c.index-vectors-vector.is)
    (sym c.in-Some.is ∙ c.first_not_low.ensures ∙ ap (λ flags. first_not_low (λ s. get_or flags s false) 0 c.as_slice.result.now) c.deref.ensures.value) c.loop-vector.invariant
    ∙ ap (λ vs. first_unsteady_from (pulses vs) 0 vs) c.vectors-vectors.ensures

pub loop-vector-preserved : goal.loop-vector-preserved
loop-vector-preserved c =
    vector_passed _ _ c.in_ok-flags.flags.items c.as_slice.result.now c.loop-vector.vector _ _ c.in_ok-flags.ensures c.loop-vector-test.true (c.as_slice.ensures ∙ c.index-vectors-vector.is)
    (sym c.in_default.is ∙ c.first_not_low.ensures ∙ ap (λ flags. first_not_low (λ s. get_or flags s false) 0 c.as_slice.result.now) c.deref.ensures.value) c.loop-vector.invariant
