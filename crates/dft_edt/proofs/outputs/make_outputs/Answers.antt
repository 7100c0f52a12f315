use Rattle.std.proofs.Common.{◌≡◌, ◌+◌, ◌-◌, ℕ, Ok, length, subst, ap}
use Rattle.std.specs.List.{range_with_len}
use Rattle.std.proofs.lemmas.Result.{err_from_is_err_and}
use Rattle.dft_base.proofs.ListLemmas.{range_over}
use Rattle.dft_parts.specs.Recipes.{each, outcome, IsRefusal}
use Rattle.dft_parts.proofs.Runs.{range_on, each_goes, each_stops, each_ends}
use Rattle.dft_edt.specs.CompactorRecipe.{an_output}
use Rattle.dft_edt.proofs.outputs.make_outputs.Goals as goal

pub returns-in_err-make_output-clause-makes : goal.returns-in_err-make_output-clause-makes
returns-in_err-make_output-clause-makes c =
    let p = err_from_is_err_and c.from_residual.result c.from_residual.ensures.1 in
    let f = an_output c.args.config.now c.args.ports.now c.args.gated.now in
    let k = c.loop-output.output in
    let n = length c.as_slice-count.result.now in
    rw (p.1, p.2)
    (subst (λ (m : ℕ). IsRefusal (outcome (each f (range_with_len 0 m)) c.args.parts.now) c.in_err-make_output.field-0.0) (ap length (rw c.compactor.ensures at c.as_slice-count.ensures))
    (each_stops f (range_with_len 0 n) (range_with_len k (n - k)) (range_with_len (k + 1) (n - (k + 1))) k c.args.parts.now c.loop-output.parts c.in_err-make_output.field-0.0 c.loop-output.invariant (range_on k n c.loop-output-test.true)
    c.in_err-make_output.ensures.makes))

pub loop-output-preserved : goal.loop-output-preserved
loop-output-preserved c =
    let f = an_output c.args.config.now c.args.ports.now c.args.gated.now in
    let k = c.loop-output.output in
    let n = length c.as_slice-count.result.now in
    each_goes f (range_with_len 0 n) (range_with_len k (n - k)) (range_with_len (k + 1) (n - (k + 1))) k c.args.parts.now c.loop-output.parts c.make_output.new.parts c.loop-output.invariant (range_on k n c.loop-output-test.true)
    c.in_ok-make_output.ensures.makes c.in_ok-make_output.ensures.nets

pub returns-clause-makes : goal.returns-clause-makes
returns-clause-makes c =
    let f = an_output c.args.config.now c.args.ports.now c.args.gated.now in
    let k = c.loop-output.output in
    let n = length c.as_slice-count.result.now in
    subst (λ (m : ℕ). outcome (each f (range_with_len 0 m)) c.args.parts.now ≡ Ok (tt, c.loop-output.parts)) (ap length (rw c.compactor.ensures at c.as_slice-count.ensures))
    (each_ends f (range_with_len 0 n) (range_with_len k (n - k)) c.args.parts.now c.loop-output.parts c.loop-output.invariant (range_over k n c.loop-output-test.false))
