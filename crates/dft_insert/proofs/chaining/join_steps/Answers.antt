use Rattle.std.proofs.Common.{◌≡◌, ◌+◌, ◌-◌, Ok, length, arith, ◌∙◌}
use Rattle.std.specs.List.{range_with_len}
use Rattle.dft_base.proofs.ListLemmas.{range_over}
use Rattle.dft_parts.specs.Recipes.{outcome}
use Rattle.dft_parts.proofs.Runs.{range_on, each_goes, each_ends}
use Rattle.dft_insert.specs.Chained.{a_step}
use Rattle.dft_insert.proofs.chaining.join_steps.Goals as goal

pub loop-place-preserved : goal.loop-place-preserved
loop-place-preserved c =
    let f = a_step c.args.design.now c.args.cells.now c.args.row.now in
    let k = c.loop-place.place in
    let n = length c.args.cells.now in
    let made : outcome (f k) c.loop-place.parts ≡ Ok (tt, c.join_scan_in.new.parts) = rw (c.cell_in.ensures, c.net_at.ensures) at c.join_scan_in.ensures.makes in
    let same = c.join_scan_in.ensures.nets in (
      each_goes f (range_with_len 0 n) (range_with_len k (n - k)) (range_with_len (k + 1) (n - (k + 1))) k c.args.parts.now c.loop-place.parts c.join_scan_in.new.parts c.loop-place.invariant.0 (range_on k n c.loop-place-test.true) made (omega (arith, same)),
      same ∙ c.loop-place.invariant.1,
    )

pub returns-clause-makes : goal.returns-clause-makes
returns-clause-makes c =
    let f = a_step c.args.design.now c.args.cells.now c.args.row.now in
    let k = c.loop-place.place in
    let n = length c.args.cells.now in
    each_ends f (range_with_len 0 n) (range_with_len k (n - k)) c.args.parts.now c.loop-place.parts c.loop-place.invariant.0 (range_over k n c.loop-place-test.false)
