use Rattle.std.proofs.Common.{length}
use Rattle.std.proofs.lemmas.Option.{slice_get-get_or, slice_get_within}
use Rattle.dft_behavior.proofs.walk_steps.step_back.Goals as goal

pub returns-in-Join-clause-live : goal.returns-in-Join-clause-live
returns-in-Join-clause-live c =
    let n = c.args.design.now in
    let j = c.in-Join.number in
    let d = c.in-Join.ensures.drives in
    c.step_to.ensures.live (length n.nets) (rw c.joins.ensures.joins (c.joins.ensures.sound.joins j _ (slice_get-get_or n.joins j _ (slice_get_within n.joins j d.join d.at))).source_live)
