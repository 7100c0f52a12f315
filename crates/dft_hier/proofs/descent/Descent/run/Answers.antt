use Rattle.std.proofs.Common.{ℕ, ◌+◌, List, [], ◌∙◌}
use Rattle.std.proofs.lemmas.List.{get_or_read}
use Rattle.dft_hier.proofs.WalkLemmas.{starts, goes, smaller, top_live}
use Rattle.dft_hier.proofs.descent.Descent.run.Goals as goal

pub loop-visit-init : goal.loop-visit-init
loop-visit-init c = rw c.in_ok-meet.ensures (starts c.args.children.now c.args.from c.args.self.now c.requires.live c.requires.walked)

pub loop-visit-preserved : goal.loop-visit-preserved
loop-visit-preserved c =
    let g : List (List ℕ) = c.args.children.now in
    let v = c.in-Some.visit in
    let live = top_live g (c.args.from + 1) c.loop-visit.self c.pop.new.self v c.in-Some.ensures.some c.loop-visit.invariant in
    goes g (c.args.from + 1) c.loop-visit.self c.pop.new.self c.step.new.self v c.as_slice.result.now c.requires.within c.in-Some.ensures.some
    (c.as_slice.ensures ∙ get_or_read g v.number c.index-children-visit.result live c.index-children-visit.is []) c.in_ok-step.ensures c.loop-visit.invariant

pub loop-visit-smaller : goal.loop-visit-smaller
loop-visit-smaller c =
    let g : List (List ℕ) = c.args.children.now in
    let v = c.in-Some.visit in
    let live = top_live g (c.args.from + 1) c.loop-visit.self c.pop.new.self v c.in-Some.ensures.some c.loop-visit.invariant in
    smaller g (c.args.from + 1) c.loop-visit.self c.pop.new.self c.step.new.self v c.as_slice.result.now c.in-Some.ensures.some
    (c.as_slice.ensures ∙ get_or_read g v.number c.index-children-visit.result live c.index-children-visit.is []) c.in_ok-step.ensures c.loop-visit.invariant
