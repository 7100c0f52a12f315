use Rattle.std.proofs.Common.{subst}
use Rattle.std.proofs.lemmas.Result.{err_from_is_err_and}
use Rattle.dft_netlist_text.specs.NetlistText.{add_nets}
use Rattle.dft_hier.specs.FlatNets.{nets_below}
use Rattle.dft_hier.specs.NetWalks.{NetStand, IsNetWalk}
use Rattle.dft_hier.proofs.NetWalkLemmas.{walk_begins, walk_ends, top_visit}
use Rattle.dft_hier.proofs.flat_nets.add_nets_below.Goals as goal

pub loop-visit-init : goal.loop-visit-init
loop-visit-init c = rw c.in_ok-walk.ensures (walk_begins c.args.hierarchy.now.modules.now c.args.hierarchy.now.items.now c.args.top c.args.builder.now c.requires.there)

pub step-requires-clause-there : goal.step-requires-clause-there
step-requires-clause-there c =
    let ms = c.args.hierarchy.now.modules.now in
    let items = c.args.hierarchy.now.items.now in
    let whole = add_nets (nets_below ms items c.args.top) c.args.builder.now in
    top_visit ms items whole c.pop.new.self c.in-Some.visit c.loop-visit.builder (subst (λ (s : NetStand). IsNetWalk ms items whole s c.loop-visit.builder) c.in-Some.ensures.some c.loop-visit.invariant)

pub step-requires-clause-printed : goal.step-requires-clause-printed
step-requires-clause-printed c =
    let ms = c.args.hierarchy.now.modules.now in
    let items = c.args.hierarchy.now.items.now in
    let whole = add_nets (nets_below ms items c.args.top) c.args.builder.now in
    let walk = subst (λ (s : NetStand). IsNetWalk ms items whole s c.loop-visit.builder) c.in-Some.ensures.some c.loop-visit.invariant in
    walk.printed

pub loop-visit-preserved : goal.loop-visit-preserved
loop-visit-preserved c =
    let ms = c.args.hierarchy.now.modules.now in
    let items = c.args.hierarchy.now.items.now in
    let whole = add_nets (nets_below ms items c.args.top) c.args.builder.now in
    c.in_ok-step.ensures.walks whole (subst (λ (s : NetStand). IsNetWalk ms items whole s c.loop-visit.builder) c.in-Some.ensures.some c.loop-visit.invariant)

pub loop-visit-smaller : goal.loop-visit-smaller
loop-visit-smaller c = rw c.in-Some.ensures.some c.in_ok-step.ensures.fewer

pub returns-in_err-step : goal.returns-in_err-step
returns-in_err-step c =
    let ms = c.args.hierarchy.now.modules.now in
    let items = c.args.hierarchy.now.items.now in
    let whole = add_nets (nets_below ms items c.args.top) c.args.builder.now in
    let p = err_from_is_err_and c.from_residual-in_err-step.result c.from_residual-in_err-step.ensures.1 in
    rw (p.1, p.2) (c.in_err-step.ensures.walks whole (subst (λ (s : NetStand). IsNetWalk ms items whole s c.loop-visit.builder) c.in-Some.ensures.some c.loop-visit.invariant))

pub returns : goal.returns
returns c =
    let ms = c.args.hierarchy.now.modules.now in
    let items = c.args.hierarchy.now.items.now in
    let whole = add_nets (nets_below ms items c.args.top) c.args.builder.now in
    walk_ends ms items whole c.loop-visit.walk c.loop-visit.builder c.in_default.ensures.none c.loop-visit.invariant
