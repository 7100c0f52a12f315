use Rattle.std.proofs.Common.{List, length, refl, sym, ap, subst, ◌∙◌}
use Rattle.std.proofs.lemmas.Result.{err_from_is_err_and}
use Rattle.dft_base.specs.Lexing.{Text}
use Rattle.dft_cells.specs.declared.cell.Cell.{Cell}
use Rattle.dft_modules.specs.Modules.{Module}
use Rattle.dft_hier.specs.ItemWalks.{ItemStand, IsItemWalk, and_visit, adds}
use Rattle.dft_hier.specs.ItemsLaid.{AreItemsLaid}
use Rattle.dft_hier.specs.Laid.{parts_at}
use Rattle.dft_hier.proofs.ItemsLaidLemmas.{laid_items}
use Rattle.dft_hier.proofs.ItemWalkLemmas.{items_end}
use Rattle.dft_hier.proofs.StartLemmas.{items_start}
use Rattle.dft_hier.proofs.flat_items.add_items.Goals as goal

pub loop-visit-init : goal.loop-visit-init
loop-visit-init c =
    let h = c.args.hierarchy.now in
    let counted = ap (λ (ns : List Text). length ns) (c.nets.ensures ∙ ap (λ (m : Module). m.nets) (sym c.index-hierarchy-top.is)) in
    items_start c.args.builder.now.library h.modules.now h.weights.now h.items.now c.args.top c.index-hierarchy-top.result c.args.builder.now (length c.nets.result.now) c.in_ok-walk.walk c.requires.laid c.requires.there c.index-hierarchy-top.is c.requires.nets c.net_count.ensures.sound.few_nets refl counted c.in_ok-walk.ensures

pub step-requires-clause-laid : goal.step-requires-clause-laid
step-requires-clause-laid c =
    let h = c.args.hierarchy.now in
    let l = c.requires.laid in
    subst (λ (library : List Cell). AreItemsLaid library h.modules.now h.items.now h.weights.now) (sym c.loop-visit.invariant.over)
    (laid_items c.args.builder.now.library h.modules.now h.weights.now h.items.now l.sound l.known l.apart l.weights l.items)

pub step-requires-clause-stands : goal.step-requires-clause-stands
step-requires-clause-stands c =
    let h = c.args.hierarchy.now in
    let whole = adds (parts_at h.modules.now c.args.top) c.args.builder.now in
    let walk = subst (λ (s : ItemStand). IsItemWalk h.modules.now h.items.now h.weights.now c.args.builder.now.library whole s c.loop-visit.builder) c.in-Some.ensures.some c.loop-visit.invariant in
    record { whole = whole; walk = subst (λ (library : List Cell). IsItemWalk h.modules.now h.items.now h.weights.now library whole (and_visit c.pop.new.self c.in-Some.visit) c.loop-visit.builder) (sym c.loop-visit.invariant.over) walk }

pub loop-visit-preserved : goal.loop-visit-preserved
loop-visit-preserved c =
    let h = c.args.hierarchy.now in
    let whole = adds (parts_at h.modules.now c.args.top) c.args.builder.now in
    let walk = subst (λ (s : ItemStand). IsItemWalk h.modules.now h.items.now h.weights.now c.args.builder.now.library whole s c.loop-visit.builder) c.in-Some.ensures.some c.loop-visit.invariant in
    let more = c.in_ok-step.ensures.walks whole (subst (λ (library : List Cell). IsItemWalk h.modules.now h.items.now h.weights.now library whole (and_visit c.pop.new.self c.in-Some.visit) c.loop-visit.builder) (sym c.loop-visit.invariant.over) walk) in
    subst (λ (library : List Cell). IsItemWalk h.modules.now h.items.now h.weights.now library whole c.step.new.walk c.step.new.builder) c.loop-visit.invariant.over more

pub loop-visit-smaller : goal.loop-visit-smaller
loop-visit-smaller c = rw c.in-Some.ensures.some c.in_ok-step.ensures.fewer

pub returns-in_err-step : goal.returns-in_err-step
returns-in_err-step c =
    let h = c.args.hierarchy.now in
    let whole = adds (parts_at h.modules.now c.args.top) c.args.builder.now in
    let walk = subst (λ (s : ItemStand). IsItemWalk h.modules.now h.items.now h.weights.now c.args.builder.now.library whole s c.loop-visit.builder) c.in-Some.ensures.some c.loop-visit.invariant in
    let p = err_from_is_err_and c.from_residual-in_err-step.result c.from_residual-in_err-step.ensures.1 in
    rw (p.1, p.2) (c.in_err-step.ensures.walks whole (subst (λ (library : List Cell). IsItemWalk h.modules.now h.items.now h.weights.now library whole (and_visit c.pop.new.self c.in-Some.visit) c.loop-visit.builder) (sym c.loop-visit.invariant.over) walk))

pub returns : goal.returns
returns c =
    let h = c.args.hierarchy.now in
    let whole = adds (parts_at h.modules.now c.args.top) c.args.builder.now in
    items_end h.modules.now h.items.now h.weights.now c.args.builder.now.library whole c.loop-visit.walk c.loop-visit.builder c.in_default.ensures.none c.loop-visit.invariant
