use Rattle.std.proofs.Common.{◌<◌, length, option_copied, sym, ap, ◌∙◌, arith, rules}
use Rattle.dft_modules.specs.Modules.{Module}
use Rattle.dft_hier.proofs.EnterLemmas.{item_there, child_there, sub_is, none_there, entered, fewer}
use Rattle.dft_hier.proofs.flat_nets.enter.Goals as goal

pub bounds-items-item : goal.bounds-items-item
bounds-items-item c = item_there c.args.hierarchy.now.modules.now c.args.visit.number c.args.live c.index-hierarchy-visit.result c.items-items.result.now c.requires.there c.index-hierarchy-visit.is (c.items-items.ensures ∙ ap (λ (m : Module). m.items) (sym c.index-hierarchy-visit.is)) (c.requires.laid.subs c.args.visit.number c.args.visit.next c.args.live c.requires.next)

pub offset_bounds-items-item : goal.offset_bounds-items-item
offset_bounds-items-item c =
    let live = item_there c.args.hierarchy.now.modules.now c.args.visit.number c.args.live c.index-hierarchy-visit.result c.items-items.result.now c.requires.there c.index-hierarchy-visit.is (c.items-items.ensures ∙ ap (λ (m : Module). m.items) (sym c.index-hierarchy-visit.is)) (c.requires.laid.subs c.args.visit.number c.args.visit.next c.args.live c.requires.next) in
    let size = c.items-items.type_inv in
    let bound = size.1 in
    omega arith

pub bounds-hierarchy-child : goal.bounds-hierarchy-child
bounds-hierarchy-child c = child_there c.args.hierarchy.now.modules.now c.args.visit.number c.args.live (c.requires.laid.subs c.args.visit.number c.args.visit.next c.args.live c.requires.next)

pub offset_bounds-hierarchy-child : goal.offset_bounds-hierarchy-child
offset_bounds-hierarchy-child c =
    let live : c.args.live.child < length c.args.hierarchy.now.modules.now = child_there c.args.hierarchy.now.modules.now c.args.visit.number c.args.live (c.requires.laid.subs c.args.visit.number c.args.visit.next c.args.live c.requires.next) in
    search rules

pub unreachable-requires : goal.unreachable-requires
unreachable-requires c = none_there c.args.hierarchy.now.modules.now c.args.visit.number c.args.live c.index-hierarchy-visit.result c.items-items.result.now c.index-items-item.result c.requires.there c.index-hierarchy-visit.is (c.items-items.ensures ∙ ap (λ (m : Module). m.items) (sym c.index-hierarchy-visit.is)) c.index-items-item.is
    (c.requires.laid.subs c.args.visit.number c.args.visit.next c.args.live c.requires.next) (sym c.sub_in.ensures ∙ ap option_copied c.in-None.is)

pub returns-clause-walks : goal.returns-clause-walks
returns-clause-walks c =
    let is = c.requires.laid.subs c.args.visit.number c.args.visit.next c.args.live c.requires.next in
    let name = sub_is c.args.hierarchy.now.modules.now c.args.visit.number c.args.live c.index-hierarchy-visit.result c.items-items.result.now c.index-items-item.result c.in-Some.sub.now c.requires.there c.index-hierarchy-visit.is (c.items-items.ensures ∙ ap (λ (m : Module). m.items) (sym c.index-hierarchy-visit.is)) c.index-items-item.is is (sym c.sub_in.ensures ∙ ap option_copied c.in-Some.is) in
    λ whole walk. entered c.args.hierarchy.now.modules.now c.args.hierarchy.now.items.now whole c.args.walk.now c.args.visit c.args.live c.in-Some.sub.now.name c.index-hierarchy-child.result c.nets-names.result.now c.prefix.result.now c.args.builder.now c.add_names.new.builder c.go_on.new.self c.add_names.result
    c.requires.laid c.requires.next is (ap (λ s. s.name) name) c.index-hierarchy-child.is (c.nets-names.ensures ∙ ap (λ (m : Module). m.nets) (sym c.index-hierarchy-child.is)) c.in_ok-go_on-in-Some.ensures.stand c.prefix.ensures (c.in_ok-go_on-in-Some.ensures.printed c.requires.printed) c.add_names.ensures walk

pub returns-clause-fewer : goal.returns-clause-fewer
returns-clause-fewer c =
    let is = c.requires.laid.subs c.args.visit.number c.args.visit.next c.args.live c.requires.next in
    fewer c.args.hierarchy.now.modules.now c.args.hierarchy.now.items.now c.args.walk.now c.args.visit c.args.live c.in-Some.sub.now.name c.go_on.new.self c.add_names.result c.requires.laid c.requires.next is c.in_ok-go_on-in-Some.ensures.stand
