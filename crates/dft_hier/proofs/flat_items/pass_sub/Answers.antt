use Rattle.std.proofs.Common.{◌<◌, List, length, option_copied, refl, sym, ap, subst, ◌∙◌, arith, rules}
use Rattle.dft_base.specs.Lexing.{Text}
use Rattle.dft_modules.specs.Modules.{Module}
use Rattle.dft_hier.specs.Growing.{IsPrefix}
use Rattle.dft_hier.specs.ItemWalks.{ItemStand, gone_into}
use Rattle.dft_hier.proofs.EnterLemmas.{item_there, child_there, sub_is, none_there}
use Rattle.dft_hier.proofs.PassLemmas.{visited, sub_connects, sub_entered, sub_less, sub_small}
use Rattle.dft_hier.proofs.flat_items.pass_sub.Goals as goal

pub bounds-hierarchy-visit : goal.bounds-hierarchy-visit
bounds-hierarchy-visit c =
    let h = c.args.hierarchy.now in
    let st = c.requires.stands in
    visited h.modules.now h.items.now h.weights.now c.args.builder.now.library st.whole c.args.walk.now c.args.visit c.args.builder.now st.walk

pub offset_bounds-hierarchy-visit : goal.offset_bounds-hierarchy-visit
offset_bounds-hierarchy-visit c =
    let h = c.args.hierarchy.now in
    let st = c.requires.stands in
    let less : c.args.visit.number < length c.args.hierarchy.now.modules.now = visited h.modules.now h.items.now h.weights.now c.args.builder.now.library st.whole c.args.walk.now c.args.visit c.args.builder.now st.walk in
    search rules

pub bounds-items-item : goal.bounds-items-item
bounds-items-item c =
    let h = c.args.hierarchy.now in
    let st = c.requires.stands in
    let less = visited h.modules.now h.items.now h.weights.now c.args.builder.now.library st.whole c.args.walk.now c.args.visit c.args.builder.now st.walk in
    item_there h.modules.now c.args.visit.number c.args.live c.index-hierarchy-visit.result c.items-items.result.now less c.index-hierarchy-visit.is (c.items-items.ensures ∙ ap (λ (m : Module). m.items) (sym c.index-hierarchy-visit.is)) (c.requires.laid.subs c.args.visit.number c.args.visit.item c.args.live c.requires.next)

pub offset_bounds-items-item : goal.offset_bounds-items-item
offset_bounds-items-item c =
    let h = c.args.hierarchy.now in
    let st = c.requires.stands in
    let less = visited h.modules.now h.items.now h.weights.now c.args.builder.now.library st.whole c.args.walk.now c.args.visit c.args.builder.now st.walk in
    let live = item_there h.modules.now c.args.visit.number c.args.live c.index-hierarchy-visit.result c.items-items.result.now less c.index-hierarchy-visit.is (c.items-items.ensures ∙ ap (λ (m : Module). m.items) (sym c.index-hierarchy-visit.is)) (c.requires.laid.subs c.args.visit.number c.args.visit.item c.args.live c.requires.next) in
    let size = c.items-items.type_inv in
    let bound = size.1 in
    omega arith

pub bounds-hierarchy-child : goal.bounds-hierarchy-child
bounds-hierarchy-child c = child_there c.args.hierarchy.now.modules.now c.args.visit.number c.args.live (c.requires.laid.subs c.args.visit.number c.args.visit.item c.args.live c.requires.next)

pub offset_bounds-hierarchy-child : goal.offset_bounds-hierarchy-child
offset_bounds-hierarchy-child c =
    let live : c.args.live.child < length c.args.hierarchy.now.modules.now = child_there c.args.hierarchy.now.modules.now c.args.visit.number c.args.live (c.requires.laid.subs c.args.visit.number c.args.visit.item c.args.live c.requires.next) in
    search rules

pub unreachable-requires : goal.unreachable-requires
unreachable-requires c =
    let h = c.args.hierarchy.now in
    let st = c.requires.stands in
    let less = visited h.modules.now h.items.now h.weights.now c.args.builder.now.library st.whole c.args.walk.now c.args.visit c.args.builder.now st.walk in
    none_there h.modules.now c.args.visit.number c.args.live c.index-hierarchy-visit.result c.items-items.result.now c.index-items-item.result less c.index-hierarchy-visit.is (c.items-items.ensures ∙ ap (λ (m : Module). m.items) (sym c.index-hierarchy-visit.is)) c.index-items-item.is
    (c.requires.laid.subs c.args.visit.number c.args.visit.item c.args.live c.requires.next) (sym c.sub_in.ensures ∙ ap option_copied c.in-None.is)

pub add_connections-requires-clause-bits : goal.add_connections-requires-clause-bits
add_connections-requires-clause-bits c =
    let h = c.args.hierarchy.now in
    let st = c.requires.stands in
    let is = c.requires.laid.subs c.args.visit.number c.args.visit.item c.args.live c.requires.next in
    let less = visited h.modules.now h.items.now h.weights.now c.args.builder.now.library st.whole c.args.walk.now c.args.visit c.args.builder.now st.walk in
    let sub = sub_is h.modules.now c.args.visit.number c.args.live c.index-hierarchy-visit.result c.items-items.result.now c.index-items-item.result c.in-Some.sub.now less c.index-hierarchy-visit.is (c.items-items.ensures ∙ ap (λ (m : Module). m.items) (sym c.index-hierarchy-visit.is)) c.index-items-item.is is (sym c.sub_in.ensures ∙ ap option_copied c.in-Some.is) in
    let all = sub_connects h.modules.now h.items.now h.weights.now c.args.builder.now.library st.whole c.args.walk.now c.args.visit c.args.builder.now c.args.live c.index-hierarchy-child.result c.in-Some.sub.now c.ports-ports.result.now c.as_slice-connections.result.now is c.requires.laid c.requires.next st.walk c.index-hierarchy-child.is sub
    (c.ports-ports.ensures ∙ ap (λ (m : Module). m.ports) (sym c.index-hierarchy-child.is)) c.as_slice-connections.ensures in
    all.0

pub add_connections-requires-clause-signals : goal.add_connections-requires-clause-signals
add_connections-requires-clause-signals c =
    let h = c.args.hierarchy.now in
    let st = c.requires.stands in
    let is = c.requires.laid.subs c.args.visit.number c.args.visit.item c.args.live c.requires.next in
    let less = visited h.modules.now h.items.now h.weights.now c.args.builder.now.library st.whole c.args.walk.now c.args.visit c.args.builder.now st.walk in
    let sub = sub_is h.modules.now c.args.visit.number c.args.live c.index-hierarchy-visit.result c.items-items.result.now c.index-items-item.result c.in-Some.sub.now less c.index-hierarchy-visit.is (c.items-items.ensures ∙ ap (λ (m : Module). m.items) (sym c.index-hierarchy-visit.is)) c.index-items-item.is is (sym c.sub_in.ensures ∙ ap option_copied c.in-Some.is) in
    let all = sub_connects h.modules.now h.items.now h.weights.now c.args.builder.now.library st.whole c.args.walk.now c.args.visit c.args.builder.now c.args.live c.index-hierarchy-child.result c.in-Some.sub.now c.ports-ports.result.now c.as_slice-connections.result.now is c.requires.laid c.requires.next st.walk c.index-hierarchy-child.is sub
    (c.ports-ports.ensures ∙ ap (λ (m : Module). m.ports) (sym c.index-hierarchy-child.is)) c.as_slice-connections.ensures in
    all.1

pub add_connections-requires-clause-fits : goal.add_connections-requires-clause-fits
add_connections-requires-clause-fits c =
    let h = c.args.hierarchy.now in
    let st = c.requires.stands in
    let is = c.requires.laid.subs c.args.visit.number c.args.visit.item c.args.live c.requires.next in
    let less = visited h.modules.now h.items.now h.weights.now c.args.builder.now.library st.whole c.args.walk.now c.args.visit c.args.builder.now st.walk in
    let sub = sub_is h.modules.now c.args.visit.number c.args.live c.index-hierarchy-visit.result c.items-items.result.now c.index-items-item.result c.in-Some.sub.now less c.index-hierarchy-visit.is (c.items-items.ensures ∙ ap (λ (m : Module). m.items) (sym c.index-hierarchy-visit.is)) c.index-items-item.is is (sym c.sub_in.ensures ∙ ap option_copied c.in-Some.is) in
    let all = sub_connects h.modules.now h.items.now h.weights.now c.args.builder.now.library st.whole c.args.walk.now c.args.visit c.args.builder.now c.args.live c.index-hierarchy-child.result c.in-Some.sub.now c.ports-ports.result.now c.as_slice-connections.result.now is c.requires.laid c.requires.next st.walk c.index-hierarchy-child.is sub
    (c.ports-ports.ensures ∙ ap (λ (m : Module). m.ports) (sym c.index-hierarchy-child.is)) c.as_slice-connections.ensures in
    all.2

pub nets_at-below-requires : goal.nets_at-below-requires
nets_at-below-requires c =
    let live = child_there c.args.hierarchy.now.modules.now c.args.visit.number c.args.live (c.requires.laid.subs c.args.visit.number c.args.visit.item c.args.live c.requires.next) in
    let size = c.requires.laid.weighed in
    omega arith

pub overflow_add-visit-in-Some : goal.overflow_add-visit-in-Some
overflow_add-visit-in-Some c =
    let h = c.args.hierarchy.now in
    let st = c.requires.stands in
    let is = c.requires.laid.subs c.args.visit.number c.args.visit.item c.args.live c.requires.next in
    let small = sub_small h.modules.now h.items.now h.weights.now c.args.builder.now.library st.whole c.args.walk.now c.args.visit c.args.builder.now c.args.live c.index-hierarchy-child.result c.nets_at-below.result (length c.index-hierarchy-child.result.nets) is c.requires.laid c.requires.next c.index-hierarchy-child.is c.nets_at-below.ensures refl st.walk in
    let fits = small.0 in
    omega arith

pub go_into-requires : goal.go_into-requires
go_into-requires c =
    let h = c.args.hierarchy.now in
    let st = c.requires.stands in
    let is = c.requires.laid.subs c.args.visit.number c.args.visit.item c.args.live c.requires.next in
    let small = sub_small h.modules.now h.items.now h.weights.now c.args.builder.now.library st.whole c.args.walk.now c.args.visit c.args.builder.now c.args.live c.index-hierarchy-child.result c.nets_at-below.result (length c.nets-names.result.now) is c.requires.laid c.requires.next c.index-hierarchy-child.is c.nets_at-below.ensures (ap (λ (ns : List Text). length ns) (c.nets-names.ensures ∙ ap (λ (m : Module). m.nets) (sym c.index-hierarchy-child.is))) st.walk in
    small.1

pub returns-clause-walks : goal.returns-clause-walks
returns-clause-walks c =
    let h = c.args.hierarchy.now in
    let st = c.requires.stands in
    let is = c.requires.laid.subs c.args.visit.number c.args.visit.item c.args.live c.requires.next in
    let less = visited h.modules.now h.items.now h.weights.now c.args.builder.now.library st.whole c.args.walk.now c.args.visit c.args.builder.now st.walk in
    let sub = sub_is h.modules.now c.args.visit.number c.args.live c.index-hierarchy-visit.result c.items-items.result.now c.index-items-item.result c.in-Some.sub.now less c.index-hierarchy-visit.is (c.items-items.ensures ∙ ap (λ (m : Module). m.items) (sym c.index-hierarchy-visit.is)) c.index-items-item.is is (sym c.sub_in.ensures ∙ ap option_copied c.in-Some.is) in
    let stand = c.in_ok-go_into-in-Some.ensures.stand ∙ ap (λ (x : ItemStand). gone_into x c.args.visit c.in-Some.sub.now.name c.args.live.child (length c.nets-names.result.now)) c.in_ok-push-in-Some.ensures in
    let printed = subst (λ (x : ItemStand). IsPrefix x.prefix) (sym c.in_ok-push-in-Some.ensures) st.walk.printed in
    λ whole walk. sub_entered h.modules.now h.items.now h.weights.now c.args.builder.now.library whole c.args.walk.now c.args.visit c.args.builder.now c.add_connections.new.builder c.args.live c.index-hierarchy-child.result c.in-Some.sub.now c.ports-ports.result.now c.as_slice-connections.result.now
    c.nets_at-below.result (length c.nets-names.result.now) c.go_into.new.self is c.requires.laid c.requires.next c.index-hierarchy-child.is sub (c.ports-ports.ensures ∙ ap (λ (m : Module). m.ports) (sym c.index-hierarchy-child.is)) c.as_slice-connections.ensures c.nets_at-below.ensures (ap (λ (ns : List Text). length ns) (c.nets-names.ensures ∙ ap (λ (m : Module). m.nets) (sym c.index-hierarchy-child.is)))
    c.in_ok-add_connections-in-Some.ensures stand (c.in_ok-go_into-in-Some.ensures.printed printed) walk

pub returns-clause-fewer : goal.returns-clause-fewer
returns-clause-fewer c =
    let h = c.args.hierarchy.now in
    let st = c.requires.stands in
    let is = c.requires.laid.subs c.args.visit.number c.args.visit.item c.args.live c.requires.next in
    let stand = c.in_ok-go_into-in-Some.ensures.stand ∙ ap (λ (x : ItemStand). gone_into x c.args.visit c.in-Some.sub.now.name c.args.live.child (length c.nets-names.result.now)) c.in_ok-push-in-Some.ensures in
    sub_less h.modules.now h.items.now h.weights.now c.args.builder.now.library c.args.walk.now c.args.visit c.args.live c.in-Some.sub.now.name c.nets_at-below.result (length c.nets-names.result.now) c.go_into.new.self c.requires.laid is c.requires.next stand
