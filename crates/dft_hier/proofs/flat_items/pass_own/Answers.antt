use Rattle.std.proofs.Common.{◌<◌, ◌≤◌, length, take, sym, ap, subst, ◌∙◌, arith, rules}
use Rattle.std.proofs.lemmas.List.Elements.{All-take}
use Rattle.dft_hier.specs.Growing.{IsPrefix}
use Rattle.dft_modules.specs.Modules.{Module}
use Rattle.dft_hier.specs.ItemWalks.{ItemStand}
use Rattle.dft_hier.proofs.ItemWalkLemmas.{own_fits}
use Rattle.dft_hier.proofs.PassLemmas.{visited, own_within, own_at, prefix_within, own_walked, own_less}
use Rattle.dft_hier.proofs.flat_items.pass_own.Goals as goal
use Rattle.dft_hier.proofs.EnterLemmas.{items_are}

pub bounds-hierarchy-visit : goal.bounds-hierarchy-visit
bounds-hierarchy-visit c =
    let h = c.args.hierarchy.now in
    let st = c.requires.stands in
    visited h.modules.now h.items.now h.weights.now c.args.builder.now.library st.whole c.args.walk.now c.args.visit c.args.builder.now st.walk

pub offset_bounds-hierarchy-visit : goal.offset_bounds-hierarchy-visit
offset_bounds-hierarchy-visit c =
    let h = c.args.hierarchy.now in
    let st = c.requires.stands in
    let less : c.args.visit.number < length c.args.hierarchy.now.modules.now = visited h.modules.now h.items.now h.weights.now c.args.builder.now.library st.whole c.args.walk.now c.args.visit c.args.builder.now st.walk in
    search rules

pub prefix-prefix-requires : goal.prefix-prefix-requires
prefix-prefix-requires c =
    let h = c.args.hierarchy.now in
    let st = c.requires.stands in
    rw c.in_ok-push.ensures (prefix_within h.modules.now h.items.now h.weights.now c.args.builder.now.library st.whole c.args.walk.now c.args.visit c.args.builder.now st.walk)

pub bounds-items-place : goal.bounds-items-place
bounds-items-place c =
    let h = c.args.hierarchy.now in
    let st = c.requires.stands in
    let less = visited h.modules.now h.items.now h.weights.now c.args.builder.now.library st.whole c.args.walk.now c.args.visit c.args.builder.now st.walk in
    own_within h.modules.now c.args.visit.number c.args.place c.items-items.result.now (items_are h.modules.now c.args.visit.number c.index-hierarchy-visit.result c.items-items.result.now less c.index-hierarchy-visit.is (c.items-items.ensures ∙ ap (λ (m : Module). m.items) (sym c.index-hierarchy-visit.is))) (c.requires.laid.owns c.args.visit.number c.args.visit.item c.args.place c.requires.next)

pub offset_bounds-items-place : goal.offset_bounds-items-place
offset_bounds-items-place c =
    let h = c.args.hierarchy.now in
    let st = c.requires.stands in
    let less = visited h.modules.now h.items.now h.weights.now c.args.builder.now.library st.whole c.args.walk.now c.args.visit c.args.builder.now st.walk in
    let live = own_within h.modules.now c.args.visit.number c.args.place c.items-items.result.now (items_are h.modules.now c.args.visit.number c.index-hierarchy-visit.result c.items-items.result.now less c.index-hierarchy-visit.is (c.items-items.ensures ∙ ap (λ (m : Module). m.items) (sym c.index-hierarchy-visit.is))) (c.requires.laid.owns c.args.visit.number c.args.visit.item c.args.place c.requires.next) in
    let size = c.items-items.type_inv in
    let bound = size.1 in
    omega arith

pub add_own-requires-clause-prefix : goal.add_own-requires-clause-prefix
add_own-requires-clause-prefix c =
    let st = c.requires.stands in
    let all : IsPrefix c.push.new.self.prefix = subst (λ (s : ItemStand). IsPrefix s.prefix) (sym c.in_ok-push.ensures) st.walk.printed in
    rw c.prefix-prefix.ensures (All-take (λ b. (33 ≤ b) × (b ≤ 126)) c.args.visit.prefix c.push.new.self.prefix all)

pub add_own-requires-clause-fits : goal.add_own-requires-clause-fits
add_own-requires-clause-fits c =
    let h = c.args.hierarchy.now in
    let st = c.requires.stands in
    let less = visited h.modules.now h.items.now h.weights.now c.args.builder.now.library st.whole c.args.walk.now c.args.visit c.args.builder.now st.walk in
    let at = own_at h.modules.now c.args.visit.number c.args.place c.items-items.result.now c.index-items-place.result (items_are h.modules.now c.args.visit.number c.index-hierarchy-visit.result c.items-items.result.now less c.index-hierarchy-visit.is (c.items-items.ensures ∙ ap (λ (m : Module). m.items) (sym c.index-hierarchy-visit.is))) (c.requires.laid.owns c.args.visit.number c.args.visit.item c.args.place c.requires.next) c.index-items-place.is in
    own_fits h.modules.now h.items.now h.weights.now c.args.builder.now.library st.whole c.args.walk.now c.args.visit c.args.builder.now c.index-items-place.result c.args.place c.requires.laid at st.walk

pub returns-clause-walks : goal.returns-clause-walks
returns-clause-walks c =
    let h = c.args.hierarchy.now in
    let st = c.requires.stands in
    let less = visited h.modules.now h.items.now h.weights.now c.args.builder.now.library st.whole c.args.walk.now c.args.visit c.args.builder.now st.walk in
    let at = own_at h.modules.now c.args.visit.number c.args.place c.items-items.result.now c.index-items-place.result (items_are h.modules.now c.args.visit.number c.index-hierarchy-visit.result c.items-items.result.now less c.index-hierarchy-visit.is (c.items-items.ensures ∙ ap (λ (m : Module). m.items) (sym c.index-hierarchy-visit.is))) (c.requires.laid.owns c.args.visit.number c.args.visit.item c.args.place c.requires.next) c.index-items-place.is in
    λ whole walk. own_walked h.modules.now h.items.now h.weights.now c.args.builder.now.library whole c.args.walk.now c.args.visit c.args.builder.now c.add_own.new.builder c.index-items-place.result c.args.place c.prefix-prefix.result.now c.push.new.self c.add_own.result
    c.requires.next at (c.prefix-prefix.ensures ∙ ap (λ (s : ItemStand). take c.args.visit.prefix s.prefix) c.in_ok-push.ensures) c.in_ok-push.ensures c.add_own.ensures walk

pub returns-clause-fewer : goal.returns-clause-fewer
returns-clause-fewer c =
    let h = c.args.hierarchy.now in
    own_less h.modules.now h.items.now h.weights.now c.args.builder.now.library c.args.walk.now c.args.visit c.args.place c.push.new.self c.add_own.result c.requires.next c.in_ok-push.ensures
