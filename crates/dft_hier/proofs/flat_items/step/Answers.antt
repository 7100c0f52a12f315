use Rattle.std.proofs.Common.{◌<◌, length, sym, ap, ◌∙◌, arith, rules}
use Rattle.std.proofs.lemmas.Option.{slice_get_within}
use Rattle.dft_hier.specs.Weights.{Live}
use Rattle.dft_hier.proofs.ItemWalkLemmas.{items_back, back_fewer}
use Rattle.dft_hier.proofs.PassLemmas.{visited, item_next, items_over}
use Rattle.dft_hier.proofs.flat_items.step.Goals as goal

pub bounds-hierarchy-visit : goal.bounds-hierarchy-visit
bounds-hierarchy-visit c =
    let h = c.args.hierarchy.now in
    let st = c.requires.stands in
    let less = visited h.modules.now h.items.now h.weights.now c.args.builder.now.library st.whole c.args.walk.now c.args.visit c.args.builder.now st.walk in
    let count = c.requires.laid.count in
    omega arith

pub offset_bounds-hierarchy-visit : goal.offset_bounds-hierarchy-visit
offset_bounds-hierarchy-visit c =
    let h = c.args.hierarchy.now in
    let st = c.requires.stands in
    let less = visited h.modules.now h.items.now h.weights.now c.args.builder.now.library st.whole c.args.walk.now c.args.visit c.args.builder.now st.walk in
    let count = c.requires.laid.count in
    let live : c.args.visit.number < length c.args.hierarchy.now.items.now = omega arith in
    search rules

pub pass-requires-clause-next : goal.pass-requires-clause-next
pass-requires-clause-next c =
    let h = c.args.hierarchy.now in
    let st = c.requires.stands in
    let there = visited h.modules.now h.items.now h.weights.now c.args.builder.now.library st.whole c.args.walk.now c.args.visit c.args.builder.now st.walk in
    let count = c.requires.laid.count in
    let less : c.args.visit.number < length c.args.hierarchy.now.items.now = omega arith in
    item_next h.items.now c.args.visit.number c.args.visit.item c.index-hierarchy-visit.result c.items-live.result.now c.in-Some.next less c.index-hierarchy-visit.is (c.items-live.ensures ∙ ap (λ (x : Live). x.items) (sym c.index-hierarchy-visit.is)) (sym c.item_at.ensures ∙ c.in-Some.is)

pub pass-requires-clause-small : goal.pass-requires-clause-small
pass-requires-clause-small c =
    let within = slice_get_within c.items-live.result.now c.args.visit.item c.in-Some.next (sym c.item_at.ensures ∙ c.in-Some.is) in
    let size = c.items-live.type_inv.0 in
    omega arith

pub returns-in-None-clause-walks : goal.returns-in-None-clause-walks
returns-in-None-clause-walks c =
    let h = c.args.hierarchy.now in
    let st = c.requires.stands in
    let there = visited h.modules.now h.items.now h.weights.now c.args.builder.now.library st.whole c.args.walk.now c.args.visit c.args.builder.now st.walk in
    let count = c.requires.laid.count in
    let less : c.args.visit.number < length c.args.hierarchy.now.items.now = omega arith in
    let past = items_over h.items.now c.args.visit.number c.args.visit.item c.index-hierarchy-visit.result c.items-live.result.now less c.index-hierarchy-visit.is (c.items-live.ensures ∙ ap (λ (x : Live). x.items) (sym c.index-hierarchy-visit.is)) (sym c.item_at.ensures ∙ c.in-None.is) in
    λ whole walk. items_back h.modules.now h.items.now h.weights.now c.args.builder.now.library whole c.args.walk.now c.args.visit c.args.builder.now past walk

pub returns-in-None-clause-fewer : goal.returns-in-None-clause-fewer
returns-in-None-clause-fewer c =
    let h = c.args.hierarchy.now in
    back_fewer h.modules.now h.items.now h.weights.now c.args.builder.now.library c.args.walk.now.way c.args.visit
