use Rattle.std.proofs.Common.{◌<◌, length, sym, ap, ◌∙◌, arith}
use Rattle.std.proofs.lemmas.Option.{slice_get_within}
use Rattle.dft_hier.specs.Weights.{Live}
use Rattle.dft_hier.proofs.EnterLemmas.{next_at, over_at}
use Rattle.dft_hier.proofs.NetWalkLemmas.{walks_back, steps_back}
use Rattle.dft_hier.proofs.flat_nets.step.Goals as goal

pub enter-requires-clause-next : goal.enter-requires-clause-next
enter-requires-clause-next c =
    let count = c.requires.laid.count in
    let there = c.requires.there in
    let less : c.args.visit.number < length c.args.hierarchy.now.items.now = omega arith in
    next_at c.args.hierarchy.now.items.now c.args.visit.number c.args.visit.next c.index-hierarchy-visit.result c.with_nets-live.result.now c.in-Some.next less c.index-hierarchy-visit.is (c.with_nets-live.ensures ∙ ap (λ (x : Live). x.with_nets) (sym c.index-hierarchy-visit.is)) (sym c.sub_at.ensures ∙ c.in-Some.is)

pub enter-requires-clause-small : goal.enter-requires-clause-small
enter-requires-clause-small c =
    let within = slice_get_within c.with_nets-live.result.now c.args.visit.next c.in-Some.next (sym c.sub_at.ensures ∙ c.in-Some.is) in
    let size = c.with_nets-live.type_inv.0 in
    omega arith

pub returns-in-None-clause-walks : goal.returns-in-None-clause-walks
returns-in-None-clause-walks c =
    let count = c.requires.laid.count in
    let there = c.requires.there in
    let less : c.args.visit.number < length c.args.hierarchy.now.items.now = omega arith in
    let past = over_at c.args.hierarchy.now.items.now c.args.visit.number c.args.visit.next c.index-hierarchy-visit.result c.with_nets-live.result.now less c.index-hierarchy-visit.is (c.with_nets-live.ensures ∙ ap (λ (x : Live). x.with_nets) (sym c.index-hierarchy-visit.is)) (sym c.sub_at.ensures ∙ c.in-None.is) in
    λ whole walk. walks_back c.args.hierarchy.now.modules.now c.args.hierarchy.now.items.now whole c.args.walk.now c.args.visit c.args.builder.now past walk

pub returns-in-None-clause-fewer : goal.returns-in-None-clause-fewer
returns-in-None-clause-fewer c = steps_back c.args.hierarchy.now.modules.now c.args.hierarchy.now.items.now c.args.walk.now.way c.args.visit
