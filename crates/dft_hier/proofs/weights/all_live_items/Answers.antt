use Rattle.std.proofs.Common.{◌≡◌, ◌<◌, ◌++◌, ◌∷◌, [], ℕ, List, length, cond, is_ok, sym, ap, ◌∙◌, arith}
use Rattle.std.proofs.lemmas.List.{get_or_read}
use Rattle.dft_hier.specs.Weights.{Live}
use Rattle.dft_hier.proofs.NumberLemmas.{graph_count}
use Rattle.dft_hier.proofs.LiveSteps.{lists_next, lists_all, subs_count, children_weighed}
use Rattle.dft_hier.proofs.weights.all_live_items.Goals as goal

pub live_items-requires-clause-children : goal.live_items-requires-clause-children
live_items-requires-clause-children c =
    let g : List (List ℕ) = c.args.children.now in
    let k = c.loop-number.number in
    let size = ap (λ (x : List (List ℕ)). length x) c.requires.children ∙ graph_count c.args.modules.now in
    let live : k < length g = omega (arith, size, c.loop-number-test.true) in
    subs_count c.args.modules.now g k c.index-modules-number.result c.as_slice-children.result.now c.requires.known c.requires.children c.loop-number-test.true c.index-modules-number.is (c.as_slice-children.ensures ∙ get_or_read g k c.index-children-number.result live c.index-children-number.is [])

pub live_items-requires-clause-below : goal.live_items-requires-clause-below
live_items-requires-clause-below c =
    let g : List (List ℕ) = c.args.children.now in
    let k = c.loop-number.number in
    let size = ap (λ (x : List (List ℕ)). length x) c.requires.children ∙ graph_count c.args.modules.now in
    let live : k < length g = omega (arith, size, c.loop-number-test.true) in
    children_weighed c.args.modules.now g c.args.weights.now k c.as_slice-children.result.now c.requires.children c.requires.count (c.as_slice-children.ensures ∙ get_or_read g k c.index-children-number.result live c.index-children-number.is [])

pub loop-number-preserved : goal.loop-number-preserved
loop-number-preserved c =
    let g : List (List ℕ) = c.args.children.now in
    let k = c.loop-number.number in
    let old : List Live = c.loop-number.all.items in
    let live : Live = c.in_ok-live_items.field-0 in
    let size = ap (λ (x : List (List ℕ)). length x) c.requires.children ∙ graph_count c.args.modules.now in
    let there : k < length g = omega (arith, size, c.loop-number-test.true) in
    let pushed : c.push.new.self.items ≡ old ++ live ∷ [] =
    c.push.ensures.items ∙ ap (λ b. cond b (old ++ live ∷ []) old) (sym c.map_err.ensures.variant ∙ ap is_ok c.in_ok-map_err.was) in
    lists_next c.args.modules.now g c.args.weights.now k c.index-modules-number.result c.as_slice-children.result.now live old c.push.new.self.items c.loop-number-test.true c.index-modules-number.is
    (c.as_slice-children.ensures ∙ get_or_read g k c.index-children-number.result there c.index-children-number.is []) c.in_ok-live_items.ensures pushed c.loop-number.invariant

pub returns : goal.returns
returns c =
    let end = c.loop-number.auto.number-end in
    lists_all c.args.modules.now c.args.children.now c.args.weights.now c.loop-number.number c.loop-number.all.items c.loop-number-test.false (omega arith) c.loop-number.invariant
