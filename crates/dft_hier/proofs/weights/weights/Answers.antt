use Rattle.std.proofs.Common.{◌≡◌, ◌<◌, ℕ, List, [], length, get_or, Some, slice_get, sym, ap, ◌∙◌, arith}
use Rattle.std.proofs.lemmas.List.{get_or_read}
use Rattle.std.proofs.lemmas.Option.{slice_get-get_or}
use Rattle.dft_modules.specs.Modules.{Module}
use Rattle.dft_hier.specs.declared.weights.Weight.{Weight}
use Rattle.dft_hier.specs.Weights.{weight_by}
use Rattle.dft_hier.proofs.WeightLemmas.{weighed_next, all_weighed}
use Rattle.dft_hier.proofs.weights.weights.Goals as goal

pub loop-number-preserved : goal.loop-number-preserved
loop-number-preserved c =
    let ms : List Module = c.args.modules.now in
    let g : List (List ℕ) = c.args.children.now in
    let order : List ℕ = c.args.order.now in
    let index = c.loop-number.number-index in
    let number : ℕ = get_or order index 0 in
    let m : Module = c.index-modules-number.result in
    let below : number < length g = c.requires.below index 0 c.loop-number-test.true in
    let count = c.requires.count in
    let live : number < length ms = omega arith in
    let at : slice_get order index ≡ Some number = slice_get-get_or order index 0 c.loop-number-test.true in
    let there : slice_get ms number ≡ Some m = slice_get-get_or ms number m live ∙ ap (λ (x : Module). Some x) (sym c.index-modules-number.is) in
    let are = c.as_slice.ensures ∙ get_or_read g number c.index-children-number.result below c.index-children-number.is [] in
    weighed_next ms g order index number m c.as_slice.result.now c.weight_of.result c.loop-number.weights.items c.requires.order at there are
    (c.weight_of.ensures.value ∙ ap (λ (ws : List Weight). weight_by m c.as_slice.result.now ws) c.deref.ensures.value) c.weight_of.ensures.few c.loop-number.invariant

pub returns : goal.returns
returns c = all_weighed c.args.modules.now c.args.children.now c.args.order.now c.loop-number.number-index c.loop-number.weights.items c.requires.order c.requires.count c.loop-number-test.false c.loop-number.invariant
