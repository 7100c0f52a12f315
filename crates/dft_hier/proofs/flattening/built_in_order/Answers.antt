use Rattle.std.proofs.Common.{List, subst}
use Rattle.dft_hier.specs.declared.weights.Weight.{Weight}
use Rattle.dft_hier.specs.Weights.{AreLive}
use Rattle.dft_hier.proofs.FlattenSteps.{within_of, hierarchy_laid, built_whole, built_refused}
use Rattle.dft_hier.proofs.flattening.built_in_order.Goals as goal

pub weights-requires-clause-within : goal.weights-requires-clause-within
weights-requires-clause-within c = within_of c.args.modules.now c.args.children.now c.requires.children

pub built-requires-clause-laid : goal.built-requires-clause-laid
built-requires-clause-laid c =
    let live = subst (λ (ws : List Weight). AreLive c.args.modules.now c.args.children.now ws c.in_ok-items.items.items) c.deref.ensures.value c.in_ok-items.ensures in
    rw (c.deref-2.ensures.value, c.deref-3.ensures.value)
    (hierarchy_laid c.args.modules.now c.args.children.now c.args.library c.args.order.now c.args.top c.in_ok-weights.weights.items c.in_ok-items.items.items c.requires.sound c.requires.children c.requires.order c.requires.top c.in_ok-weights.ensures live)

pub returns-in-Ok-clause-flat : goal.returns-in-Ok-clause-flat
returns-in-Ok-clause-flat c = built_whole c.args.modules.now c.args.library c.args.top c.in-Ok.builder c.requires.top c.in-Ok.ensures

pub returns-clause-refused : goal.returns-clause-refused
returns-clause-refused c = rw c.told.ensures (built_refused c.args.modules.now c.args.library c.args.top c.in-Err.error c.requires.top c.in-Err.ensures)
