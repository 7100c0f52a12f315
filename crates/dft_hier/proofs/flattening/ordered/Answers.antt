use Rattle.std.proofs.Common.{◌∙◌}
use Rattle.dft_hier.proofs.FlattenSteps.{within_of, ordered_none, first_named}
use Rattle.dft_hier.proofs.flattening.ordered.Goals as goal

pub descend-requires : goal.descend-requires
descend-requires c = within_of c.args.modules.now c.args.children.now c.requires.children

pub first_in_itself-requires-clause-within : goal.first_in_itself-requires-clause-within
first_in_itself-requires-clause-within c = within_of c.args.modules.now c.args.children.now c.requires.children

pub returns-then-walk-clause-refused : goal.returns-then-walk-clause-refused
returns-then-walk-clause-refused c = first_named c.args.modules.now c.args.children.now c.in_ok-first.first c.index-modules-first.result c.in_ok-copy.field-0 c.requires.names c.requires.children c.in_ok-first.ensures c.index-modules-first.is (c.in_ok-copy.ensures ∙ c.name.ensures)

pub returns-clause-apart : goal.returns-clause-apart
returns-clause-apart c = ordered_none c.args.modules.now c.args.children.now c.in_ok-walk.walk.order.items c.requires.names c.requires.children (c.in_ok-walk.ensures.order c.if-walk.false)
