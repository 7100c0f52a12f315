use Rattle.std.proofs.Common.{◌∙◌, sym}
use Rattle.dft_configuring.proofs.CheckLemmas.{more_nets, no_nets, some_nets}
use Rattle.dft_configuring.proofs.checking.check_clocks.Goals as goal

pub returns-then-is_empty-clause-refused : goal.returns-then-is_empty-clause-refused
returns-then-is_empty-clause-refused c = no_nets c.args.domains.now (sym c.is_empty.ensures ∙ c.if-is_empty.true)

pub returns-clause-some : goal.returns-clause-some
returns-clause-some c = more_nets c.args.domains.now (sym c.is_empty.ensures ∙ c.if-is_empty.false)

pub returns-clause-ok : goal.returns-clause-ok
returns-clause-ok c = some_nets c.args.domains.now (sym c.is_empty.ensures ∙ c.if-is_empty.false)
