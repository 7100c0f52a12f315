use Rattle.dft_configuring.proofs.CheckLemmas.{chains_past, chains_within}
use Rattle.dft_configuring.proofs.checking.check_chains.Goals as goal

pub returns-then-chains-gt1024-clause-refused : goal.returns-then-chains-gt1024-clause-refused
returns-then-chains-gt1024-clause-refused c = rw c.too_many.ensures (chains_past c.args.chains c.if-chains-gt1024.true)

pub returns-clause-ok : goal.returns-clause-ok
returns-clause-ok c = chains_within c.args.chains c.if-chains-gt1024.false
