use Rattle.std.proofs.Common.{◌<◌, ◌≤◌, ℕ, subst}
use Rattle.dft_configuring.proofs.CheckLemmas.{outputs_past, outputs_within}
use Rattle.dft_configuring.proofs.checking.check_outputs.Goals as goal

pub returns-then-from-chains-clause-refused : goal.returns-then-from-chains-clause-refused
returns-then-from-chains-clause-refused c = rw c.too_many.ensures (outputs_past c.args.chains c.args.outputs (subst (λ (k : ℕ). c.args.chains < k) c.from.ensures c.if-from-chains.true))

pub returns-clause-ok : goal.returns-clause-ok
returns-clause-ok c = outputs_within c.args.chains c.args.outputs (subst (λ (k : ℕ). k ≤ c.args.chains) c.from.ensures c.if-from-chains.false)
