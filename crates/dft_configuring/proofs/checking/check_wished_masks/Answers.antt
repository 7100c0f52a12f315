use Rattle.std.proofs.Common.{◌<◌, ◌≤◌, ℕ, subst}
use Rattle.dft_configuring.proofs.CheckLemmas.{masks_past, masks_within}
use Rattle.dft_configuring.proofs.checking.check_wished_masks.Goals as goal

pub returns-then-from-chains-clause-refused : goal.returns-then-from-chains-clause-refused
returns-then-from-chains-clause-refused c = rw c.too_many.ensures (masks_past c.args.chains c.args.masks (subst (λ (k : ℕ). c.args.chains < k) c.from.ensures c.if-from-chains.true))

pub returns-clause-ok : goal.returns-clause-ok
returns-clause-ok c = masks_within c.args.chains c.args.masks (subst (λ (k : ℕ). k ≤ c.args.chains) c.from.ensures c.if-from-chains.false)
