use Rattle.std.proofs.Common.{◌≡◌, ℕ, None, Option, refl, subst, sym}
use Rattle.std.specs.Prelude.{IfErr, OnOk}
use Rattle.dft_configuring.specs.Causes.{IsCheck}
use Rattle.dft_configuring.specs.Refusals.{many_masks}
use Rattle.dft_configuring.proofs.checking.check_masks.Goals as goal

pub returns-in-Some-clause-ok : goal.returns-in-Some-clause-ok
returns-in-Some-clause-ok c = subst (λ (o : Option ℕ). OnOk c.check_wished_masks.result (many_masks c.args.chains o ≡ None)) (sym c.in-Some.is) c.check_wished_masks.ensures.ok

pub returns-in-Some-clause-refused : goal.returns-in-Some-clause-refused
returns-in-Some-clause-refused c = subst (λ (o : Option ℕ). IfErr c.check_wished_masks.result (IsCheck (many_masks c.args.chains o))) (sym c.in-Some.is) c.check_wished_masks.ensures.refused

pub returns-in-None-clause-ok : goal.returns-in-None-clause-ok
returns-in-None-clause-ok c = rw c.in-None.is refl
