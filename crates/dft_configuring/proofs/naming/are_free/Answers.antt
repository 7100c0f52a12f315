use Rattle.std.proofs.Common.{◌≡◌, ℕ, Bool, Option, IfOk, subst, sym}
use Rattle.dft_configuring.specs.Names.{are_free}
use Rattle.dft_configuring.proofs.naming.are_free.Goals as goal

pub returns-in-Some : goal.returns-in-Some
returns-in-Some c = subst (λ (o : Option ℕ). IfOk c.are_ports_free.result (λ (free : Bool). free ≡ are_free c.args.design.now o c.args.name.now)) (sym c.in-Some.is) c.are_ports_free.ensures
