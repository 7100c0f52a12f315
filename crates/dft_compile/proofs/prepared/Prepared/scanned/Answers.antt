use Rattle.std.proofs.Common.{◌≡◌, subst}
use Rattle.dft_insert.specs.declared.style.Style.TheVariants.{Edt}
use Rattle.dft_insert.specs.Statements.{scanned}
use Rattle.dft_stitch.specs.Planning.{Planned}
use Rattle.dft_compile.proofs.prepared.Prepared.scanned.Goals as goal

pub returns : goal.returns
returns c = subst (λ (p : Planned). c.self.inside.scanned ≡ scanned Edt p.design p.config) c.self.view_is c.self.invariant
