use Rattle.std.proofs.Common.{◌≡◌, ◌∙◌, IfOk, subst, sym}
use Rattle.dft_base.specs.Lexing.{Text}
use Rattle.dft_base.specs.Name.{IsName}
use Rattle.dft_configuring.proofs.naming.free_name.Goals as goal

pub from_slice-requires : goal.from_slice-requires
from_slice-requires c = subst IsName (sym c.deref.ensures.value) c.in_ok-bytes.ensures.name

pub returns : goal.returns
returns c = subst (λ (l : Text). IfOk c.from_slice.result (λ (free : Text). free ≡ l)) (c.deref.ensures.value ∙ c.in_ok-bytes.ensures.free) c.from_slice.ensures
