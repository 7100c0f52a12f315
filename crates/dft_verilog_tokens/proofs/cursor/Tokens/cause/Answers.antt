use Rattle.std.proofs.Common.{◌≡◌, true, ⊎_elim, ap, subst, sym}
use Rattle.dft_base.specs.Lexing.{Text}
use Rattle.dft_base.specs.Name.{IsName}
use Rattle.dft_verilog_tokens.specs.Cut.{carries_name}
use Rattle.dft_verilog_tokens.proofs.cursor.Tokens.cause.Goals as goal

-- each of these kinds carries a name
pub from_slice-requires : goal.from_slice-requires
from_slice-requires c =
    let carries : carries_name c.kind.result ≡ true = ⊎_elim (ap carries_name) (⊎_elim (ap carries_name) (⊎_elim (ap carries_name) (⊎_elim (ap carries_name) (⊎_elim (ap carries_name) (⊎_elim (ap carries_name) (⊎_elim (ap carries_name) (⊎_elim (ap carries_name) (⊎_elim (ap carries_name) (⊎_elim (ap carries_name) (⊎_elim (ap carries_name) (⊎_elim (ap carries_name) (⊎_elim (ap carries_name) (⊎_elim (ap carries_name) (⊎_elim (ap carries_name) (ap carries_name))))))))))))))) c.in-Module.is in
    subst (λ (bytes : Text). IsName bytes) (sym c.bytes.ensures) (c.kind.ensures.word carries)
