-- Marks of nets.
use Rattle.std.specs.Prelude.{replicate}
use Rattle.std.proofs.Common.{List, false, inl, inr, length, refl, subst, suc, sym, zero, ◌<◌, ◌≡◌, ℕ}
use Rattle.std.proofs.lemmas.List.{get_or_past}
use Rattle.std.proofs.lemmas.Bool.Decides.{leb_tells}
use Rattle.dft_netlist.specs.Orders.{Has}
use Rattle.dft_behavior.specs.Logic.{reads}
use Rattle.dft_logic.specs.Circuit.{Circuit, IsCircuit, flag_at, meaning, op_at}
use Rattle.dft_logic.specs.declared.circuit.Op.TheVariants.{Free}
use Rattle.dft_logic.specs.declared.circuit.Op.{Op}
use Rattle.dft_logic.specs.Tables.{list_at}

pub down_all : (count e : ℕ) → flag_at (replicate count false) e ≡ false
down_all zero e = refl
down_all (suc count) zero = refl
down_all (suc count) (suc e) = down_all count e

-- a net that is none of the readers does not read it
pub blind : (x : Circuit) (net k : ℕ) (readers : List ℕ) → IsCircuit x → net < length x.ops → readers ≡ list_at x.readers net → (Has readers k → ⊥) → Has (reads (meaning (op_at x.ops k))) net → ⊥
blind x net k readers is live e none h = elim (leb_tells (length x.ops) k) [
  | inl out ↦ (let P : Op → Type 0 = λ o. Has (reads (meaning o)) net in subst P (get_or_past x.ops k Free out.1) h)
  | inr less ↦ (let Q : List ℕ → Type 0 = λ l. Has l k in none (subst Q (sym e) (is.tables.readers.each net k less.1 live h)))
]
