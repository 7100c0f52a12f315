-- A sweep over the nets of a circuit, in its order.
use Rattle.std.specs.Prelude.{ℕ, Bool, false, ◌≡◌, ◌<◌, ◌⊎◌, List, length, drop}
use Rattle.std.specs.List.{AllByRecursion}
use Rattle.dft_netlist.specs.declared.ids.NetId.{NetId}
use Rattle.dft_behavior.specs.Logic.{reads}
use Rattle.dft_netlist.specs.Orders.{Has, numbers_of}
use Rattle.dft_logic.specs.declared.circuit.Op.{Op}
use Rattle.dft_logic.specs.Circuit.{meaning, op_at, AreOrdered, flag_at}

-- the nets before a place of the order are not marked, and each net that is not marked is as it shall be given
pub record Sweeping (ops : List Op) (Given : ℕ → Type 0) (order : List NetId) (marked : List Bool) (j : ℕ) : Type 0 where
  pub before : List ℕ
  pub rest : AreOrdered ops before (numbers_of (drop j order))
  pub closed : (k : ℕ) → Has before k → AllByRecursion (Has before) (reads (meaning (op_at ops k)))
  pub clean : (k : ℕ) → Has before k → flag_at marked k ≡ false
  pub given : (k : ℕ) → flag_at marked k ≡ false → Given k
  pub either : (k : ℕ) → k < length ops → Has before k ⊎ Has (numbers_of (drop j order)) k
