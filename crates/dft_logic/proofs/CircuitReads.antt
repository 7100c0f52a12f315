-- What is read of a circuit's fields is what it shows.
use Rattle.std.proofs.Common.{ℕ, Option, ◌≡◌, subst, get_or}
use Rattle.dft_netlist.specs.declared.ids.NetId.{NetId}
use Rattle.dft_logic.specs.declared.circuit.Op.{Op}
use Rattle.dft_logic.specs.declared.circuit.FlipFlop.{FlipFlop}
use Rattle.dft_logic.specs.declared.circuit.Latch.{Latch}
use Rattle.dft_logic.specs.Circuit.{Circuit}

pub net_read : (x y : Circuit) (k : ℕ) (net : NetId) → x ≡ y → net ≡ get_or x.order k net → net ≡ get_or y.order k net
net_read x y k net same is = subst (λ (m : Circuit). net ≡ get_or m.order k net) same is

pub op_read : (x y : Circuit) (k : ℕ) (op : Op) → x ≡ y → op ≡ get_or x.ops k op → op ≡ get_or y.ops k op
op_read x y k op same is = subst (λ (m : Circuit). op ≡ get_or m.ops k op) same is

pub flop_read : (x y : Circuit) (k : ℕ) (flop : FlipFlop) → x ≡ y → flop ≡ get_or x.flops k flop → flop ≡ get_or y.flops k flop
flop_read x y k flop same is = subst (λ (m : Circuit). flop ≡ get_or m.flops k flop) same is

pub latch_read : (x y : Circuit) (k : ℕ) (latch : Option Latch) → x ≡ y → latch ≡ get_or x.latches k latch → latch ≡ get_or y.latches k latch
latch_read x y k latch same is = subst (λ (m : Circuit). latch ≡ get_or m.latches k latch) same is
