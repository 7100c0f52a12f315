-- The nets before this one have their ops.
use Rattle.std.proofs.Common.{ℕ, ◌≡◌, ◌<◌, length}
use Rattle.dft_logic.specs.Circuit.{op_at}
use Rattle.dft_logic.specs.Compiling.{ports_by, IsOpOf}
use Rattle.dft_logic.proofs.building.net_ops.Given as goal

abbrev pub invariant-loop-net : goal.invariant-loop-net
invariant-loop-net l = record {
  count : length l.ops.items ≡ l.net;
  each : (k : ℕ) → k < l.net → IsOpOf l.traced.design.now (ports_by l.traced.flags.now) k (op_at l.ops.items k);
}
