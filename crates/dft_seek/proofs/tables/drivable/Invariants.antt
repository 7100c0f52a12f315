-- Those of the first ones.
use Rattle.std.proofs.Common.{◌≡◌, filter, take}
use Rattle.std.specs.Prelude.{◌&&◌, not}
use Rattle.dft_logic.specs.Circuit.{flag_at, meaning, op_at}
use Rattle.dft_seek.specs.Steps.{is_input_of}
use Rattle.dft_seek.proofs.tables.drivable.Given as goal

abbrev pub invariant-loop-net : goal.invariant-loop-net
invariant-loop-net l = l.ports.items ≡ filter (λ net. is_input_of (meaning (op_at l.ops net.0)) && not (flag_at l.resets net.0)) (take l.net-index l.nets)
