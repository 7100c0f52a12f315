-- The operands before this one have their values.
use Rattle.std.proofs.Common.{◌≡◌, map, take}
use Rattle.dft_behavior.specs.Settled.{value_from}
use Rattle.dft_logic.specs.Values.{value_at}
use Rattle.dft_logic.specs.Circuit.{source_at}
use Rattle.dft_sweep.proofs.gates.gather.Given as goal

abbrev pub invariant-loop-place : goal.invariant-loop-place
invariant-loop-place l = take l.place l.row ≡ map (value_from (value_at l.values)) (map source_at (take l.place l.inputs))
