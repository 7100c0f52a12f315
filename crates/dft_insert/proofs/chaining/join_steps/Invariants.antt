use Rattle.std.proofs.Common.{◌≡◌, ◌-◌, length}
use Rattle.std.specs.List.{range_with_len}
use Rattle.dft_parts.proofs.Runs.{Goes}
use Rattle.dft_insert.specs.Chained.{a_step}
use Rattle.dft_insert.proofs.chaining.join_steps.Given as goal

abbrev pub invariant-loop-place : goal.invariant-loop-place
invariant-loop-place l =
    Goes (a_step l.design l.cells l.row) (range_with_len 0 (length l.cells)) (range_with_len l.place (length l.cells - l.place)) l.fn.parts l.parts × (length l.parts.netlist.nets ≡ length l.fn.parts.netlist.nets)
