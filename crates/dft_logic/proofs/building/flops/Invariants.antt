-- The instances before this one.
use Rattle.dft_logic.specs.Compiling.{ports_by, AreFlops}
use Rattle.dft_logic.proofs.building.flops.Given as goal

abbrev pub invariant-loop-number : goal.invariant-loop-number
invariant-loop-number l = AreFlops l.traced.design.now (ports_by l.traced.flags.now) l.number l.flops.items
