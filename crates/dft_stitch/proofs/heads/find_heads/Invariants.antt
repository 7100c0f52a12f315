-- The heads of the chains so far.
use Rattle.std.proofs.Common.{◌≡◌, map, take}
use Rattle.dft_stitch.specs.Chains.{begins_falling}
use Rattle.dft_stitch.proofs.heads.find_heads.Given as goal

abbrev pub invariant-loop-cells : goal.invariant-loop-cells
invariant-loop-cells l = l.heads.items ≡ map (begins_falling l.verdicts) (take l.cells-index l.chains)
