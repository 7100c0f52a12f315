-- The weight so far, with the rest of the instances, is the weight with all.
use Rattle.std.proofs.Common.{◌≡◌, ◌+◌, ◌≤◌, drop}
use Rattle.dft_netlist.specs.declared.limits.TheConstants.{MAX_NETS}
use Rattle.dft_hier.specs.Weights.{alone, with_all, weights_of}
use Rattle.dft_hier.proofs.weights.weight_of.Given as goal

abbrev pub invariant-loop-child : goal.invariant-loop-child
invariant-loop-child l = record {
  same : with_all l.all (weights_of l.weights (drop l.child-index l.children)) ≡ with_all (alone l.owner) (weights_of l.weights l.children);
  few : l.all.nets ≤ MAX_NETS + 1;
}
