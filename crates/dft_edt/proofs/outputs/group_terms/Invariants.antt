use Rattle.std.proofs.Common.{◌≡◌, ◌++◌, drop, map}
use Rattle.dft_parts.specs.Recipes.{net_at}
use Rattle.dft_edt.proofs.outputs.group_terms.Given as goal

abbrev pub invariant-loop-chain : goal.invariant-loop-chain
invariant-loop-chain l = l.terms.items ++ map (net_at l.gated) (drop l.chain-index l.group) ≡ map (net_at l.gated) l.group
