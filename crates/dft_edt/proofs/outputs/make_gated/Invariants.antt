use Rattle.std.proofs.Common.{◌-◌, length}
use Rattle.std.specs.List.{range_with_len}
use Rattle.dft_parts.specs.Recipes.{net_at}
use Rattle.dft_parts.proofs.Runs.{Collects}
use Rattle.dft_edt.specs.CompactorRecipe.{a_gated, masks_at}
use Rattle.dft_edt.proofs.outputs.make_gated.Given as goal

abbrev pub invariant-loop-chain : goal.invariant-loop-chain
invariant-loop-chain l =
    Collects (λ chain. a_gated (masks_at l.masks chain).hold (net_at l.ends chain)) (range_with_len 0 (length l.ends)) (range_with_len l.chain (length l.ends - l.chain)) l.fn.parts l.parts l.gated.items
