-- The place of each net in a circuit's order.
use Rattle.std.specs.Prelude.{ℕ, suc, ◌==◌, List, [], ◌∷◌, if◌then◌else◌}
use Rattle.dft_netlist.specs.Orders.{numbers_of}
use Rattle.dft_logic.specs.Circuit.{Circuit}

-- the place of each net in an order
abbrev pub rank_from : (next : ℕ) → (rank : ℕ → ℕ) → List ℕ → ℕ → ℕ
rank_from next rank [] = rank
rank_from next rank (net ∷ nets) = rank_from (suc next) (λ k. if k == net then next else rank k) nets

unfoldable pub rank_of : Circuit → ℕ → ℕ
rank_of x = rank_from 0 (λ k. 0) (numbers_of x.order)
