-- The recipe of a sum: a tree of XOR gates of two inputs.
use Rattle.std.specs.Prelude.{ℕ, zero, suc, List, [], ◌∷◌, length}
use Rattle.dft_cells.specs.declared.kind.Gate.{Gate}
use Rattle.dft_cells.specs.declared.kind.Gate.TheVariants.{Xor}
use Rattle.dft_netlist.specs.declared.ids.NetId.{NetId}
use Rattle.dft_parts.specs.Recipes.{Recipe, pure, ◌>>=◌, ◌>>◌, a_net, a_gate}

-- a gate that drives a net of its own, which is made just before it
unfoldable pub a_driving_gate : Gate → (inputs : List NetId) → Recipe NetId
a_driving_gate kind inputs = do
  output ← a_net
  a_gate kind inputs output
  pure output

-- neighbours are joined by a gate, two by two; an odd last net is passed on
unfoldable pub pairs : List NetId → Recipe (List NetId)
pairs [] = pure []
pairs (a ∷ []) = pure (a ∷ [])
pairs (a ∷ b ∷ nets) = do
  joined ← a_driving_gate Xor (a ∷ b ∷ [])
  more ← pairs nets
  pure (joined ∷ more)

-- the same again, so many times
unfoldable pub levels : (count : ℕ) → List NetId → Recipe (List NetId)
levels zero nets = pure nets
levels (suc count) nets = do
  joined ← pairs nets
  levels count joined

abbrev pub first_net : List NetId → NetId
first_net [] = record { 0 = zero }
first_net (net ∷ nets) = net

-- the net of the sum of these, of which there is one at least; as many levels as terms leave one net, and where one is left a level makes nothing
unfoldable pub a_sum : (terms : List NetId) → Recipe NetId
a_sum terms = do
  left ← levels (length terms) terms
  pure (first_net left)
