-- Sums of nets, as trees of XOR gates of two inputs, and what they are.
use Rattle.std.specs.Prelude.{ℕ, ◌<◌, ◌≡◌, Bool, false, List, [], ◌∷◌, ◌++◌, map, length}
use Rattle.dft_base.specs.declared.tri.Tri.{Tri}
use Rattle.dft_base.specs.declared.tri.Tri.TheVariants.{Zero, One, Unknown}
use Rattle.dft_base.specs.Solutions.{xor}
use Rattle.dft_cells.specs.declared.kind.Gate.TheVariants.{Xor}
use Rattle.dft_netlist.specs.declared.ids.NetId.{NetId}
use Rattle.dft_netlist.specs.Drivers.{Net}
use Rattle.dft_behavior.specs.Logic.{Logic, Ports, Gate, logic_of}
use Rattle.dft_netlist.specs.Netlist.{Netlist}
use Rattle.dft_netlist.specs.NetDrivers.{IsSingle}
use Rattle.dft_netlist.specs.Orders.{numbers_of}
use Rattle.dft_behavior.specs.Settled.{Sources, IsSettled, TriSources, IsTriSettled, inverse}
use Rattle.dft_parts.specs.Growth.{HasParts}
use Rattle.dft_parts.specs.Recipes.{Start}
use Rattle.dft_parts.specs.Sums.{a_sum}

-- a net is the sum of terms: it is the one term, or an XOR gate of the sums of the first and of the other terms drives it
pub data IsSum (l : Logic) : (net : ℕ) → (terms : List ℕ) → Type 0 where
  Term : {net : ℕ} → IsSum l net (net ∷ [])
  Joined : {net a b : ℕ} {left right : List ℕ} → l.net net ≡ Gate Xor (Net a ∷ Net b ∷ []) → IsSum l a left → IsSum l b right → IsSum l net (left ++ right)

-- the sum of bits
abbrev pub sum_bits : List Bool → Bool
sum_bits [] = false
sum_bits (bit ∷ bits) = xor bit (sum_bits bits)

-- the sum of three-valued bits, known where each of them is
abbrev pub tri_xor : Tri → Tri → Tri
tri_xor Zero t = t
tri_xor One t = inverse t
tri_xor Unknown t = Unknown

abbrev pub tri_sum : List Tri → Tri
tri_sum [] = Zero
tri_sum (t ∷ ts) = tri_xor t (tri_sum ts)

-- In a finished netlist that has the parts of a sum's recipe, its net is the sum of the terms.
abbrev pub SumStands : Type 0
SumStands =
    (n : Netlist) (ports : Ports) (at : Start) (number : ℕ) (terms : List NetId) → IsSingle n → 0 < length terms → HasParts n number (a_sum terms at).parts →
    IsSum (logic_of n ports) (a_sum terms at).value.0 (numbers_of terms)

-- In every settled assignment, of bits or of three values, it has the sum of their bits.
abbrev pub SumBit : Type 0
SumBit = (l : Logic) (s : Sources) (bits : ℕ → Bool) (net : ℕ) (terms : List ℕ) → IsSettled l s bits → IsSum l net terms → bits net ≡ sum_bits (map bits terms)

abbrev pub SumValue : Type 0
SumValue = (l : Logic) (s : TriSources) (values : ℕ → Tri) (net : ℕ) (terms : List ℕ) → IsTriSettled l s values → IsSum l net terms → values net ≡ tri_sum (map values terms)
