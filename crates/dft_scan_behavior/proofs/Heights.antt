-- Where every net can be ordered, the height of a net over those that it is settled from is a rank.
use Rattle.std.proofs.Common.{ℕ, suc, ◌≡◌, ◌≤◌, inl, inr, List, [], ◌∷◌, max, refl, ap, arith, ◌∙◌}
use Rattle.dft_netlist.specs.Netlist.{Netlist}
use Rattle.dft_netlist.specs.Drivers.{driver, AreBelow}
use Rattle.dft_behavior.specs.Logic.{Ports, logic_of, IsRanked}
use Rattle.dft_netlist.specs.Orders.{Has, reads_of, IsOrderable, Follows}
use Rattle.dft_behavior.proofs.StoredLemmas.{lockup_stored}
use Rattle.dft_behavior.proofs.Ranks.{meaning_below}

-- ---- heights

-- the greatest of what a function gives to these
tallest : (nets : List ℕ) → ((net : ℕ) → Has nets net → ℕ) → ℕ
tallest [] g = 0
tallest (x ∷ nets) g = max (g x (inl refl)) (tallest nets (λ net has. g net (inr has)))

height : (n : Netlist) (net : ℕ) → IsOrderable n net → ℕ
height n net (Follows h) = suc (tallest (reads_of n net) (λ read has. height n read (h read has)))

tallest_same : (nets : List ℕ) (f g : (net : ℕ) → Has nets net → ℕ) → ((net : ℕ) (has : Has nets net) → f net has ≡ g net has) → tallest nets f ≡ tallest nets g
unfolding tallest
tallest_same [] f g same = refl
tallest_same (x ∷ nets) f g same =
    ap (λ m. max m (tallest nets (λ net has. f net (inr has)))) (same x (inl refl))
    ∙ ap (max (g x (inl refl))) (tallest_same nets (λ net has. f net (inr has)) (λ net has. g net (inr has)) (λ net has. same net (inr has)))

-- the height does not depend on how the net is ordered
height_same : (n : Netlist) (net : ℕ) (p q : IsOrderable n net) → height n net p ≡ height n net q
unfolding height
height_same n net (Follows h) (Follows k) = ap suc (tallest_same (reads_of n net) (λ read has. height n read (h read has)) (λ read has. height n read (k read has)) (λ read has. height_same n read (h read has) (k read has)))

lower_below : (rank : ℕ → ℕ) (r q : ℕ) (nets : List ℕ) → r ≤ q → AreBelow rank r nets → AreBelow rank q nets
lower_below rank r q [] le h = tt
lower_below rank r q (x ∷ nets) le h = (omega (arith, le, h.0), lower_below rank r q nets le h.1)

below_tallest : (rank : ℕ → ℕ) (nets : List ℕ) → AreBelow rank (suc (tallest nets (λ net has. rank net))) nets
unfolding tallest
below_tallest rank [] = tt
below_tallest rank (x ∷ nets) = (omega arith, lower_below rank (suc (tallest nets (λ net has. rank net))) (suc (max (rank x) (tallest nets (λ net has. rank net)))) nets (omega arith) (below_tallest rank nets))

below_height : (n : Netlist) (ok : (net : ℕ) → IsOrderable n net) (net : ℕ) (p : IsOrderable n net) → AreBelow (λ k. height n k (ok k)) (height n net p) (reads_of n net)
unfolding height
below_height n ok net (Follows h) =
    lower_below (λ k. height n k (ok k)) (suc (tallest (reads_of n net) (λ read has. height n read (ok read)))) (suc (tallest (reads_of n net) (λ read has. height n read (h read has)))) (reads_of n net)
    (let same = tallest_same (reads_of n net) (λ read has. height n read (ok read)) (λ read has. height n read (h read has)) (λ read has. height_same n read (ok read) (h read has)) in omega (arith, same))
    (below_tallest (λ k. height n k (ok k)) (reads_of n net))

-- ---- what a net is settled from, its driver reads

-- where every net can be ordered there is a rank
pub ranked : (n : Netlist) (ports : Ports) → ((net : ℕ) → IsOrderable n net) → (rank : ℕ → ℕ) × IsRanked (logic_of n ports) rank
ranked n ports ok = (
  λ net. height n net (ok net),
  record {
    order = λ net. meaning_below n ports (λ k. height n k (ok k)) net (driver n net) (below_height n ok net (ok net));
    lockups = lockup_stored n ports;
  },
)
