-- The cells of lines, and the bits that a cube gives.
use Rattle.std.proofs.Common.{ℕ, ◌≡◌, ◌==◌, ◌||◌, Bool, List, [], ◌∷◌, map, refl, ap₂}
use Rattle.std.specs.List.{list_any}
use Rattle.dft_base.proofs.NumberLemmas.{eqb_turned}
use Rattle.dft_netlist.specs.declared.ids.InstanceId.{InstanceId}
use Rattle.dft_certify.specs.Certifying.{has_cell}

-- a look-up among numbers that stand for cells
pub cells-map : (cell : InstanceId) (numbers : List ℕ) → list_any (λ number. cell.0 == number) numbers ≡ has_cell (map (λ number. record { 0 = number }) numbers) cell
cells-map cell [] = refl
cells-map cell (number ∷ numbers) = ap₂ (λ (s t : Bool). s || t) (eqb_turned cell.0 number) (cells-map cell numbers)
