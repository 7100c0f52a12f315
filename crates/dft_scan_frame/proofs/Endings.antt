-- Ids with numbers from one on.
use Rattle.std.proofs.Common.{ℕ, suc, ◌+◌, ◌-◌, ◌≡◌, ◌<◌, List, ◌∷◌, ◌++◌, map, sym, ap, arith, ◌∙◌, append_assoc, []}
use Rattle.std.specs.List.{range_with_len}
use Rattle.dft_netlist.specs.declared.ids.PortId.{PortId}

-- ---- ids

-- so many ids from a number on
abbrev pub ids_from : (first count : ℕ) → List PortId
ids_from first count = map (λ number. record { 0 = number }) (range_with_len first count)

pub ids_more : (first count k : ℕ) (ids new : List PortId) (id : PortId) → k < count → id.0 ≡ first + k → new ≡ ids ++ id ∷ [] → ids ++ ids_from (first + k) (count - k) ≡ ids_from first count →
    new ++ ids_from (first + (k + 1)) (count - (k + 1)) ≡ ids_from first count
ids_more first count k ids new id less is added so_far =
    let left : count - k ≡ suc (count - (k + 1)) = omega (arith, less) in
    let next : first + k + 1 ≡ first + (k + 1) = omega arith in
    ap (λ (xs : List PortId). xs ++ ids_from (first + (k + 1)) (count - (k + 1))) added
    ∙ append_assoc ids (id ∷ []) (ids_from (first + (k + 1)) (count - (k + 1)))
    ∙ ap (λ m. ids ++ record { 0 = m } ∷ ids_from (first + (k + 1)) (count - (k + 1))) is
    ∙ ap (λ m. ids ++ record { 0 = first + k } ∷ ids_from m (count - (k + 1))) (sym next)
    ∙ ap (λ m. ids ++ ids_from (first + k) m) (sym left)
    ∙ so_far
