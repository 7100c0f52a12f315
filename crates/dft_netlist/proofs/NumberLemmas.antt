-- Numbers of nets, one more.
use Rattle.std.proofs.Common.{◌≡◌, ℕ, zero, suc, ◌+◌, [], ◌∷◌, ◌++◌, ap, ◌∙◌, arith, add-one}
use Rattle.dft_netlist.specs.declared.ids.NetId.{NetId}
use Rattle.dft_netlist.specs.NetNumbers.{nets_from}

abbrev pub net_of : ℕ → NetId
net_of k = record { 0 = k }

one_more : (from count : ℕ) → nets_from from (suc count) ≡ nets_from from count ++ net_of (from + count) ∷ []
one_more from zero = let e : from ≡ from + 0 = omega arith in ap (λ k. net_of k ∷ []) e
one_more from (suc count) =
    let e : suc from + count ≡ from + suc count = omega arith in
    ap (λ xs. net_of from ∷ xs) (one_more (suc from) count ∙ ap (λ k. nets_from (suc from) count ++ net_of k ∷ []) e)

pub nets_from-more : (from count : ℕ) → nets_from from (count + 1) ≡ nets_from from count ++ net_of (from + count) ∷ []
nets_from-more from count = rw add-one (one_more from count)
