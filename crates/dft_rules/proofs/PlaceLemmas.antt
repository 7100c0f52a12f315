-- The place of a net among others.
use Rattle.std.proofs.Common.{◌≡◌, ℕ, ◌+◌, ◌<◌, ◌≤◌, ◌==◌, Bool, true, cond, List, length, get_or, drop, Option, None, Some, ◌∙◌, ap}
use Rattle.std.specs.Prelude.{position}
use Rattle.std.specs.List.{position_from}
use Rattle.std.proofs.lemmas.Iterator.Adapters.{position_from-zero}
use Rattle.std.proofs.lemmas.List.{at_drop_more, at_drop_all}
use Rattle.dft_netlist.specs.declared.ids.NetId.{NetId}

abbrev pub places_from : (net k : ℕ) → List NetId → Option ℕ
places_from net k nets = position_from (λ other. other.0 == net) k nets

pub place_here : (nets : List NetId) (net k : ℕ) (d : NetId) → k < length nets → ((get_or nets k d).0 == net) ≡ true → places_from net 0 nets ≡ places_from net k (drop k nets) → position (λ other. other.0 == net) nets ≡ Some k
place_here nets net k d less is h =
    position_from-zero (λ (other : NetId). other.0 == net) nets ∙ h ∙ at_drop_more (places_from net k) nets k d less
    ∙ ap (λ (b : Bool). cond b (Some k) (places_from net (k + 1) (drop (k + 1) nets))) is

pub place_nowhere : (nets : List NetId) (net k : ℕ) → length nets ≤ k → places_from net 0 nets ≡ places_from net k (drop k nets) → position (λ other. other.0 == net) nets ≡ None
place_nowhere nets net k past h = position_from-zero (λ (other : NetId). other.0 == net) nets ∙ h ∙ at_drop_all (places_from net k) nets k past
