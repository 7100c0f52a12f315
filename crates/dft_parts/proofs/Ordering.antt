-- Nets that come after what they read can be ordered.
use Rattle.std.proofs.Common.{[], ◌∷◌, inl, inr, sym, subst}
use Rattle.dft_netlist.specs.Orders.{IsOrderable, Follows}
use Rattle.dft_parts.specs.Order.{OrderStays}

pub order_stays : OrderStays
order_stays n before [] can reads net has = absurd has
order_stays n before (first ∷ nets) can reads net has =
    let own : IsOrderable n first = Follows (λ read h. can read (reads.0 read h)) in
    elim has [
      | inl e ↦ subst (IsOrderable n) (sym e) own
      | inr h ↦ order_stays n (first ∷ before) nets (λ k there. elim there [ inl e ↦ subst (IsOrderable n) (sym e) own | inr old ↦ can k old ]) reads.1 net h
    ]
