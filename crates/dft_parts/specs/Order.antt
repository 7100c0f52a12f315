-- Nets that come after what they read can be ordered.
use Rattle.std.specs.Prelude.{ℕ, List, [], ◌∷◌}
use Rattle.dft_netlist.specs.Netlist.{Netlist}
use Rattle.dft_netlist.specs.Orders.{IsOrderable, reads_of, Has}

-- each of these nets is driven from nets before it in the list, or from nets that stand before the list
abbrev pub ReadBefore : Netlist → (before nets : List ℕ) → Type 0
ReadBefore n before [] = Unit {0}
ReadBefore n before (net ∷ nets) = ((read : ℕ) → Has (reads_of n net) read → Has before read) × ReadBefore n (net ∷ before) nets

-- Where the nets that stand before can be ordered, so can these.
abbrev pub OrderStays : Type 0
OrderStays = (n : Netlist) (before nets : List ℕ) → ((net : ℕ) → Has before net → IsOrderable n net) → ReadBefore n before nets → (net : ℕ) → Has nets net → IsOrderable n net
