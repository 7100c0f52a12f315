-- Whether a pin takes a net, one pin after another.
use Rattle.std.proofs.Common.{◌≡◌, ℕ, ◌+◌, ◌<◌, ◌≤◌, Bool, false, ◌&&◌, ◌||◌, List, length, get_or, drop, Option, slice_get, sym, ◌∙◌, ap}
use Rattle.std.specs.List.{list_any}
use Rattle.std.specs.Option.{option_map_or}
use Rattle.dft_base.proofs.BitLemmas.{or_false, or_assoc}
use Rattle.dft_cells.specs.declared.kind.Role.{Role}
use Rattle.dft_cells.specs.declared.kind.Role.TheVariants.{Input}
use Rattle.dft_netlist.specs.declared.instance.Signal.{Signal}
use Rattle.dft_netlist.specs.Drivers.{Connection, connections_from}
use Rattle.dft_netlist.proofs.PinLemmas.{pin_more, pin_over, role_there}
use Rattle.dft_rules.specs.Refusals.{takes, takes_data, is_joined_to}

pub take_pin : (net : ℕ) (roles : List Role) (pins : List Signal) (k : ℕ) (d : Signal) (before now : Bool) → k < length pins → length pins ≡ length roles →
    now ≡ (before || (option_map_or takes_data (slice_get roles k) false && is_joined_to net (get_or pins k d))) →
    (before || list_any (takes net) (connections_from k (drop k roles) (drop k pins))) ≡ (now || list_any (takes net) (connections_from (k + 1) (drop (k + 1) roles) (drop (k + 1) pins)))
take_pin net roles pins k d before now less same is =
    let at = role_there roles pins k less same in
    let rest = list_any (takes net) (connections_from (k + 1) (drop (k + 1) roles) (drop (k + 1) pins)) in
    ap (λ (cs : List Connection). before || list_any (takes net) cs) (pin_more roles pins k (get_or roles k Input) d less at)
    ∙ sym (or_assoc before (takes_data (get_or roles k Input) && is_joined_to net (get_or pins k d)) rest)
    ∙ ap (λ (b : Bool). b || rest) (sym (is ∙ ap (λ (o : Option Role). before || (option_map_or takes_data o false && is_joined_to net (get_or pins k d))) at))

pub take_over : (net : ℕ) (roles : List Role) (pins : List Signal) (k : ℕ) (b : Bool) → length pins ≤ k → (b || list_any (takes net) (connections_from k (drop k roles) (drop k pins))) ≡ b
take_over net roles pins k b past = ap (λ (cs : List Connection). b || list_any (takes net) cs) (pin_over roles pins k past) ∙ or_false b
