-- Ports that a configuration names: inputs, and no reset is a clock.
use Rattle.std.proofs.Common.{ℕ, zero, suc, ◌≡◌, ◌||◌, Bool, true, false, List, [], ◌∷◌, Option, None, Some, option_and_then, slice_get, refl, sym, ap, arith, ◌∙◌}
use Rattle.std.specs.Prelude.{if◌then◌else◌}
use Rattle.std.specs.List.{list_any}
use Rattle.std.specs.Str.{bytes_eq}
use Rattle.std.proofs.lemmas.Bool.{eqb-true, or_left, or_right, false_from_ne_true}
use Rattle.std.proofs.lemmas.Option.{none-some, same_Some, get_or_from_slice_get, slice_get_within}
use Rattle.std.proofs.lemmas.Map.Keys.{any_passes_from_place}
use Rattle.dft_base.specs.Lexing.{Text}
use Rattle.dft_base.proofs.BitLemmas.{true_false}
use Rattle.dft_base.proofs.TextLemmas.{bytes_eq-self}
use Rattle.dft_netlist.proofs.FindLemmas.{found_at}
use Rattle.dft_netlist.specs.declared.ids.NetId.{NetId}
use Rattle.dft_netlist.specs.Connections.{is_input, input_net}
use Rattle.dft_netlist.specs.Drivers.{driver}
use Rattle.dft_netlist.specs.Names.{find_net}
use Rattle.dft_netlist.specs.Netlist.{Netlist}
use Rattle.dft_config.specs.Config.{Config}
use Rattle.dft_config.specs.Range.{IsInRange, has}
use Rattle.dft_rules.specs.Rules.{is_net}
use Rattle.dft_rules.specs.ConfigPorts.{config_ports}

-- ---- the net of a name

pub name_at : (n : Netlist) (q : Text) (net : ℕ) → find_net n q ≡ Some (record { 0 = net }) → slice_get n.nets net ≡ Some q
name_at n q net h = let r = found_at 0 n.nets q (record { 0 = net }) h in let at : net ≡ r.0 = r.1 ∙ omega arith in ap (slice_get n.nets) at ∙ r.2

-- a name whose input net this is
this_or : (n : Netlist) (net : ℕ) (other : NetId) (b : Bool) → is_input (driver n other.0) ≡ b → is_net net (if b then Some other else None) ≡ true → (Some other ≡ Some (record { 0 = net })) × (is_input (driver n net) ≡ true)
this_or n net other true is h = let same : other.0 ≡ net = eqb-true other.0 net h in (ap (λ k. Some (record { 0 = k })) same, ap (λ k. is_input (driver n k)) (sym same) ∙ is)
this_or n net other false is h = absurd (true_false false h refl)

input_by : (n : Netlist) (net : ℕ) (o : Option NetId) → is_net net (option_and_then (λ (k : NetId). if is_input (driver n k.0) then Some k else None) o) ≡ true → (o ≡ Some (record { 0 = net })) × (is_input (driver n net) ≡ true)
input_by n net None h = absurd (true_false false h refl)
input_by n net (Some other) h = this_or n net other (is_input (driver n other.0)) refl h

-- ---- named nets

any_by : {X : Type 0} (q : X → Bool) (x : X) (xs : List X) (t : Bool) → q x ≡ t → (t || list_any q xs) ≡ true → (list_any q xs ≡ true → (k : ℕ) × (y : X) × (slice_get xs k ≡ Some y) × (q y ≡ true)) →
    (k : ℕ) × (y : X) × (slice_get (x ∷ xs) k ≡ Some y) × (q y ≡ true)
any_by q x xs true is h more = (zero, x, refl, is)
any_by q x xs false is h more = let r = more h in (suc r.0, r.1, r.2, r.3)

any_there : {X : Type 0} (q : X → Bool) (xs : List X) → list_any q xs ≡ true → (k : ℕ) × (y : X) × (slice_get xs k ≡ Some y) × (q y ≡ true)
any_there q [] h = absurd (true_false false h refl)
any_there q (x ∷ xs) h = any_by q x xs (q x) refl h (any_there q xs)

has_at : (xs : List Text) (k : ℕ) (y : Text) → slice_get xs k ≡ Some y → has bytes_eq xs y ≡ true
has_at [] k y at = absurd (none-some y at)
has_at (x ∷ xs) zero y at = or_left (bytes_eq x y) (has bytes_eq xs y) (ap (λ z. bytes_eq z y) (same_Some x y at) ∙ bytes_eq-self y)
has_at (x ∷ xs) (suc k) y at = or_right (bytes_eq x y) (has bytes_eq xs y) (has_at xs k y at)

-- a name of these, with its net
pub named : (n : Netlist) (net : ℕ) (names : List Text) → list_any (λ name. is_net net (input_net n name)) names ≡ true →
    (k : ℕ) × (name : Text) × (slice_get names k ≡ Some name) × (find_net n name ≡ Some (record { 0 = net })) × (is_input (driver n net) ≡ true)
named n net names h =
    let r = any_there (λ name. is_net net (input_net n name)) names h in
    let is = input_by n net (find_net n r.1) r.3 in
    (r.0, r.1, r.2, is.0, is.1)

-- a net that a configuration names is an input
pub named_input : (n : Netlist) (net : ℕ) (names : List Text) → list_any (λ name. is_net net (input_net n name)) names ≡ true → is_input (driver n net) ≡ true
named_input n net names h = (named n net names h).4

-- ---- clocks and resets

-- no reset is a clock
pub reset_rests : (n : Netlist) (config : Config) (net : ℕ) → IsInRange config → (config_ports n config).is_reset net ≡ true → (config_ports n config).is_clock net ≡ false
reset_rests n config net range reset = false_from_ne_true ((config_ports n config).is_clock net) (λ clock.
    let r = named n net config.resets reset in
    let d = named n net config.domains clock in
    let same : d.1 ≡ r.1 = same_Some d.1 r.1 (sym (name_at n d.1 net d.3) ∙ name_at n r.1 net r.3) in
    true_false (has bytes_eq config.domains r.1) (has_at config.domains d.0 r.1 (d.2 ∙ ap Some same)) (apart_at r.0 r.1 r.2))
  where
    apart_at : (k : ℕ) (name : Text) → slice_get config.resets k ≡ Some name → has bytes_eq config.domains name ≡ false
    apart_at k name at = ap (λ (t : Text). has bytes_eq config.domains t) (sym (get_or_from_slice_get config.resets k name name at)) ∙ range.apart k name (slice_get_within config.resets k name at)

-- ---- an input that a name stands for

found_or : (n : Netlist) (other net : NetId) (b : Bool) → is_input (driver n other.0) ≡ b → (if b then Some other else None) ≡ Some net → (Some other ≡ Some net) × (is_input (driver n net.0) ≡ true)
found_or n other net true is h = (h, ap (λ (k : NetId). is_input (driver n k.0)) (sym (same_Some other net h)) ∙ is)
found_or n other net false is h = absurd (none-some net h)

found_by : (n : Netlist) (net : NetId) (o : Option NetId) → option_and_then (λ (k : NetId). if is_input (driver n k.0) then Some k else None) o ≡ Some net → (o ≡ Some net) × (is_input (driver n net.0) ≡ true)
found_by n net None h = absurd (none-some net h)
found_by n net (Some other) h = found_or n other net (is_input (driver n other.0)) refl h

-- it is the net of this name, and an input
pub input_there : (n : Netlist) (name : Text) (net : NetId) → input_net n name ≡ Some net → (find_net n name ≡ Some net) × (is_input (driver n net.0) ≡ true)
input_there n name net h = found_by n net (find_net n name) h

-- where its name is none of these, it is the net of none of these
pub not_among : (n : Netlist) (names : List Text) (name : Text) (net : NetId) → input_net n name ≡ Some net → list_any (λ other. bytes_eq other name) names ≡ false → list_any (λ other. is_net net.0 (input_net n other)) names ≡ false
not_among n names name net is none = false_from_ne_true (list_any (λ (other : Text). is_net net.0 (input_net n other)) names) (λ among.
    let r = named n net.0 names among in
    let same : r.1 ≡ name = same_Some r.1 name (sym (name_at n r.1 net.0 r.3) ∙ name_at n name net.0 (input_there n name net is).0) in
    true_false (list_any (λ (other : Text). bytes_eq other name) names) (any_passes_from_place (λ (other : Text). bytes_eq other name) names r.0 r.1 r.2 (ap (λ (x : Text). bytes_eq x name) same ∙ bytes_eq-self name)) none)
