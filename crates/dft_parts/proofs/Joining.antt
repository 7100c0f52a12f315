-- A pin that is joined by the builder.
use Rattle.std.proofs.Common.{ℕ, zero, suc, ◌≡◌, false, List, [], ◌∷◌, Some, slice_get, refl, sym, ap, ◌∙◌}
use Rattle.std.specs.Prelude.{slice_set}
use Rattle.std.proofs.lemmas.Option.{none-some, same_Some}
use Rattle.dft_netlist.specs.declared.ids.NetId.{NetId}
use Rattle.dft_netlist.specs.declared.ids.InstanceId.{InstanceId}
use Rattle.dft_netlist.specs.declared.instance.Signal.{Signal}
use Rattle.dft_netlist.specs.declared.instance.Signal.TheVariants.{Net, Constant, Unconnected}
use Rattle.dft_netlist.specs.declared.instance.Instance.{Instance}
use Rattle.dft_netlist.specs.Building.{Connected, IsUnconnected}
use Rattle.dft_netlist.specs.Building as building
use Rattle.dft_netlist.specs.Netlist.{Netlist}
use Rattle.dft_parts.specs.Parts.{Making, joined_to, pin_joined, instance_joined, with_pin, is_unconnected, is_open_in, is_open_at}

pin_set : (pin : ℕ) (net : NetId) (xs : List Signal) → slice_get xs pin ≡ Some Unconnected → slice_set xs pin (Net net) ≡ pin_joined pin net xs
pin_set pin net [] h = absurd (none-some Unconnected h)
pin_set zero net (x ∷ xs) h = ap (λ (s : Signal). s ∷ xs) (ap (joined_to net) (sym (same_Some x Unconnected h)))
pin_set (suc pin) net (x ∷ xs) h = ap (λ (ss : List Signal). x ∷ ss) (pin_set pin net xs h)

instance_set : (i pin : ℕ) (net : NetId) (xs : List Instance) (x : Instance) → slice_get xs i ≡ Some x → slice_get x.pins pin ≡ Some Unconnected → slice_set xs i (building.with_pin x pin net) ≡ instance_joined i pin net xs
instance_set i pin net [] x at free = absurd (none-some x at)
instance_set zero pin net (z ∷ xs) x at free =
    ap (λ (v : Instance). building.with_pin v pin net ∷ xs) (sym (same_Some z x at))
    ∙ ap (λ (ps : List Signal). record z { pins = ps } ∷ xs) (pin_set pin net z.pins (ap (λ (v : Instance). slice_get v.pins pin) (same_Some z x at) ∙ free))
instance_set (suc i) pin net (z ∷ xs) x at free = ap (λ (vs : List Instance). z ∷ vs) (instance_set i pin net xs x at free)

pub pin_made : (s : Making) (n : Netlist) (i : InstanceId) (pin : ℕ) (net : NetId) → IsUnconnected s.netlist i pin → Connected s.netlist i pin net n → record s { netlist = n } ≡ with_pin s i pin net
pin_made s n i pin net free is =
    let same : free.instance ≡ is.instance = same_Some free.instance is.instance (sym free.at ∙ is.at) in
    let is_open : slice_get is.instance.pins pin ≡ Some Unconnected = ap (λ (v : Instance). slice_get v.pins pin) (sym same) ∙ free.free in
    ap (λ (m : Netlist). record s { netlist = m }) is.changed
    ∙ ap (λ (xs : List Instance). record s { netlist = record s.netlist { instances = xs } }) (instance_set i.0 pin net s.netlist.instances is.instance is.at is_open)

-- ---- open pins

-- what is not open stays
pin_left : (pin : ℕ) (net : NetId) (xs : List Signal) → is_unconnected (slice_get xs pin) ≡ false → pin_joined pin net xs ≡ xs
pin_left pin net [] h = refl
pin_left zero net (Unconnected ∷ xs) h = absurd cc
pin_left zero net (Net other ∷ xs) h = refl
pin_left zero net (Constant bit ∷ xs) h = refl
pin_left (suc pin) net (x ∷ xs) h = ap (λ (ss : List Signal). x ∷ ss) (pin_left pin net xs h)

instance_left : (i pin : ℕ) (net : NetId) (xs : List Instance) → is_open_in (slice_get xs i) pin ≡ false → instance_joined i pin net xs ≡ xs
instance_left i pin net [] h = refl
instance_left zero pin net (x ∷ xs) h = ap (λ (ps : List Signal). record x { pins = ps } ∷ xs) (pin_left pin net x.pins h)
instance_left (suc i) pin net (x ∷ xs) h = ap (λ (vs : List Instance). x ∷ vs) (instance_left i pin net xs h)

pub pin_stays : (s : Making) (i : InstanceId) (pin : ℕ) (net : NetId) → is_open_at s.netlist i pin ≡ false → s ≡ with_pin s i pin net
pin_stays s i pin net h = ap (λ (xs : List Instance). record s { netlist = record s.netlist { instances = xs } }) (sym (instance_left i.0 pin net s.netlist.instances h))
