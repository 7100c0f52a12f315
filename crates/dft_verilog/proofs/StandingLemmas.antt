-- Instances and joins of a draft stand in its netlist, with the final numbers of their nets.
use Rattle.std.proofs.Common.{◌≡◌, ℕ, suc, ◌<◌, Bool, List, [], ◌∷◌, length, map, Option, Some, None, option_map, refl, sym, ap, ap₂, ◌∙◌, subst, arith, slice_get}
use Rattle.std.proofs.lemmas.List.{length-map}
use Rattle.std.proofs.lemmas.List.Elements.{All-get_or}
use Rattle.std.proofs.lemmas.Option.{slice_get-map, get_or_from_slice_get}
use Rattle.dft_cells.specs.declared.cell.Cell.{Cell}
use Rattle.dft_netlist.specs.declared.ids.NetId.{NetId}
use Rattle.dft_netlist.specs.declared.instance.Signal.{Signal}
use Rattle.dft_netlist.specs.declared.instance.Signal.TheVariants as signal
use Rattle.dft_netlist.specs.declared.instance.Instance.{Instance}
use Rattle.dft_netlist.specs.declared.instance.Join.{Join}
use Rattle.dft_netlist.specs.Netlist.{Netlist}
use Rattle.dft_netlist.specs.Drivers.{shape_of}
use Rattle.dft_netlist.specs.Sound.{IsCellOf, IsLive, AreLive, IsConnected, IsInstanceOf, IsJoinOf}
use Rattle.dft_netlist_text.specs.Modules.{Draft}
use Rattle.dft_netlist_text.specs.NetlistText.{net_order, final_net, final_signal}
use Rattle.dft_verilog_draft.specs.Drafts.{InstanceFits, JoinFits, nets_alone}
use Rattle.dft_verilog.specs.FinalNets.{AreFinal, net_by, signal_by}
use Rattle.dft_verilog.specs.Built.{HasNetsOf}

-- ---- nets and signals

pub net-final : (d : Draft) (finals : List NetId) → AreFinal d finals → (net : NetId) → net.0 < length d.nets → net_by finals net ≡ final_net (net_order d) net
net-final d finals h net lt = get_or_from_slice_get finals net.0 (final_net (net_order d) net) net (h.each net lt)

pub net-within : (d : Draft) (finals : List NetId) → AreFinal d finals → (net : NetId) → net.0 < length d.nets → (final_net (net_order d) net).0 < length (net_order d)
net-within d finals h net lt =
    let there : net.0 < length finals = omega (arith, h.count) in
    subst (λ (f : NetId). f.0 < length (net_order d)) (net-final d finals h net lt) (All-get_or (λ (f : NetId). f.0 < length (net_order d)) finals net.0 net there h.within)

pub signal-final : (d : Draft) (finals : List NetId) → AreFinal d finals → (s : Signal) → IsLive (length d.nets) s → signal_by finals s ≡ final_signal (net_order d) s
signal-final d finals h (signal.Net net) live = ap signal.Net (net-final d finals h net live)
signal-final d finals h (signal.Constant bit) live = refl
signal-final d finals h signal.Unconnected live = refl

pub signal-within : (d : Draft) (finals : List NetId) → AreFinal d finals → (s : Signal) → IsLive (length d.nets) s → IsLive (length (net_order d)) (final_signal (net_order d) s)
signal-within d finals h (signal.Net net) live = net-within d finals h net live
signal-within d finals h (signal.Constant bit) live = tt
signal-within d finals h signal.Unconnected live = tt

pub pins-final : (d : Draft) (finals : List NetId) → AreFinal d finals → (pins : List Signal) → AreLive (length d.nets) pins → map (signal_by finals) pins ≡ map (final_signal (net_order d)) pins
pins-final d finals h [] live = refl
pins-final d finals h (s ∷ ss) live = ap₂ (λ x xs. x ∷ xs) (signal-final d finals h s (live 0 s refl)) (pins-final d finals h ss (λ place t at. live (suc place) t at))

-- ---- instances

live_by : (d : Draft) (finals : List NetId) (n : ℕ) → AreFinal d finals → n ≡ length (net_order d) → (o : Option Signal) (s : Signal) → option_map (final_signal (net_order d)) o ≡ Some s
    → ((t : Signal) → o ≡ Some t → IsLive (length d.nets) t) → IsLive n s
live_by d finals n h same None s e live = absurd (cc)
live_by d finals n h same (Some t) s e live =
    let is : final_signal (net_order d) t ≡ s = cc in
    subst (λ m. IsLive m s) (sym same) (subst (IsLive (length (net_order d))) is (signal-within d finals h t (live t refl)))

constant_is : (order : List ℕ) (t : Signal) (bit : Bool) → final_signal order t ≡ signal.Constant bit → t ≡ signal.Constant bit
constant_is order (signal.Net net) bit e = absurd (cc)
constant_is order (signal.Constant other) bit e = e
constant_is order signal.Unconnected bit e = absurd (cc)

constant_by : (order : List ℕ) (o : Option Signal) (bit : Bool) → option_map (final_signal order) o ≡ Some (signal.Constant bit) → o ≡ Some (signal.Constant bit)
constant_by order None bit e = absurd (cc)
constant_by order (Some t) bit e = let is : final_signal order t ≡ signal.Constant bit = cc in ap Some (constant_is order t bit is)

-- an instance that can stand among the draft's nets can stand in its netlist
pub instance-stands : (d : Draft) (finals : List NetId) (n : Netlist) (i : Instance) → HasNetsOf d n → AreFinal d finals → InstanceFits (nets_alone d) i → IsInstanceOf n i.name i.cell (map (final_signal (net_order d)) i.pins)
instance-stands d finals n i nets h fits = record {
  fits = subst (λ (library : List Cell). IsCellOf library i.name i.cell) (sym nets.library) fits.fits;
  width = length-map i.pins (final_signal (net_order d)) ∙ fits.width ∙ ap (λ (library : List Cell). length (shape_of library i.cell).roles) (sym nets.library);
  live = λ place s at. live_by d finals (length n.nets) h nets.nets (slice_get i.pins place) s (sym (slice_get-map (final_signal (net_order d)) i.pins place) ∙ at) (λ t is. fits.live place t is);
  outputs = λ pin role bit of output at.
      fits.outputs pin role bit (subst (λ (library : List Cell). slice_get (shape_of library i.cell).roles pin ≡ Some role) nets.library of) output
      (constant_by (net_order d) (slice_get i.pins pin) bit (sym (slice_get-map (final_signal (net_order d)) i.pins pin) ∙ at));
}

-- ---- joins

connected_by : (order : List ℕ) (s : Signal) → IsConnected s → IsConnected (final_signal order s)
connected_by order (signal.Net net) h = tt
connected_by order (signal.Constant bit) h = tt
connected_by order signal.Unconnected h = h

-- a join that can stand among the draft's nets can stand in its netlist
pub join-stands : (d : Draft) (finals : List NetId) (n : Netlist) (j : Join) → HasNetsOf d n → AreFinal d finals → JoinFits (nets_alone d) j → IsJoinOf n (final_net (net_order d) j.target) (final_signal (net_order d) j.source)
join-stands d finals n j nets h fits = record {
  target_live = let lt = net-within d finals h j.target fits.target_live in omega (arith, lt, nets.nets);
  source_live = subst (λ m. IsLive m (final_signal (net_order d) j.source)) (sym nets.nets) (signal-within d finals h j.source fits.source_live);
  connected = connected_by (net_order d) j.source fits.connected;
}
