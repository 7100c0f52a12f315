-- Nets that stand at instances of the scanned netlist are nets of it.
use Rattle.std.proofs.Common.{ℕ, suc, ◌+◌, ◌≡◌, ◌<◌, Bool, true, false, List, ◌∷◌, length, nat_lt, Option, None, Some, option_map, option_and_then, slice_get, refl, arith, []}
use Rattle.std.specs.Prelude.{if◌then◌else◌}
use Rattle.std.proofs.lemmas.Option.{none-some, same_Some}
use Rattle.dft_base.specs.Lexing.{Text}
use Rattle.dft_cells.specs.declared.kind.Role.{Role}
use Rattle.dft_cells.specs.declared.kind.Role.TheVariants.{Output}
use Rattle.dft_netlist.specs.declared.ids.NetId.{NetId}
use Rattle.dft_netlist.specs.declared.ids.InstanceId.{InstanceId}
use Rattle.dft_netlist.specs.declared.instance.Signal.{Signal}
use Rattle.dft_netlist.specs.declared.instance.Signal.TheVariants.{Net, Constant, Unconnected}
use Rattle.dft_netlist.specs.declared.instance.Instance.{Instance}
use Rattle.dft_netlist.specs.declared.limits.TheConstants.{MAX_NETS}
use Rattle.dft_netlist.specs.Netlist.{Netlist}
use Rattle.dft_netlist.specs.Names.{find_net}
use Rattle.dft_netlist.specs.Drivers.{Source, connections_from, source_of, shape_of, pins_at, driver}
use Rattle.dft_netlist.specs.Sound.{IsNetlist, IsLive, AreLive}
use Rattle.dft_netlist.specs.Connections.{is_input, same_role, pin_of}
use Rattle.dft_netlist.proofs.LookUpLemmas.{net_there}
use Rattle.dft_netlist.proofs.ListingLemmas.{live_more}
use Rattle.dft_scan_frame.specs.Moves.{Gap, moved}
use Rattle.dft_scan_frame.specs.Pins.{net_of, own_output}

pub pins_live : (n : Netlist) (k : ℕ) (x : Instance) → IsNetlist n → slice_get n.instances k ≡ Some x → AreLive MAX_NETS x.pins
pins_live n k x sound at place s there = live_more (length n.nets) MAX_NETS s sound.few_nets ((sound.instances k x at).live place s there)

-- ---- numbers of nets

less_by : (net count width : ℕ) (b : Bool) → net < count → (if b then net else net + width) < count + width
less_by net count width true less = omega (arith, less)
less_by net count width false less = omega (arith, less)

pub moved_less : (gap : Gap) (net count : ℕ) → net < count → moved gap net < count + gap.width
moved_less gap net count less = less_by net count gap.width (nat_lt net gap.before) less

source_live : (count i pin : ℕ) (s : Signal) (own : ℕ) → IsLive count s → net_of (source_of i pin s) ≡ Some own → own < count
source_live count i pin (Net net) own live e = omega (arith, same_Some net.0 own e, live)
source_live count i pin (Constant bit) own live e = absurd (none-some own e)
source_live count i pin Unconnected own live e = absurd (none-some own e)

pin_by : (count i pin : ℕ) (s : Signal) (own : ℕ) (b : Bool) (more : Option Source) → IsLive count s → (option_and_then net_of more ≡ Some own → own < count) → option_and_then net_of (if b then Some (source_of i pin s) else more) ≡ Some own → own < count
pin_by count i pin s own true more live rest e = source_live count i pin s own live e
pin_by count i pin s own false more live rest e = rest e

pin_live : (count i pin : ℕ) (r : Role) (roles : List Role) (signals : List Signal) (own : ℕ) → AreLive count signals → option_and_then net_of (pin_of r i (connections_from pin roles signals)) ≡ Some own → own < count
pin_live count i pin r [] signals own live e = absurd (none-some own e)
pin_live count i pin r (x ∷ roles) [] own live e = absurd (none-some own e)
pin_live count i pin r (x ∷ roles) (s ∷ signals) own live e =
    pin_by count i pin s own (same_role r x) (pin_of r i (connections_from (suc pin) roles signals)) (live 0 s refl) (pin_live count i (suc pin) r roles signals own (λ k z at. live (suc k) z at)) e

own_by : (n : Netlist) (i own : ℕ) (o : Option Instance) → IsNetlist n → slice_get n.instances i ≡ o → option_and_then net_of (pin_of Output i (pins_at n.library o)) ≡ Some own → own < length n.nets
own_by n i own None sound at e = absurd (none-some own e)
own_by n i own (Some x) sound at e = pin_live (length n.nets) i 0 Output (shape_of n.library x.cell).roles x.pins own (sound.instances i x at).live e

pub own_live : (n : Netlist) (cell : InstanceId) (own : ℕ) → IsNetlist n → own_output n cell ≡ Some own → own < length n.nets
own_live n cell own sound e = own_by n cell.0 own (slice_get n.instances cell.0) sound refl e

input_by : (count net : ℕ) (k : NetId) (b : Bool) → k.0 < count → option_map (λ (j : NetId). j.0) (if b then Some k else None) ≡ Some net → net < count
input_by count net k true less e = omega (arith, same_Some k.0 net e, less)
input_by count net k false less e = absurd (none-some net e)

pub input_live : (n : Netlist) (name : Text) (o : Option NetId) (net : ℕ) → find_net n name ≡ o → option_map (λ (k : NetId). k.0) (option_and_then (λ (k : NetId). if is_input (driver n k.0) then Some k else None) o) ≡ Some net → net < length n.nets
input_live n name None net found e = absurd (none-some net e)
input_live n name (Some k) net found e = input_by (length n.nets) net k (is_input (driver n k.0)) (net_there n name k found) e
