-- What drives nets drives nets that the netlist has.
use Rattle.std.proofs.Common.{ℕ, ◌<◌, List, ◌∷◌, [], ◌++◌, zero, suc, ◌+◌, ◌≤◌, arith, true, false, refl, ◌≡◌, length, Some, slice_get, ap, length-append, sym, subst}
use Rattle.dft_netlist.specs.Drivers.{Driven, Driver, at_signal, Source, driver_of_kind, at_role, connections_from, driven_by_pins, connections_of, inputs_of, driven_by, driven_by_instances, shape_of, driven_by_bits, driven_by_ports, driven_by_joins, all_driven}
use Rattle.dft_netlist.specs.declared.ids.NetId.{NetId}
use Rattle.dft_netlist.specs.NetNumbers.{nets_from}
use Rattle.dft_netlist.specs.declared.instance.Signal.{Signal}
use Rattle.dft_netlist.specs.Sound.{IsLive, AreLive, bits_of, bit_names_of, IsNetlist}
use Rattle.dft_netlist.specs.declared.instance.Signal.TheVariants as signal
use Rattle.dft_cells.specs.declared.kind.Kind.{Kind}
use Rattle.dft_cells.specs.declared.kind.Role.{Role}
use Rattle.dft_cells.specs.declared.kind.Role.TheVariants as role
use Rattle.dft_netlist.specs.declared.instance.Instance.{Instance}
use Rattle.dft_netlist.specs.Netlist.{Netlist}
use Rattle.dft_base.specs.declared.dir.Dir.{Dir}
use Rattle.dft_base.specs.declared.dir.Dir.TheVariants as dir
use Rattle.dft_netlist.specs.declared.port.Port.{Port}
use Rattle.dft_netlist.specs.declared.instance.Join.{Join}
use Rattle.dft_netlist.proofs.LiveLemmas.{length-bits}

-- each of these drives one of the first nets
abbrev pub DriveBelow : (count : ℕ) → List Driven → Type 0
DriveBelow count [] = Unit {0}
DriveBelow count (d ∷ ds) = (d.0 < count) × DriveBelow count ds

abbrev pub AreBefore : (count : ℕ) → List NetId → Type 0
AreBefore count [] = Unit {0}
AreBefore count (net ∷ nets) = (net.0 < count) × AreBefore count nets

pub below_append : (count : ℕ) (xs ys : List Driven) → DriveBelow count xs → DriveBelow count ys → DriveBelow count (xs ++ ys)
below_append count [] ys h k = k
below_append count (x ∷ xs) ys h k = (h.0, below_append count xs ys h.1 k)

pub before_front : (count : ℕ) (xs ys : List NetId) → AreBefore count (xs ++ ys) → AreBefore count xs
before_front count [] ys h = tt
before_front count (x ∷ xs) ys h = (h.0, before_front count xs ys h.1)

pub before_back : (count : ℕ) (xs ys : List NetId) → AreBefore count (xs ++ ys) → AreBefore count ys
before_back count [] ys h = h
before_back count (x ∷ xs) ys h = before_back count xs ys h.1

pub nets_before : (from count all : ℕ) → from + count ≤ all → AreBefore all (nets_from from count)
nets_before from zero all h = tt
nets_before from (suc count) all h = (omega (arith, h), nets_before (suc from) count all (omega (arith, h)))

pub signal_below : (count : ℕ) (s : Signal) (d : Driver) → IsLive count s → DriveBelow count (at_signal s d)
signal_below count (signal.Net net) d h = (h, tt)
signal_below count (signal.Constant bit) d h = tt
signal_below count signal.Unconnected d h = tt

pub role_below : (count : ℕ) (r : Role) (k : Kind) (i : ℕ) (inputs : List Source) (s : Signal) → IsLive count s → DriveBelow count (at_role r k i inputs s)
role_below count role.Output k i inputs s h = signal_below count s (driver_of_kind k i false inputs) h
role_below count role.Inverted k i inputs s h = signal_below count s (driver_of_kind k i true inputs) h
role_below count role.Input k i inputs s h = tt
role_below count role.Clock k i inputs s h = tt
role_below count role.Din k i inputs s h = tt
role_below count role.Reset k i inputs s h = tt
role_below count role.Preset k i inputs s h = tt
role_below count role.ScanIn k i inputs s h = tt
role_below count role.ScanEnable k i inputs s h = tt

pub pins_below : (count : ℕ) (k : Kind) (i pin : ℕ) (inputs : List Source) (roles : List Role) (signals : List Signal) → AreLive count signals → DriveBelow count (driven_by_pins k i inputs (connections_from pin roles signals))
pins_below count k i pin inputs [] signals h = tt
pins_below count k i pin inputs (r ∷ roles) [] h = tt
pins_below count k i pin inputs (r ∷ roles) (s ∷ signals) h =
    below_append count (at_role r k i inputs s) (driven_by_pins k i inputs (connections_from (suc pin) roles signals)) (role_below count r k i inputs s (h zero s refl)) (pins_below count k i (suc pin) inputs roles signals (λ m z at. h (suc m) z at))

pub instances_below : (n : Netlist) (i : ℕ) (xs : List Instance) → ((k : ℕ) (x : Instance) → slice_get xs k ≡ Some x → AreLive (length n.nets) x.pins) → DriveBelow (length n.nets) (driven_by_instances n.library i xs)
instances_below n i [] h = tt
instances_below n i (x ∷ xs) h =
    below_append (length n.nets) (driven_by n.library i x) (driven_by_instances n.library (suc i) xs)
    (pins_below (length n.nets) (shape_of n.library x.cell).kind i 0 (inputs_of i (connections_of n.library x)) (shape_of n.library x.cell).roles x.pins (h zero x refl))
    (instances_below n (suc i) xs (λ k z at. h (suc k) z at))

pub bits_below : (count all : ℕ) (d : Dir) (bits : List NetId) → all ≤ count → AreBefore all bits → DriveBelow count (driven_by_bits d bits)
bits_below count all dir.Output bits le h = tt
bits_below count all dir.Input [] le h = tt
bits_below count all dir.Input (net ∷ bits) le h = (omega (arith, le, h.0), bits_below count all dir.Input bits le h.1)

pub ports_below : (count all : ℕ) (ports : List Port) → all ≤ count → AreBefore all (bits_of ports) → DriveBelow count (driven_by_ports ports)
ports_below count all [] le h = tt
ports_below count all (port ∷ ports) le h =
    below_append count (driven_by_bits port.dir port.bits) (driven_by_ports ports) (bits_below count all port.dir port.bits le (before_front all port.bits (bits_of ports) h)) (ports_below count all ports le (before_back all port.bits (bits_of ports) h))

pub joins_below : (count : ℕ) (joins : List Join) → ((k : ℕ) (j : Join) → slice_get joins k ≡ Some j → j.target.0 < count) → DriveBelow count (driven_by_joins joins)
joins_below count [] h = tt
joins_below count (j ∷ joins) h = (h zero j refl, joins_below count joins (λ k z at. h (suc k) z at))

-- the ports' nets are among all nets
pub ports_fit : (n : Netlist) → IsNetlist n → length (bits_of n.ports) ≤ length n.nets
ports_fit n sound = omega (arith, ap length sound.bits.same, length-append (bit_names_of n.ports) sound.bits.rest, length-bits n.ports sound.widths)

pub drives_below : (n : Netlist) → IsNetlist n → DriveBelow (length n.nets) (all_driven n)
drives_below n sound =
    below_append (length n.nets) (driven_by_ports n.ports ++ driven_by_instances n.library 0 n.instances) (driven_by_joins n.joins)
    (below_append (length n.nets) (driven_by_ports n.ports) (driven_by_instances n.library 0 n.instances)
    (ports_below (length n.nets) (length (bits_of n.ports)) n.ports (ports_fit n sound) (subst (AreBefore (length (bits_of n.ports))) (sym sound.numbered) (nets_before 0 (length (bits_of n.ports)) (length (bits_of n.ports)) (omega arith))))
    (instances_below n 0 n.instances (λ k x at. (sound.instances k x at).live)))
    (joins_below (length n.nets) n.joins (λ k j at. (sound.joins k j at).target_live))
