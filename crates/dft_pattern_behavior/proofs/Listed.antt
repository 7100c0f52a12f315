-- Each input that a net's driver tells is a bit of an input port.
use Rattle.std.proofs.Common.{ℕ, zero, suc, ◌≡◌, ◌==◌, Bool, true, false, List, [], ◌∷◌, ◌++◌, Some, slice_get, refl, ap, subst}
use Rattle.std.specs.Prelude.{if◌then◌else◌}
use Rattle.std.specs.List.{list_any}
use Rattle.std.proofs.lemmas.Bool.{eqb-true, eq-eqb, or_left, or_right}
use Rattle.std.proofs.lemmas.Option.{none-some, same_Some}
use Rattle.dft_base.specs.declared.dir.Dir.{Dir}
use Rattle.dft_base.specs.declared.dir.Dir.TheVariants as dir
use Rattle.dft_cells.specs.declared.cell.Cell as library_cells
use Rattle.dft_cells.specs.declared.kind.Kind.{Kind}
use Rattle.dft_cells.specs.declared.kind.Kind.TheVariants as kind
use Rattle.dft_cells.specs.declared.kind.Role.{Role}
use Rattle.dft_cells.specs.declared.kind.Role.TheVariants as role
use Rattle.dft_netlist.specs.declared.ids.NetId.{NetId}
use Rattle.dft_netlist.specs.declared.instance.Instance.{Instance}
use Rattle.dft_netlist.specs.declared.instance.Signal.{Signal}
use Rattle.dft_netlist.specs.declared.instance.Signal.TheVariants as signal
use Rattle.dft_netlist.specs.declared.instance.Join.{Join}
use Rattle.dft_netlist.specs.declared.port.Port as design_port
use Rattle.dft_netlist.specs.Connections.{is_input}
use Rattle.dft_netlist.specs.Drivers.{Source, Driver, Driven, Connection, all_driven, at_role, at_signal, connections_of, driver, driver_in, driver_of_kind, driven_by, driven_by_bits, driven_by_instances, driven_by_joins, driven_by_pins, driven_by_ports, inputs_of, shape_of}
use Rattle.dft_netlist.specs.Drivers as drivers
use Rattle.dft_netlist.specs.Netlist.{Netlist}
use Rattle.dft_vectors.specs.Signals.{bits_in, input_bits}

-- ---- what holds of each net of a list

abbrev pub AllNets : (P : ℕ → Type 0) → List NetId → Type 0
AllNets P [] = Unit {0}
AllNets P (net ∷ nets) = P net.0 × AllNets P nets

pub all_front : (P : ℕ → Type 0) (xs ys : List NetId) → AllNets P (xs ++ ys) → AllNets P xs
all_front P [] ys h = tt
all_front P (x ∷ xs) ys h = (h.0, all_front P xs ys h.1)

pub all_back : (P : ℕ → Type 0) (xs ys : List NetId) → AllNets P (xs ++ ys) → AllNets P ys
all_back P [] ys h = h
all_back P (x ∷ xs) ys h = all_back P xs ys h.1

pub all_both : (P : ℕ → Type 0) (xs ys : List NetId) → AllNets P xs → AllNets P ys → AllNets P (xs ++ ys)
all_both P [] ys h k = k
all_both P (x ∷ xs) ys h k = (h.0, all_both P xs ys h.1 k)

all_each : (P : ℕ → Type 0) (xs : List NetId) → ((k : ℕ) (net : NetId) → slice_get xs k ≡ Some net → P net.0) → AllNets P xs
all_each P [] each = tt
all_each P (x ∷ xs) each = (each 0 x refl, all_each P xs (λ k net at. each (suc k) net at))

-- ---- nets of a list

abbrev pub is_in : List NetId → (net : ℕ) → Bool
is_in nets net = list_any (λ k. k.0 == net) nets

in_at : (xs : List NetId) (k : ℕ) (net : NetId) → slice_get xs k ≡ Some net → is_in xs net.0 ≡ true
in_at [] k net at = absurd (none-some net at)
in_at (x ∷ xs) zero net at = or_left (x.0 == net.0) (is_in xs net.0) (eq-eqb x.0 net.0 (ap (λ (k : NetId). k.0) (same_Some x net at)))
in_at (x ∷ xs) (suc k) net at = or_right (x.0 == net.0) (is_in xs net.0) (in_at xs k net at)

-- ---- drivers

abbrev Listed : (P : ℕ → Type 0) → (net : ℕ) → Driver → Type 0
Listed P net drivers.Input = P net
Listed P net (drivers.Gate k inputs) = Unit {0}
Listed P net (drivers.Joined source) = Unit {0}
Listed P net (drivers.Flop i inverted) = Unit {0}
Listed P net (drivers.Lockup i) = Unit {0}
Listed P net drivers.Free = Unit {0}

abbrev AreListed : (P : ℕ → Type 0) → List Driven → Type 0
AreListed P [] = Unit {0}
AreListed P (d ∷ ds) = Listed P d.0 d.1 × AreListed P ds

listed_append : (P : ℕ → Type 0) (xs ys : List Driven) → AreListed P xs → AreListed P ys → AreListed P (xs ++ ys)
listed_append P [] ys h k = k
listed_append P (x ∷ xs) ys h k = (h.0, listed_append P xs ys h.1 k)

listed_by : (P : ℕ → Type 0) (net : ℕ) (d : Driven) (rest : Driver) (b : Bool) → (d.0 == net) ≡ b → Listed P d.0 d.1 → Listed P net rest → Listed P net (if b then d.1 else rest)
listed_by P net d rest true is h k = subst (λ (m : ℕ). Listed P m d.1) (eqb-true d.0 net is) h
listed_by P net d rest false is h k = k

listed_in : (P : ℕ → Type 0) (net : ℕ) (ds : List Driven) → AreListed P ds → Listed P net (driver_in ds net)
listed_in P net [] h = tt
listed_in P net (d ∷ ds) h = listed_by P net d (driver_in ds net) (d.0 == net) refl h.0 (listed_in P net ds h.1)

bits_listed : (P : ℕ → Type 0) (d : Dir) (bits : List NetId) → AllNets P (bits_in d bits) → AreListed P (driven_by_bits d bits)
bits_listed P dir.Output bits h = tt
bits_listed P dir.Input [] h = tt
bits_listed P dir.Input (net ∷ bits) h = (h.0, bits_listed P dir.Input bits h.1)

ports_listed : (P : ℕ → Type 0) (ports : List design_port.Port) → AllNets P (input_bits ports) → AreListed P (driven_by_ports ports)
ports_listed P [] h = tt
ports_listed P (port ∷ ports) h =
    listed_append P (driven_by_bits port.dir port.bits) (driven_by_ports ports) (bits_listed P port.dir port.bits (all_front P (bits_in port.dir port.bits) (input_bits ports) h))
    (ports_listed P ports (all_back P (bits_in port.dir port.bits) (input_bits ports) h))

kind_listed : (P : ℕ → Type 0) (net : ℕ) (k : Kind) (i : ℕ) (inverted : Bool) (inputs : List Source) → Listed P net (driver_of_kind k i inverted inputs)
kind_listed P net (kind.Gate gate) i inverted inputs = tt
kind_listed P net (kind.Flop flop) i inverted inputs = tt
kind_listed P net kind.Opaque i inverted inputs = tt
kind_listed P net kind.Lockup i inverted inputs = tt

signal_listed : (P : ℕ → Type 0) (s : Signal) (k : Kind) (i : ℕ) (inverted : Bool) (inputs : List Source) → AreListed P (at_signal s (driver_of_kind k i inverted inputs))
signal_listed P (signal.Net net) k i inverted inputs = (kind_listed P net.0 k i inverted inputs, tt)
signal_listed P (signal.Constant bit) k i inverted inputs = tt
signal_listed P signal.Unconnected k i inverted inputs = tt

role_listed : (P : ℕ → Type 0) (r : Role) (k : Kind) (i : ℕ) (inputs : List Source) (s : Signal) → AreListed P (at_role r k i inputs s)
role_listed P role.Output k i inputs s = signal_listed P s k i false inputs
role_listed P role.Inverted k i inputs s = signal_listed P s k i true inputs
role_listed P role.Input k i inputs s = tt
role_listed P role.Clock k i inputs s = tt
role_listed P role.Din k i inputs s = tt
role_listed P role.Reset k i inputs s = tt
role_listed P role.Preset k i inputs s = tt
role_listed P role.ScanIn k i inputs s = tt
role_listed P role.ScanEnable k i inputs s = tt

pins_listed : (P : ℕ → Type 0) (k : Kind) (i : ℕ) (inputs : List Source) (cs : List Connection) → AreListed P (driven_by_pins k i inputs cs)
pins_listed P k i inputs [] = tt
pins_listed P k i inputs (c ∷ cs) = listed_append P (at_role c.role k i inputs c.to) (driven_by_pins k i inputs cs) (role_listed P c.role k i inputs c.to) (pins_listed P k i inputs cs)

instances_listed : (P : ℕ → Type 0) (library : List library_cells.Cell) (i : ℕ) (xs : List Instance) → AreListed P (driven_by_instances library i xs)
instances_listed P library i [] = tt
instances_listed P library i (x ∷ xs) =
    listed_append P (driven_by library i x) (driven_by_instances library (suc i) xs) (pins_listed P (shape_of library x.cell).kind i (inputs_of i (connections_of library x)) (connections_of library x)) (instances_listed P library (suc i) xs)

joins_listed : (P : ℕ → Type 0) (js : List Join) → AreListed P (driven_by_joins js)
joins_listed P [] = tt
joins_listed P (j ∷ js) = (tt, joins_listed P js)

listed_input : (P : ℕ → Type 0) (net : ℕ) (d : Driver) → is_input d ≡ true → Listed P net d → P net
listed_input P net drivers.Input is h = h
listed_input P net (drivers.Gate k inputs) is h = absurd cc
listed_input P net (drivers.Joined source) is h = absurd cc
listed_input P net (drivers.Flop i inverted) is h = absurd cc
listed_input P net (drivers.Lockup i) is h = absurd cc
listed_input P net drivers.Free is h = absurd cc

-- an input is a bit of an input port
pub input_listed : (n : Netlist) (net : ℕ) → is_input (driver n net) ≡ true → is_in (input_bits n.ports) net ≡ true
input_listed n net is =
    let P : ℕ → Type 0 = λ k. is_in (input_bits n.ports) k ≡ true in
    listed_input P net (driver n net) is
    (listed_in P net (all_driven n)
    (listed_append P (driven_by_ports n.ports ++ driven_by_instances n.library 0 n.instances) (driven_by_joins n.joins)
    (listed_append P (driven_by_ports n.ports) (driven_by_instances n.library 0 n.instances) (ports_listed P n.ports (all_each P (input_bits n.ports) (λ k net at. in_at (input_bits n.ports) k net at))) (instances_listed P n.library 0 n.instances))
    (joins_listed P n.joins)))
