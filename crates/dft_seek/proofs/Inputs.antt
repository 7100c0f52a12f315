-- A net that is driven as an input port's bit is a bit of an input port.
use Rattle.std.proofs.Common.{ℕ, suc, ◌≡◌, ◌==◌, Bool, true, false, ◌||◌, List, [], ◌∷◌, ◌++◌, refl, sym, ap, ◌∙◌, append_assoc}
use Rattle.std.specs.Prelude.{if◌then◌else◌}
use Rattle.std.specs.List.{list_any}
use Rattle.dft_base.specs.declared.dir.Dir.{Dir}
use Rattle.dft_base.specs.declared.dir.Dir.TheVariants as dir
use Rattle.dft_cells.specs.declared.cell.Cell.{Cell}
use Rattle.dft_cells.specs.declared.kind.Kind.{Kind}
use Rattle.dft_cells.specs.declared.kind.Role.{Role}
use Rattle.dft_cells.specs.declared.kind.Role.TheVariants as role
use Rattle.dft_netlist.specs.declared.ids.NetId.{NetId}
use Rattle.dft_netlist.specs.declared.port.Port.{Port}
use Rattle.dft_netlist.specs.declared.instance.Signal.{Signal}
use Rattle.dft_netlist.specs.declared.instance.Signal.TheVariants as signal
use Rattle.dft_netlist.specs.declared.instance.Instance.{Instance}
use Rattle.dft_netlist.specs.declared.instance.Join.{Join}
use Rattle.dft_netlist.specs.Netlist.{Netlist}
use Rattle.dft_netlist.specs.Connections.{is_input}
use Rattle.dft_netlist.specs.Drivers.{Source, Driver, Driven, Connection, at_role, at_signal, connections_of, driven_by, driven_by_bits, driven_by_instances, driven_by_joins, driven_by_pins, driven_by_ports, driver, driver_in, driver_of_kind, inputs_of, shape_of}
use Rattle.dft_netlist.specs.Drivers as drivers
use Rattle.dft_netlist.proofs.LookUpLemmas.{kind_is_no_input}
use Rattle.dft_seek.specs.Searches.{bits_in, input_bits}

-- none of these is a bit of an input port
abbrev NoInputs : List Driven → Type 0
NoInputs [] = Unit {0}
NoInputs (d ∷ ds) = (is_input d.1 ≡ false) × NoInputs ds

none-append : (xs ys : List Driven) → NoInputs xs → NoInputs ys → NoInputs (xs ++ ys)
none-append [] ys h k = k
none-append (x ∷ xs) ys h k = (h.0, none-append xs ys h.1 k)

signal_inner : (to : Signal) (d : Driver) → is_input d ≡ false → NoInputs (at_signal to d)
signal_inner (signal.Net net) d inner = (inner, tt)
signal_inner (signal.Constant bit) d inner = tt
signal_inner signal.Unconnected d inner = tt

role_inner : (r : Role) (k : Kind) (i : ℕ) (inputs : List Source) (to : Signal) → NoInputs (at_role r k i inputs to)
role_inner role.Output k i inputs to = signal_inner to (driver_of_kind k i false inputs) (kind_is_no_input k i false inputs)
role_inner role.Inverted k i inputs to = signal_inner to (driver_of_kind k i true inputs) (kind_is_no_input k i true inputs)
role_inner role.Input k i inputs to = tt
role_inner role.Clock k i inputs to = tt
role_inner role.Din k i inputs to = tt
role_inner role.Reset k i inputs to = tt
role_inner role.Preset k i inputs to = tt
role_inner role.ScanIn k i inputs to = tt
role_inner role.ScanEnable k i inputs to = tt

pins_inner : (k : Kind) (i : ℕ) (inputs : List Source) (cs : List Connection) → NoInputs (driven_by_pins k i inputs cs)
pins_inner k i inputs [] = tt
pins_inner k i inputs (c ∷ cs) = none-append (at_role c.role k i inputs c.to) (driven_by_pins k i inputs cs) (role_inner c.role k i inputs c.to) (pins_inner k i inputs cs)

instances_inner : (library : List Cell) (i : ℕ) (xs : List Instance) → NoInputs (driven_by_instances library i xs)
instances_inner library i [] = tt
instances_inner library i (x ∷ xs) =
    none-append (driven_by library i x) (driven_by_instances library (suc i) xs)
    (pins_inner (shape_of library x.cell).kind i (inputs_of i (connections_of library x)) (connections_of library x)) (instances_inner library (suc i) xs)

joins_inner : (joins : List Join) → NoInputs (driven_by_joins joins)
joins_inner [] = tt
joins_inner (join ∷ joins) = (refl, joins_inner joins)

-- ---- the ports

abbrev pub has_net : List NetId → (net : ℕ) → Bool
has_net bits net = list_any (λ bit. bit.0 == net) bits

none_drives : (net : ℕ) (ds : List Driven) → NoInputs ds → driver_in ds net ≡ drivers.Input → ⊥
none_drives net [] none is = absurd cc
none_drives net (d ∷ ds) none is = by (d.0 == net) is (none_drives net ds none.1)
  where
    apart : (x : Driver) → is_input x ≡ false → x ≡ drivers.Input → ⊥
    apart x inner same = absurd (let e : true ≡ false = ap is_input (sym same) ∙ inner in let f : ⊥ = cc in f)

    by : (b : Bool) → (if b then d.1 else driver_in ds net) ≡ drivers.Input → (driver_in ds net ≡ drivers.Input → ⊥) → ⊥
    by true same below = apart d.1 none.0 same
    by false same below = below same

in_bits : (net : ℕ) (bits : List NetId) (tail : List Driven) (more : List NetId) → (driver_in tail net ≡ drivers.Input → has_net more net ≡ true) → driver_in (driven_by_bits dir.Input bits ++ tail) net ≡ drivers.Input →
    has_net (bits ++ more) net ≡ true
in_bits net [] tail more below is = below is
in_bits net (bit ∷ bits) tail more below is = by (bit.0 == net) is (in_bits net bits tail more below)
  where
    by : (b : Bool) → (if b then drivers.Input else driver_in (driven_by_bits dir.Input bits ++ tail) net) ≡ drivers.Input →
        (driver_in (driven_by_bits dir.Input bits ++ tail) net ≡ drivers.Input → has_net (bits ++ more) net ≡ true) → (b || has_net (bits ++ more) net) ≡ true
    by true same later = refl
    by false same later = later same

in_port : (net : ℕ) (d : Dir) (bits : List NetId) (tail : List Driven) (more : List NetId) → (driver_in tail net ≡ drivers.Input → has_net more net ≡ true) → driver_in (driven_by_bits d bits ++ tail) net ≡ drivers.Input →
    has_net (bits_in d bits ++ more) net ≡ true
in_port net dir.Input bits tail more below is = in_bits net bits tail more below is
in_port net dir.Output bits tail more below is = below is

in_ports : (net : ℕ) (ports : List Port) (rest : List Driven) → NoInputs rest → driver_in (driven_by_ports ports ++ rest) net ≡ drivers.Input → has_net (input_bits ports) net ≡ true
in_ports net [] rest none is = absurd (none_drives net rest none is)
in_ports net (port ∷ ports) rest none is =
    in_port net port.dir port.bits (driven_by_ports ports ++ rest) (input_bits ports) (in_ports net ports rest none)
    (sym (ap (λ (ds : List Driven). driver_in ds net) (append_assoc (driven_by_bits port.dir port.bits) (driven_by_ports ports) rest)) ∙ is)

pub input_listed : (n : Netlist) (net : ℕ) → driver n net ≡ drivers.Input → has_net (input_bits n.ports) net ≡ true
input_listed n net is =
    let ports : List Driven = driven_by_ports n.ports in
    let instances : List Driven = driven_by_instances n.library 0 n.instances in
    let joins : List Driven = driven_by_joins n.joins in
    in_ports net n.ports (instances ++ joins) (none-append instances joins (instances_inner n.library 0 n.instances) (joins_inner n.joins))
    (sym (ap (λ (ds : List Driven). driver_in ds net) (append_assoc ports instances joins)) ∙ is)
