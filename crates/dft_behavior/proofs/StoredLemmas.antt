-- What instances store: the cell of a modelled flip-flop, and the cell that a lock-up's net shows.
use Rattle.std.proofs.Common.{ℕ, suc, ◌+◌, Bool, true, false, List, [], ◌∷◌, ◌++◌, ◌≡◌, ◌==◌, Option, None, Some, is_some, slice_get, refl, sym, ap, arith, ◌∙◌}
use Rattle.std.specs.Prelude.{if◌then◌else◌}
use Rattle.std.specs.Option.{option_or}
use Rattle.std.proofs.lemmas.Option.{none-some, same_Some}
use Rattle.std.specs.List.{AllByRecursion}
use Rattle.dft_base.specs.declared.dir.Dir.{Dir}
use Rattle.dft_base.specs.declared.dir.Dir.TheVariants as dir
use Rattle.dft_cells.specs.declared.cell.Cell as library
use Rattle.dft_cells.specs.declared.kind.Kind.{Kind}
use Rattle.dft_cells.specs.declared.kind.Kind.TheVariants as kind
use Rattle.dft_cells.specs.declared.kind.Gate.{Gate}
use Rattle.dft_cells.specs.declared.kind.Role.{Role}
use Rattle.dft_cells.specs.declared.kind.Role.TheVariants as role
use Rattle.dft_cells.specs.FlipFlops.{is_flip_flop, Forces}
use Rattle.dft_netlist.specs.declared.ids.NetId.{NetId}
use Rattle.dft_netlist.specs.declared.instance.Signal.{Signal}
use Rattle.dft_netlist.specs.declared.instance.Signal.TheVariants as signal
use Rattle.dft_netlist.specs.declared.instance.Instance.{Instance}
use Rattle.dft_netlist.specs.declared.instance.Join.{Join}
use Rattle.dft_netlist.specs.declared.port.Port.{Port}
use Rattle.dft_netlist.specs.Netlist.{Netlist}
use Rattle.dft_netlist.specs.Drivers.{Source, Driver, Driven, Connection, driver_of_kind, at_signal, at_role, driven_by_pins, connections_of, inputs_of, shape_of, driven_by, driven_by_instances, driven_by_bits, driven_by_ports, driven_by_joins, all_driven, driver_in, driver, kind_of, kind_at, pins_of}
use Rattle.dft_netlist.specs.Drivers as drivers
use Rattle.dft_netlist.specs.Connections.{pin_of}
use Rattle.dft_behavior.specs.Logic.{Ports, Input, Clock, Lockup, Cell, or_loose, domain_at, both_forces, modelled_of, flip_flop, lockup_cell, locked, is_lockup, lock_up, cell_or_none, lockup_meaning, meaning_of, logic_of}
use Rattle.dft_behavior.specs.ClockRoots.{ClockRoot}
use Rattle.dft_behavior.proofs.SettledLemmas.{no_flop}

-- ---- flip-flops

pub flop_cell : (n : Netlist) (ports : Ports) (i : ℕ) (cell : Cell) → flip_flop n ports i ≡ Some cell → (logic_of n ports).cell i ≡ cell
flop_cell n ports i cell is = ap (λ (o : Option Cell). cell_or_none i (option_or o (lock_up n ports i))) is

kept_by : (i : ℕ) (o other : Option Cell) → is_some o ≡ true → cell_or_none i (option_or o other) ≡ cell_or_none i o
kept_by i None other is = absurd cc
kept_by i (Some cell) other is = refl

pub kept_cell : (n : Netlist) (ports : Ports) (i : ℕ) → is_some (flip_flop n ports i) ≡ true → (logic_of n ports).cell i ≡ cell_or_none i (flip_flop n ports i)
kept_cell n ports i is = kept_by i (flip_flop n ports i) (lock_up n ports i) is

-- a lock-up has no reset and no set
force_by : (i : ℕ) (o : Option Cell) (b : Bool) (domain : Option ClockRoot) (source : Source) → (cell_or_none i (option_or o (if b then locked domain source else None))).forces ≡ (cell_or_none i o).forces
force_by i (Some cell) b domain source = refl
force_by i None false domain source = refl
force_by i None true None source = refl
force_by i None true (Some domain) source = refl

pub stored_force : (n : Netlist) (ports : Ports) (i : ℕ) → ((logic_of n ports).cell i).forces ≡ (cell_or_none i (flip_flop n ports i)).forces
stored_force n ports i = force_by i (flip_flop n ports i) (is_lockup (kind_at n i)) (domain_at n ports (pin_of role.Clock i (pins_of n i))) (or_loose i (pin_of role.Din i (pins_of n i)))

-- what forces a modelled flip-flop is what each pin gives
pub both_parts : (clear preset : Option (Option ℕ)) (forces : Forces ℕ) → both_forces clear preset ≡ Some forces → (clear ≡ Some forces.clear) × (preset ≡ Some forces.preset)
both_parts (Some clear) (Some preset) forces e =
    let same : record { clear = clear; preset = preset } ≡ forces = same_Some (record { clear = clear; preset = preset }) forces e in
    (ap (λ (f : Forces ℕ). Some f.clear) same, ap (λ (f : Forces ℕ). Some f.preset) same)
both_parts (Some clear) None forces e = absurd (none-some forces e)
both_parts None preset forces e = absurd (none-some forces e)

-- ---- what drives a net as a lock-up is an instance of that kind

abbrev KeepsKind : (kinds : ℕ → Kind) → Driver → Type 0
KeepsKind kinds d = (i : ℕ) → d ≡ drivers.Lockup i → kinds i ≡ kind.Lockup

abbrev KeepKinds : (kinds : ℕ → Kind) → List Driven → Type 0
KeepKinds kinds ds = AllByRecursion (λ (d : Driven). KeepsKind kinds d.1) ds

keep_append : (kinds : ℕ → Kind) (ds es : List Driven) → KeepKinds kinds ds → KeepKinds kinds es → KeepKinds kinds (ds ++ es)
keep_append kinds [] es h k = k
keep_append kinds (d ∷ ds) es h k = (h.0, keep_append kinds ds es h.1 k)

gate_keeps : (kinds : ℕ → Kind) (k : Gate) (inputs : List Source) → KeepsKind kinds (drivers.Gate k inputs)
gate_keeps kinds k inputs i h = absurd cc

flop_keeps : (kinds : ℕ → Kind) (i : ℕ) (inverted : Bool) → KeepsKind kinds (drivers.Flop i inverted)
flop_keeps kinds i inverted j h = absurd cc

kind_keeps : (kinds : ℕ → Kind) (k : Kind) (i : ℕ) (inverted : Bool) (inputs : List Source) → kinds i ≡ k → KeepsKind kinds (driver_of_kind k i inverted inputs)
kind_keeps kinds kind.Opaque i inverted inputs is j h = absurd cc
kind_keeps kinds kind.Lockup i inverted inputs is j h = (let q : i ≡ j = cc in sym (ap kinds q) ∙ is)
kind_keeps kinds (kind.Flop flop) i inverted inputs is j h = flop_keeps kinds i inverted j h
kind_keeps kinds (kind.Gate gate) i inverted inputs is j h = gate_keeps kinds gate inputs j h

signal_keeps : (kinds : ℕ → Kind) (to : Signal) (d : Driver) → KeepsKind kinds d → KeepKinds kinds (at_signal to d)
signal_keeps kinds (signal.Net net) d h = (h, tt)
signal_keeps kinds (signal.Constant bit) d h = tt
signal_keeps kinds signal.Unconnected d h = tt

role_keeps : (kinds : ℕ → Kind) (r : Role) (k : Kind) (i : ℕ) (inputs : List Source) (to : Signal) → kinds i ≡ k → KeepKinds kinds (at_role r k i inputs to)
role_keeps kinds role.Output k i inputs to is = signal_keeps kinds to (driver_of_kind k i false inputs) (kind_keeps kinds k i false inputs is)
role_keeps kinds role.Inverted k i inputs to is = signal_keeps kinds to (driver_of_kind k i true inputs) (kind_keeps kinds k i true inputs is)
role_keeps kinds role.Input k i inputs to is = tt
role_keeps kinds role.Clock k i inputs to is = tt
role_keeps kinds role.Din k i inputs to is = tt
role_keeps kinds role.Reset k i inputs to is = tt
role_keeps kinds role.Preset k i inputs to is = tt
role_keeps kinds role.ScanIn k i inputs to is = tt
role_keeps kinds role.ScanEnable k i inputs to is = tt

pins_keep : (kinds : ℕ → Kind) (k : Kind) (i : ℕ) (inputs : List Source) (pins : List Connection) → kinds i ≡ k → KeepKinds kinds (driven_by_pins k i inputs pins)
pins_keep kinds k i inputs [] is = tt
pins_keep kinds k i inputs (c ∷ cs) is = keep_append kinds (at_role c.role k i inputs c.to) (driven_by_pins k i inputs cs) (role_keeps kinds c.role k i inputs c.to is) (pins_keep kinds k i inputs cs is)

instances_keep : (kinds : ℕ → Kind) (cells : List library.Cell) (i : ℕ) (instances : List Instance) → ((k : ℕ) (x : Instance) → slice_get instances k ≡ Some x → kinds (i + k) ≡ (shape_of cells x.cell).kind) →
    KeepKinds kinds (driven_by_instances cells i instances)
instances_keep kinds cells i [] each = tt
instances_keep kinds cells i (x ∷ instances) each =
    let here : i + 0 ≡ i = omega arith in
    keep_append kinds (driven_by cells i x) (driven_by_instances cells (suc i) instances)
    (pins_keep kinds (shape_of cells x.cell).kind i (inputs_of i (connections_of cells x)) (connections_of cells x) (sym (ap kinds here) ∙ each 0 x refl))
    (instances_keep kinds cells (suc i) instances (λ k y at. (let next : i + suc k ≡ suc i + k = omega arith in sym (ap kinds next) ∙ each (suc k) y at)))

bits_keep : (kinds : ℕ → Kind) (d : Dir) (bits : List NetId) → KeepKinds kinds (driven_by_bits d bits)
bits_keep kinds dir.Output bits = tt
bits_keep kinds dir.Input [] = tt
bits_keep kinds dir.Input (net ∷ bits) = ((λ i h. absurd cc), bits_keep kinds dir.Input bits)

ports_keep : (kinds : ℕ → Kind) (ports : List Port) → KeepKinds kinds (driven_by_ports ports)
ports_keep kinds [] = tt
ports_keep kinds (port ∷ ports) = keep_append kinds (driven_by_bits port.dir port.bits) (driven_by_ports ports) (bits_keep kinds port.dir port.bits) (ports_keep kinds ports)

joins_keep : (kinds : ℕ → Kind) (joins : List Join) → KeepKinds kinds (driven_by_joins joins)
joins_keep kinds [] = tt
joins_keep kinds (join ∷ joins) = ((λ i h. absurd cc), joins_keep kinds joins)

all_keep : (n : Netlist) → KeepKinds (kind_at n) (all_driven n)
all_keep n =
    keep_append (kind_at n) (driven_by_ports n.ports ++ driven_by_instances n.library 0 n.instances) (driven_by_joins n.joins)
    (keep_append (kind_at n) (driven_by_ports n.ports) (driven_by_instances n.library 0 n.instances) (ports_keep (kind_at n) n.ports)
    (instances_keep (kind_at n) n.library 0 n.instances (λ k x at. (let place : 0 + k ≡ k = omega arith in ap (kind_at n) place ∙ ap (kind_of n.library) at))))
    (joins_keep (kind_at n) n.joins)

either_keeps : (kinds : ℕ → Kind) (b : Bool) (d e : Driver) → KeepsKind kinds d → KeepsKind kinds e → KeepsKind kinds (if b then d else e)
either_keeps kinds true d e h k = h
either_keeps kinds false d e h k = k

found_keeps : (kinds : ℕ → Kind) (ds : List Driven) (net : ℕ) → KeepKinds kinds ds → KeepsKind kinds (driver_in ds net)
found_keeps kinds [] net h i is = absurd cc
found_keeps kinds (d ∷ ds) net h i is = either_keeps kinds (d.0 == net) d.1 (driver_in ds net) h.0 (λ j at. found_keeps kinds ds net h.1 j at) i is

pub lockup_kind : (n : Netlist) (net i : ℕ) → driver n net ≡ drivers.Lockup i → kind_at n i ≡ kind.Lockup
lockup_kind n net i is = found_keeps (kind_at n) (all_driven n) net (all_keep n) i is

-- ---- what a lock-up's net shows is the cell of its instance

pub no_port : (b : Bool) (c e : ℕ) (high : Bool) (source : Source) → (if b then Clock else Input) ≡ Lockup c e high source → ⊥
no_port true c e high source h = cc
no_port false c e high source h = cc

locked_same : (i : ℕ) (domain : Option ClockRoot) (from : Source) (c e : ℕ) (high : Bool) (source : Source) → lockup_meaning i domain from ≡ Lockup c e high source → cell_or_none i (locked domain from) ≡ lockup_cell e high source
locked_same i None from c e high source h = absurd cc
locked_same i (Some d) from c e high source h = (let p : d.port ≡ e = cc in let q : d.inverted ≡ high = cc in let r : from ≡ source = cc in λ t. lockup_cell (p t) (q t) (r t))

its_instance : (i : ℕ) (domain : Option ClockRoot) (from : Source) (c e : ℕ) (high : Bool) (source : Source) → lockup_meaning i domain from ≡ Lockup c e high source → i ≡ c
its_instance i None from c e high source h = absurd cc
its_instance i (Some d) from c e high source h = cc

stored_by : (n : Netlist) (ports : Ports) (net : ℕ) (d : Driver) (c e : ℕ) (high : Bool) (source : Source) → driver n net ≡ d → meaning_of n ports net d ≡ Lockup c e high source → (logic_of n ports).cell c ≡ lockup_cell e high source
stored_by n ports net drivers.Input c e high source at h = absurd (no_port (ports.is_clock net) c e high source h)
stored_by n ports net (drivers.Gate k inputs) c e high source at h = absurd cc
stored_by n ports net (drivers.Joined from) c e high source at h = absurd cc
stored_by n ports net (drivers.Flop i inverted) c e high source at h = absurd (no_flop i inverted (flip_flop n ports i) c e high source h)
stored_by n ports net (drivers.Lockup i) c e high source at h =
    let pins = pins_of n i in
    let domain : Option ClockRoot = domain_at n ports (pin_of role.Clock i pins) in
    let from : Source = or_loose i (pin_of role.Din i pins) in
    let cell_by : Kind → Cell = λ k. cell_or_none i (option_or (if is_flip_flop k then modelled_of n ports i pins else None) (if is_lockup k then locked domain from else None)) in
    sym (ap (λ (j : ℕ). (logic_of n ports).cell j) (its_instance i domain from c e high source h)) ∙ ap cell_by (lockup_kind n net i at) ∙ locked_same i domain from c e high source h
stored_by n ports net drivers.Free c e high source at h = absurd cc

pub lockup_stored : (n : Netlist) (ports : Ports) (net c e : ℕ) (high : Bool) (source : Source) → (logic_of n ports).net net ≡ Lockup c e high source → (logic_of n ports).cell c ≡ lockup_cell e high source
lockup_stored n ports net c e high source is = stored_by n ports net (driver n net) c e high source refl is
