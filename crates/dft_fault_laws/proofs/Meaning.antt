-- A design with a stuck net does what the design does, but for the constant, where no clock, reset or set comes by the net.
use Rattle.std.proofs.Common.{ℕ, zero, suc, ◌≡◌, ◌==◌, Bool, true, false, List, [], ◌∷◌, length, Option, None, Some, option_map, slice_get, inl, inr, refl, sym, ap, ◌∙◌}
use Rattle.std.specs.Prelude.{if◌then◌else◌}
use Rattle.std.specs.Option.{option_or}
use Rattle.std.proofs.lemmas.Bool.Decides.{eqb_tells}
use Rattle.std.proofs.lemmas.Option.{slice_get-map}
use Rattle.dft_cells.specs.declared.cell.Cell as library
use Rattle.dft_cells.specs.declared.kind.Gate.{Gate as GateKind}
use Rattle.dft_cells.specs.declared.kind.Gate.TheVariants.{Buf, Inv}
use Rattle.dft_cells.specs.declared.kind.Role.{Role}
use Rattle.dft_cells.specs.declared.kind.Role.TheVariants as role
use Rattle.dft_cells.specs.FlipFlops.{is_flip_flop}
use Rattle.dft_cells.specs.Pins.{is_output}
use Rattle.dft_netlist.specs.declared.instance.Instance.{Instance}
use Rattle.dft_netlist.specs.declared.instance.Signal.{Signal}
use Rattle.dft_netlist.specs.Netlist.{Netlist}
use Rattle.dft_netlist.specs.Drivers.{Source, Net, Tied, Loose, Driver, Input, Gate, Flop, Free, driver, nets_of, pins_at, pins_of, kind_of, kind_at, shape_of, source_of, connections_from}
use Rattle.dft_netlist.specs.Drivers as drivers
use Rattle.dft_behavior.specs.NetRoots.{NetRoot, turned_root, passed_by_one, passed_by_gate, root_of_passed, root_of_driver, root_within}
use Rattle.dft_behavior.specs.Traces.{straight_root}
use Rattle.dft_behavior.specs.ClockRoots.{turn_of, clock_of}
use Rattle.dft_netlist.specs.Connections.{same_role, pin_of}
use Rattle.dft_behavior.specs.Logic.{Ports, Joined, or_loose, domain_of, domain_at, force_of, force_at, both_forces, forcing, forces_of, scan_of, modelled, flip_flop, is_lockup, locked, lock_up, cell_or_none, flop_meaning, lockup_meaning, meaning_of, logic_of}
use Rattle.dft_takings.specs.Needs.{HasAll}
use Rattle.dft_faults.specs.declared.fault.Fault.{Fault}
use Rattle.dft_faults.specs.Faulty.{loosened_pin, loosened_pins, loosened, faulty, IsFault}
use Rattle.dft_faults.proofs.Finished.{drivers_stay}
use Rattle.dft_fault_laws.specs.Stuck.{with_fault, behind_gate, behind, IsControl}
use Rattle.dft_fault_laws.specs.Laws.{FaultyMeans}

-- ---- pins that are no outputs

pin_step : (net i pin : ℕ) (r s : Role) (to : Signal) (xs ys : Option Source) → is_output r ≡ false → xs ≡ ys →
    (if same_role r s then Some (source_of i pin (loosened_pin net s to)) else xs) ≡ (if same_role r s then Some (source_of i pin to) else ys)
pin_step net i pin r role.Input to xs ys inner e = ap (λ z. if same_role r role.Input then Some (source_of i pin to) else z) e
pin_step net i pin r role.Clock to xs ys inner e = ap (λ z. if same_role r role.Clock then Some (source_of i pin to) else z) e
pin_step net i pin r role.Din to xs ys inner e = ap (λ z. if same_role r role.Din then Some (source_of i pin to) else z) e
pin_step net i pin r role.Reset to xs ys inner e = ap (λ z. if same_role r role.Reset then Some (source_of i pin to) else z) e
pin_step net i pin r role.Preset to xs ys inner e = ap (λ z. if same_role r role.Preset then Some (source_of i pin to) else z) e
pin_step net i pin r role.ScanIn to xs ys inner e = ap (λ z. if same_role r role.ScanIn then Some (source_of i pin to) else z) e
pin_step net i pin r role.ScanEnable to xs ys inner e = ap (λ z. if same_role r role.ScanEnable then Some (source_of i pin to) else z) e
pin_step net i pin role.Input role.Output to xs ys inner e = e
pin_step net i pin role.Clock role.Output to xs ys inner e = e
pin_step net i pin role.Din role.Output to xs ys inner e = e
pin_step net i pin role.Reset role.Output to xs ys inner e = e
pin_step net i pin role.Preset role.Output to xs ys inner e = e
pin_step net i pin role.ScanIn role.Output to xs ys inner e = e
pin_step net i pin role.ScanEnable role.Output to xs ys inner e = e
pin_step net i pin role.Output role.Output to xs ys inner e = absurd (let f : ⊥ = cc in f)
pin_step net i pin role.Inverted role.Output to xs ys inner e = absurd (let f : ⊥ = cc in f)
pin_step net i pin role.Input role.Inverted to xs ys inner e = e
pin_step net i pin role.Clock role.Inverted to xs ys inner e = e
pin_step net i pin role.Din role.Inverted to xs ys inner e = e
pin_step net i pin role.Reset role.Inverted to xs ys inner e = e
pin_step net i pin role.Preset role.Inverted to xs ys inner e = e
pin_step net i pin role.ScanIn role.Inverted to xs ys inner e = e
pin_step net i pin role.ScanEnable role.Inverted to xs ys inner e = e
pin_step net i pin role.Output role.Inverted to xs ys inner e = absurd (let f : ⊥ = cc in f)
pin_step net i pin role.Inverted role.Inverted to xs ys inner e = absurd (let f : ⊥ = cc in f)

pins_stay : (net i pin : ℕ) (r : Role) (roles : List Role) (pins : List Signal) → is_output r ≡ false →
    pin_of r i (connections_from pin roles (loosened_pins net roles pins)) ≡ pin_of r i (connections_from pin roles pins)
pins_stay net i pin r [] pins inner = refl
pins_stay net i pin r (s ∷ roles) [] inner = refl
pins_stay net i pin r (s ∷ roles) (to ∷ pins) inner =
    pin_step net i pin r s to (pin_of r i (connections_from (suc pin) roles (loosened_pins net roles pins))) (pin_of r i (connections_from (suc pin) roles pins)) inner (pins_stay net i (suc pin) r roles pins inner)

instance_pin : (cells : List library.Cell) (net i : ℕ) (r : Role) (o : Option Instance) → is_output r ≡ false → pin_of r i (pins_at cells (option_map (loosened cells net) o)) ≡ pin_of r i (pins_at cells o)
instance_pin cells net i r None inner = refl
instance_pin cells net i r (Some x) inner = pins_stay net i 0 r (shape_of cells x.cell).roles x.pins inner

instance_kind : (cells : List library.Cell) (net : ℕ) (o : Option Instance) → kind_of cells (option_map (loosened cells net) o) ≡ kind_of cells o
instance_kind cells net None = refl
instance_kind cells net (Some x) = refl

pin_kept : (n : Netlist) (f : Fault) (i : ℕ) (r : Role) → is_output r ≡ false → pin_of r i (pins_of (faulty n f) i) ≡ pin_of r i (pins_of n i)
pin_kept n f i r inner =
    ap (λ (o : Option Instance). pin_of r i (pins_at n.library o)) (slice_get-map (loosened n.library f.net.0) n.instances i)
    ∙ instance_pin n.library f.net.0 i r (slice_get n.instances i) inner

kind_kept : (n : Netlist) (f : Fault) (i : ℕ) → kind_at (faulty n f) i ≡ kind_at n i
kind_kept n f i =
    ap (λ (o : Option Instance). kind_of n.library o) (slice_get-map (loosened n.library f.net.0) n.instances i)
    ∙ instance_kind n.library f.net.0 (slice_get n.instances i)

-- ---- walks in the set of nets by which clocks, resets and sets come

one_root : (control : ℕ → Bool) (turns : Bool) (a b : Source → NetRoot) (inputs : List Source) → HasAll control (nets_of inputs) →
    ((source : Source) → HasAll control (nets_of (source ∷ [])) → a source ≡ b source) → root_of_passed a (passed_by_one turns inputs) ≡ root_of_passed b (passed_by_one turns inputs)
one_root control turns a b [] has same = refl
one_root control turns a b (source ∷ []) has same = ap (turned_root turns) (same source has)
one_root control turns a b (source ∷ more ∷ inputs) has same = refl

gate_root : (control : ℕ → Bool) (a b : Source → NetRoot) (kind : GateKind) (inputs : List Source) → HasAll control (behind_gate (turn_of kind) inputs) →
    ((source : Source) → HasAll control (nets_of (source ∷ [])) → a source ≡ b source) → root_of_passed a (passed_by_gate kind inputs) ≡ root_of_passed b (passed_by_gate kind inputs)
gate_root control a b Buf inputs has same = one_root control false a b inputs has same
gate_root control a b Inv inputs has same = one_root control true a b inputs has same
gate_root control a b _ inputs has same = refl

driver_root : (control : ℕ → Bool) (a b : Source → NetRoot) (net : ℕ) (d : Driver) → HasAll control (behind d) →
    ((source : Source) → HasAll control (nets_of (source ∷ [])) → a source ≡ b source) → root_of_driver a net d ≡ root_of_driver b net d
driver_root control a b net Input has same = refl
driver_root control a b net (Gate kind inputs) has same = gate_root control a b kind inputs has same
driver_root control a b net (drivers.Joined source) has same = same source has
driver_root control a b net (Flop i inverted) has same = refl
driver_root control a b net (drivers.Lockup i) has same = refl
driver_root control a b net Free has same = refl

-- a net of the set is not the stuck one, and has the driver that it had
driver_kept : (n : Netlist) (f : Fault) (control : ℕ → Bool) (net : ℕ) → IsFault n f → control f.net.0 ≡ false → control net ≡ true → driver (faulty n f) net ≡ driver n net
driver_kept n f control net fault out has = elim (eqb_tells net f.net.0) [
  | inl is ↦ absurd (let q : true ≡ false = sym has ∙ ap control is.1 ∙ out in let e : ⊥ = cc in e)
  | inr other ↦ drivers_stay n f net fault ∙ ap (λ b. if b then drivers.Joined (Tied f.value) else driver n net) other.0
]

roots_stay : (n : Netlist) (f : Fault) (control : ℕ → Bool) → IsFault n f → IsControl n control → control f.net.0 ≡ false → (steps : ℕ) (source : Source) → HasAll control (nets_of (source ∷ [])) →
    root_within (faulty n f) steps source ≡ root_within n steps source
roots_stay n f control fault is out steps (Tied bit) has = refl
roots_stay n f control fault is out steps (Loose i pin) has = refl
roots_stay n f control fault is out zero (Net net) has = refl
roots_stay n f control fault is out (suc steps) (Net net) has =
    ap (root_of_driver (root_within (faulty n f) steps) net) (driver_kept n f control net fault out has.0)
    ∙ driver_root control (root_within (faulty n f) steps) (root_within n steps) net (driver n net) (is.back net has.0) (λ source more. roots_stay n f control fault is out steps source more)

-- ---- clocks, resets and sets

-- the net of a pin is in the set
abbrev HasPin : (control : ℕ → Bool) → Option Source → Type 0
HasPin control pin = (net : ℕ) → pin ≡ Some (Net net) → control net ≡ true

pin_has : (control : ℕ → Bool) (source : Source) → HasPin control (Some source) → HasAll control (nets_of (source ∷ []))
pin_has control (Net net) has = (has net refl, tt)
pin_has control (Tied bit) has = tt
pin_has control (Loose i pin) has = tt

domain_stays : (n : Netlist) (f : Fault) (control : ℕ → Bool) (ports : Ports) → IsFault n f → IsControl n control → control f.net.0 ≡ false → (pin : Option Source) → HasPin control pin →
    domain_at (faulty n f) ports pin ≡ domain_at n ports pin
domain_stays n f control ports fault is out None has = refl
domain_stays n f control ports fault is out (Some source) has = ap (λ (r : NetRoot). domain_of ports (clock_of r)) (roots_stay n f control fault is out (suc (length n.nets)) source (pin_has control source has))

force_stays : (n : Netlist) (f : Fault) (control : ℕ → Bool) (ports : Ports) → IsFault n f → IsControl n control → control f.net.0 ≡ false → (pin : Option Source) → HasPin control pin →
    force_at (faulty n f) ports pin ≡ force_at n ports pin
force_stays n f control ports fault is out None has = refl
force_stays n f control ports fault is out (Some source) has = ap (λ (r : NetRoot). force_of ports (straight_root r)) (roots_stay n f control fault is out (suc (length n.nets)) source (pin_has control source has))

domain_kept : (n : Netlist) (f : Fault) (control : ℕ → Bool) (ports : Ports) (i : ℕ) → IsFault n f → IsControl n control → control f.net.0 ≡ false →
    domain_at (faulty n f) ports (pin_of role.Clock i (pins_of (faulty n f) i)) ≡ domain_at n ports (pin_of role.Clock i (pins_of n i))
domain_kept n f control ports i fault is out =
    ap (domain_at (faulty n f) ports) (pin_kept n f i role.Clock refl)
    ∙ domain_stays n f control ports fault is out (pin_of role.Clock i (pins_of n i)) (λ net at. is.pins i role.Clock net refl at)

forcing_kept : (n : Netlist) (f : Fault) (control : ℕ → Bool) (ports : Ports) (i : ℕ) → IsFault n f → IsControl n control → control f.net.0 ≡ false →
    forcing (faulty n f) ports (forces_of i (pins_of (faulty n f) i)) ≡ forcing n ports (forces_of i (pins_of n i))
forcing_kept n f control ports i fault is out =
    let clear = ap (force_at (faulty n f) ports) (pin_kept n f i role.Reset refl) ∙ force_stays n f control ports fault is out (pin_of role.Reset i (pins_of n i)) (λ net at. is.pins i role.Reset net refl at) in
    let preset = ap (force_at (faulty n f) ports) (pin_kept n f i role.Preset refl) ∙ force_stays n f control ports fault is out (pin_of role.Preset i (pins_of n i)) (λ net at. is.pins i role.Preset net refl at) in
    λ t. both_forces (clear t) (preset t)

-- ---- cells and meanings

pub flip_flop_kept : (n : Netlist) (f : Fault) (control : ℕ → Bool) (ports : Ports) (i : ℕ) → IsFault n f → IsControl n control → control f.net.0 ≡ false → flip_flop (faulty n f) ports i ≡ flip_flop n ports i
flip_flop_kept n f control ports i fault is out =
    let kind = kind_kept n f i in
    let domain = domain_kept n f control ports i fault is out in
    let force = forcing_kept n f control ports i fault is out in
    let input = pin_kept n f i role.Din refl in
    let enable = pin_kept n f i role.ScanEnable refl in
    let scan = pin_kept n f i role.ScanIn refl in
    λ t. if is_flip_flop (kind t) then modelled (domain t) (force t) (record { input = or_loose i (input t); scan = scan_of (enable t) (scan t) }) else None

lock_up_kept : (n : Netlist) (f : Fault) (control : ℕ → Bool) (ports : Ports) (i : ℕ) → IsFault n f → IsControl n control → control f.net.0 ≡ false → lock_up (faulty n f) ports i ≡ lock_up n ports i
lock_up_kept n f control ports i fault is out =
    let kind = kind_kept n f i in
    let domain = domain_kept n f control ports i fault is out in
    let input = pin_kept n f i role.Din refl in
    λ t. if is_lockup (kind t) then locked (domain t) (or_loose i (input t)) else None

cell_kept : (n : Netlist) (f : Fault) (control : ℕ → Bool) (ports : Ports) (i : ℕ) → IsFault n f → IsControl n control → control f.net.0 ≡ false → (logic_of (faulty n f) ports).cell i ≡ (logic_of n ports).cell i
cell_kept n f control ports i fault is out =
    let flop = flip_flop_kept n f control ports i fault is out in
    let lock = lock_up_kept n f control ports i fault is out in
    λ t. cell_or_none i (option_or (flop t) (lock t))

meaning_kept : (n : Netlist) (f : Fault) (control : ℕ → Bool) (ports : Ports) (net : ℕ) (d : Driver) → IsFault n f → IsControl n control → control f.net.0 ≡ false → meaning_of (faulty n f) ports net d ≡ meaning_of n ports net d
meaning_kept n f control ports net Input fault is out = refl
meaning_kept n f control ports net (Gate kind inputs) fault is out = refl
meaning_kept n f control ports net (drivers.Joined source) fault is out = refl
meaning_kept n f control ports net (Flop i inverted) fault is out = ap (flop_meaning i inverted) (flip_flop_kept n f control ports i fault is out)
meaning_kept n f control ports net (drivers.Lockup i) fault is out =
    let domain = domain_kept n f control ports i fault is out in
    let input = pin_kept n f i role.Din refl in
    λ t. lockup_meaning i (domain t) (or_loose i (input t))
meaning_kept n f control ports net Free fault is out = refl

net_means : (n : Netlist) (f : Fault) (control : ℕ → Bool) (ports : Ports) (net : ℕ) → IsFault n f → IsControl n control → control f.net.0 ≡ false →
    (logic_of (faulty n f) ports).net net ≡ (with_fault f.net.0 f.value (logic_of n ports)).net net
net_means n f control ports net fault is out =
    ap (meaning_of (faulty n f) ports net) (drivers_stay n f net fault) ∙ by (net == f.net.0)
  where
    by : (b : Bool) → meaning_of (faulty n f) ports net (if b then drivers.Joined (Tied f.value) else driver n net) ≡ (if b then Joined (Tied f.value) else meaning_of n ports net (driver n net))
    by true = refl
    by false = meaning_kept n f control ports net (driver n net) fault is out

pub faulty_means : FaultyMeans
faulty_means n f ports fault apart = λ t. record {
  net = λ net. net_means n f apart.0 ports net fault apart.1.0 apart.1.1 t;
  cell = λ i. cell_kept n f apart.0 ports i fault apart.1.0 apart.1.1 t;
}
