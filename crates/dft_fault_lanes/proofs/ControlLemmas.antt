-- The marked nets have all by which clocks, resets and sets come.
use Rattle.std.proofs.Common.{ℕ, suc, Bool, true, ◌≡◌, ◌<◌, ◌≤◌, ◌+◌, inl, inr, List, [], ◌∷◌, length, refl, sym, ap, subst, arith, ◌∙◌, slice_get, Option, None, Some}
use Rattle.std.specs.Prelude.{if◌then◌else◌}
use Rattle.std.proofs.lemmas.Bool.{cases_eq, cases_Bool}
use Rattle.std.proofs.lemmas.Option.{same_Some, slice_get_within}
use Rattle.dft_cells.specs.declared.cell.Cell.{Cell}
use Rattle.dft_cells.specs.declared.kind.Role.{Role}
use Rattle.dft_cells.specs.declared.kind.Role.TheVariants as role
use Rattle.dft_netlist.specs.declared.instance.Instance.{Instance}
use Rattle.dft_netlist.specs.declared.instance.Signal.{Signal}
use Rattle.dft_netlist.specs.declared.instance.Signal.TheVariants as signal
use Rattle.dft_netlist.specs.Netlist.{Netlist}
use Rattle.dft_netlist.specs.Drivers.{Net, Driver, Input, Gate, Flop, Free, driver, nets_of, shape_of, source_of, connections_from, pins_at}
use Rattle.dft_netlist.specs.Drivers as drivers
use Rattle.dft_behavior.specs.ClockRoots.{turn_of}
use Rattle.dft_netlist.specs.Connections.{same_role, pin_of}
use Rattle.dft_behavior.specs.Logic.{Ports, reads, meaning_of, logic_of}
use Rattle.dft_takings.specs.Needs.{HasAll, IsStrobeClosed}
use Rattle.dft_fault_laws.specs.Stuck.{is_control, behind_gate, behind, IsControl}
use Rattle.dft_fault_lanes.specs.Controls.{HasPins, HasPinsOf}

-- ---- the pin of a role

same_control : (r s : Role) → is_control r ≡ true → same_role r s ≡ true → is_control s ≡ true
same_control r role.Clock is same = refl
same_control r role.Reset is same = refl
same_control r role.Preset is same = refl
same_control role.Clock role.Input is same = absurd (let f : ⊥ = cc in f)
same_control role.Clock role.Din is same = absurd (let f : ⊥ = cc in f)
same_control role.Clock role.ScanIn is same = absurd (let f : ⊥ = cc in f)
same_control role.Clock role.ScanEnable is same = absurd (let f : ⊥ = cc in f)
same_control role.Clock role.Output is same = absurd (let f : ⊥ = cc in f)
same_control role.Clock role.Inverted is same = absurd (let f : ⊥ = cc in f)
same_control role.Reset role.Input is same = absurd (let f : ⊥ = cc in f)
same_control role.Reset role.Din is same = absurd (let f : ⊥ = cc in f)
same_control role.Reset role.ScanIn is same = absurd (let f : ⊥ = cc in f)
same_control role.Reset role.ScanEnable is same = absurd (let f : ⊥ = cc in f)
same_control role.Reset role.Output is same = absurd (let f : ⊥ = cc in f)
same_control role.Reset role.Inverted is same = absurd (let f : ⊥ = cc in f)
same_control role.Preset role.Input is same = absurd (let f : ⊥ = cc in f)
same_control role.Preset role.Din is same = absurd (let f : ⊥ = cc in f)
same_control role.Preset role.ScanIn is same = absurd (let f : ⊥ = cc in f)
same_control role.Preset role.ScanEnable is same = absurd (let f : ⊥ = cc in f)
same_control role.Preset role.Output is same = absurd (let f : ⊥ = cc in f)
same_control role.Preset role.Inverted is same = absurd (let f : ⊥ = cc in f)
same_control role.Input s is same = absurd (let f : ⊥ = cc in f)
same_control role.Din s is same = absurd (let f : ⊥ = cc in f)
same_control role.ScanIn s is same = absurd (let f : ⊥ = cc in f)
same_control role.ScanEnable s is same = absurd (let f : ⊥ = cc in f)
same_control role.Output s is same = absurd (let f : ⊥ = cc in f)
same_control role.Inverted s is same = absurd (let f : ⊥ = cc in f)

net_signal : (i pin : ℕ) (to : Signal) (net : ℕ) → source_of i pin to ≡ Net net → to ≡ signal.Net (record { 0 = net })
net_signal i pin (signal.Net k) net is = let e : k.0 ≡ net = cc in ap (λ (n : ℕ). signal.Net (record { 0 = n })) e
net_signal i pin (signal.Constant bit) net is = absurd (let f : ⊥ = cc in f)
net_signal i pin signal.Unconnected net is = absurd (let f : ⊥ = cc in f)

-- a pin of the role is joined to the net
record HasPin (roles : List Role) (pins : List Signal) (net : ℕ) : Type 0 where
  pub pin : ℕ
  pub role : Role
  pub role_at : slice_get roles pin ≡ Some role
  pub control : is_control role ≡ true
  pub joined : slice_get pins pin ≡ Some (signal.Net (record { 0 = net }))

pin_there : (r : Role) (i from : ℕ) (roles : List Role) (pins : List Signal) (net : ℕ) → is_control r ≡ true → pin_of r i (connections_from from roles pins) ≡ Some (Net net) → HasPin roles pins net
pin_there r i from [] pins net is at = absurd (let f : ⊥ = cc in f)
pin_there r i from (s ∷ roles) [] net is at = absurd (let f : ⊥ = cc in f)
pin_there r i from (s ∷ roles) (to ∷ pins) net is at = elim (cases_Bool (same_role r s)) [
  | inl same ↦ (
      let here : Some (source_of i from to) ≡ Some (Net net) = sym (ap (λ b. if b then Some (source_of i from to) else pin_of r i (connections_from (suc from) roles pins)) same) ∙ at in
      let source : source_of i from to ≡ Net net = same_Some (source_of i from to) (Net net) here in
      record { pin = 0; role = s; role_at = refl; control = same_control r s is same; joined = ap (λ (t : Signal). Some t) (net_signal i from to net source) })
  | inr other ↦ (
      let rest = pin_there r i (suc from) roles pins net is (sym (ap (λ b. if b then Some (source_of i from to) else pin_of r i (connections_from (suc from) roles pins)) other) ∙ at) in
      record { pin = suc rest.pin; role = rest.role; role_at = rest.role_at; control = rest.control; joined = rest.joined })
]

control_pin : (library : List Cell) (has : ℕ → Bool) (i : ℕ) (o : Option Instance) (r : Role) (net : ℕ) → is_control r ≡ true → pin_of r i (pins_at library o) ≡ Some (Net net) → ((x : Instance) → o ≡ Some x → HasPinsOf library x has) → has net ≡ true
control_pin library has i None r net is at each = absurd (let f : ⊥ = cc in f)
control_pin library has i (Some x) r net is at each =
    let found = pin_there r i 0 (shape_of library x.cell).roles x.pins net is at in
    each x refl found.pin found.role net found.role_at found.control found.joined

-- ---- behind a net

behind_read : (has : ℕ → Bool) (n : Netlist) (ports : Ports) (net : ℕ) (d : Driver) → HasAll has (reads (meaning_of n ports net d)) → HasAll has (behind d)
behind_read has n ports net Input all = tt
behind_read has n ports net (Gate kind inputs) all = gate (turn_of kind) all
  where
    gate : (turns : Option Bool) → HasAll has (nets_of inputs) → HasAll has (behind_gate turns inputs)
    gate None all = tt
    gate (Some turns) all = all
behind_read has n ports net (drivers.Joined source) all = all
behind_read has n ports net (Flop i inverted) all = tt
behind_read has n ports net (drivers.Lockup i) all = tt
behind_read has n ports net Free all = tt

pub are_control : (n : Netlist) (ports : Ports) (first has : ℕ → Bool) → HasPins n.library n.instances first → ((k : ℕ) → first k ≡ true → has k ≡ true) → IsStrobeClosed (logic_of n ports) has → IsControl n has
are_control n ports first has pins kept closed = record {
  pins = λ i r net is at. kept net (control_pin n.library first i (slice_get n.instances i) r net is at (λ x here. pins i x here));
  back = λ net up. behind_read has n ports net (driver n net) (closed net up);
}

-- ---- marks, one after another

-- those of the first pins
abbrev pub FirstPins : List Cell → Instance → (has : ℕ → Bool) → (pin : ℕ) → Type 0
FirstPins library x has count =
    (pin : ℕ) (r : Role) (net : ℕ) → pin < count → slice_get (shape_of library x.cell).roles pin ≡ Some r → is_control r ≡ true → slice_get x.pins pin ≡ Some (signal.Net (record { 0 = net })) → has net ≡ true

pub one_pin : (library : List Cell) (x : Instance) (old new : ℕ → Bool) (pin : ℕ) (o : Option Role) (to : Signal) → o ≡ slice_get (shape_of library x.cell).roles pin → slice_get x.pins pin ≡ Some to → ((k : ℕ) → old k ≡ true → new k ≡ true) →
    ((r : Role) (net : ℕ) → o ≡ Some r → is_control r ≡ true → to ≡ signal.Net (record { 0 = net }) → new net ≡ true) → FirstPins library x old pin → FirstPins library x new (pin + 1)
one_pin library x old new pin o to is at kept here first k r net less role_at control joined = elim (cases_eq k pin) [
  | inl e ↦ here r net (is ∙ ap (slice_get (shape_of library x.cell).roles) (sym e) ∙ role_at) control (same_Some to (signal.Net (record { 0 = net })) (sym at ∙ ap (slice_get x.pins) (sym e) ∙ joined))
  | inr ne ↦ kept net (first k r net (omega (arith, less, ne)) role_at control joined)
]

-- those of the first instances
abbrev pub FirstInstances : List Cell → List Instance → (has : ℕ → Bool) → (place : ℕ) → Type 0
FirstInstances library xs has count = (place : ℕ) (x : Instance) → place < count → slice_get xs place ≡ Some x → HasPinsOf library x has

pub one_instance : (library : List Cell) (xs : List Instance) (old new : ℕ → Bool) (place : ℕ) (x : Instance) → slice_get xs place ≡ Some x → ((k : ℕ) → old k ≡ true → new k ≡ true) → HasPinsOf library x new → FirstInstances library xs old place → FirstInstances library xs new (place + 1)
one_instance library xs old new place x at kept pins first k y less here = elim (cases_eq k place) [
  | inl e ↦ subst (λ (z : Instance). HasPinsOf library z new) (same_Some x y (sym at ∙ ap (slice_get xs) (sym e) ∙ here)) pins
  | inr ne ↦ λ pin r net role_at control joined. kept net (first k y (omega (arith, less, ne)) here pin r net role_at control joined)
]

pub all_instances : (library : List Cell) (xs : List Instance) (has : ℕ → Bool) (place : ℕ) → length xs ≤ place → FirstInstances library xs has place → HasPins library xs has
all_instances library xs has place all first k x at = first k x (let w = slice_get_within xs k x at in omega (arith, w, all)) at

pub all_pins : (library : List Cell) (x : Instance) (has : ℕ → Bool) (pin : ℕ) → length x.pins ≤ pin → FirstPins library x has pin → HasPinsOf library x has
all_pins library x has pin all first k r net role_at control joined = first k r net (let w = slice_get_within x.pins k (signal.Net (record { 0 = net })) joined in omega (arith, w, all)) role_at control joined
