-- One step of a walk back, and the whole walk.
use Rattle.std.proofs.Common.{◌≡◌, ℕ, zero, suc, Bool, true, false, List, [], ◌∷◌, ◌++◌, map, Option, None, Some, refl, sym, ◌∙◌, ap, subst, slice_get, replicate}
use Rattle.dft_cells.specs.declared.kind.Kind.{Kind}
use Rattle.dft_cells.specs.declared.kind.Kind.TheVariants as cell_kind
use Rattle.dft_cells.specs.declared.kind.Gate.{Gate}
use Rattle.dft_cells.specs.declared.kind.Gate.TheVariants.{Buf, Inv, Tie0, Tie1}
use Rattle.dft_cells.specs.declared.kind.Role.{Role}
use Rattle.dft_cells.specs.declared.kind.Role.TheVariants.{Input, Output}
use Rattle.dft_cells.specs.declared.cell.Cell.{Cell}
use Rattle.dft_cells.specs.WellFormed.{IsWellFormed, HasRoles, role_of, TakesInputs}
use Rattle.dft_netlist.specs.declared.ids.InstanceId.{InstanceId}
use Rattle.dft_netlist.specs.declared.instance.Signal.{Signal}
use Rattle.dft_netlist.specs.declared.instance.Signal.TheVariants as signal
use Rattle.dft_netlist.specs.declared.instance.CellRef.{CellRef}
use Rattle.dft_netlist.specs.declared.instance.CellRef.TheVariants.{Library, Gate as AGate}
use Rattle.dft_netlist.specs.declared.instance.Instance.{Instance}
use Rattle.dft_netlist.specs.declared.net_driver.NetDriver.TheVariants.{Pin}
use Rattle.dft_netlist.specs.Netlist.{Netlist}
use Rattle.dft_netlist.specs.Drivers.{Source, Net, source_of, driver_of_kind, inputs_of, connections_from, connections_of, shape_of, shape_of_cell, gate_roles}
use Rattle.dft_netlist.specs.NetDrivers.{driver_at, is_inverted, roles_at}
use Rattle.dft_netlist.specs.Sound.{IsInstance}
use Rattle.dft_netlist.proofs.GateDrivers.{pin_driver}
use Rattle.dft_behavior.specs.ClockRoots.{turn_of_kind}
use Rattle.dft_behavior.specs.WalkSteps.{IsWalk}
use Rattle.dft_behavior.specs.NetRoots.{NetRoot, Other, turned_root, root_of_driver, root_within}
use Rattle.dft_base.specs.Lexing.{Text}

-- ---- a buffer and an inverter have one input

-- an inverter, or a buffer
abbrev pub one_gate : (turns : Bool) → Gate
one_gate false = Buf
one_gate true = Inv

abbrev pub one_kind : (turns : Bool) → Kind
one_kind turns = cell_kind.Gate (one_gate turns)

gate_one : (turns : Bool) (gate : Gate) (inputs : ℕ) → TakesInputs gate inputs → cell_kind.Gate gate ≡ one_kind turns → gate_roles inputs ≡ Input ∷ Output ∷ []
gate_one false gate inputs takes is =
    let its : gate ≡ Buf = cc in
    let one : inputs ≡ 1 = subst (λ g. TakesInputs g inputs) its takes in
    rw one refl
gate_one true gate inputs takes is =
    let its : gate ≡ Inv = cc in
    let one : inputs ≡ 1 = subst (λ g. TakesInputs g inputs) its takes in
    rw one refl

roles_one : (turns : Bool) (roles : List Role) → HasRoles (one_kind turns) roles → roles ≡ Input ∷ Output ∷ []
roles_one false roles h = h.2 ∙ ap (λ k. replicate k Input ++ Output ∷ []) h.1
roles_one true roles h = h.2 ∙ ap (λ k. replicate k Input ++ Output ∷ []) h.1

cell_one : (turns : Bool) (library : List Cell) → IsWellFormed library → (id : ℕ) (o : Option Cell) → slice_get library id ≡ o → (shape_of_cell o).kind ≡ one_kind turns → (shape_of_cell o).roles ≡ Input ∷ Output ∷ []
cell_one false library w id None at is = absurd (let f : ⊥ = cc in f)
cell_one true library w id None at is = absurd (let f : ⊥ = cc in f)
cell_one turns library w id (Some cell) at is = roles_one turns (map role_of cell.pins) (subst (λ k. HasRoles k (map role_of cell.pins)) is (w.each id cell at).roles)

pub one_roles : (turns : Bool) (library : List Cell) → IsWellFormed library → (nets : ℕ) (name : Option Text) (cell : CellRef) (pins : List Signal) → IsInstance library nets name cell pins → (shape_of library cell).kind ≡ one_kind turns →
    (shape_of library cell).roles ≡ Input ∷ Output ∷ []
one_roles turns library w nets name (Library id) pins h is = cell_one turns library w id.0 (slice_get library id.0) refl is
one_roles turns library w nets name (AGate kind inputs) pins h is = gate_one turns kind inputs h.fits.1 is

turn_kind : (kind : Kind) (turns : Bool) → turn_of_kind kind ≡ Some turns → kind ≡ one_kind turns
turn_kind (cell_kind.Gate Buf) turns is = let e : false ≡ turns = cc in ap one_kind e
turn_kind (cell_kind.Gate Inv) turns is = let e : true ≡ turns = cc in ap one_kind e
turn_kind _ turns is = absurd cc

pub turn_roles : (library : List Cell) → IsWellFormed library → (nets : ℕ) (name : Option Text) (cell : CellRef) (pins : List Signal) (turns : Bool) → IsInstance library nets name cell pins → turn_of_kind (shape_of library cell).kind ≡ Some turns → (shape_of library cell).roles ≡ Input ∷ Output ∷ []
turn_roles library w nets name cell pins turns h is = one_roles turns library w nets name cell pins h (turn_kind (shape_of library cell).kind turns is)

-- ---- what an instance passes on

one_input : (i : ℕ) (pins : List Signal) (s : Signal) → slice_get pins 0 ≡ Some s → inputs_of i (connections_from 0 (Input ∷ Output ∷ []) pins) ≡ source_of i 0 s ∷ []
one_input i [] s h = absurd (let f : ⊥ = cc in f)
one_input i (a ∷ []) s h = let e : a ≡ s = cc in ap (λ x. source_of i 0 x ∷ []) e
one_input i (a ∷ b ∷ pins) s h = let e : a ≡ s = cc in ap (λ x. source_of i 0 x ∷ []) e

by_one : (turns : Bool) (walk : Source → NetRoot) (net i : ℕ) (inverted : Bool) (source : Source) → root_of_driver walk net (driver_of_kind (one_kind turns) i inverted (source ∷ [])) ≡ turned_root turns (walk source)
by_one false walk net i inverted source = refl
by_one true walk net i inverted source = refl

source_step : (walk : Source → NetRoot) → IsWalk walk → (i : ℕ) (s : Signal) → walk (source_of 0 0 s) ≡ walk (source_of i 0 s)
source_step walk w i (signal.Net net) = refl
source_step walk w i (signal.Constant bit) = refl
source_step walk w i signal.Unconnected = w.loose 0 0 ∙ sym (w.loose i 0)

pub through_one : (turns : Bool) (n : Netlist) (id : InstanceId) (p : ℕ) (x : Instance) (s : Signal) (walk : Source → NetRoot) (net : ℕ) → IsWalk walk → slice_get n.instances id.0 ≡ Some x → (shape_of n.library x.cell).kind ≡ one_kind turns →
    (shape_of n.library x.cell).roles ≡ Input ∷ Output ∷ [] → slice_get x.pins 0 ≡ Some s → turned_root turns (walk (source_of 0 0 s)) ≡ root_of_driver walk net (driver_at n (Pin id p))
through_one turns n id p x s walk net w at kind roles first =
    let inv = is_inverted (slice_get (roles_at n id.0) p) in
    ap (turned_root turns) (source_step walk w id.0 s) ∙ sym (by_one turns walk net id.0 inv (source_of id.0 0 s))
    ∙ sym (ap (root_of_driver walk net) (pin_driver n id p x at)
    ∙ ap (λ k. root_of_driver walk net (driver_of_kind k id.0 inv (inputs_of id.0 (connections_of n.library x)))) kind
    ∙ ap (λ rs. root_of_driver walk net (driver_of_kind (one_kind turns) id.0 inv (inputs_of id.0 (connections_from 0 rs x.pins)))) roles
    ∙ ap (λ l. root_of_driver walk net (driver_of_kind (one_kind turns) id.0 inv l)) (one_input id.0 x.pins s first))

pub through_kind : (n : Netlist) (id : InstanceId) (p : ℕ) (x : Instance) (walk : Source → NetRoot) (net : ℕ) (kind : Kind) (root : NetRoot) → slice_get n.instances id.0 ≡ Some x → (shape_of n.library x.cell).kind ≡ kind → ((inverted : Bool) (inputs : List Source) → root_of_driver walk net (driver_of_kind kind id.0 inverted inputs) ≡ root) → root ≡ root_of_driver walk net (driver_at n (Pin id p))
through_kind n id p x walk net kind root at is gives =
    let inv = is_inverted (slice_get (roles_at n id.0) p) in
    sym (ap (root_of_driver walk net) (pin_driver n id p x at)
    ∙ ap (λ k. root_of_driver walk net (driver_of_kind k id.0 inv (inputs_of id.0 (connections_of n.library x)))) is
    ∙ gives inv (inputs_of id.0 (connections_of n.library x)))

pub other_root : (walk : Source → NetRoot) (net i : ℕ) (gate : Gate) → (gate ≡ Buf → ⊥) → (gate ≡ Inv → ⊥) → (gate ≡ Tie0 → ⊥) → (gate ≡ Tie1 → ⊥) → (inverted : Bool) (inputs : List Source) → root_of_driver walk net (driver_of_kind (cell_kind.Gate gate) i inverted inputs) ≡ Other
other_root walk net i Buf b v t u inverted inputs = absurd (b refl)
other_root walk net i Inv b v t u inverted inputs = absurd (v refl)
other_root walk net i Tie0 b v t u inverted inputs = absurd (t refl)
other_root walk net i Tie1 b v t u inverted inputs = absurd (u refl)
other_root walk net i _ b v t u inverted inputs = refl

-- ---- the whole walk

pub is_walk : (n : Netlist) (k : ℕ) → IsWalk (root_within n k)
is_walk n zero = record { constant = λ bit. refl; loose = λ i p. refl }
is_walk n (suc k) = record { constant = λ bit. refl; loose = λ i p. refl }
