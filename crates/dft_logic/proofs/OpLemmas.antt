-- What a net is that is joined to an output pin, from the pins of the instance.
use Rattle.std.proofs.Common.{ℕ, zero, suc, Bool, true, false, ◌||◌, List, [], ◌∷◌, ◌≡◌, ◌<◌, ◌++◌, ◌⊎◌, inl, inr, Option, None, Some, option_map, length, map, refl, sym, ap, ◌∙◌, subst, slice_get, arith}
use Rattle.std.specs.Prelude.{if◌then◌else◌, replicate}
use Rattle.std.specs.List.{list_any}
use Rattle.std.proofs.lemmas.List.{length-map}
use Rattle.std.proofs.lemmas.Option.{slice_get_within}
use Rattle.dft_cells.specs.declared.kind.Kind.{Kind}
use Rattle.dft_cells.specs.declared.kind.Kind.TheVariants as kind
use Rattle.dft_cells.specs.declared.kind.Gate.{Gate as GateKind}
use Rattle.dft_cells.specs.declared.kind.Role.{Role}
use Rattle.dft_cells.specs.declared.kind.Role.TheVariants as role
use Rattle.dft_cells.specs.FlipFlops.{is_flip_flop, Forces}
use Rattle.dft_cells.specs.declared.kind.Forcing.{Forcing}
use Rattle.dft_cells.specs.declared.kind.Forcing.TheVariants as force
use Rattle.dft_cells.specs.WellFormed.{TakesInputs, GateRoles, HasRoles, FlipFlopRoles, force_roles, scan_roles, front_roles, IsWellFormed, role_of}
use Rattle.dft_netlist.specs.declared.instance.Signal.{Signal}
use Rattle.dft_cells.specs.declared.cell.Cell.{Cell as ACell}
use Rattle.dft_netlist.specs.declared.instance.Instance.{Instance}
use Rattle.dft_netlist.specs.declared.instance.CellRef.{CellRef}
use Rattle.dft_netlist.specs.declared.instance.CellRef.TheVariants as cell_ref
use Rattle.dft_base.specs.Lexing.{Text}
use Rattle.dft_netlist.specs.Sound.{IsNetlist, IsCellOf}
use Rattle.dft_netlist.specs.Netlist.{Netlist}
use Rattle.dft_behavior.specs.ClockRoots.{ClockRoot}
use Rattle.dft_netlist.specs.Drivers.{Source, Connection, source_of, is_input, inputs_of, gate_roles, shape_of_cell, shape_of, connections_from, driver_of_kind, driver, kind_of, kind_at, pins_at, pins_of}
use Rattle.dft_netlist.specs.Connections.{same_role, pin_of}
use Rattle.dft_behavior.specs.Logic.{Ports, Cell, Meaning, Gate, Lockup, Free, Input, Clock, Joined, Flop, or_loose, domain_at, force_of, both_forces, forcing, scan_of, takes_of, modelled, modelled_of, flip_flop, locked, lockup_meaning, flop_meaning, meaning_of}
use Rattle.dft_behavior.proofs.SettledLemmas.{no_flop}
use Rattle.dft_logic.specs.declared.circuit.Op.{Op}
use Rattle.dft_logic.specs.declared.circuit.Op.TheVariants as op
use Rattle.dft_behavior.specs.Traces.{root_of}
use Rattle.dft_logic.specs.Circuit.{source_at, alone, meaning, Fits}
use Rattle.dft_logic.specs.Compiling.{Wired, wired_by, inputs_in, found_in, forcing_in, modelled_in, lockup_in, latch_in, with_source, meaning_in, latch_kept, kept_latch, IsOpOf}

-- ---- pins as wires

found_step : (t : Bool) (s : Source) (a b : Option Source) → a ≡ b → (if t then Some s else a) ≡ (if t then Some s else b)
found_step true s a b e = refl
found_step false s a b e = e

pub found_same : (r : Role) (i : ℕ) (pins : List Connection) → found_in r (map (wired_by i) pins) ≡ pin_of r i pins
found_same r i [] = refl
found_same r i (c ∷ pins) = found_step (same_role r c.role) (source_of i c.pin c.to) _ _ (found_same r i pins)

inputs_step : (t : Bool) (s : Source) (a b : List Source) → a ≡ b → (if t then s ∷ a else a) ≡ (if t then s ∷ b else b)
inputs_step true s a b e = ap (λ (l : List Source). s ∷ l) e
inputs_step false s a b e = e

pub inputs_same : (i : ℕ) (pins : List Connection) → inputs_in (map (wired_by i) pins) ≡ inputs_of i pins
inputs_same i [] = refl
inputs_same i (c ∷ pins) = inputs_step (is_input c.role) (source_of i c.pin c.to) _ _ (inputs_same i pins)

-- an instance has not both a reset and a set
abbrev pub HasOneForce : (instance : ℕ) → List Connection → Type 0
HasOneForce i pins = (pin_of role.Reset i pins ≡ None) ⊎ (pin_of role.Preset i pins ≡ None)

preset_is : (found : Option (Option ℕ)) → option_map (alone true) found ≡ both_forces (Some None) found
preset_is None = refl
preset_is (Some None) = refl
preset_is (Some (Some port)) = refl

clear_is : (found : Option (Option ℕ)) → option_map (alone false) found ≡ both_forces found (Some None)
clear_is None = refl
clear_is (Some None) = refl
clear_is (Some (Some port)) = refl

forcing_is : (n : Netlist) (ports : Ports) (clear preset : Option Source) → (clear ≡ None) ⊎ (preset ≡ None) → forcing_in n ports clear preset ≡ forcing n ports (record { clear = clear; preset = preset })
forcing_is n ports None None one = refl
forcing_is n ports None (Some preset) one = preset_is (force_of ports (root_of n preset))
forcing_is n ports (Some clear) None one = clear_is (force_of ports (root_of n clear))
forcing_is n ports (Some clear) (Some preset) one = elim one [ inl none ↦ absurd cc | inr none ↦ absurd cc ]

pub modelled_same : (n : Netlist) (ports : Ports) (i : ℕ) (pins : List Connection) → HasOneForce i pins → modelled_in n ports i (map (wired_by i) pins) ≡ modelled_of n ports i pins
modelled_same n ports i pins one =
    (λ t. modelled (domain_at n ports (found_same role.Clock i pins t)) (forcing_in n ports (found_same role.Reset i pins t) (found_same role.Preset i pins t))
    (record { input = or_loose i (found_same role.Din i pins t); scan = scan_of (found_same role.ScanEnable i pins t) (found_same role.ScanIn i pins t) }))
    ∙ ap (λ (f : Option (Forces ℕ)). modelled (domain_at n ports (pin_of role.Clock i pins)) f (takes_of i pins)) (forcing_is n ports (pin_of role.Reset i pins) (pin_of role.Preset i pins) one)

pub lockup_in_same : (n : Netlist) (ports : Ports) (i : ℕ) (pins : List Connection) → lockup_in n ports i (map (wired_by i) pins) ≡ locked (domain_at n ports (pin_of role.Clock i pins)) (or_loose i (pin_of role.Din i pins))
lockup_in_same n ports i pins = λ t. locked (domain_at n ports (found_same role.Clock i pins t)) (or_loose i (found_same role.Din i pins t))

-- ---- the roles of pins

-- what the roles of a gate and of a flip-flop are
abbrev pub GateFits : Kind → List Role → Type 0
GateFits (kind.Gate gate) roles = GateRoles (TakesInputs gate) roles
GateFits (kind.Flop flop) roles = FlipFlopRoles (front_roles flop) roles
GateFits kind.Lockup roles = Unit {0}
GateFits kind.Opaque roles = Unit {0}

from_cell : (k : Kind) (roles : List Role) → HasRoles k roles → GateFits k roles
from_cell (kind.Flop flop) roles h = h
from_cell kind.Opaque roles h = tt
from_cell kind.Lockup roles h = tt
from_cell (kind.Gate gate) roles h = h

gate_replicates : (inputs : ℕ) → gate_roles inputs ≡ replicate inputs role.Input ++ role.Output ∷ []
gate_replicates zero = refl
gate_replicates (suc inputs) = ap (λ (l : List Role). role.Input ∷ l) (gate_replicates inputs)

from_gate : (k : GateKind) (inputs : ℕ) → TakesInputs k inputs → GateFits (kind.Gate k) (gate_roles inputs)
from_gate k inputs t = (inputs, t, gate_replicates inputs)

cell_fits : (library : List ACell) (name : Option Text) (c : CellRef) → IsWellFormed library → IsCellOf library name c → GateFits (shape_of library c).kind (shape_of library c).roles
cell_fits library name (cell_ref.Gate k inputs) well fits = from_gate k inputs fits.1
cell_fits library name (cell_ref.Library id) well fits = found (slice_get library id.0) (λ cell at. (well.each id.0 cell at).roles) where
  found : (o : Option ACell) → ((cell : ACell) → o ≡ Some cell → HasRoles cell.kind (map role_of cell.pins)) → GateFits (shape_of_cell o).kind (shape_of_cell o).roles
  found None h = tt
  found (Some cell) h = from_cell cell.kind (map role_of cell.pins) (h cell refl)

not_here : (here more : Bool) (source : Source) (found : Option Source) → (here || more) ≡ false → (more ≡ false → found ≡ None) → (if here then Some source else found) ≡ None
not_here true more source found none later = absurd cc
not_here false more source found none later = later none

-- a role that no pin has is not found
no_pin : (r : Role) (p i : ℕ) (roles : List Role) (signals : List Signal) → list_any (same_role r) roles ≡ false → pin_of r i (connections_from p roles signals) ≡ None
no_pin r p i [] signals none = refl
no_pin r p i (x ∷ roles) [] none = refl
no_pin r p i (x ∷ roles) (to ∷ signals) none = not_here (same_role r x) (list_any (same_role r) roles) (source_of i p to) _ none (no_pin r (suc p) i roles signals)

-- the pins of a flip-flop before its outputs have not both roles
one_role : (forcing : Forcing) (scan : Bool) (last : List Role) → (list_any (same_role role.Reset) last ≡ false) → (list_any (same_role role.Preset) last ≡ false) →
    (list_any (same_role role.Reset) ((role.Clock ∷ role.Din ∷ force_roles forcing ++ scan_roles scan) ++ last) ≡ false) ⊎ (list_any (same_role role.Preset) ((role.Clock ∷ role.Din ∷ force_roles forcing ++ scan_roles scan) ++ last) ≡ false)
one_role force.Nothing true last r s = inl r
one_role force.Nothing false last r s = inl r
one_role force.Reset true last r s = inr s
one_role force.Reset false last r s = inr s
one_role force.Set true last r s = inl r
one_role force.Set false last r s = inl r

one_pin : (i : ℕ) (roles given : List Role) (signals : List Signal) → given ≡ roles → (list_any (same_role role.Reset) roles ≡ false) ⊎ (list_any (same_role role.Preset) roles ≡ false) → HasOneForce i (connections_from 0 given signals)
one_pin i roles given signals is (inl none) = inl (no_pin role.Reset 0 i given signals (ap (list_any (same_role role.Reset)) is ∙ none))
one_pin i roles given signals is (inr none) = inr (no_pin role.Preset 0 i given signals (ap (list_any (same_role role.Preset)) is ∙ none))

shape_one : (i : ℕ) (k : Kind) (roles : List Role) (signals : List Signal) → GateFits k roles → is_flip_flop k ≡ true → HasOneForce i (connections_from 0 roles signals)
shape_one i (kind.Gate gate) roles signals fits is = absurd cc
shape_one i kind.Lockup roles signals fits is = absurd cc
shape_one i kind.Opaque roles signals fits is = absurd cc
shape_one i (kind.Flop flop) roles signals (inl fits) is = one_pin i _ roles signals fits (one_role flop.force flop.scan (role.Output ∷ []) refl refl)
shape_one i (kind.Flop flop) roles signals (inr fits) is = one_pin i _ roles signals fits (one_role flop.force flop.scan (role.Output ∷ role.Inverted ∷ []) refl refl)

pub has_one_force : (n : Netlist) (i : ℕ) → IsNetlist n → IsWellFormed n.library → is_flip_flop (kind_at n i) ≡ true → HasOneForce i (pins_of n i)
has_one_force n i sound well = go (slice_get n.instances i) (λ instance at. cell_fits n.library instance.name instance.cell well (sound.instances i instance at).fits) where
  go : (o : Option Instance) → ((instance : Instance) → o ≡ Some instance → GateFits (shape_of n.library instance.cell).kind (shape_of n.library instance.cell).roles) → is_flip_flop (kind_of n.library o) ≡ true → HasOneForce i (pins_at n.library o)
  go None fits is = absurd cc
  go (Some instance) fits is = shape_one i (shape_of n.library instance.cell).kind (shape_of n.library instance.cell).roles instance.pins (fits instance refl) is

-- ---- what an instance means

flop_same : (n : Netlist) (ports : Ports) (i : ℕ) (inverted : Bool) (k : Kind) → IsNetlist n → IsWellFormed n.library → is_flip_flop k ≡ true → k ≡ kind_at n i →
    flop_meaning i inverted (modelled_in n ports i (map (wired_by i) (pins_of n i))) ≡ flop_meaning i inverted (flip_flop n ports i)
flop_same n ports i inverted k sound well clocked e =
    ap (flop_meaning i inverted) (modelled_same n ports i (pins_of n i) (has_one_force n i sound well (sym (ap is_flip_flop e) ∙ clocked))
    ∙ sym (ap (λ (b : Bool). if b then modelled_of n ports i (pins_of n i) else None) (sym (ap is_flip_flop e) ∙ clocked)))

lockup_same : (n : Netlist) (ports : Ports) (i : ℕ) (pins : List Connection) →
    lockup_meaning i (domain_at n ports (found_in role.Clock (map (wired_by i) pins))) (or_loose i (found_in role.Din (map (wired_by i) pins)))
    ≡ lockup_meaning i (domain_at n ports (pin_of role.Clock i pins)) (or_loose i (pin_of role.Din i pins))
lockup_same n ports i pins = λ t. lockup_meaning i (domain_at n ports (found_same role.Clock i pins t)) (or_loose i (found_same role.Din i pins t))

gate_same : (k : GateKind) (i : ℕ) (pins : List Connection) → Gate k (inputs_in (map (wired_by i) pins)) ≡ Gate k (inputs_of i pins)
gate_same k i pins = ap (Gate k) (inputs_same i pins)

pub meaning_same : (n : Netlist) (ports : Ports) (net i : ℕ) (inverted : Bool) (k : Kind) → IsNetlist n → IsWellFormed n.library → k ≡ kind_at n i →
    meaning_in n ports i k inverted (map (wired_by i) (pins_of n i)) ≡ meaning_of n ports net (driver_of_kind k i inverted (inputs_of i (pins_of n i)))
meaning_same n ports net i inverted kind.Opaque sound well e = refl
meaning_same n ports net i inverted kind.Lockup sound well e = lockup_same n ports i (pins_of n i)
meaning_same n ports net i inverted (kind.Flop flop) sound well e = flop_same n ports i inverted (kind.Flop flop) sound well refl e
meaning_same n ports net i inverted (kind.Gate gate) sound well e = gate_same gate i (pins_of n i)

-- ---- a lock-up is that of its instance

lockup_is : (i : ℕ) (domain : Option ClockRoot) (src : Source) (c e : ℕ) (high : Bool) (source : Source) → lockup_meaning i domain src ≡ Lockup c e high source → (i ≡ c) × (with_source src domain ≡ Some (e, source))
lockup_is i None src c e high source h = absurd cc
lockup_is i (Some d) src c e high source h = (let a : i ≡ c = cc in a, let b : d.port ≡ e = cc in let s : src ≡ source = cc in λ t. Some (b t, s t))

no_gate : (k : GateKind) (inputs : List Source) (c e : ℕ) (high : Bool) (source : Source) → Gate k inputs ≡ Lockup c e high source → ⊥
no_gate k inputs c e high source h = cc

pub latch_is : (n : Netlist) (ports : Ports) (i : ℕ) (inverted : Bool) (k : Kind) (ws : List Wired) (c e : ℕ) (high : Bool) (source : Source) → meaning_in n ports i k inverted ws ≡ Lockup c e high source →
    (i ≡ c) × (latch_kept k (latch_in n ports i ws) ≡ Some (e, source))
latch_is n ports i inverted kind.Opaque ws c e high source h = absurd cc
latch_is n ports i inverted kind.Lockup ws c e high source h = lockup_is i (domain_at n ports (found_in role.Clock ws)) (or_loose i (found_in role.Din ws)) c e high source h
latch_is n ports i inverted (kind.Flop flop) ws c e high source h = absurd (no_flop i inverted _ c e high source h)
latch_is n ports i inverted (kind.Gate gate) ws c e high source h = absurd (no_gate gate _ c e high source h)

-- ---- a gate has as many inputs as it takes

abbrev pub FitsMeaning : Meaning → Type 0
FitsMeaning (Gate k inputs) = TakesInputs k (length inputs)
FitsMeaning Input = Unit {0}
FitsMeaning Clock = Unit {0}
FitsMeaning (Joined source) = Unit {0}
FitsMeaning (Flop i inverted) = Unit {0}
FitsMeaning (Lockup i e high source) = Unit {0}
FitsMeaning Free = Unit {0}

pub fits_by : (o : Op) (m : Meaning) → meaning o ≡ m → FitsMeaning m → Fits o
fits_by (op.Gate k inputs) m e f = (let T : ℕ → Type 0 = TakesInputs k in subst T (length-map inputs source_at) (subst FitsMeaning (sym e) f))
fits_by op.Input m e f = tt
fits_by op.Clock m e f = tt
fits_by (op.Joined source) m e f = tt
fits_by (op.Flop i inverted) m e f = tt
fits_by (op.Lockup i d high source) m e f = tt
fits_by op.Free m e f = tt

count_inputs : (n p i : ℕ) (signals : List Signal) → length signals ≡ suc n → length (inputs_of i (connections_from p (replicate n role.Input ++ role.Output ∷ []) signals)) ≡ n
count_inputs zero p i [] e = absurd (omega arith)
count_inputs zero p i (s ∷ []) e = refl
count_inputs zero p i (s ∷ t ∷ signals) e = absurd (omega arith)
count_inputs (suc n) p i [] e = absurd (omega arith)
count_inputs (suc n) p i (s ∷ signals) e = ap suc (count_inputs n (suc p) i signals (omega arith))

replicated_length : (n : ℕ) → length (replicate n role.Input ++ role.Output ∷ []) ≡ suc n
replicated_length zero = refl
replicated_length (suc n) = ap suc (replicated_length n)

gate_takes : (takes : ℕ → Type 0) (roles : List Role) (signals : List Signal) (i : ℕ) → GateRoles takes roles → length signals ≡ length roles → takes (length (inputs_in (map (wired_by i) (connections_from 0 roles signals))))
gate_takes takes roles signals i g e =
    let R : List Role → Type 0 = λ l. takes (length (inputs_in (map (wired_by i) (connections_from 0 l signals)))) in
    let n : ℕ = g.0 in
    let w : length signals ≡ suc n = e ∙ ap length g.2 ∙ replicated_length n in
    let c : length (inputs_in (map (wired_by i) (connections_from 0 (replicate n role.Input ++ role.Output ∷ []) signals))) ≡ n =
    ap length (inputs_same i (connections_from 0 (replicate n role.Input ++ role.Output ∷ []) signals)) ∙ count_inputs n 0 i signals w in
    subst R (sym g.2) (subst takes (sym c) g.1)

lockup_fits : (i : ℕ) (domain : Option ClockRoot) (s : Source) → FitsMeaning (lockup_meaning i domain s)
lockup_fits i None s = tt
lockup_fits i (Some d) s = tt

flop_fits : (i : ℕ) (inverted : Bool) (cell : Option Cell) → FitsMeaning (flop_meaning i inverted cell)
flop_fits i inverted None = tt
flop_fits i inverted (Some cell) = tt

pins_fit : (n : Netlist) (ports : Ports) (i : ℕ) (inverted : Bool) (k : Kind) (roles : List Role) (signals : List Signal) → GateFits k roles → length signals ≡ length roles →
    FitsMeaning (meaning_in n ports i k inverted (map (wired_by i) (connections_from 0 roles signals)))
pins_fit n ports i inverted kind.Opaque roles signals g e = tt
pins_fit n ports i inverted kind.Lockup roles signals g e = lockup_fits i _ _
pins_fit n ports i inverted (kind.Flop flop) roles signals g e = flop_fits i inverted _
pins_fit n ports i inverted (kind.Gate gate) roles signals g e = gate_takes (TakesInputs gate) roles signals i g e

pub fits_in : (n : Netlist) (ports : Ports) (i : ℕ) (inverted : Bool) (instance : Instance) → IsNetlist n → IsWellFormed n.library → slice_get n.instances i ≡ Some instance →
    FitsMeaning (meaning_in n ports i (kind_at n i) inverted (map (wired_by i) (pins_of n i)))
fits_in n ports i inverted instance sound well at =
    let is = sound.instances i instance at in
    let P : Option Instance → Type 0 = λ o. FitsMeaning (meaning_in n ports i (kind_of n.library o) inverted (map (wired_by i) (pins_at n.library o))) in
    subst P (sym at) (pins_fit n ports i inverted (shape_of n.library instance.cell).kind (shape_of n.library instance.cell).roles instance.pins (cell_fits n.library instance.name instance.cell well is.fits) is.width)

-- ---- the op of a net that is joined to an output pin

pub op_of_pin : (n : Netlist) (ports : Ports) (net i : ℕ) (inverted : Bool) (k : Kind) (ws : List Wired) (o : Op) (instance : Instance) → (sound : IsNetlist n) → (well : IsWellFormed n.library) → (at : slice_get n.instances i ≡ Some instance) →
    (driven : driver n net ≡ driver_of_kind (kind_at n i) i inverted (inputs_of i (pins_of n i))) → (ke : k ≡ kind_at n i) → (we : ws ≡ map (wired_by i) (pins_of n i)) → (means : meaning o ≡ meaning_in n ports i k inverted ws) → IsOpOf n ports net o
op_of_pin n ports net i inverted k ws o instance sound well at driven ke we means =
    let K : Kind → Type 0 = λ j. meaning o ≡ meaning_in n ports i j inverted ws in
    let W : List Wired → Type 0 = λ l. meaning o ≡ meaning_in n ports i (kind_at n i) inverted l in
    let here : meaning o ≡ meaning_in n ports i (kind_at n i) inverted (map (wired_by i) (pins_of n i)) = subst W we (subst K ke means) in
    record {
      means = here ∙ meaning_same n ports net i inverted (kind_at n i) sound well refl ∙ sym (ap (meaning_of n ports net) driven);
      fits = fits_by o (meaning_in n ports i (kind_at n i) inverted (map (wired_by i) (pins_of n i))) here (fits_in n ports i inverted instance sound well at);
      latch = λ c e high source h.
          (let found = latch_is n ports i inverted (kind_at n i) (map (wired_by i) (pins_of n i)) c e high source (sym here ∙ h) in
          let C : ℕ → Type 0 = λ j. (j < length n.instances) × (kept_latch n ports j ≡ Some (e, source)) in
          subst C found.0 (slice_get_within n.instances i instance at, found.1));
    }
