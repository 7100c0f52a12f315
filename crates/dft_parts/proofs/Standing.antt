-- What made gates do in a finished netlist.
use Rattle.std.proofs.Common.{ℕ, zero, suc, ◌+◌, ◌≡◌, false, List, [], ◌∷◌, ◌++◌, length, Some, slice_get, refl, sym, ap, arith, ◌∙◌}
use Rattle.std.specs.Prelude.{IsTrue}
use Rattle.std.proofs.lemmas.Option.{none-some, same_Some}
use Rattle.dft_base.proofs.ListLemmas.{get_left, get_right}
use Rattle.dft_cells.specs.declared.kind.Kind.{Kind}
use Rattle.dft_cells.specs.declared.kind.Kind.TheVariants as kind
use Rattle.dft_cells.specs.declared.kind.Gate.{Gate as GateKind}
use Rattle.dft_cells.specs.declared.cell.Cell.{Cell}
use Rattle.dft_netlist.specs.declared.ids.NetId.{NetId}
use Rattle.dft_netlist.specs.declared.instance.Signal.{Signal}
use Rattle.dft_netlist.specs.declared.instance.Signal.TheVariants.{Net as AtNet}
use Rattle.dft_netlist.specs.declared.instance.CellRef.TheVariants as cell_ref
use Rattle.dft_netlist.specs.declared.instance.Instance.{Instance}
use Rattle.dft_netlist.specs.Netlist.{Netlist}
use Rattle.dft_netlist.specs.NetDrivers.{IsSingle}
use Rattle.dft_netlist.specs.Sound.{is_primitive}
use Rattle.dft_netlist.specs.Drivers.{Shape, Source, Net, Driver, Driven, Gate, gate_roles, connections_from, inputs_of, driver_of_kind, driven_by, driven_by_pins, driven_by_instances, driven_by_ports, driven_by_joins, driver, shape_of}
use Rattle.dft_behavior.specs.Logic.{meaning_of}
use Rattle.dft_netlist.proofs.DriverLaws.{listed_drives}
use Rattle.dft_parts.specs.Recipes.{at_nets}
use Rattle.dft_parts.specs.Growth.{AreKept}
use Rattle.dft_parts.specs.Standing.{sources_at, GateStands}

-- ---- an instance drives what it lists

in_instances : (library : List Cell) (i k number m : ℕ) (xs : List Instance) (x : Instance) (d : Driven) → number ≡ i + k → slice_get xs k ≡ Some x → slice_get (driven_by library number x) m ≡ Some d → (j : ℕ) × (slice_get (driven_by_instances library i xs) j ≡ Some d)
in_instances library i k number m [] x d is at here = absurd (none-some x at)
in_instances library i zero number m (z ∷ xs) x d is at here =
    let same : number ≡ i = omega (arith, is) in
    (m, get_left (driven_by library i z) (driven_by_instances library (suc i) xs) m d (ap (λ v. slice_get (driven_by library i v) m) (same_Some z x at) ∙ ap (λ k. slice_get (driven_by library k x) m) (sym same) ∙ here))
in_instances library i (suc k) number m (z ∷ xs) x d is at here =
    let more = in_instances library (suc i) k number m xs x d (omega (arith, is)) at here in
    (length (driven_by library i z) + more.0, get_right (driven_by library i z) (driven_by_instances library (suc i) xs) more.0 d more.1)

pub instance_drives : (n : Netlist) (i m : ℕ) (x : Instance) (d : Driven) → IsSingle n → slice_get n.instances i ≡ Some x → slice_get (driven_by n.library i x) m ≡ Some d → driver n d.0 ≡ d.1
instance_drives n i m x d single at here =
    let listed = in_instances n.library 0 i i m n.instances x d (omega arith) at here in
    listed_drives n (length (driven_by_ports n.ports) + listed.0) d single
    (get_left (driven_by_ports n.ports ++ driven_by_instances n.library 0 n.instances) (driven_by_joins n.joins) (length (driven_by_ports n.ports) + listed.0) d
    (get_right (driven_by_ports n.ports) (driven_by_instances n.library 0 n.instances) listed.0 d listed.1))

-- ---- gates

-- pins that are all joined stay
kept_nets : (xs : List NetId) (o : NetId) (ys : List Signal) → AreKept (at_nets xs ++ AtNet o ∷ []) ys → ys ≡ at_nets xs ++ AtNet o ∷ []
kept_nets [] o [] h = absurd h
kept_nets [] o (y ∷ []) h = ap (λ (s : Signal). s ∷ []) h.0
kept_nets [] o (y ∷ z ∷ ys) h = absurd h.1
kept_nets (x ∷ xs) o [] h = absurd h
kept_nets (x ∷ xs) o (y ∷ ys) h = λ i. h.0 i ∷ kept_nets xs o ys h.1 i

pub gate_inputs : (i pin : ℕ) (xs : List NetId) (o : NetId) → inputs_of i (connections_from pin (gate_roles (length xs)) (at_nets xs ++ AtNet o ∷ [])) ≡ sources_at xs
gate_inputs i pin [] o = refl
gate_inputs i pin (x ∷ xs) o = ap (λ (s : List Source). Net x.0 ∷ s) (gate_inputs i (suc pin) xs o)

gate_output : (k : Kind) (i pin : ℕ) (ins : List Source) (xs : List NetId) (o : NetId) → driven_by_pins k i ins (connections_from pin (gate_roles (length xs)) (at_nets xs ++ AtNet o ∷ [])) ≡ (o.0, driver_of_kind k i false ins) ∷ []
gate_output k i pin ins [] o = refl
gate_output k i pin ins (x ∷ xs) o = gate_output k i (suc pin) ins xs o

-- what a gate with these pins drives
abbrev pub driven_as : Shape → (i : ℕ) → List Signal → List Driven
driven_as s i pins = let cs = connections_from 0 s.roles pins in driven_by_pins s.kind i (inputs_of i cs) cs

pub gate_driven : (library : List Cell) (i : ℕ) (k : GateKind) (xs : List NetId) (o : NetId) (x : Instance) → IsTrue (is_primitive k) → x.cell ≡ cell_ref.Gate k (length xs) → AreKept (at_nets xs ++ AtNet o ∷ []) x.pins →
    slice_get (driven_by library i x) 0 ≡ Some (o.0, Gate k (sources_at xs))
gate_driven library i k xs o x is cell kept =
    let cs = connections_from 0 (gate_roles (length xs)) (at_nets xs ++ AtNet o ∷ []) in
    ap (λ c. slice_get (driven_as (shape_of library c) i x.pins) 0) cell
    ∙ ap (λ (ps : List Signal). slice_get (driven_as (shape_of library (cell_ref.Gate k (length xs))) i ps) 0) (kept_nets xs o x.pins kept)
    ∙ ap (λ (ds : List Driven). slice_get ds 0) (gate_output (kind.Gate k) i 0 (inputs_of i cs) xs o)
    ∙ ap (λ (d : Driver). Some (o.0, d)) (ap (Gate k) (gate_inputs i 0 xs o))

pub gate_stands : GateStands
gate_stands n ports i k xs o single is h = ap (meaning_of n ports o.0) (instance_drives n i 0 h.instance (o.0, Gate k (sources_at xs)) single h.at (gate_driven n.library i k xs o h.instance is h.cell_is h.kept))
