-- The drivers of a design with a stuck net: those of the other nets, and behind them the constant.
use Rattle.std.proofs.Common.{ℕ, suc, ◌+◌, ◌≡◌, ◌≢◌, ◌==◌, ◌≤◌, Bool, true, false, not, List, [], ◌∷◌, ◌++◌, map, filter, cond, inl, inr, refl, sym, subst, ap, arith, ◌∙◌, append_assoc}
use Rattle.std.specs.Prelude.{if◌then◌else◌}
use Rattle.std.proofs.lemmas.Bool.{eqb-true, eq-eqb, ne_eqb}
use Rattle.std.proofs.lemmas.Bool.Decides.{eqb_tells}
use Rattle.std.proofs.lemmas.List.Elements.{filter-append}
use Rattle.dft_base.specs.declared.dir.Dir.{Dir}
use Rattle.dft_base.specs.declared.dir.Dir.TheVariants as dir
use Rattle.dft_cells.specs.declared.cell.Cell.{Cell}
use Rattle.dft_cells.specs.declared.kind.Kind.{Kind}
use Rattle.dft_cells.specs.declared.kind.Role.{Role}
use Rattle.dft_cells.specs.declared.kind.Role.TheVariants as role
use Rattle.dft_netlist.specs.declared.ids.NetId.{NetId}
use Rattle.dft_netlist.specs.declared.port.Port.{Port}
use Rattle.dft_netlist.specs.declared.instance.Signal.{Signal}
use Rattle.dft_netlist.specs.declared.instance.Signal.TheVariants as signal
use Rattle.dft_netlist.specs.declared.instance.Instance.{Instance}
use Rattle.dft_netlist.specs.declared.instance.Join.{Join}
use Rattle.dft_netlist.specs.Netlist.{Netlist}
use Rattle.dft_netlist.specs.Connections.{is_input}
use Rattle.dft_netlist.specs.Drivers.{Source, Driver, Driven, Joined, Tied, Free, at_signal, at_role, driver_of_kind, connections_from, connections_of, inputs_of, lockup_inputs, shape_of, source_of, driven_by_pins, driven_by, driven_by_instances, driven_by_bits, driven_by_ports, driven_by_joins, all_driven, driver_in}
use Rattle.dft_netlist.specs.Drivers as drivers
use Rattle.dft_scan_frame.proofs.Mergings.{times, times-cons}
use Rattle.dft_faults.specs.declared.fault.Fault.{Fault}
use Rattle.dft_faults.specs.Faulty.{is_at, loosened_pin, loosened_pins, loosened, is_elsewhere, stuck_join, faulty, IsFault}

-- the drivers of other nets
abbrev pub others : (net : ℕ) → List Driven → List Driven
others net ds = filter (λ (d : Driven). not (d.0 == net)) ds

others-append : (net : ℕ) (xs ys : List Driven) → others net (xs ++ ys) ≡ others net xs ++ others net ys
others-append net xs ys = filter-append (λ (d : Driven). not (d.0 == net)) xs ys

-- ---- instances

kept_signal : (b : Bool) (k : NetId) (d : Driver) → at_signal (if b then signal.Unconnected else signal.Net k) d ≡ (if not b then (k.0, d) ∷ [] else [])
kept_signal true k d = refl
kept_signal false k d = refl

other_signal : (net : ℕ) (to : Signal) (d : Driver) → at_signal (if is_at net to then signal.Unconnected else to) d ≡ others net (at_signal to d)
other_signal net (signal.Net k) d = kept_signal (k.0 == net) k d
other_signal net (signal.Constant bit) d = refl
other_signal net signal.Unconnected d = refl

other_role : (net : ℕ) (r : Role) (k : Kind) (i : ℕ) (inputs : List Source) (to : Signal) → at_role r k i inputs (loosened_pin net r to) ≡ others net (at_role r k i inputs to)
other_role net role.Output k i inputs to = other_signal net to (driver_of_kind k i false inputs)
other_role net role.Inverted k i inputs to = other_signal net to (driver_of_kind k i true inputs)
other_role net role.Input k i inputs to = refl
other_role net role.Clock k i inputs to = refl
other_role net role.Din k i inputs to = refl
other_role net role.Reset k i inputs to = refl
other_role net role.Preset k i inputs to = refl
other_role net role.ScanIn k i inputs to = refl
other_role net role.ScanEnable k i inputs to = refl

other_pins : (net : ℕ) (k : Kind) (i : ℕ) (inputs : List Source) (pin : ℕ) (roles : List Role) (pins : List Signal) →
    driven_by_pins k i inputs (connections_from pin roles (loosened_pins net roles pins)) ≡ others net (driven_by_pins k i inputs (connections_from pin roles pins))
other_pins net k i inputs pin [] pins = refl
other_pins net k i inputs pin (r ∷ roles) [] = refl
other_pins net k i inputs pin (r ∷ roles) (to ∷ pins) =
    (λ t. other_role net r k i inputs to t ++ other_pins net k i inputs (suc pin) roles pins t)
    ∙ sym (others-append net (at_role r k i inputs to) (driven_by_pins k i inputs (connections_from (suc pin) roles pins)))

-- the inputs of an instance stay
input_stays : (net i pin : ℕ) (r : Role) (to : Signal) (xs ys : List Source) → xs ≡ ys →
    (if drivers.is_input r then source_of i pin (loosened_pin net r to) ∷ xs else xs) ≡ (if drivers.is_input r then source_of i pin to ∷ ys else ys)
input_stays net i pin role.Input to xs ys e = ap (λ zs. source_of i pin to ∷ zs) e
input_stays net i pin role.Output to xs ys e = e
input_stays net i pin role.Inverted to xs ys e = e
input_stays net i pin role.Clock to xs ys e = e
input_stays net i pin role.Din to xs ys e = e
input_stays net i pin role.Reset to xs ys e = e
input_stays net i pin role.Preset to xs ys e = e
input_stays net i pin role.ScanIn to xs ys e = e
input_stays net i pin role.ScanEnable to xs ys e = e

inputs_stay : (net i pin : ℕ) (roles : List Role) (pins : List Signal) → inputs_of i (connections_from pin roles (loosened_pins net roles pins)) ≡ inputs_of i (connections_from pin roles pins)
inputs_stay net i pin [] pins = refl
inputs_stay net i pin (r ∷ roles) [] = refl
inputs_stay net i pin (r ∷ roles) (to ∷ pins) =
    input_stays net i pin r to (inputs_of i (connections_from (suc pin) roles (loosened_pins net roles pins))) (inputs_of i (connections_from (suc pin) roles pins)) (inputs_stay net i (suc pin) roles pins)

locked_stays : (net i pin : ℕ) (r : Role) (to : Signal) (xs ys : List Source) → xs ≡ ys →
    (if drivers.is_lockup_input r then source_of i pin (loosened_pin net r to) ∷ xs else xs) ≡ (if drivers.is_lockup_input r then source_of i pin to ∷ ys else ys)
locked_stays net i pin role.Clock to xs ys e = ap (λ zs. source_of i pin to ∷ zs) e
locked_stays net i pin role.Din to xs ys e = ap (λ zs. source_of i pin to ∷ zs) e
locked_stays net i pin role.Input to xs ys e = e
locked_stays net i pin role.Output to xs ys e = e
locked_stays net i pin role.Inverted to xs ys e = e
locked_stays net i pin role.Reset to xs ys e = e
locked_stays net i pin role.Preset to xs ys e = e
locked_stays net i pin role.ScanIn to xs ys e = e
locked_stays net i pin role.ScanEnable to xs ys e = e

pub lockups_stay : (net i pin : ℕ) (roles : List Role) (pins : List Signal) → lockup_inputs i (connections_from pin roles (loosened_pins net roles pins)) ≡ lockup_inputs i (connections_from pin roles pins)
lockups_stay net i pin [] pins = refl
lockups_stay net i pin (r ∷ roles) [] = refl
lockups_stay net i pin (r ∷ roles) (to ∷ pins) =
    locked_stays net i pin r to (lockup_inputs i (connections_from (suc pin) roles (loosened_pins net roles pins))) (lockup_inputs i (connections_from (suc pin) roles pins)) (lockups_stay net i (suc pin) roles pins)

other_instance : (library : List Cell) (net i : ℕ) (x : Instance) → driven_by library i (loosened library net x) ≡ others net (driven_by library i x)
other_instance library net i x =
    let roles : List Role = (shape_of library x.cell).roles in
    let kind : Kind = (shape_of library x.cell).kind in
    ap (λ (inputs : List Source). driven_by_pins kind i inputs (connections_from 0 roles (loosened_pins net roles x.pins))) (inputs_stay net i 0 roles x.pins)
    ∙ other_pins net kind i (inputs_of i (connections_of library x)) 0 roles x.pins

other_instances : (library : List Cell) (net i : ℕ) (xs : List Instance) → driven_by_instances library i (map (loosened library net) xs) ≡ others net (driven_by_instances library i xs)
other_instances library net i [] = refl
other_instances library net i (x ∷ xs) =
    (λ t. other_instance library net i x t ++ other_instances library net (suc i) xs t)
    ∙ sym (others-append net (driven_by library i x) (driven_by_instances library (suc i) xs))

-- ---- joins

pub joins-append : (xs ys : List Join) → driven_by_joins (xs ++ ys) ≡ driven_by_joins xs ++ driven_by_joins ys
joins-append [] ys = refl
joins-append (x ∷ xs) ys = ap (λ ds. (x.target.0, Joined (source_of 0 0 x.source)) ∷ ds) (joins-append xs ys)

other_join : (b : Bool) (x : Join) (xs : List Join) (ds : List Driven) → driven_by_joins xs ≡ ds →
    driven_by_joins (if b then x ∷ xs else xs) ≡ (if b then (x.target.0, Joined (source_of 0 0 x.source)) ∷ ds else ds)
other_join true x xs ds e = ap (λ ds. (x.target.0, Joined (source_of 0 0 x.source)) ∷ ds) e
other_join false x xs ds e = e

other_joins : (net : ℕ) (xs : List Join) → driven_by_joins (filter (is_elsewhere net) xs) ≡ others net (driven_by_joins xs)
other_joins net [] = refl
other_joins net (x ∷ xs) = other_join (not (x.target.0 == net)) x (filter (is_elsewhere net) xs) (others net (driven_by_joins xs)) (other_joins net xs)

-- ---- ports

-- these are bits of input ports
abbrev AreInputs : List Driven → Type 0
AreInputs [] = Unit {0}
AreInputs (d ∷ ds) = (d.1 ≡ drivers.Input) × AreInputs ds

inputs-append : (xs ys : List Driven) → AreInputs xs → AreInputs ys → AreInputs (xs ++ ys)
inputs-append [] ys h k = k
inputs-append (x ∷ xs) ys h k = (h.0, inputs-append xs ys h.1 k)

bits_inputs : (d : Dir) (bits : List NetId) → AreInputs (driven_by_bits d bits)
bits_inputs dir.Output bits = tt
bits_inputs dir.Input [] = tt
bits_inputs dir.Input (net ∷ bits) = (refl, bits_inputs dir.Input bits)

ports_inputs : (ports : List Port) → AreInputs (driven_by_ports ports)
ports_inputs [] = tt
ports_inputs (port ∷ ports) = inputs-append (driven_by_bits port.dir port.bits) (driven_by_ports ports) (bits_inputs port.dir port.bits) (ports_inputs ports)

apart_step : (b : Bool) (d : Driven) (ds : List Driven) (kept : List Driven) (later : Driver) → d.1 ≡ drivers.Input → is_input (if b then d.1 else later) ≡ false → (is_input later ≡ false → kept ≡ ds) →
    (if not b then d ∷ kept else kept) ≡ d ∷ ds
apart_step true d ds kept later is inner more = absurd (let e : true ≡ false = ap is_input (sym is) ∙ inner in let f : ⊥ = cc in f)
apart_step false d ds kept later is inner more = ap (λ xs. d ∷ xs) (more inner)

-- a net that is no bit of an input port is none of them
inputs_apart : (net : ℕ) (ds rest : List Driven) → AreInputs ds → is_input (driver_in (ds ++ rest) net) ≡ false → others net ds ≡ ds
inputs_apart net [] rest are inner = refl
inputs_apart net (d ∷ ds) rest are inner = apart_step (d.0 == net) d ds (others net ds) (driver_in (ds ++ rest) net) are.0 inner (inputs_apart net ds rest are.1)

-- ---- all drivers

-- the constant at the stuck net
abbrev pub stuck_driven : Fault → Driven
stuck_driven f = (f.net.0, Joined (Tied f.value))

pub all_faulty : (n : Netlist) (f : Fault) → IsFault n f → all_driven (faulty n f) ≡ others f.net.0 (all_driven n) ++ stuck_driven f ∷ []
all_faulty n f fault =
    let net : ℕ = f.net.0 in
    let ports : List Driven = driven_by_ports n.ports in
    let instances : List Driven = driven_by_instances n.library 0 n.instances in
    let joins : List Driven = driven_by_joins n.joins in
    let last : List Driven = stuck_driven f ∷ [] in
    let its_joins : driven_by_joins (filter (is_elsewhere net) n.joins ++ stuck_join f ∷ []) ≡ others net joins ++ last =
    joins-append (filter (is_elsewhere net) n.joins) (stuck_join f ∷ []) ∙ ap (λ ds. ds ++ last) (other_joins net n.joins) in
    let inner : is_input (driver_in (ports ++ (instances ++ joins)) net) ≡ false = subst (λ (ds : List Driven). is_input (driver_in ds net) ≡ false) (append_assoc ports instances joins) fault.inner in
    let its_ports : others net ports ≡ ports = inputs_apart net ports (instances ++ joins) (ports_inputs n.ports) inner in
    (λ t. (sym its_ports t ++ other_instances n.library net 0 n.instances t) ++ its_joins t)
    ∙ sym (append_assoc (others net ports ++ others net instances) (others net joins) last)
    ∙ ap (λ ds. (ds ++ others net joins) ++ last) (sym (others-append net ports instances))
    ∙ ap (λ ds. ds ++ last) (sym (others-append net (ports ++ instances) joins))

-- ---- the driver of the stuck net, and of another

pub stuck_driver : (net : ℕ) (to : Driver) (ds : List Driven) → driver_in (others net ds ++ (net, to) ∷ []) net ≡ to
stuck_driver net to [] = ap (λ b. if b then to else Free) (eq-eqb net net refl)
stuck_driver net to (d ∷ ds) = by (d.0 == net) refl (stuck_driver net to ds)
  where
    by : (b : Bool) → (d.0 == net) ≡ b → driver_in (others net ds ++ (net, to) ∷ []) net ≡ to → driver_in ((if not b then d ∷ others net ds else others net ds) ++ (net, to) ∷ []) net ≡ to
    by true is rest = rest
    by false is rest = ap (λ b. if b then d.1 else driver_in (others net ds ++ (net, to) ∷ []) net) is ∙ rest

pub other_driver : (net k : ℕ) (to : Driver) (ds : List Driven) → k ≢ net → driver_in (others net ds ++ (net, to) ∷ []) k ≡ driver_in ds k
other_driver net k to [] apart = ap (λ b. if b then to else Free) (ne_eqb net k (λ e. apart (sym e)))
other_driver net k to (d ∷ ds) apart = by (d.0 == net) refl (other_driver net k to ds apart)
  where
    by : (b : Bool) → (d.0 == net) ≡ b → driver_in (others net ds ++ (net, to) ∷ []) k ≡ driver_in ds k → driver_in ((if not b then d ∷ others net ds else others net ds) ++ (net, to) ∷ []) k ≡ (if d.0 == k then d.1 else driver_in ds k)
    by true is rest = rest ∙ sym (ap (λ b. if b then d.1 else driver_in ds k) (ne_eqb d.0 k (λ e. apart (sym e ∙ eqb-true d.0 net is))))
    by false is rest = ap (λ later. if d.0 == k then d.1 else later) rest

-- ---- how often nets are driven

pub stuck_once : (net : ℕ) (to : Driver) (ds : List Driven) → times net (others net ds ++ (net, to) ∷ []) ≡ 1
stuck_once net to [] = times-cons net (net, to) [] ∙ ap (λ b. cond b 1 0 + 0) (eq-eqb net net refl)
stuck_once net to (d ∷ ds) = by (d.0 == net) refl (stuck_once net to ds)
  where
    by : (b : Bool) → (d.0 == net) ≡ b → times net (others net ds ++ (net, to) ∷ []) ≡ 1 → times net ((if not b then d ∷ others net ds else others net ds) ++ (net, to) ∷ []) ≡ 1
    by true is rest = rest
    by false is rest = omega (arith, times-cons net d (others net ds ++ (net, to) ∷ []), ap (λ b. cond {A = ℕ} b 1 0) is, rest)

pub others_driven : (net k : ℕ) (to : Driver) (ds : List Driven) → k ≢ net → times k (others net ds ++ (net, to) ∷ []) ≡ times k ds
others_driven net k to [] apart = times-cons k (net, to) [] ∙ ap (λ b. cond b 1 0 + 0) (ne_eqb net k (λ e. apart (sym e)))
others_driven net k to (d ∷ ds) apart = by (d.0 == net) refl (others_driven net k to ds apart)
  where
    by : (b : Bool) → (d.0 == net) ≡ b → times k (others net ds ++ (net, to) ∷ []) ≡ times k ds → times k ((if not b then d ∷ others net ds else others net ds) ++ (net, to) ∷ []) ≡ times k (d ∷ ds)
    by true is rest = omega (arith, rest, times-cons k d ds, ap (λ b. cond {A = ℕ} b 1 0) (ne_eqb d.0 k (λ e. apart (sym e ∙ eqb-true d.0 net is))))
    by false is rest = times-cons k d (others net ds ++ (net, to) ∷ []) ∙ ap (λ m. cond (d.0 == k) 1 0 + m) rest ∙ sym (times-cons k d ds)
