-- Next values by pins: a stuck net leaves the pins that a flip-flop reads, and the values at them decide.
use Rattle.std.proofs.Common.{ℕ, suc, ◌≡◌, ◌==◌, Bool, true, false, List, [], ◌∷◌, ◌++◌, Option, None, Some, option_map, slice_get, map, refl, sym, ap, ◌∙◌}
use Rattle.std.specs.Prelude.{if◌then◌else◌}
use Rattle.std.proofs.lemmas.Bool.{eq-eqb, or_left, or_right}
use Rattle.std.proofs.lemmas.Option.{slice_get-map}
use Rattle.dft_base.proofs.BitLemmas.{or_more}
use Rattle.dft_base.specs.declared.tri.Tri.{Tri}
use Rattle.dft_base.specs.Tri.{known}
use Rattle.dft_cells.specs.declared.cell.Cell.{Cell}
use Rattle.dft_cells.specs.declared.kind.Role.{Role}
use Rattle.dft_cells.specs.declared.kind.Role.TheVariants as role
use Rattle.dft_cells.specs.FlipFlops.{Scan, tri_forced, tri_forced_where, tri_scanned}
use Rattle.dft_netlist.specs.declared.instance.Signal.{Signal}
use Rattle.dft_netlist.specs.declared.instance.Instance.{Instance}
use Rattle.dft_netlist.specs.Netlist.{Netlist}
use Rattle.dft_netlist.specs.Drivers.{Source, Net, Tied, Loose, Connection, connections_from, nets_of, pins_at, pins_of, shape_of, source_of}
use Rattle.dft_netlist.specs.Connections.{same_role, pin_of}
use Rattle.dft_behavior.specs.Logic.{or_loose, scan_of}
use Rattle.dft_behavior.specs.Settled.{value_from}
use Rattle.dft_stitch.specs.Chains.{listed}
use Rattle.dft_faults.specs.declared.fault.Fault.{Fault}
use Rattle.dft_faults.specs.Faulty.{faulty, loosened, loosened_pin, loosened_pins}
use Rattle.dft_capture.specs.Captures.{next_by_pins}
use Rattle.dft_seek.specs.Walks.{is_among, taken_by_pins, taken_nets}

-- ---- pins of a design with a stuck net

-- an input pin of a role stays where it was
pin_step : (r q : Role) (net i pin : ℕ) (to : Signal) (x y : Option Source) → same_role r role.Output ≡ false → same_role r role.Inverted ≡ false → x ≡ y →
    (if same_role r q then Some (source_of i pin (loosened_pin net q to)) else x) ≡ (if same_role r q then Some (source_of i pin to) else y)
pin_step r role.Output net i pin to x y out inv e =
    ap (λ (b : Bool). if b then Some (source_of i pin (loosened_pin net role.Output to)) else x) out ∙ e ∙ sym (ap (λ (b : Bool). if b then Some (source_of i pin to) else y) out)
pin_step r role.Inverted net i pin to x y out inv e =
    ap (λ (b : Bool). if b then Some (source_of i pin (loosened_pin net role.Inverted to)) else x) inv ∙ e ∙ sym (ap (λ (b : Bool). if b then Some (source_of i pin to) else y) inv)
pin_step r role.Input net i pin to x y out inv e = ap (λ (z : Option Source). if same_role r role.Input then Some (source_of i pin to) else z) e
pin_step r role.Clock net i pin to x y out inv e = ap (λ (z : Option Source). if same_role r role.Clock then Some (source_of i pin to) else z) e
pin_step r role.Din net i pin to x y out inv e = ap (λ (z : Option Source). if same_role r role.Din then Some (source_of i pin to) else z) e
pin_step r role.Reset net i pin to x y out inv e = ap (λ (z : Option Source). if same_role r role.Reset then Some (source_of i pin to) else z) e
pin_step r role.Preset net i pin to x y out inv e = ap (λ (z : Option Source). if same_role r role.Preset then Some (source_of i pin to) else z) e
pin_step r role.ScanIn net i pin to x y out inv e = ap (λ (z : Option Source). if same_role r role.ScanIn then Some (source_of i pin to) else z) e
pin_step r role.ScanEnable net i pin to x y out inv e = ap (λ (z : Option Source). if same_role r role.ScanEnable then Some (source_of i pin to) else z) e

pins_stay : (r : Role) (net i pin : ℕ) (roles : List Role) (pins : List Signal) → same_role r role.Output ≡ false → same_role r role.Inverted ≡ false →
    pin_of r i (connections_from pin roles (loosened_pins net roles pins)) ≡ pin_of r i (connections_from pin roles pins)
pins_stay r net i pin [] pins out inv = refl
pins_stay r net i pin (q ∷ roles) [] out inv = refl
pins_stay r net i pin (q ∷ roles) (to ∷ pins) out inv =
    pin_step r q net i pin to (pin_of r i (connections_from (suc pin) roles (loosened_pins net roles pins))) (pin_of r i (connections_from (suc pin) roles pins)) out inv (pins_stay r net i (suc pin) roles pins out inv)

pin_at : (r : Role) (library : List Cell) (net i : ℕ) (o : Option Instance) → same_role r role.Output ≡ false → same_role r role.Inverted ≡ false →
    pin_of r i (pins_at library (option_map (loosened library net) o)) ≡ pin_of r i (pins_at library o)
pin_at r library net i None out inv = refl
pin_at r library net i (Some x) out inv = pins_stay r net i 0 (shape_of library x.cell).roles x.pins out inv

pin_stays : (n : Netlist) (f : Fault) (r : Role) (i : ℕ) → same_role r role.Output ≡ false → same_role r role.Inverted ≡ false → pin_of r i (pins_of (faulty n f) i) ≡ pin_of r i (pins_of n i)
pin_stays n f r i out inv =
    ap (λ (o : Option Instance). pin_of r i (pins_at n.library o)) (slice_get-map (loosened n.library f.net.0) n.instances i) ∙ pin_at r n.library f.net.0 i (slice_get n.instances i) out inv

-- the next value from these sources
abbrev pub next_of : (instance : ℕ) → (reset preset enable input data_pin : Option Source) → (values : ℕ → Tri) → Tri
next_of i reset preset enable input data_pin values =
    tri_forced_where false reset (value_from values) (tri_forced_where true preset (value_from values) (tri_scanned (scan_of enable input) (value_from values) (value_from values (or_loose i data_pin))))

-- a flip-flop's next value by its pins is the same function of the values in the design with a stuck net
pub next_stays : (n : Netlist) (f : Fault) (values : ℕ → Tri) (c : ℕ) → next_by_pins (faulty n f) values c ≡ next_by_pins n values c
next_stays n f values c =
    λ t. next_of c (pin_stays n f role.Reset c refl refl t) (pin_stays n f role.Preset c refl refl t) (pin_stays n f role.ScanEnable c refl refl t) (pin_stays n f role.ScanIn c refl refl t) (pin_stays n f role.Din c refl refl t) values

-- ---- what is among nets

pub among_here : (net : ℕ) (nets : List ℕ) → is_among net (net ∷ nets) ≡ true
among_here net nets = or_left (net == net) (is_among net nets) (eq-eqb net net refl)

pub among_left : (net : ℕ) (xs ys : List ℕ) → is_among net xs ≡ true → is_among net (xs ++ ys) ≡ true
among_left net [] ys is = absurd cc
among_left net (x ∷ xs) ys is = or_more (x == net) (is_among net xs) (is_among net (xs ++ ys)) (among_left net xs ys) is

pub among_right : (net : ℕ) (xs ys : List ℕ) → is_among net ys ≡ true → is_among net (xs ++ ys) ≡ true
among_right net [] ys is = is
among_right net (x ∷ xs) ys is = or_right (x == net) (is_among net (xs ++ ys)) (among_right net xs ys is)

pub nets-append : (xs ys : List Source) → nets_of (xs ++ ys) ≡ nets_of xs ++ nets_of ys
nets-append [] ys = refl
nets-append (Net net ∷ xs) ys = ap (λ (nets : List ℕ). net ∷ nets) (nets-append xs ys)
nets-append (Tied bit ∷ xs) ys = nets-append xs ys
nets-append (Loose i pin ∷ xs) ys = nets-append xs ys

-- two assignments agree at these nets
abbrev pub AgreeAt : List ℕ → (a b : ℕ → Tri) → Type 0
AgreeAt nets a b = (from : ℕ) → is_among from nets ≡ true → a from ≡ b from

pub one_source : (source : Source) (a b : ℕ → Tri) → AgreeAt (nets_of (source ∷ [])) a b → value_from a source ≡ value_from b source
one_source (Net net) a b same = same net (among_here net [])
one_source (Tied bit) a b same = refl
one_source (Loose i pin) a b same = refl

pub all_sources : (inputs : List Source) (a b : ℕ → Tri) → AgreeAt (nets_of inputs) a b → map (value_from a) inputs ≡ map (value_from b) inputs
all_sources [] a b same = refl
all_sources (Net net ∷ inputs) a b same =
    λ t. same net (among_here net (nets_of inputs)) t ∷ all_sources inputs a b (λ from is. same from (or_right (net == from) (is_among from (nets_of inputs)) is)) t
all_sources (Tied bit ∷ inputs) a b same = ap (λ (us : List Tri). known bit ∷ us) (all_sources inputs a b same)
all_sources (Loose i pin ∷ inputs) a b same = λ t. value_from a (Loose i pin) ∷ all_sources inputs a b same t

-- ---- next values of assignments that agree at the pins

forced_same : (value : Bool) (o : Option Source) (a b : ℕ → Tri) (t u : Tri) → AgreeAt (nets_of (listed o)) a b → t ≡ u → tri_forced_where value o (value_from a) t ≡ tri_forced_where value o (value_from b) u
forced_same value None a b t u same e = e
forced_same value (Some pin) a b t u same e = λ x. tri_forced value (one_source pin a b same x) (e x)

data_same : (i : ℕ) (o : Option Source) (a b : ℕ → Tri) → AgreeAt (nets_of (listed o)) a b → value_from a (or_loose i o) ≡ value_from b (or_loose i o)
data_same i None a b same = refl
data_same i (Some pin) a b same = one_source pin a b same

-- without scan pins the next value hangs on the values at the data, reset and set pins alone
pub next_same : (n : Netlist) (a b : ℕ → Tri) (c : ℕ) → scan_of (pin_of role.ScanEnable c (pins_of n c)) (pin_of role.ScanIn c (pins_of n c)) ≡ None → AgreeAt (taken_nets n c) a b → next_by_pins n a c ≡ next_by_pins n b c
next_same n a b c none same =
    let pins : List Connection = pins_of n c in
    let reset : Option Source = pin_of role.Reset c pins in
    let preset : Option Source = pin_of role.Preset c pins in
    let data_pin : Option Source = pin_of role.Din c pins in
    let cut : nets_of (taken_by_pins c pins) ≡ nets_of (listed data_pin) ++ (nets_of (listed reset) ++ nets_of (listed preset)) =
    nets-append (listed data_pin) (listed reset ++ listed preset) ∙ ap (λ (nets : List ℕ). nets_of (listed data_pin) ++ nets) (nets-append (listed reset) (listed preset)) in
    let at : AgreeAt (nets_of (listed data_pin) ++ (nets_of (listed reset) ++ nets_of (listed preset))) a b = λ from is. same from (ap (is_among from) cut ∙ is) in
    let taken : tri_scanned None (value_from a) (value_from a (or_loose c data_pin)) ≡ tri_scanned None (value_from b) (value_from b (or_loose c data_pin)) =
    data_same c data_pin a b (λ from is. at from (among_left from (nets_of (listed data_pin)) (nets_of (listed reset) ++ nets_of (listed preset)) is)) in
    let scan : Option (Scan Source) = scan_of (pin_of role.ScanEnable c pins) (pin_of role.ScanIn c pins) in
    let shown : tri_scanned scan (value_from a) (value_from a (or_loose c data_pin)) ≡ tri_scanned scan (value_from b) (value_from b (or_loose c data_pin)) =
    ap (λ (o : Option (Scan Source)). tri_scanned o (value_from a) (value_from a (or_loose c data_pin))) none ∙ taken
    ∙ sym (ap (λ (o : Option (Scan Source)). tri_scanned o (value_from b) (value_from b (or_loose c data_pin))) none) in
    forced_same false reset a b _ _ (λ from is. at from (among_right from (nets_of (listed data_pin)) (nets_of (listed reset) ++ nets_of (listed preset)) (among_left from (nets_of (listed reset)) (nets_of (listed preset)) is)))
    (forced_same true preset a b _ _ (λ from is. at from (among_right from (nets_of (listed data_pin)) (nets_of (listed reset) ++ nets_of (listed preset)) (among_right from (nets_of (listed reset)) (nets_of (listed preset)) is))) shown)
