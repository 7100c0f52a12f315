-- Reached points hang on the variables alone: where each of these has a bit, they show what they show in every completion.
use Rattle.std.proofs.Common.{ℕ, ◌≡◌, ◌==◌, Bool, true, false, ◌&&◌, ◌||◌, not, List, [], ◌∷◌, ◌++◌, ◌⊎◌, inl, inr, map, filter, slice_get, Option, Some, refl, sym, subst, ap, ◌∙◌}
use Rattle.std.specs.Prelude.{if◌then◌else◌}
use Rattle.std.specs.List.{list_any}
use Rattle.std.proofs.lemmas.Bool.{eqb-true, eq-eqb, or_right}
use Rattle.std.proofs.lemmas.Bool.Decides.{eqb_tells}
use Rattle.dft_base.specs.declared.tri.Tri.{Tri}
use Rattle.dft_base.specs.declared.tri.Tri.TheVariants.{One}
use Rattle.dft_base.specs.Tri.{known, AboveTri, is_known}
use Rattle.dft_netlist.specs.declared.ids.NetId.{NetId}
use Rattle.dft_netlist.specs.declared.ids.InstanceId.{InstanceId}
use Rattle.dft_netlist.specs.Netlist.{Netlist}
use Rattle.dft_netlist.specs.Connections.{is_input}
use Rattle.dft_netlist.specs.Drivers.{Driver, Joined, Flop, Tied, driver, IsOrdered}
use Rattle.dft_netlist.specs.Drivers as drivers
use Rattle.dft_rules.specs.ConfigPorts.{config_ports}
use Rattle.dft_faults.specs.Faulty.{faulty}
use Rattle.dft_faults.proofs.Finished.{order_stays}
use Rattle.dft_expect.specs.Loaded.{or_unknown}
use Rattle.dft_capture.specs.Captures.{Settled, AreSettled, next_by_pins}
use Rattle.dft_seek.specs.Searches.{AreBoth, Both, Completes, Given, Point, Output, Response, Search, cells_in, drivable_ports, faulty_at, good_at, has_cell, input_bits, is_drivable, moving_of, port_values, takes_at, value_at}
use Rattle.dft_seek.specs.Walks.{Cell, Cone, IsCone, IsVariable, LeadsTo, Port, Variable, Walks, Here, Onward, candidates, is_among, is_output_of, shows, walked_from}
use Rattle.dft_seek.specs.Trees.{bit_for, is_whole, node_at, same_variable}
use Rattle.dft_seek.specs.Laws.{CanSeek}
use Rattle.dft_seek.proofs.NoScan.{HasNoScanPins}
use Rattle.dft_seek.proofs.Rising.{known_stays}
use Rattle.dft_seek.proofs.PinLemmas.{among_here, next_stays}
use Rattle.dft_seek.proofs.Alike.{AreAlike, agree_twice, gate_reads, response_same}
use Rattle.dft_seek.proofs.Unreached.{along_gate, other_driver, stuck_driver, through_cell}
use Rattle.dft_seek.proofs.Inputs.{has_net, input_listed}

-- ---- variables in lists

abbrev pub has_variable : List Variable → Variable → Bool
has_variable vs v = list_any (λ w. same_variable w v) vs

pub same_is : (w v : Variable) → same_variable w v ≡ true → w ≡ v
same_is (Cell c) (Cell d) is = ap Cell (eqb-true c d is)
same_is (Cell c) (Port d) is = absurd cc
same_is (Port c) (Cell d) is = absurd cc
same_is (Port c) (Port d) is = ap Port (eqb-true c d is)

chosen_has : (chosen : Variable → Bool) (v : Variable) → chosen v ≡ true → (all : List Variable) → has_variable all v ≡ true → has_variable (filter chosen all) v ≡ true
chosen_has chosen v is [] has = has
chosen_has chosen v is (w ∷ ws) has = by (same_variable w v) refl (chosen w) refl (chosen_has chosen v is ws)
  where
    rest : same_variable w v ≡ false → has_variable ws v ≡ true
    rest other = sym (ap (λ (b : Bool). b || has_variable ws v) other) ∙ has

    by : (x : Bool) → same_variable w v ≡ x → (c : Bool) → chosen w ≡ c → (has_variable ws v ≡ true → has_variable (filter chosen ws) v ≡ true) → has_variable (if c then w ∷ filter chosen ws else filter chosen ws) v ≡ true
    by true same true it below = ap (λ (b : Bool). b || has_variable (filter chosen ws) v) same
    by true same false it below = absurd (let e : false ≡ true = sym it ∙ ap chosen (same_is w v same) ∙ is in let f : ⊥ = cc in f)
    by false other true it below = or_right (same_variable w v) (has_variable (filter chosen ws) v) (below (rest other))
    by false other false it below = below (rest other)

has_left : (v : Variable) (xs ys : List Variable) → has_variable xs v ≡ true → has_variable (xs ++ ys) v ≡ true
has_left v [] ys has = absurd cc
has_left v (x ∷ xs) ys has = by (same_variable x v) (has_variable xs v) (has_left v xs ys) has
  where
    by : (a b : Bool) → (b ≡ true → has_variable (xs ++ ys) v ≡ true) → (a || b) ≡ true → (a || has_variable (xs ++ ys) v) ≡ true
    by true b below h = refl
    by false b below h = below h

has_right : (v : Variable) (xs ys : List Variable) → has_variable ys v ≡ true → has_variable (xs ++ ys) v ≡ true
has_right v [] ys has = has
has_right v (x ∷ xs) ys has = or_right (same_variable x v) (has_variable (xs ++ ys) v) (has_right v xs ys has)

cell_has : (c : ℕ) (cells : List InstanceId) → has_cell cells c ≡ true → has_variable (map (λ cell. Cell cell.0) cells) (Cell c) ≡ true
cell_has c [] has = has
cell_has c (x ∷ cells) has = by (x.0 == c) (has_cell cells c) (cell_has c cells) has
  where
    by : (a b : Bool) → (b ≡ true → has_variable (map (λ cell. Cell cell.0) cells) (Cell c) ≡ true) → (a || b) ≡ true → (a || has_variable (map (λ cell. Cell cell.0) cells) (Cell c)) ≡ true
    by true b below h = refl
    by false b below h = below h

port_has : (f : ℕ → Bool) (net : ℕ) → f net ≡ true → (bits : List NetId) → has_net bits net ≡ true → has_variable (map (λ bit. Port bit.0) (filter (λ bit. f bit.0) bits)) (Port net) ≡ true
port_has f net is [] has = has
port_has f net is (x ∷ bits) has = by (x.0 == net) refl (f x.0) refl (port_has f net is bits)
  where
    rest : (x.0 == net) ≡ false → has_net bits net ≡ true
    rest other = sym (ap (λ (b : Bool). b || has_net bits net) other) ∙ has

    by : (a : Bool) → (x.0 == net) ≡ a → (c : Bool) → f x.0 ≡ c → (has_net bits net ≡ true → has_variable (map (λ bit. Port bit.0) (filter (λ bit. f bit.0) bits)) (Port net) ≡ true) →
        has_variable (map (λ bit. Port bit.0) (if c then x ∷ filter (λ bit. f bit.0) bits else filter (λ bit. f bit.0) bits)) (Port net) ≡ true
    by true same true it below = ap (λ (b : Bool). b || has_variable (map (λ bit. Port bit.0) (filter (λ bit. f bit.0) bits)) (Port net)) same
    by true same false it below = absurd (let e : false ≡ true = sym it ∙ ap f (eqb-true x.0 net same) ∙ is in let g : ⊥ = cc in g)
    by false other true it below = or_right (x.0 == net) (has_variable (map (λ bit. Port bit.0) (filter (λ bit. f bit.0) bits)) (Port net)) (below (rest other))
    by false other false it below = below (rest other)

-- a scanned cell and a drivable port can be variables
pub cell_listed : (s : Search) (c : ℕ) → has_cell (cells_in s) c ≡ true → has_variable (candidates s) (Cell c) ≡ true
cell_listed s c has = has_left (Cell c) (map (λ cell. Cell cell.0) (cells_in s)) (map (λ net. Port net.0) (drivable_ports s)) (cell_has c (cells_in s) has)

pub port_listed : (s : Search) (net : ℕ) → driver s.design net ≡ drivers.Input → is_drivable s net ≡ true → has_variable (candidates s) (Port net) ≡ true
port_listed s net is drivable =
    has_right (Port net) (map (λ cell. Cell cell.0) (cells_in s)) (map (λ net. Port net.0) (drivable_ports s))
    (port_has (is_drivable s) net drivable (input_bits s.design.ports) (input_listed s.design net is))

-- ---- bits of variables

-- where every variable has a bit, this one has
bit_there : (vs : List Variable) (bits : List Bool) (v : Variable) → is_whole vs bits ≡ true → has_variable vs v ≡ true → (bit : Bool) × (bit_for vs bits v ≡ Some bit)
bit_there [] bits v whole has = absurd cc
bit_there (w ∷ ws) [] v whole has = absurd cc
bit_there (w ∷ ws) (bit ∷ bits) v whole has = by (same_variable w v) (has_variable ws v) (bit_there ws bits v whole) has
  where
    by : (a b : Bool) → (b ≡ true → (x : Bool) × (bit_for ws bits v ≡ Some x)) → (a || b) ≡ true → (x : Bool) × ((if a then Some bit else bit_for ws bits v) ≡ Some x)
    by true b below h = (bit, refl)
    by false b below h = below h

bit_known : (b : Bool) → is_known (known b) ≡ true
bit_known false = refl
bit_known true = refl

-- the value of a variable in a completion is its bit
pub variable_same : (s : Search) (cone : Cone) (bits : List Bool) (v : Variable) (t : Tri) → IsCone s cone → is_whole cone.variables bits ≡ true → IsVariable s cone.points v → has_variable (candidates s) v ≡ true →
    AboveTri (or_unknown (bit_for cone.variables bits v)) t → or_unknown (bit_for cone.variables bits v) ≡ t
variable_same s cone bits v t is_cone whole variable listed over =
    let has : has_variable cone.variables v ≡ true =
    subst (λ (vs : List Variable). has_variable vs v ≡ true) (sym is_cone.variables.are) (chosen_has is_cone.variables.chosen v (is_cone.variables.whole v variable) (candidates s) listed) in
    let bit = bit_there cone.variables bits v whole has in
    known_stays (or_unknown (bit_for cone.variables bits v)) t over (ap (λ (o : Option Bool). is_known (or_unknown o)) bit.1 ∙ bit_known bit.0)

-- ---- nets from which a walk leads to a reached point

pub record Leads (s : Search) (points : List Point) (net : ℕ) : Type 0 where
  pub place : ℕ
  pub point : Point
  pub at : slice_get points place ≡ Some point
  pub leads : LeadsTo s net point

-- a walk can begin one step earlier
pub earlier : (s : Search) (from net to : ℕ) → is_among from (walked_from s (driver s.design net)) ≡ true → Walks s net to → Walks s from to
earlier s from net to is Here = Onward Here is
earlier s from net to is (Onward {by = by} walk step) = Onward (earlier s from net by is walk) step

leads_back : (s : Search) (points : List Point) (from net : ℕ) → is_among from (walked_from s (driver s.design net)) ≡ true → Leads s points net → Leads s points from
leads_back s points from net is there = record {
  place = there.place;
  point = there.point;
  at = there.at;
  leads = record { to = there.leads.to; ends = there.leads.ends; walk = earlier s from net there.leads.to is there.leads.walk };
}

-- such a net that shows a variable makes it one
is_variable : (s : Search) (points : List Point) (v : Variable) (net : ℕ) → shows s v net ≡ true → Leads s points net → IsVariable s points v
is_variable s points v net shown there = record { net = net; shown = shown; place = there.place; point = there.point; reached = there.at; leads = there.leads }

-- ---- the captures of a node and of a completion

-- each net has the driver that it has in the search's design, or is stuck
abbrev pub IsKept : Search → Netlist → (net : ℕ) → Type 0
IsKept s n net = (driver n net ≡ driver s.design net) ⊎ (driver n net ≡ Joined (Tied s.fault.value))

stuck_is_no : (d e : Driver) (value : Bool) → d ≡ Joined (Tied value) → d ≡ e → is_input e ≡ true → ⊥
stuck_is_no d e value stuck is input = absurd (let x : true ≡ false = sym input ∙ ap is_input (sym is ∙ stuck) in let f : ⊥ = cc in f)

pub stuck_is_no_cell : (d : Driver) (i : ℕ) (inverted value : Bool) → d ≡ Joined (Tied value) → d ≡ Flop i inverted → ⊥
stuck_is_no_cell d i inverted value stuck is = absurd (let e : Joined (Tied value) ≡ Flop i inverted = sym stuck ∙ is in let f : ⊥ = cc in f)

drivable_is : (s : Search) (net : ℕ) → driver s.design net ≡ drivers.Input → (config_ports s.design s.config).is_clock net ≡ false → (config_ports s.design s.config).is_reset net ≡ false → is_drivable s net ≡ true
drivable_is s net is clock reset =
    ap (λ (d : Driver). is_input d && (not ((config_ports s.design s.config).is_clock net) && not ((config_ports s.design s.config).is_reset net))) is
    ∙ ap (λ (b : Bool). not b && not ((config_ports s.design s.config).is_reset net)) clock ∙ ap not reset

port_alike : (s : Search) (cone : Cone) (bits : List Bool) (h : Given) (net : ℕ) → IsCone s cone → is_whole cone.variables bits ≡ true → Completes (node_at cone.variables bits) h → Leads s cone.points net →
    driver s.design net ≡ drivers.Input → (config_ports s.design s.config).is_clock net ≡ false → port_values s (node_at cone.variables bits) net ≡ port_values s h net
port_alike s cone bits h net is_cone whole more there is clock = by ((config_ports s.design s.config).is_reset net) refl
  where
    by : (r : Bool) → (config_ports s.design s.config).is_reset net ≡ r → (if r then One else (node_at cone.variables bits).ports net) ≡ (if r then One else h.ports net)
    by true reset = refl
    by false reset =
        variable_same s cone bits (Port net) (h.ports net) is_cone whole (is_variable s cone.points (Port net) net (eq-eqb net net refl) there) (port_listed s net is (drivable_is s net is clock reset)) (more.ports net)

cell_alike : (s : Search) (cone : Cone) (bits : List Bool) (h : Given) (net i : ℕ) (inverted : Bool) → IsCone s cone → is_whole cone.variables bits ≡ true → Completes (node_at cone.variables bits) h → Leads s cone.points net →
    driver s.design net ≡ Flop i inverted → has_cell (cells_in s) i ≡ true → (node_at cone.variables bits).cells i ≡ h.cells i
cell_alike s cone bits h net i inverted is_cone whole more there is held =
    variable_same s cone bits (Cell i) (h.cells i) is_cone whole (is_variable s cone.points (Cell i) net (ap (λ (d : Driver). is_output_of i d) is ∙ eq-eqb i i refl) there) (cell_listed s i held) (more.cells i)

leads_alike : (s : Search) (n : Netlist) (cone : Cone) (bits : List Bool) (h : Given) → IsCone s cone → is_whole cone.variables bits ≡ true → Completes (node_at cone.variables bits) h → ((net : ℕ) → IsKept s n net) →
    ((values : ℕ → Tri) (c : ℕ) → next_by_pins n values c ≡ next_by_pins s.design values c) → AreAlike s n n (node_at cone.variables bits) h (Leads s cone.points)
leads_alike s n cone bits h is_cone whole more kept next = record {
  same = record {
    driven = λ net there. refl;
    reads = λ net from there is. elim (kept net) [
      | inl same ↦ leads_back s cone.points from net (along_gate s from (driver s.design net) (ap (λ (d : Driver). is_among from (gate_reads d)) (sym same) ∙ is)) there
      | inr stuck ↦ absurd (let e : false ≡ true = ap (λ (d : Driver). is_among from (gate_reads d)) (sym stuck) ∙ is in let f : ⊥ = cc in f)
    ];
    of_ports = λ net there is clock. elim (kept net) [
      | inl same ↦ port_alike s cone bits h net is_cone whole more there (sym same ∙ is) clock
      | inr stuck ↦ absurd (stuck_is_no (driver n net) drivers.Input s.fault.value stuck is refl)
    ];
    of_cells = λ net i inverted there is held. elim (kept net) [
      | inl same ↦ cell_alike s cone bits h net i inverted is_cone whole more there (sym same ∙ is) held
      | inr stuck ↦ absurd (stuck_is_no_cell (driver n net) i inverted s.fault.value stuck is)
    ];
  };
  passes = λ net i inverted from there is passed among. elim (kept net) [
    | inl same ↦ leads_back s cone.points from net (through_cell s from i inverted (driver s.design net) (sym same ∙ is) passed among) there
    | inr stuck ↦ absurd (stuck_is_no_cell (driver n net) i inverted s.fault.value stuck is)
  ];
  next = next;
  its_next = next;
}

-- a reached point shows the same
point_alike : (s : Search) (n : Netlist) (rank : ℕ → ℕ) (cone : Cone) (bits : List Bool) (h : Given) (a b : Settled) (place : ℕ) (point : Point) → IsOrdered n rank → HasNoScanPins s → IsCone s cone → is_whole cone.variables bits ≡ true →
    Completes (node_at cone.variables bits) h → ((net : ℕ) → IsKept s n net) → ((values : ℕ → Tri) (c : ℕ) → next_by_pins n values c ≡ next_by_pins s.design values c) →
    AreSettled n (moving_of s) (port_values s (node_at cone.variables bits)) (node_at cone.variables bits).cells a → AreSettled n (moving_of s) (port_values s h) h.cells b →
    slice_get cone.points place ≡ Some point → ((cell : ℕ) → point ≡ Response cell → takes_at s true cell ≡ false → takes_at s false cell ≡ false → ⊥) → value_at s n (node_at cone.variables bits) a point ≡ value_at s n h b point
point_alike s n rank cone bits h a b place (Output net) order none is_cone whole more kept next are also at moves =
    (agree_twice s n n rank (node_at cone.variables bits) h a b (Leads s cone.points) order none (leads_alike s n cone bits h is_cone whole more kept next) are also).first net
    (record { place = place; point = Output net; at = at; leads = record { to = net; ends = among_here net []; walk = Here } })
point_alike s n rank cone bits h a b place (Response cell) order none is_cone whole more kept next are also at moves =
    response_same s n n (node_at cone.variables bits) h a b (Leads s cone.points) cell none (leads_alike s n cone bits h is_cone whole more kept next)
    (agree_twice s n n rank (node_at cone.variables bits) h a b (Leads s cone.points) order none (leads_alike s n cone bits h is_cone whole more kept next) are also)
    (λ from among. record { place = place; point = Response cell; at = at; leads = record { to = from; ends = among; walk = Here } })
    (λ no_fall no_rise. absurd (moves cell refl no_fall no_rise))

pub good_alike : (s : Search) (rank : ℕ → ℕ) (cone : Cone) (bits : List Bool) (h : Given) (a b : Both) (place : ℕ) (point : Point) → CanSeek s rank → HasNoScanPins s → IsCone s cone → is_whole cone.variables bits ≡ true →
    Completes (node_at cone.variables bits) h → AreBoth s (node_at cone.variables bits) a → AreBoth s h b → slice_get cone.points place ≡ Some point →
    ((cell : ℕ) → point ≡ Response cell → takes_at s true cell ≡ false → takes_at s false cell ≡ false → ⊥) → good_at s (node_at cone.variables bits) a point ≡ good_at s h b point
good_alike s rank cone bits h a b place point can none is_cone whole more are also at moves =
    point_alike s s.design rank cone bits h a.good b.good place point can.ordered none is_cone whole more (λ net. inl refl) (λ values c. refl) are.good also.good at moves

pub faulty_alike : (s : Search) (rank : ℕ → ℕ) (cone : Cone) (bits : List Bool) (h : Given) (a b : Both) (place : ℕ) (point : Point) → CanSeek s rank → HasNoScanPins s → IsCone s cone → is_whole cone.variables bits ≡ true →
    Completes (node_at cone.variables bits) h → AreBoth s (node_at cone.variables bits) a → AreBoth s h b → slice_get cone.points place ≡ Some point →
    ((cell : ℕ) → point ≡ Response cell → takes_at s true cell ≡ false → takes_at s false cell ≡ false → ⊥) → faulty_at s (node_at cone.variables bits) a point ≡ faulty_at s h b point
faulty_alike s rank cone bits h a b place point can none is_cone whole more are also at moves =
    point_alike s (faulty s.design s.fault) rank cone bits h a.faulty b.faulty place point (order_stays s.design s.fault rank can.is can.ordered) none is_cone whole more
    (λ net. elim (eqb_tells net s.fault.net.0) [
      | inl same ↦ inr (stuck_driver s net can.is same.0)
      | inr other ↦ inl (other_driver s net can.is other.0)
    ])
    (λ values c. next_stays s.design s.fault values c) are.faulty also.faulty at moves
