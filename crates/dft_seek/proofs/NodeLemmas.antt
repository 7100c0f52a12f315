-- The tables of a node hold the values of both captures of its assignment.
use Rattle.std.proofs.Common.{ℕ, ◌+◌, ◌≡◌, ◌<◌, ◌≤◌, ◌==◌, Bool, true, false, not, ◌&&◌, ◌||◌, List, [], ◌∷◌, ◌++◌, length, map, drop, inl, inr, Option, None, Some, refl, sym, ap, arith, ◌∙◌}
use Rattle.std.specs.Prelude.{if◌then◌else◌, nat_le}
use Rattle.std.specs.List.{AllByRecursion, list_all, list_any}
use Rattle.std.proofs.lemmas.Bool.{eq-eqb, le-leb, leb-true}
use Rattle.std.proofs.lemmas.Bool.Decides.{eqb_tells, leb_tells}
use Rattle.std.proofs.lemmas.List.{get_or_past, length-map}
use Rattle.std.proofs.lemmas.List.Folds.{list_any-append, list_all-append}
use Rattle.std.proofs.Common.{length-append}
use Rattle.dft_base.specs.declared.tri.Tri.{Tri}
use Rattle.dft_base.specs.declared.tri.Tri.TheVariants.{One, Unknown}
use Rattle.dft_base.proofs.NumberLemmas.{other_test}
use Rattle.dft_base.proofs.ListLemmas.{any_map}
use Rattle.dft_base.proofs.BitLemmas.{same_tests}
use Rattle.dft_netlist.specs.declared.ids.NetId.{NetId}
use Rattle.dft_netlist.specs.declared.ids.InstanceId.{InstanceId}
use Rattle.dft_netlist.specs.Netlist.{Netlist}
use Rattle.dft_netlist.specs.Drivers.{Driver, driver}
use Rattle.dft_behavior.specs.Logic.{Meaning, Input, Clock, Gate, Joined, Flop, Lockup, Free}
use Rattle.dft_behavior.specs.Settled.{inverse, value_given}
use Rattle.dft_expect.specs.Loaded.{bit_of_cell, or_unknown}
use Rattle.dft_logic.specs.declared.circuit.Op.TheVariants as op
use Rattle.dft_logic.specs.Circuit.{flag_at, meaning, op_at}
use Rattle.dft_logic.specs.Values.{value_at}
use Rattle.dft_sweep.specs.Fields.{IsGivenBy, is_needed, with_bit}
use Rattle.dft_capture.specs.Captures.{after_moves, captured, meaning_in, next_by_pins, sources_at}
use Rattle.dft_capture.proofs.Settling.{capture_there}
use Rattle.dft_faults.specs.declared.fault.Fault.{Fault}
use Rattle.dft_faults.specs.Faulty.{faulty, IsFault}
use Rattle.dft_faults.proofs.Finished.{order_stays}
use Rattle.dft_seek.specs.Searches.{AreBoth, Both, Given, Point, Output, Response, Search, agree, detects_at, differ, faulty_at, good_at, has_falling, moving_of, port_values, takes_at}
use Rattle.dft_seek.specs.Walks.{Cell, Port, Variable, is_among, taken_nets}
use Rattle.dft_seek.specs.Trees.{Dead, Looks, Verdict, agrees_at, bit_for, is_bit, is_dead, is_found, is_whole, node_at, site_stays, verdict_of}
use Rattle.dft_seek.specs.Assigned.{bit_of_net}
use Rattle.dft_seek.specs.Cones.{AreNeeded, AreTaking, cone_of}
use Rattle.dft_seek.specs.Pins.{next_by, pins_at}
use Rattle.dft_seek.specs.Nodes.{AreEvaluated, captured_at, found_at, risen_at, same_at, sources_in, stays_at, stuck_of, verdict_at}
use Rattle.dft_seek.specs.Rigs.{IsRig, held_meaning, means_of, search_in}
use Rattle.dft_seek.specs.declared.cones.Cone.{Cone}
use Rattle.dft_seek.specs.declared.looking.Values.{Values}
use Rattle.dft_seek.specs.declared.rig.Rig.{Rig}
use Rattle.dft_seek.proofs.Alike.{AgreeTwice, AreAlike, AreSettledOn, agree_parts, gate_reads, response_same, settled_on}
use Rattle.dft_seek.proofs.EvaluateLemmas.{held_live}
use Rattle.dft_seek.proofs.PinLemmas.{next_stays}
use Rattle.dft_seek.proofs.PinsKept.{next_kept}
use Rattle.dft_seek.proofs.TreeLemmas.{whole_at}
use Rattle.dft_seek.proofs.Hanging.{IsKept, stuck_is_no_cell}
use Rattle.dft_seek.proofs.NoScan.{no_scan_pins}
use Rattle.dft_seek.proofs.Unreached.{along_gate, other_driver, stuck_driver, through_cell}

-- ---- the bits of a node

none_net : (ports : List NetId) (net : ℕ) → bit_of_net ports [] net ≡ None
none_net [] net = refl
none_net (p ∷ ports) net = refl

ports_alone : (ports : List NetId) (bits : List Bool) (net : ℕ) → bit_for (map (λ p. Port p.0) ports) bits (Port net) ≡ bit_of_net ports bits net
ports_alone [] bits net = refl
ports_alone (p ∷ ports) [] net = refl
ports_alone (p ∷ ports) (bit ∷ bits) net = ap (λ (o : Option Bool). if p.0 == net then Some bit else o) (ports_alone ports bits net)

pub bits_of_ports : (cells : List InstanceId) (ports : List NetId) (bits : List Bool) (net : ℕ) →
    bit_for (map (λ cell. Cell cell.0) cells ++ map (λ p. Port p.0) ports) bits (Port net) ≡ bit_of_net ports (drop (length cells) bits) net
bits_of_ports [] ports bits net = ports_alone ports bits net
bits_of_ports (c ∷ cells) ports [] net = sym (none_net ports net)
bits_of_ports (c ∷ cells) ports (bit ∷ bits) net = bits_of_ports cells ports bits net

no_cell_bit : (ports : List NetId) (bits : List Bool) (c : ℕ) → bit_for (map (λ p. Port p.0) ports) bits (Cell c) ≡ None
no_cell_bit [] bits c = refl
no_cell_bit (p ∷ ports) [] c = refl
no_cell_bit (p ∷ ports) (bit ∷ bits) c = no_cell_bit ports bits c

pub bits_of_cells : (cells : List InstanceId) (ports : List NetId) (bits : List Bool) (c : ℕ) → bit_for (map (λ cell. Cell cell.0) cells ++ map (λ p. Port p.0) ports) bits (Cell c) ≡ bit_of_cell cells bits c
bits_of_cells [] ports bits c = no_cell_bit ports bits c
bits_of_cells (x ∷ cells) ports [] c = refl
bits_of_cells (x ∷ cells) ports (bit ∷ bits) c = ap (λ (o : Option Bool). if x.0 == c then Some bit else o) (bits_of_cells cells ports bits c)

-- ---- what nets are given

flop_as : (holds : Bool) (inverted : Bool) (t u : Tri) (p state : ℕ → Tri) (v : ℕ → Tri) (k c : ℕ) → u ≡ state c → (holds ≡ true → t ≡ u) →
    (if inverted then inverse (if holds then t else Unknown) else (if holds then t else Unknown)) ≡ value_given (sources_at p state) v k (if holds then Flop c inverted else Free)
flop_as true inverted t u p state v k c is same = ap (λ (x : Tri). if inverted then inverse x else x) (same refl ∙ is)
flop_as false true t u p state v k c is same = refl
flop_as false false t u p state v k c is same = refl

given_as : (r : Rig) (ports cells p state v : ℕ → Tri) (k : ℕ) (m : Meaning) → (m ≡ Input → (if flag_at r.resets.items k then One else ports k) ≡ p k) → ((c : ℕ) → flag_at r.holds.items c ≡ true → cells c ≡ state c) →
    value_given (sources_in r ports cells) v k m ≡ value_given (sources_at p state) v k (held_meaning (flag_at r.holds.items) m)
given_as r ports cells p state v k Input of_port same = of_port refl
given_as r ports cells p state v k Clock of_port same = refl
given_as r ports cells p state v k (Gate kind inputs) of_port same = refl
given_as r ports cells p state v k (Joined source) of_port same = refl
given_as r ports cells p state v k (Flop c inverted) of_port same = flop_as (flag_at r.holds.items c) inverted (cells c) (state c) p state v k c refl (same c)
given_as r ports cells p state v k (Lockup c e high source) of_port same = refl
given_as r ports cells p state v k Free of_port same = refl

-- an input port's bit is a net of the design
input_live : (r : Rig) (k : ℕ) → IsRig r → meaning (op_at r.circuit.ops k) ≡ Input → k < length r.design.now.nets
input_live r k rig is = elim (leb_tells (length r.circuit.ops) k) [
  | inl out ↦ absurd (let none : Free ≡ Input = sym (ap meaning (get_or_past r.circuit.ops k op.Free out.1)) ∙ is in let f : ⊥ = cc in f)
  | inr less ↦ (let e = rig.nets in omega (arith, less.1, e))
]

port_as : (r : Rig) (f : Fault) (g : Given) (ports : ℕ → Tri) (k : ℕ) → IsRig r → ((net : ℕ) → net < length r.design.now.nets → ports net ≡ g.ports net) → meaning (op_at r.circuit.ops k) ≡ Input →
    (if flag_at r.resets.items k then One else ports k) ≡ port_values (search_in r f) g k
port_as r f g ports k rig same is = λ t. if rig.resets k t then One else same k (input_live r k rig is) t

-- the settled value of a net of the design
good_given : (r : Rig) (f : Fault) (g : Given) (ports cells state : ℕ → Tri) (v : List Tri) (net : ℕ) → IsRig r → ((net : ℕ) → net < length r.design.now.nets → ports net ≡ g.ports net) →
    ((c : ℕ) → flag_at r.holds.items c ≡ true → cells c ≡ state c) → IsGivenBy (means_of r.circuit None) (sources_in r ports cells) v net →
    value_at v net ≡ value_given (sources_at (port_values (search_in r f) g) state) (value_at v) net (meaning_in (moving_of (search_in r f)) net (driver r.design.now net))
good_given r f g ports cells state v net rig of_ports of_cells given =
    given ∙ given_as r ports cells (port_values (search_in r f) g) state (value_at v) net (meaning (op_at r.circuit.ops net)) (port_as r f g ports net rig of_ports) of_cells
    ∙ ap (value_given (sources_at (port_values (search_in r f) g) state) (value_at v) net) (rig.means net)

-- that of one of the design with the fault
bad_given : (r : Rig) (f : Fault) (g : Given) (ports cells state : ℕ → Tri) (v : List Tri) (net : ℕ) → IsRig r → IsFault r.design.now f → ((net : ℕ) → net < length r.design.now.nets → ports net ≡ g.ports net) →
    ((c : ℕ) → flag_at r.holds.items c ≡ true → cells c ≡ state c) → IsGivenBy (means_of r.circuit (stuck_of f)) (sources_in r ports cells) v net →
    value_at v net ≡ value_given (sources_at (port_values (search_in r f) g) state) (value_at v) net (meaning_in (moving_of (search_in r f)) net (driver (faulty r.design.now f) net))
bad_given r f g ports cells state v net rig fault of_ports of_cells its =
    let s : Search = search_in r f in
    let m : Meaning = meaning (op_at r.circuit.ops net) in
    let given : Bool → Tri = λ b. value_given (sources_in r ports cells) (value_at v) net (with_bit (if b then Some f.value else None) m) in
    let from : Driver → Tri = λ d. value_given (sources_at (port_values s g) state) (value_at v) net (meaning_in (moving_of s) net d) in
    elim (eqb_tells net f.net.0) [
      | inl same ↦ its ∙ ap given (eq-eqb f.net.0 net (sym same.1)) ∙ sym (ap from (stuck_driver s net fault same.0))
      | inr other ↦ its ∙ ap given (other_test net f.net.0 other.1) ∙ given_as r ports cells (port_values s g) state (value_at v) net m (port_as r f g ports net rig of_ports) of_cells
          ∙ ap (value_given (sources_at (port_values s g) state) (value_at v) net) (rig.means net) ∙ sym (ap from (other_driver s net fault other.0))
    ]

-- ---- cells that have moved

pub risen_as : (r : Rig) (f : Fault) (n : Netlist) (g : Given) (cells values : List Tri) (c : ℕ) → IsRig r → next_by (pins_at r.pins.items c) (value_at values) ≡ next_by_pins n (value_at values) c →
    value_at cells c ≡ g.cells c → risen_at r cells values c ≡ after_moves n (moving_of (search_in r f)).rises (value_at values) g.cells c
risen_as r f n g cells values c rig next same = λ t. if rig.rises c t then next t else same t

bad_next : (r : Rig) (f : Fault) (values : ℕ → Tri) (c : ℕ) → IsRig r → next_by (pins_at r.pins.items c) values ≡ next_by_pins (faulty r.design.now f) values c
bad_next r f values c rig = next_kept r.design.now c (pins_at r.pins.items c) values (rig.pins.each c) ∙ sym (next_stays r.design.now f values c)

-- ---- both captures

-- the values of the tables, where the needed nets alone have theirs
abbrev pub told_by : Values → Both
told_by v = record {
  good = record { first = value_at v.good.values.items; second = value_at v.good_after.values.items };
  faulty = record { first = value_at v.bad.values.items; second = value_at v.bad_after.values.items };
}

-- what the tables give is what the node's assignment gives
pub record IsAssigned (r : Rig) (v : Values) (g : Given) : Type 0 where
  pub cells : (c : ℕ) → flag_at r.holds.items c ≡ true → value_at v.cells.items c ≡ g.cells c
  pub ports : (net : ℕ) → net < length r.design.now.nets → value_at v.ports.items net ≡ g.ports net

-- a net is needed
abbrev pub IsNeeded : Cone → (net : ℕ) → Type 0
IsNeeded cone net = is_needed cone.needed.items net ≡ true

good_told : (r : Rig) (f : Fault) (cone : Cone) (v : Values) (g : Given) → IsRig r → IsAssigned r v g → AreEvaluated r f cone.needed.items v → AreSettledOn (search_in r f) r.design.now g (told_by v).good (IsNeeded cone)
good_told r f cone v g rig given are = record {
  first = λ net needs. good_given r f g (value_at v.ports.items) (value_at v.cells.items) g.cells v.good.values.items net rig given.ports given.cells (are.good net needs);
  second = λ falls net needs.
      good_given r f g (value_at v.ports.items) (risen_at r v.cells.items v.good.values.items) (after_moves r.design.now (moving_of (search_in r f)).rises (value_at v.good.values.items) g.cells) v.good_after.values.items net rig given.ports
      (λ c holds. risen_as r f r.design.now g v.cells.items v.good.values.items c rig (next_kept r.design.now c (pins_at r.pins.items c) (value_at v.good.values.items) (rig.pins.each c)) (given.cells c holds))
      (are.good_after (rig.any_falls ∙ falls) net needs);
}

bad_told : (r : Rig) (f : Fault) (cone : Cone) (v : Values) (g : Given) → IsRig r → IsFault r.design.now f → IsAssigned r v g → AreEvaluated r f cone.needed.items v →
    AreSettledOn (search_in r f) (faulty r.design.now f) g (told_by v).faulty (IsNeeded cone)
bad_told r f cone v g rig fault given are = record {
  first = λ net needs. bad_given r f g (value_at v.ports.items) (value_at v.cells.items) g.cells v.bad.values.items net rig fault given.ports given.cells (are.bad net needs);
  second = λ falls net needs.
      bad_given r f g (value_at v.ports.items) (risen_at r v.cells.items v.bad.values.items) (after_moves (faulty r.design.now f) (moving_of (search_in r f)).rises (value_at v.bad.values.items) g.cells) v.bad_after.values.items net rig fault given.ports
      (λ c holds. risen_as r f (faulty r.design.now f) g v.cells.items v.bad.values.items c rig (bad_next r f (value_at v.bad.values.items) c rig) (given.cells c holds)) (are.bad_after (rig.any_falls ∙ falls) net needs);
}

-- ---- needed nets are settled by needed nets alone

-- each walk to a needed net comes from a needed one
needed_alike : (r : Rig) (f : Fault) (cone : Cone) (n : Netlist) (g : Given) → AreNeeded r f cone → ((net : ℕ) → IsKept (search_in r f) n net) → ((values : ℕ → Tri) (c : ℕ) → next_by_pins n values c ≡ next_by_pins r.design.now values c) →
    AreAlike (search_in r f) n n g g (IsNeeded cone)
needed_alike r f cone n g needs kept next = record {
  same = record {
    driven = λ net here. refl;
    reads = λ net from here is. elim (kept net) [
      | inl same ↦ needs.steps net from here (along_gate (search_in r f) from (driver r.design.now net) (ap (λ (d : Driver). is_among from (gate_reads d)) (sym same) ∙ is))
      | inr stuck ↦ absurd (let e : false ≡ true = ap (λ (d : Driver). is_among from (gate_reads d)) (sym stuck) ∙ is in let x : ⊥ = cc in x)
    ];
    of_ports = λ net here is clock. refl;
    of_cells = λ net i inverted here is held. refl;
  };
  passes = λ net i inverted from here is passed among. elim (kept net) [
    | inl same ↦ needs.steps net from here (through_cell (search_in r f) from i inverted (driver r.design.now net) (sym same ∙ is) passed among)
    | inr stuck ↦ absurd (stuck_is_no_cell (driver n net) i inverted f.value stuck is)
  ];
  next = next;
  its_next = next;
}

good_kept : (r : Rig) (f : Fault) (cone : Cone) (g : Given) → AreNeeded r f cone → AreAlike (search_in r f) r.design.now r.design.now g g (IsNeeded cone)
good_kept r f cone g needs = needed_alike r f cone r.design.now g needs (λ net. inl refl) (λ values c. refl)

bad_kept : (r : Rig) (f : Fault) (cone : Cone) (g : Given) → IsFault r.design.now f → AreNeeded r f cone → AreAlike (search_in r f) (faulty r.design.now f) (faulty r.design.now f) g g (IsNeeded cone)
bad_kept r f cone g fault needs = needed_alike r f cone (faulty r.design.now f) g needs
    (λ net. elim (eqb_tells net f.net.0) [
      | inl same ↦ inr (stuck_driver (search_in r f) net fault same.0)
      | inr other ↦ inl (other_driver (search_in r f) net fault other.0)
    ])
    (λ values c. next_stays r.design.now f values c)

-- the captures of an assignment show at needed nets what the tables tell
pub record AreTold (r : Rig) (f : Fault) (cone : Cone) (v : Values) (b : Both) : Type 0 where
  pub good : AgreeTwice (search_in r f) b.good (told_by v).good (IsNeeded cone)
  pub faulty : AgreeTwice (search_in r f) b.faulty (told_by v).faulty (IsNeeded cone)

are_told : (r : Rig) (f : Fault) (cone : Cone) (v : Values) (g : Given) (b : Both) → IsRig r → IsFault r.design.now f → AreNeeded r f cone → IsAssigned r v g → AreEvaluated r f cone.needed.items v → AreBoth (search_in r f) g b → AreTold r f cone v b
are_told r f cone v g b rig fault needs given are both =
    let s : Search = search_in r f in
    let none = no_scan_pins s rig.library in
    record {
      good = agree_parts s r.design.now r.design.now rig.rank g g b.good (told_by v).good (IsNeeded cone) rig.ordered none (good_kept r f cone g needs) (settled_on s r.design.now g b.good (IsNeeded cone) both.good) (good_told r f cone v g rig given are);
      faulty = agree_parts s (faulty r.design.now f) (faulty r.design.now f) rig.rank g g b.faulty (told_by v).faulty (IsNeeded cone) (order_stays r.design.now f rig.rank fault rig.ordered) none (bad_kept r f cone g fault needs)
          (settled_on s (faulty r.design.now f) g b.faulty (IsNeeded cone) both.faulty) (bad_told r f cone v g rig fault given are);
    }

-- the nets of a point are needed
abbrev IsSeen : Rig → Cone → Point → Type 0
IsSeen r cone (Output net) = IsNeeded cone net
IsSeen r cone (Response cell) = (from : ℕ) → is_among from (taken_nets r.design.now cell) ≡ true → IsNeeded cone from

cells_seen : (r : Rig) (cone : Cone) (cells : List InstanceId) → AllByRecursion (λ cell. (from : ℕ) → is_among from (taken_nets r.design.now cell.0) ≡ true → IsNeeded cone from) cells →
    AllByRecursion (IsSeen r cone) (map (λ cell. Response cell.0) cells)
cells_seen r cone [] all = tt
cells_seen r cone (c ∷ cells) all = (all.0, cells_seen r cone cells all.1)

nets_seen : (r : Rig) (cone : Cone) (nets : List NetId) (rest : List Point) → AllByRecursion (λ net. IsNeeded cone net.0) nets → AllByRecursion (IsSeen r cone) rest → AllByRecursion (IsSeen r cone) (map (λ net. Output net.0) nets ++ rest)
nets_seen r cone [] rest all others = others
nets_seen r cone (net ∷ nets) rest all others = (all.0, nets_seen r cone nets rest all.1 others)

all_seen : (r : Rig) (f : Fault) (cone : Cone) → AreNeeded r f cone → AllByRecursion (IsSeen r cone) (cone_of cone).points
all_seen r f cone needs = nets_seen r cone cone.outputs.items (map (λ cell. Response cell.0) cone.responses.items) needs.outputs (cells_seen r cone cone.responses.items needs.responses)

-- so each point shows what the tables tell
point_good : (r : Rig) (f : Fault) (cone : Cone) (v : Values) (g : Given) (b : Both) (point : Point) → IsRig r → AreNeeded r f cone → AreTold r f cone v b → IsSeen r cone point → good_at (search_in r f) g b point ≡ good_at (search_in r f) g (told_by v) point
point_good r f cone v g b (Output net) rig needs told seen = told.good.first net seen
point_good r f cone v g b (Response c) rig needs told seen =
    response_same (search_in r f) r.design.now r.design.now g g b.good (told_by v).good (IsNeeded cone) c (no_scan_pins (search_in r f) rig.library) (good_kept r f cone g needs) told.good seen (λ no_fall no_rise. refl)

point_bad : (r : Rig) (f : Fault) (cone : Cone) (v : Values) (g : Given) (b : Both) (point : Point) → IsRig r → IsFault r.design.now f → AreNeeded r f cone → AreTold r f cone v b → IsSeen r cone point →
    faulty_at (search_in r f) g b point ≡ faulty_at (search_in r f) g (told_by v) point
point_bad r f cone v g b (Output net) rig fault needs told seen = told.faulty.first net seen
point_bad r f cone v g b (Response c) rig fault needs told seen =
    response_same (search_in r f) (faulty r.design.now f) (faulty r.design.now f) g g b.faulty (told_by v).faulty (IsNeeded cone) c (no_scan_pins (search_in r f) rig.library) (bad_kept r f cone g fault needs) told.faulty seen (λ no_fall no_rise. refl)

-- ---- points

-- what a cell of the domain captures, in the design or in the design with the fault
captured_as : (r : Rig) (f : Fault) (n : Netlist) (g : Given) (first after : List Tri) (c : ℕ) → IsRig r → ((values : ℕ → Tri) → next_by (pins_at r.pins.items c) values ≡ next_by_pins n values c) →
    (takes_at (search_in r f) false c || takes_at (search_in r f) true c) ≡ true →
    captured n (moving_of (search_in r f)) g.cells (record { first = value_at first; second = value_at after }) c ≡ captured_at r first after c
captured_as r f n g first after c rig next takes = by (takes_at s true c) (takes_at s false c) (flag_at r.falls.items c) (rig.falls c) takes
  where
    s : Search
    s = search_in r f

    by : (falls rises flag : Bool) → flag ≡ falls → (rises || falls) ≡ true →
        (if falls then next_by_pins n (value_at after) c else (if rises then next_by_pins n (value_at first) c else g.cells c))
        ≡ (if flag then next_by (pins_at r.pins.items c) (value_at after) else next_by (pins_at r.pins.items c) (value_at first))
    by true rises true same some = sym (next (value_at after))
    by true rises false same some = absurd (let e : false ≡ true = same in let x : ⊥ = cc in x)
    by false true false same some = sym (next (value_at first))
    by false true true same some = absurd (let e : true ≡ false = same in let x : ⊥ = cc in x)
    by false false flag same some = absurd (let e : false ≡ true = some in let x : ⊥ = cc in x)

-- ---- lists of points

all_mapped : {A B : Type 0} (test : B → Bool) (g : A → B) (xs : List A) → list_all test (map g xs) ≡ list_all (λ x. test (g x)) xs
all_mapped test g [] = refl
all_mapped test g (x ∷ xs) = ap (λ (b : Bool). test (g x) && b) (all_mapped test g xs)

any_alike : {A : Type 0} (P : A → Type 0) (one other : A → Bool) (xs : List A) → AllByRecursion P xs → ((x : A) → P x → one x ≡ other x) → list_any one xs ≡ list_any other xs
any_alike P one other [] all same = refl
any_alike P one other (x ∷ xs) all same = λ t. same x all.0 t || any_alike P one other xs all.1 same t

all_alike : {A : Type 0} (P : A → Type 0) (one other : A → Bool) (xs : List A) → AllByRecursion P xs → ((x : A) → P x → one x ≡ other x) → list_all one xs ≡ list_all other xs
all_alike P one other [] all same = refl
all_alike P one other (x ∷ xs) all same = λ t. same x all.0 t && all_alike P one other xs all.1 same t

-- ---- whether every variable has a bit

whole_few : (vs : List Variable) (bits : List Bool) → is_whole vs bits ≡ true → length vs ≤ length bits
whole_few [] bits is = omega arith
whole_few (v ∷ vs) [] is = absurd (let f : ⊥ = cc in f)
whole_few (v ∷ vs) (bit ∷ bits) is = (let below = whole_few vs bits is in omega (arith, below))

whole_same : (vs : List Variable) (bits : List Bool) (count : ℕ) → length vs ≡ count → is_whole vs bits ≡ nat_le count (length bits)
whole_same vs bits count size = same_tests (is_whole vs bits) (nat_le count (length bits)) (λ is. le-leb count (length bits) (let few = whole_few vs bits is in omega (arith, few, size)))
    (λ is. whole_at vs bits (let few = leb-true count (length bits) is in omega (arith, few, size)))

pub count_of : (cone : Cone) → length (cone_of cone).variables ≡ length cone.cells.items + length cone.ports.items
count_of cone =
    length-append (map (λ cell. Cell cell.0) cone.cells.items) (map (λ net. Port net.0) cone.ports.items)
    ∙ (λ t. length-map cone.cells.items (λ (cell : InstanceId). Cell cell.0) t + length-map cone.ports.items (λ (net : NetId). Port net.0) t)

-- ---- the verdict

found_same : (r : Rig) (f : Fault) (cone : Cone) (bits : List Bool) (v : Values) → IsRig r → AreTaking r cone.responses.items →
    is_found (search_in r f) (cone_of cone) bits (told_by v) ≡ found_at r cone v.good.values.items v.good_after.values.items v.bad.values.items v.bad_after.values.items
found_same r f cone bits v rig taking =
    let s : Search = search_in r f in
    let g : Given = node_at (cone_of cone).variables bits in
    let test : Point → Bool = detects_at s g (told_by v) in
    list_any-append test (map (λ net. Output net.0) cone.outputs.items) (map (λ cell. Response cell.0) cone.responses.items)
    ∙ (λ t. any_map test (λ (net : NetId). Output net.0) cone.outputs.items t || any_map test (λ (cell : InstanceId). Response cell.0) cone.responses.items t)
    ∙ ap (λ (x : Bool). list_any (λ net. differ (value_at v.good.values.items net.0) (value_at v.bad.values.items net.0)) cone.outputs.items || x)
    (any_alike (λ (cell : InstanceId). (takes_at s false cell.0 || takes_at s true cell.0) ≡ true) (λ cell. test (Response cell.0))
    (λ cell. differ (captured_at r v.good.values.items v.good_after.values.items cell.0) (captured_at r v.bad.values.items v.bad_after.values.items cell.0)) cone.responses.items taking
    (λ cell takes t. differ (captured_as r f r.design.now g v.good.values.items v.good_after.values.items cell.0 rig (λ values. next_kept r.design.now cell.0 (pins_at r.pins.items cell.0) values (rig.pins.each cell.0)) takes t)
    (captured_as r f (faulty r.design.now f) g v.bad.values.items v.bad_after.values.items cell.0 rig (λ values. bad_next r f values cell.0 rig) takes t)))

agrees_same : (r : Rig) (f : Fault) (cone : Cone) (bits : List Bool) (v : Values) → IsRig r → AreTaking r cone.responses.items →
    list_all (agrees_at (search_in r f) (node_at (cone_of cone).variables bits) (told_by v)) (cone_of cone).points ≡ same_at r cone v.good.values.items v.good_after.values.items v.bad.values.items v.bad_after.values.items
agrees_same r f cone bits v rig taking =
    let s : Search = search_in r f in
    let g : Given = node_at (cone_of cone).variables bits in
    let test : Point → Bool = agrees_at s g (told_by v) in
    list_all-append test (map (λ net. Output net.0) cone.outputs.items) (map (λ cell. Response cell.0) cone.responses.items)
    ∙ (λ t. all_mapped test (λ (net : NetId). Output net.0) cone.outputs.items t && all_mapped test (λ (cell : InstanceId). Response cell.0) cone.responses.items t)
    ∙ ap (λ (x : Bool). list_all (λ net. agree (value_at v.good.values.items net.0) (value_at v.bad.values.items net.0)) cone.outputs.items && x)
    (all_alike (λ (cell : InstanceId). (takes_at s false cell.0 || takes_at s true cell.0) ≡ true) (λ cell. test (Response cell.0))
    (λ cell. agree (captured_at r v.good.values.items v.good_after.values.items cell.0) (captured_at r v.bad.values.items v.bad_after.values.items cell.0)) cone.responses.items taking
    (λ cell takes t. agree (captured_as r f r.design.now g v.good.values.items v.good_after.values.items cell.0 rig (λ values. next_kept r.design.now cell.0 (pins_at r.pins.items cell.0) values (rig.pins.each cell.0)) takes t)
    (captured_as r f (faulty r.design.now f) g v.bad.values.items v.bad_after.values.items cell.0 rig (λ values. bad_next r f values cell.0 rig) takes t)))

stays_same_at : (r : Rig) (f : Fault) (v : Values) → IsRig r → site_stays (search_in r f) (told_by v) ≡ stays_at r f v.good.values.items v.good_after.values.items
stays_same_at r f v rig = ap (λ (b : Bool). is_bit f.value (value_at v.good.values.items f.net.0) && (not b || is_bit f.value (value_at v.good_after.values.items f.net.0))) (sym rig.any_falls)

-- what is known where the domain has a falling cell
where_falls : (falls : Bool) (t u : Bool) → (falls ≡ true → t ≡ u) → (not falls || t) ≡ (not falls || u)
where_falls true t u same = same refl
where_falls false t u same = refl

stays_told : (r : Rig) (f : Fault) (cone : Cone) (v : Values) (b : Both) → IsNeeded cone f.net.0 → AreTold r f cone v b → site_stays (search_in r f) b ≡ site_stays (search_in r f) (told_by v)
stays_told r f cone v b needs told =
    λ t. is_bit f.value (told.good.first f.net.0 needs t)
    && where_falls (has_falling (search_in r f)) (is_bit f.value (b.good.second f.net.0)) (is_bit f.value (value_at v.good_after.values.items f.net.0)) (λ falls. ap (is_bit f.value) (told.good.second falls f.net.0 needs)) t

-- where there is no point a node is dead
no_points : (test more : Point → Bool) (points : List Point) (x y whole : Bool) → points ≡ [] → verdict_of (list_any test points) (x || (list_all more points || whole)) ≡ verdict_of (list_any test points) (y || (list_all more points || whole))
no_points test more [] x y whole none = dead x ∙ sym (dead y)
  where
    dead : (z : Bool) → verdict_of false (z || true) ≡ Dead
    dead true = refl
    dead false = refl
no_points test more (p ∷ points) x y whole none = absurd cc

-- by the captures of its assignment a node is what it is by the tables
verdict_told : (r : Rig) (f : Fault) (cone : Cone) (bits : List Bool) (v : Values) (b : Both) → IsRig r → IsFault r.design.now f → AreNeeded r f cone → AreTold r f cone v b →
    verdict_of (is_found (search_in r f) (cone_of cone) bits b) (is_dead (search_in r f) (cone_of cone) bits b) ≡ verdict_of (is_found (search_in r f) (cone_of cone) bits (told_by v)) (is_dead (search_in r f) (cone_of cone) bits (told_by v))
verdict_told r f cone bits v b rig fault needs told =
    let s : Search = search_in r f in
    let g : Given = node_at (cone_of cone).variables bits in
    let points : List Point = (cone_of cone).points in
    let whole : Bool = is_whole (cone_of cone).variables bits in
    let seen = all_seen r f cone needs in
    let found : list_any (detects_at s g b) points ≡ list_any (detects_at s g (told_by v)) points =
    any_alike (IsSeen r cone) (detects_at s g b) (detects_at s g (told_by v)) points seen (λ p is t. differ (point_good r f cone v g b p rig needs told is t) (point_bad r f cone v g b p rig fault needs told is t)) in
    let agrees : list_all (agrees_at s g b) points ≡ list_all (agrees_at s g (told_by v)) points =
    all_alike (IsSeen r cone) (agrees_at s g b) (agrees_at s g (told_by v)) points seen (λ p is t. agree (point_good r f cone v g b p rig needs told is t) (point_bad r f cone v g b p rig fault needs told is t)) in
    (λ t. verdict_of (found t) (site_stays s b || (agrees t || whole)))
    ∙ elim needs.site [
      | inl none ↦ no_points (detects_at s g (told_by v)) (agrees_at s g (told_by v)) points (site_stays s b) (site_stays s (told_by v)) whole none
      | inr site ↦ ap (λ (x : Bool). verdict_of (list_any (detects_at s g (told_by v)) points) (x || (list_all (agrees_at s g (told_by v)) points || whole))) (stays_told r f cone v b site told)
    ]

-- an assignment has its captures
both_there : (r : Rig) (f : Fault) (g : Given) → IsRig r → IsFault r.design.now f → (b : Both) × AreBoth (search_in r f) g b
both_there r f g rig fault =
    let s : Search = search_in r f in
    let good = capture_there r.design.now (moving_of s) rig.rank (port_values s g) g.cells rig.ordered in
    let bad = capture_there (faulty r.design.now f) (moving_of s) rig.rank (port_values s g) g.cells (order_stays r.design.now f rig.rank fault rig.ordered) in
    (record { good = good.0; faulty = bad.0 }, record { good = good.1; faulty = bad.1 })

-- what the tables tell of a node is what it is
pub looks_at : (r : Rig) (f : Fault) (cone : Cone) (bits : List Bool) (v : Values) (verdict : Verdict) → IsRig r → IsFault r.design.now f → AreTaking r cone.responses.items → AreNeeded r f cone →
    IsAssigned r v (node_at (cone_of cone).variables bits) → AreEvaluated r f cone.needed.items v → verdict ≡ verdict_at r f cone bits v → Looks (search_in r f) (cone_of cone) bits verdict
looks_at r f cone bits v verdict rig fault taking needs given are is =
    let g : Given = node_at (cone_of cone).variables bits in
    let there = both_there r f g rig fault in
    record {
      both = there.0;
      are = there.1;
      is =
          verdict_told r f cone bits v there.0 rig fault needs (are_told r f cone v g there.0 rig fault needs given are there.1)
          ∙ (λ t. verdict_of (found_same r f cone bits v rig taking t)
          (stays_same_at r f v rig t || (agrees_same r f cone bits v rig taking t || whole_same (cone_of cone).variables bits (length cone.cells.items + length cone.ports.items) (count_of cone) t)))
          ∙ sym is;
    }

-- what is assigned
pub assigned_as : (r : Rig) (cone : Cone) (bits : List Bool) (v : Values) → IsRig r → ((c : ℕ) → c < length r.design.now.instances → value_at v.cells.items c ≡ or_unknown (bit_of_cell cone.cells.items bits c)) →
    ((net : ℕ) → net < length r.design.now.nets → value_at v.ports.items net ≡ or_unknown (bit_of_net cone.ports.items (drop (length cone.cells.items) bits) net)) → IsAssigned r v (node_at (cone_of cone).variables bits)
assigned_as r cone bits v rig cells ports = record {
  cells = λ c holds. cells c (held_live r c rig holds) ∙ sym (ap or_unknown (bits_of_cells cone.cells.items cone.ports.items bits c));
  ports = λ net less. ports net less ∙ sym (ap or_unknown (bits_of_ports cone.cells.items cone.ports.items bits net));
}
