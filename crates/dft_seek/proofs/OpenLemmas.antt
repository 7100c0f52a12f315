-- Where ports and cells are given other values, the needed nets that show them are marked.
use Rattle.std.proofs.Common.{ℕ, ◌≡◌, ◌⊎◌, ◌<◌, ◌≤◌, ◌++◌, inl, inr, Bool, false, List, [], ◌∷◌, length, drop, Option, None, Some, refl, sym, subst, ap, arith, ◌∙◌, true≢false}
use Rattle.std.specs.Prelude.{if◌then◌else◌, replicate}
use Rattle.std.specs.Global.{Vec}
use Rattle.std.specs.Vec.{with_items}
use Rattle.std.proofs.lemmas.Bool.Decides.{eqb_tells, leb_tells}
use Rattle.std.proofs.lemmas.List.{drop_all, get_or-replicate, get_or_past, length-replicate}
use Rattle.dft_base.specs.declared.tri.Tri.{Tri}
use Rattle.dft_base.specs.declared.tri.Tri.TheVariants.{One, Unknown}
use Rattle.dft_base.specs.Tri.{known}
use Rattle.dft_base.proofs.ListLemmas.{refilled_items}
use Rattle.dft_netlist.specs.declared.ids.NetId.{NetId}
use Rattle.dft_netlist.specs.declared.ids.InstanceId.{InstanceId}
use Rattle.dft_behavior.specs.Logic.{Meaning, Input, Clock, Gate, Joined, Flop, Lockup, Free}
use Rattle.dft_netlist.specs.Orders.{Has}
use Rattle.dft_behavior.specs.Settled.{inverse, value_given}
use Rattle.dft_expect.specs.Loaded.{bit_of_cell, or_unknown}
use Rattle.dft_logic.specs.declared.circuit.Op.{Op}
use Rattle.dft_logic.specs.declared.circuit.Op.TheVariants as op
use Rattle.dft_logic.specs.Circuit.{flag_at, meaning, op_at}
use Rattle.dft_logic.specs.Tables.{list_at}
use Rattle.dft_logic.specs.Values.{value_at}
use Rattle.dft_sweep.specs.declared.field.Stuck.{Stuck}
use Rattle.dft_sweep.specs.Fields.{IsGivenIf, bit_at, with_bit}
use Rattle.dft_faults.specs.declared.fault.Fault.{Fault}
use Rattle.dft_seek.specs.Assigned.{IsPut, bit_of_net}
use Rattle.dft_seek.specs.Cones.{AreOnce}
use Rattle.dft_seek.specs.Nodes.{AreAt, AreEvaluated, AreMarkable, AreMarked, AreOpen, AreReady, AreSettledFor, IsGivenAt, IsMarked, IsOpen, IsSettled, is_cell_at, is_port_at, sources_in, stuck_of}
use Rattle.dft_seek.specs.Rigs.{IsRig, cells_shown, means_of}
use Rattle.dft_seek.specs.declared.cones.Cone.{Cone}
use Rattle.dft_seek.specs.declared.looking.Table.{Table}
use Rattle.dft_seek.specs.declared.looking.Values.{Values}
use Rattle.dft_seek.specs.declared.rig.Rig.{Rig}
use Rattle.dft_seek.proofs.BitPlaces.{cell_grown, cell_shrunk, port_grown, port_shrunk}

-- ---- marks

-- a net that shows nothing that has other values is given the same
moved : (r : Rig) (nets : List ℕ) (p q a b v : ℕ → Tri) (k : ℕ) (o : Option Bool) (m : Meaning) → (m ≡ Input → Has nets k ⊎ (p k ≡ q k)) → ((c : ℕ) (inverted : Bool) → m ≡ Flop c inverted → Has nets k ⊎ (a c ≡ b c)) →
    Has nets k ⊎ (value_given (sources_in r p a) v k (with_bit o m) ≡ value_given (sources_in r q b) v k (with_bit o m))
moved r nets p q a b v k (Some bit) m ports cells = inr refl
moved r nets p q a b v k None Input ports cells = elim (ports refl) [ inl has ↦ inl has | inr same ↦ inr (ap (λ (t : Tri). if flag_at r.resets.items k then One else t) same) ]
moved r nets p q a b v k None Clock ports cells = inr refl
moved r nets p q a b v k None (Gate kind inputs) ports cells = inr refl
moved r nets p q a b v k None (Joined from) ports cells = inr refl
moved r nets p q a b v k None (Flop c inverted) ports cells = elim (cells c inverted refl) [
  | inl has ↦ inl has
  | inr same ↦ inr (ap (λ (t : Tri). if inverted then inverse (if flag_at r.holds.items c then t else Unknown) else (if flag_at r.holds.items c then t else Unknown)) same)
]
moved r nets p q a b v k None (Lockup c e high from) ports cells = inr refl
moved r nets p q a b v k None Free ports cells = inr refl

-- a table whose marks tell what has changed
opened : (r : Rig) (needed : List Bool) (stuck : Option Stuck) (ports cells p q : List Tri) (nets : List ℕ) (old new : Table) →
    ((k : ℕ) → meaning (op_at r.circuit.ops k) ≡ Input → Has nets k ⊎ (value_at ports k ≡ value_at p k)) →
    ((k c : ℕ) (inverted : Bool) → meaning (op_at r.circuit.ops k) ≡ Flop c inverted → Has nets k ⊎ (value_at cells c ≡ value_at q c)) →
    IsMarked r needed nets old new → IsOpen r needed stuck ports cells old → IsOpen r needed stuck p q new
opened r needed stuck ports cells p q nets old new of_ports of_cells marks is = record {
  values = ap (λ (v : Vec Tri). length v.items) marks.values ∙ is.values;
  marked = marks.size ∙ is.marked;
  busy = marks.busy is.busy;
  given = λ k down needs. elim (moved r nets (value_at ports) (value_at p) (value_at cells) (value_at q) (value_at old.values.items) k (bit_at stuck k) (meaning (op_at r.circuit.ops k)) (of_ports k) (of_cells k)) [
    | inl has ↦ absurd ((marks.lowered k down).1 needs has)
    | inr same ↦ subst (λ (v : Vec Tri). value_at v.items k ≡ value_given (sources_in r (value_at p) (value_at q)) (value_at v.items) k (means_of r.circuit stuck k)) (sym marks.values) (is.given k (marks.lowered k down).0 needs ∙ same)
  ];
}

-- past the end nothing is put
put_past : (old new : List Tri) (place : ℕ) (value : Tri) → IsPut old new place value → length old ≤ place → value_at old place ≡ value_at new place
put_past old new place value is past = get_or_past old place Unknown past ∙ sym (get_or_past new place Unknown (let e = is.size in omega (arith, e, past)))

-- what is put into a vector that was lent
pub put_lent : (v : Vec Tri) (ws rs : List Tri) (place : ℕ) (value : Tri) → rs ≡ v.items → IsPut rs ws place value → IsPut v.items (with_items v ws).items place value
put_lent v ws rs place value same is = subst (λ (l : List Tri). IsPut v.items l place value) (sym (refilled_items v ws rs is.size same)) (subst (λ (l : List Tri). IsPut l ws place value) same is)

-- a net of the circuit that shows a flip-flop is told
shows : (r : Rig) (k c : ℕ) (inverted : Bool) → IsRig r → c < length r.design.now.instances → meaning (op_at r.circuit.ops k) ≡ Flop c inverted → Has (list_at r.showing.items c) k
shows r k c inverted rig less is = rig.showing.each c k live less (subst (λ (m : Meaning). Has (cells_shown m) c) (sym is) (inl refl))
  where
    live : k < length r.circuit.ops
    live = elim (leb_tells (length r.circuit.ops) k) [
      | inl out ↦ absurd (let e : Free ≡ Flop c inverted = sym (ap (λ (o : Op). meaning o) (get_or_past r.circuit.ops k op.Free out.1)) ∙ is in let f : ⊥ = cc in f)
      | inr less ↦ less.1
    ]

cell_shows : (r : Rig) (cells q : List Tri) (c : ℕ) (value : Tri) (nets : List ℕ) (k e : ℕ) (inverted : Bool) → IsRig r → length cells ≡ length r.design.now.instances → IsPut cells q c value → nets ≡ list_at r.showing.items c →
    meaning (op_at r.circuit.ops k) ≡ Flop e inverted → Has nets k ⊎ (value_at cells e ≡ value_at q e)
cell_shows r cells q c value nets k e inverted rig size is are shown = elim (eqb_tells e c) [
  | inl same ↦ elim (leb_tells (length cells) c) [
    | inl out ↦ inr (ap (value_at cells) same.1 ∙ put_past cells q c value is out.1 ∙ sym (ap (value_at q) same.1))
    | inr less ↦ inl (subst (λ (l : List ℕ). Has l k) (sym are) (shows r k c inverted rig (let l = less.1 in omega (arith, l, size)) (shown ∙ ap (λ (i : ℕ). Flop i inverted) same.1)))
  ]
  | inr other ↦ inr (sym (is.other e other.1))
]

-- all that is not marked is settled still where a cell is given a value and the nets that show it are marked
pub cell_open : (r : Rig) (f : Fault) (needed : List Bool) (c : ℕ) (value : Tri) (nets : List ℕ) (old mid new : Values) → IsRig r → IsPut old.cells.items mid.cells.items c value → mid.ports ≡ old.ports → mid.risen ≡ old.risen → mid.good ≡ old.good → mid.bad ≡ old.bad → mid.good_after ≡ old.good_after → mid.bad_after ≡ old.bad_after →
    nets ≡ list_at r.showing.items c → AreMarked r needed nets mid new → AreOpen r f needed old → AreOpen r f needed new
cell_open r f needed c value nets old mid new rig is ports risen good bad good_after bad_after are marks was = record {
  cells = ap (λ (v : Vec Tri). length v.items) marks.cells ∙ is.size ∙ was.cells;
  ports = ap (λ (v : Vec Tri). length v.items) (marks.ports ∙ ports) ∙ was.ports;
  risen = ap (λ (v : Vec Tri). length v.items) (marks.risen ∙ risen) ∙ was.risen;
  good = table None old.good mid.good new.good good marks.good was.good;
  bad = table (stuck_of f) old.bad mid.bad new.bad bad marks.bad was.bad;
  good_after = subst (IsSettled r needed None) (sym (marks.good_after ∙ good_after)) was.good_after;
  bad_after = λ falls. subst (IsSettled r needed (stuck_of f)) (sym (marks.bad_after ∙ bad_after)) (was.bad_after falls);
}
  where
    table : (stuck : Option Stuck) (s t u : Table) → t ≡ s → IsMarked r needed nets t u → IsOpen r needed stuck old.ports.items old.cells.items s → IsOpen r needed stuck new.ports.items new.cells.items u
    table stuck s t u same marked before =
        subst (λ (v : Vec Tri). IsOpen r needed stuck v.items new.cells.items u) (sym (marks.ports ∙ ports)) (subst (λ (v : Vec Tri). IsOpen r needed stuck old.ports.items v.items u) (sym marks.cells)
        (opened r needed stuck old.ports.items old.cells.items old.ports.items mid.cells.items nets s u (λ k means. inr refl) (λ k e inverted means. cell_shows r old.cells.items mid.cells.items c value nets k e inverted rig was.cells is are means)
        (subst (λ (x : Table). IsMarked r needed nets x u) same marked) before))

pub port_open : (r : Rig) (f : Fault) (needed : List Bool) (net : ℕ) (value : Tri) (nets : List ℕ) (old mid new : Values) → IsPut old.ports.items mid.ports.items net value → mid.cells ≡ old.cells → mid.risen ≡ old.risen → mid.good ≡ old.good → mid.bad ≡ old.bad → mid.good_after ≡ old.good_after → mid.bad_after ≡ old.bad_after →
    Has nets net → AreMarked r needed nets mid new → AreOpen r f needed old → AreOpen r f needed new
port_open r f needed net value nets old mid new is cells risen good bad good_after bad_after here marks was = record {
  cells = ap (λ (v : Vec Tri). length v.items) (marks.cells ∙ cells) ∙ was.cells;
  ports = ap (λ (v : Vec Tri). length v.items) marks.ports ∙ is.size ∙ was.ports;
  risen = ap (λ (v : Vec Tri). length v.items) (marks.risen ∙ risen) ∙ was.risen;
  good = table None old.good mid.good new.good good marks.good was.good;
  bad = table (stuck_of f) old.bad mid.bad new.bad bad marks.bad was.bad;
  good_after = subst (IsSettled r needed None) (sym (marks.good_after ∙ good_after)) was.good_after;
  bad_after = λ falls. subst (IsSettled r needed (stuck_of f)) (sym (marks.bad_after ∙ bad_after)) (was.bad_after falls);
}
  where
    showing : (k : ℕ) → meaning (op_at r.circuit.ops k) ≡ Input → Has nets k ⊎ (value_at old.ports.items k ≡ value_at mid.ports.items k)
    showing k means = elim (eqb_tells k net) [ inl same ↦ inl (subst (Has nets) (sym same.1) here) | inr other ↦ inr (sym (is.other k other.1)) ]

    table : (stuck : Option Stuck) (s t u : Table) → t ≡ s → IsMarked r needed nets t u → IsOpen r needed stuck old.ports.items old.cells.items s → IsOpen r needed stuck new.ports.items new.cells.items u
    table stuck s t u same marked before =
        subst (λ (v : Vec Tri). IsOpen r needed stuck v.items new.cells.items u) (sym marks.ports) (subst (λ (v : Vec Tri). IsOpen r needed stuck mid.ports.items v.items u) (sym (marks.cells ∙ cells))
        (opened r needed stuck old.ports.items old.cells.items mid.ports.items old.cells.items nets s u showing (λ k e inverted means. inr refl) (subst (λ (x : Table). IsMarked r needed nets x u) same marked) before))

-- ---- from node to node

pub markable : (r : Rig) (f : Fault) (needed : List Bool) (v : Values) → AreOpen r f needed v → AreMarkable r v
markable r f needed v was = record { good = was.good.marked; bad = was.bad.marked }

-- settled tables are open
pub table_open : (r : Rig) (needed : List Bool) (stuck : Option Stuck) (ports cells : List Tri) (t : Table) → IsSettled r needed stuck t → AreSettledFor r needed stuck (value_at ports) (value_at cells) t.values.items → IsOpen r needed stuck ports cells t
table_open r needed stuck ports cells t is settled = record { values = is.values; marked = is.marked; given = λ k down. settled k; busy = λ k up. absurd (true≢false (sym up ∙ is.clear k)) }

pub evaluated_open : (r : Rig) (f : Fault) (needed : List Bool) (v : Values) → AreReady r f needed v → AreEvaluated r f needed v → AreOpen r f needed v
evaluated_open r f needed v ready are = record {
  cells = ready.cells;
  ports = ready.ports;
  risen = ready.risen;
  good = table_open r needed None v.ports.items v.cells.items v.good ready.good are.good;
  bad = table_open r needed (stuck_of f) v.ports.items v.cells.items v.bad ready.bad are.bad;
  good_after = ready.good_after;
  bad_after = ready.bad_after;
}

-- the same values
pub at_same : (cone : Cone) (bits : List Bool) (old new : Values) → new.cells ≡ old.cells → new.ports ≡ old.ports → AreAt cone bits old → AreAt cone bits new
at_same cone bits old new cells ports at = record {
  cells = λ c less. ap (λ (v : Vec Tri). value_at v.items c) cells ∙ at.cells c (let e = ap (λ (v : Vec Tri). length v.items) cells in omega (arith, less, e));
  ports = λ net less. ap (λ (v : Vec Tri). value_at v.items net) ports ∙ at.ports net (let e = ap (λ (v : Vec Tri). length v.items) ports in omega (arith, less, e));
}

-- one bit more
pub at_grown : (r : Rig) (cone : Cone) (bits more : List Bool) (bit : Bool) (place : ℕ) (value : Tri) (old new : Values) → AreOnce r cone → place ≡ length bits → value ≡ known bit → more ≡ bits ++ bit ∷ [] → IsGivenAt cone place value old new → AreAt cone bits old → AreAt cone more new
at_grown r cone bits more bit place value old new once here is push given at = subst (λ (l : List Bool). AreAt cone l new) (sym push) (record {
  cells = λ c less. (let l : c < length old.cells.items = (let e = given.count in omega (arith, less, e)) in
      g.cells c l ∙ ap (λ (t : Tri). if is_cell_at cone (length bits) c then known bit else t) (at.cells c l) ∙ cell_grown cone.cells.items bits bit c once.cells);
  ports = λ net less. (let l : net < length old.ports.items = (let e = given.size in omega (arith, less, e)) in
      g.ports net l ∙ ap (λ (t : Tri). if is_port_at cone (length bits) net then known bit else t) (at.ports net l) ∙ port_grown cone.ports.items (length cone.cells.items) bits bit net once.ports);
})
  where
    g : IsGivenAt cone (length bits) (known bit) old new
    g = subst (λ (n : ℕ). IsGivenAt cone n (known bit) old new) here (subst (λ (t : Tri). IsGivenAt cone place t old new) is given)

-- the last bit is taken away
pub at_shrunk : (r : Rig) (cone : Cone) (bits : List Bool) (bit : Bool) (place : ℕ) (old new : Values) → AreOnce r cone → place ≡ length bits → IsGivenAt cone place Unknown old new → AreAt cone (bits ++ bit ∷ []) old → AreAt cone bits new
at_shrunk r cone bits bit place old new once here given at = record {
  cells = λ c less. (let l : c < length old.cells.items = (let e = given.count in omega (arith, less, e)) in
      g.cells c l ∙ ap (λ (t : Tri). if is_cell_at cone (length bits) c then Unknown else t) (at.cells c l) ∙ cell_shrunk cone.cells.items bits bit c once.cells);
  ports = λ net less. (let l : net < length old.ports.items = (let e = given.size in omega (arith, less, e)) in
      g.ports net l ∙ ap (λ (t : Tri). if is_port_at cone (length bits) net then Unknown else t) (at.ports net l) ∙ port_shrunk cone.ports.items (length cone.cells.items) bits bit net once.ports);
}
  where
    g : IsGivenAt cone (length bits) Unknown old new
    g = subst (λ (n : ℕ). IsGivenAt cone n Unknown old new) here given

-- the same of bits that were popped
pub at_cut : (cone : Cone) (left lent bits : List Bool) (bit : Bool) (old new : Values) → lent ≡ left → bits ≡ left ++ bit ∷ [] → ((b : Bool) → AreAt cone (lent ++ b ∷ []) old → AreAt cone lent new) → AreAt cone bits old → AreAt cone left new
at_cut cone left lent bits bit old new same is cut at =
    subst (λ (l : List Bool). AreAt cone l new) same (cut bit (subst (λ (l : List Bool). AreAt cone l old) (is ∙ ap (λ (l : List Bool). l ++ bit ∷ []) (sym same)) at))

-- no value is known
pub all_unknown : (values : List Tri) (n k : ℕ) → values ≡ replicate n Unknown → value_at values k ≡ Unknown
all_unknown values n k is = ap (λ (l : List Tri). value_at l k) is ∙ elim (leb_tells n k) [
  | inl out ↦ get_or_past (replicate n Unknown) k Unknown (let past = out.1 in let e = length-replicate n Unknown in omega (arith, past, e))
  | inr less ↦ get_or-replicate n k Unknown Unknown less.1
]

no_bit : (cells : List InstanceId) (c : ℕ) → bit_of_cell cells [] c ≡ None
no_bit [] c = refl
no_bit (x ∷ cells) c = refl

no_port : (ports : List NetId) (n net : ℕ) → bit_of_net ports (drop n []) net ≡ None
no_port ports n net = ap (λ (l : List Bool). bit_of_net ports l net) (none n) ∙ by ports
  where
    none : (n : ℕ) → drop {A = Bool} n [] ≡ []
    none n = drop_all n [] (omega arith)

    by : (ports : List NetId) → bit_of_net ports [] net ≡ None
    by [] = refl
    by (x ∷ ports) = refl

-- and no bit is given
pub at_first : (cone : Cone) (v : Values) (n m : ℕ) → v.cells.items ≡ replicate n Unknown → v.ports.items ≡ replicate m Unknown → AreAt cone [] v
at_first cone v n m cells ports = record {
  cells = λ c less. all_unknown v.cells.items n c cells ∙ sym (ap or_unknown (no_bit cone.cells.items c));
  ports = λ net less. all_unknown v.ports.items m net ports ∙ sym (ap or_unknown (no_port cone.ports.items (length cone.cells.items) net));
}

-- the same lists
pub open_lists : (r : Rig) (needed : List Bool) (stuck : Option Stuck) (p q ports cells : List Tri) (t : Table) → p ≡ ports → q ≡ cells → IsOpen r needed stuck ports cells t → (k : ℕ) → flag_at t.marks.marked.items k ≡ false →
    IsGivenIf needed (means_of r.circuit stuck) (sources_in r (value_at p) (value_at q)) t.values.items k
open_lists r needed stuck p q ports cells t one two is k down =
    subst (λ (x : List Tri). IsGivenIf needed (means_of r.circuit stuck) (sources_in r (value_at x) (value_at q)) t.values.items k) (sym one)
    (subst (λ (x : List Tri). IsGivenIf needed (means_of r.circuit stuck) (sources_in r (value_at ports) (value_at x)) t.values.items k) (sym two) (is.given k down))
