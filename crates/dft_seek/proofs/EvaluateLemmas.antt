-- From tables that are settled at needed nets of some sources to those of others, and from the values of all nets to those where a net is stuck.
use Rattle.std.proofs.Common.{ℕ, ◌≡◌, ◌⊎◌, inl, inr, Bool, true, false, List, length, Option, None, Some, refl, sym, subst, ap, arith, ◌∙◌, slice_set, get_or-set_same, true≢false, ◌<◌}
use Rattle.std.specs.Prelude.{if◌then◌else◌, replicate}
use Rattle.std.specs.Global.{Vec}
use Rattle.std.proofs.lemmas.Bool.Decides.{eqb_tells, leb_tells}
use Rattle.std.proofs.lemmas.List.{get_or-replicate, get_or_past, length-replicate}
use Rattle.dft_base.specs.declared.tri.Tri.{Tri}
use Rattle.dft_base.specs.declared.tri.Tri.TheVariants.{One, Unknown}
use Rattle.dft_behavior.specs.Logic.{Meaning, Input, Clock, Gate, Joined, Flop, Lockup, Free}
use Rattle.dft_netlist.specs.Orders.{Has}
use Rattle.dft_behavior.specs.Settled.{TriSources, inverse, value_given}
use Rattle.dft_logic.specs.declared.circuit.Op.{Op}
use Rattle.dft_logic.specs.declared.circuit.Op.TheVariants as op
use Rattle.dft_logic.specs.Circuit.{Circuit, IsCircuit, flag_at, meaning, op_at}
use Rattle.dft_logic.specs.Tables.{list_at}
use Rattle.dft_logic.specs.Values.{value_at}
use Rattle.dft_logic.proofs.FlagLemmas.{down_all}
use Rattle.dft_sweep.specs.declared.field.Stuck.{Stuck}
use Rattle.dft_sweep.specs.Fields.{IsGivenBy, IsGivenIf, bit_at, is_needed, with_bit}
use Rattle.dft_sweep.proofs.Sweeps.{given_any}
use Rattle.dft_faults.specs.declared.fault.Fault.{Fault}
use Rattle.dft_seek.specs.Nodes.{AreEvaluated, AreSame, AreSettledFor, IsFirst, IsNear, IsSecond, IsSettled, risen_at, sources_in, stuck_of}
use Rattle.dft_seek.specs.Rigs.{IsRig, IsSettledSome, means_of, sources_by}
use Rattle.dft_seek.specs.declared.looking.Table.{Table}
use Rattle.dft_seek.specs.declared.looking.Values.{Values}
use Rattle.dft_seek.specs.declared.rig.Rig.{Rig}

-- ---- a table

-- a net that is not marked is a source, or has the value that it has from other sources
pub near_other : (r : Rig) (needed : List Bool) (stuck : Option Stuck) (t : Table) (other : TriSources) (k : ℕ) → IsCircuit r.circuit → IsNear r needed stuck t → flag_at t.marks.marked.items k ≡ false →
    Has (list_at r.circuit.sources 0) k ⊎ IsGivenIf needed (means_of r.circuit stuck) other t.values.items k
near_other r needed stuck t other k circuit near down =
    elim (given_any r.circuit (bit_at stuck k) near.sources other k (value_at t.values.items) (meaning (op_at r.circuit.ops k)) circuit refl) [
      | inl own ↦ inl own
      | inr same ↦ inr (λ needs. near.given k down needs ∙ same)
    ]

-- a settled table is near those of any sources
pub table_near : (r : Rig) (needed : List Bool) (stuck : Option Stuck) (t : Table) → IsSettled r needed stuck t → IsNear r needed stuck t
table_near r needed stuck t is = record { values = is.values; marked = is.marked; sources = is.settled.sources; given = λ k down. is.settled.given k; busy = λ k up. absurd (true≢false (sym up ∙ is.clear k)) }

-- So is one where no net is stuck, if the stuck net is marked where it is needed.
pub stuck_given : (r : Rig) (f : Fault) (needed : List Bool) (sources : TriSources) (values : List Tri) (old new : List Bool) → ((k : ℕ) → IsGivenBy (means_of r.circuit None) sources values k) →
    new ≡ (if is_needed needed f.net.0 then slice_set old f.net.0 true else old) → f.net.0 < length old → (k : ℕ) → flag_at new k ≡ false → IsGivenIf needed (means_of r.circuit (stuck_of f)) sources values k
stuck_given r f needed sources values old new given marks live k down needs = given k ∙ means
  where
    up : f.net.0 ≡ k → flag_at new k ≡ true
    up here =
        ap (λ (j : ℕ). flag_at new j) (sym here) ∙ ap (λ (l : List Bool). flag_at l f.net.0) marks
        ∙ ap (λ (b : Bool). flag_at (if b then slice_set old f.net.0 true else old) f.net.0) (ap (is_needed needed) here ∙ needs) ∙ get_or-set_same old f.net.0 true false live

    means : value_given sources (value_at values) k (means_of r.circuit None k) ≡ value_given sources (value_at values) k (means_of r.circuit (stuck_of f) k)
    means = elim (eqb_tells f.net.0 k) [
      | inl here ↦ absurd (true≢false (sym (up here.1) ∙ down))
      | inr other ↦ sym (ap (λ (b : Bool). value_given sources (value_at values) k (with_bit (if b then Some f.value else None) (meaning (op_at r.circuit.ops k)))) other.0)
    ]

-- the base is settled for values of ports and cells of which none is known
unknown_given : (r : Rig) (ports cells v : ℕ → Tri) (k : ℕ) (m : Meaning) → ((net : ℕ) → ports net ≡ Unknown) → ((c : ℕ) → cells c ≡ Unknown) → value_given (sources_by r.resets.items r.holds.items (λ net. Unknown) (λ c. Unknown)) v k m ≡ value_given (sources_in r ports cells) v k m
unknown_given r ports cells v k Input no_port no_cell = ap (λ (t : Tri). if flag_at r.resets.items k then One else t) (sym (no_port k))
unknown_given r ports cells v k Clock no_port no_cell = refl
unknown_given r ports cells v k (Gate kind inputs) no_port no_cell = refl
unknown_given r ports cells v k (Joined source) no_port no_cell = refl
unknown_given r ports cells v k (Flop c inverted) no_port no_cell = ap (λ (t : Tri). if inverted then inverse (if flag_at r.holds.items c then t else Unknown) else (if flag_at r.holds.items c then t else Unknown)) (sym (no_cell c))
unknown_given r ports cells v k (Lockup c e high source) no_port no_cell = refl
unknown_given r ports cells v k Free no_port no_cell = refl

pub base_given : (r : Rig) (ports cells : ℕ → Tri) (values : List Tri) → IsRig r → ((net : ℕ) → ports net ≡ Unknown) → ((c : ℕ) → cells c ≡ Unknown) → values ≡ r.base.items → (k : ℕ) → IsGivenBy (means_of r.circuit None) (sources_in r ports cells) values k
base_given r ports cells values rig no_port no_cell is = λ k. subst (λ (l : List Tri). IsGivenBy (means_of r.circuit None) (sources_in r ports cells) l k) (sym is)
    (rig.base.given k ∙ unknown_given r ports cells (value_at r.base.items) k (means_of r.circuit None k) no_port no_cell)

-- where all nets are marked only what is past the end has its value
pub base_near : (x : Circuit) (sources : TriSources) (values : List Tri) (marked : List Bool) (k : ℕ) → length values ≡ length x.ops → marked ≡ replicate (length x.ops) true → flag_at marked k ≡ false → IsGivenBy (means_of x None) sources values k
base_near x sources values marked k size marks down = elim (leb_tells (length x.ops) k) [
  | inl out ↦ (let past = out.1 in
      get_or_past values k Unknown (omega (arith, past, size)) ∙ sym (ap (λ (o : Op). value_given sources (value_at values) k (meaning o)) (get_or_past x.ops k op.Free past)))
  | inr less ↦ absurd (true≢false (sym (ap (λ (l : List Bool). flag_at l k) marks ∙ get_or-replicate (length x.ops) k true false less.1) ∙ down))
]

-- the table with which a search begins
pub base_settled : (r : Rig) (needed : List Bool) (t : Table) → IsRig r → t.values.items ≡ r.base.items → t.marks.marked.items ≡ replicate (length r.base.items) false → IsSettled r needed None t
base_settled r needed t rig values marks = record {
  values = ap (λ (l : List Tri). length l) values ∙ rig.base.size ∙ rig.nets;
  marked = ap (λ (l : List Bool). length l) marks ∙ length-replicate (length r.base.items) false ∙ rig.base.size ∙ rig.nets;
  clear = λ k. ap (λ (l : List Bool). flag_at l k) marks ∙ down_all (length r.base.items) k;
  settled = subst (IsSettledSome needed (means_of r.circuit None)) (sym values) (record { sources = sources_by r.resets.items r.holds.items (λ net. Unknown) (λ c. Unknown); given = λ k needs. rig.base.given k });
}

-- ---- values of cells

flop_with : (holds inverted : Bool) (t u : Tri) → (holds ≡ true → t ≡ u) → (if inverted then inverse (if holds then t else Unknown) else (if holds then t else Unknown)) ≡ (if inverted then inverse (if holds then u else Unknown) else (if holds then u else Unknown))
flop_with true inverted t u same = ap (λ (x : Tri). if inverted then inverse x else x) (same refl)
flop_with false inverted t u same = refl

given_with : (r : Rig) (ports a b v : ℕ → Tri) (k : ℕ) (m : Meaning) → ((c : ℕ) → flag_at r.holds.items c ≡ true → a c ≡ b c) → value_given (sources_in r ports a) v k m ≡ value_given (sources_in r ports b) v k m
given_with r ports a b v k Input same = refl
given_with r ports a b v k Clock same = refl
given_with r ports a b v k (Gate kind inputs) same = refl
given_with r ports a b v k (Joined source) same = refl
given_with r ports a b v k (Flop c inverted) same = flop_with (flag_at r.holds.items c) inverted (a c) (b c) (same c)
given_with r ports a b v k (Lockup c e high source) same = refl
given_with r ports a b v k Free same = refl

-- values of cells that agree where cells hold values
pub settled_cells : (r : Rig) (needed : List Bool) (stuck : Option Stuck) (ports a b : ℕ → Tri) (values : List Tri) → ((c : ℕ) → flag_at r.holds.items c ≡ true → a c ≡ b c) → AreSettledFor r needed stuck ports a values → AreSettledFor r needed stuck ports b values
settled_cells r needed stuck ports a b values same settled = λ k needs. settled k needs ∙ given_with r ports a b (value_at values) k (means_of r.circuit stuck k) same

-- a flip-flop that holds a value is an instance of the design
pub held_live : (r : Rig) (c : ℕ) → IsRig r → flag_at r.holds.items c ≡ true → c < length r.design.now.instances
held_live r c rig holds = elim (leb_tells (length r.holds.items) c) [
  | inl out ↦ absurd (true≢false (sym holds ∙ get_or_past r.holds.items c false out.1))
  | inr less ↦ (let e = rig.instances in let l = less.1 in omega (arith, l, e))
]

-- the same values of ports and cells
pub settled_lists : (r : Rig) (needed : List Bool) (stuck : Option Stuck) (p q ports cells values : List Tri) → p ≡ ports → q ≡ cells → AreSettledFor r needed stuck (value_at p) (value_at q) values → AreSettledFor r needed stuck (value_at ports) (value_at cells) values
settled_lists r needed stuck p q ports cells values one two settled =
    subst (λ (l : List Tri). AreSettledFor r needed stuck (value_at l) (value_at cells) values) one (subst (λ (l : List Tri). AreSettledFor r needed stuck (value_at p) (value_at l) values) two settled)

-- and of nets before the clock rises
pub settled_after : (r : Rig) (needed : List Bool) (stuck : Option Stuck) (p q u ports cells first values : List Tri) → p ≡ ports → q ≡ cells → u ≡ first → AreSettledFor r needed stuck (value_at p) (risen_at r q u) values → AreSettledFor r needed stuck (value_at ports) (risen_at r cells first) values
settled_after r needed stuck p q u ports cells first values one two three settled =
    subst (λ (l : List Tri). AreSettledFor r needed stuck (value_at l) (risen_at r cells first) values) one
    (subst (λ (l : List Tri). AreSettledFor r needed stuck (value_at p) (risen_at r l first) values) two (subst (λ (l : List Tri). AreSettledFor r needed stuck (value_at p) (risen_at r q l) values) three settled))

-- ---- one step after another

pub same_twice : (a b c : Values) → AreSame a b → AreSame b c → AreSame a c
same_twice a b c one two = record { cells = two.cells ∙ one.cells; ports = two.ports ∙ one.ports }

pub evaluated : (r : Rig) (f : Fault) (needed : List Bool) (old mid new : Values) → IsFirst r f needed old mid → IsSecond r f needed mid new → AreEvaluated r f needed new
evaluated r f needed old mid new first second = record {
  good = with_same None mid.good new.good second.good first.good;
  bad = with_same (stuck_of f) mid.bad new.bad second.bad first.bad;
  good_after = second.good_after;
  bad_after = second.bad_after;
}
  where
    with_same : (stuck : Option Stuck) (s t : Table) → t ≡ s → AreSettledFor r needed stuck (value_at mid.ports.items) (value_at mid.cells.items) s.values.items → AreSettledFor r needed stuck (value_at new.ports.items) (value_at new.cells.items) t.values.items
    with_same stuck s t same settled =
        subst (λ (u : Table). AreSettledFor r needed stuck (value_at new.ports.items) (value_at new.cells.items) u.values.items) (sym same)
        (subst (λ (p : Vec Tri). AreSettledFor r needed stuck (value_at p.items) (value_at new.cells.items) s.values.items) (sym second.same.ports)
        (subst (λ (p : Vec Tri). AreSettledFor r needed stuck (value_at mid.ports.items) (value_at p.items) s.values.items) (sym second.same.cells) settled))
