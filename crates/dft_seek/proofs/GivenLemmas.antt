-- The variable at a place is given a value.
use Rattle.std.proofs.Common.{ℕ, ◌≡◌, ◌<◌, ◌≤◌, ◌-◌, ◌==◌, ◌&&◌, inl, inr, Bool, false, List, length, get_or, map, refl, sym, subst, ap, arith, ◌∙◌}
use Rattle.std.specs.Prelude.{if◌then◌else◌}
use Rattle.std.specs.Global.{Vec}
use Rattle.std.proofs.lemmas.Bool.Decides.{eqb_tells, leb_tells}
use Rattle.std.proofs.lemmas.List.{length-map}
use Rattle.dft_base.specs.declared.tri.Tri.{Tri}
use Rattle.dft_netlist.specs.declared.ids.NetId.{NetId}
use Rattle.dft_netlist.specs.declared.ids.InstanceId.{InstanceId}
use Rattle.dft_netlist.specs.Orders.{numbers_of}
use Rattle.dft_logic.specs.Values.{value_at}
use Rattle.dft_seek.specs.Assigned.{IsPut, is_at}
use Rattle.dft_seek.specs.Nodes.{IsGivenAt, is_cell_at, is_port_at}
use Rattle.dft_seek.specs.declared.cones.Cone.{Cone}
use Rattle.dft_seek.specs.declared.looking.Values.{Values}
use Rattle.dft_seek.proofs.BitPlaces.{at_here, at_past}

-- what is put where a test says so
put_by : (old new : List Tri) (x : ℕ) (value : Tri) (k : ℕ) (test : Bool) → IsPut old new x value → k < length old → test ≡ (x == k) → value_at new k ≡ (if test then value else value_at old k)
put_by old new x value k test is less same = elim (eqb_tells x k) [
  | inl here ↦ subst (λ (j : ℕ). value_at new j ≡ value) here.1 (is.here (let e = here.1 in omega (arith, less, e))) ∙ sym (ap (λ (b : Bool). if b then value else value_at old k) (same ∙ here.0))
  | inr apart ↦ is.other k (λ e. apart.1 (sym e)) ∙ sym (ap (λ (b : Bool). if b then value else value_at old k) (same ∙ apart.0))
]

-- nothing is put
stays : (old new : List Tri) (value : Tri) (k : ℕ) (test : Bool) → new ≡ old → test ≡ false → value_at new k ≡ (if test then value else value_at old k)
stays old new value k test same none = ap (λ (l : List Tri). value_at l k) same ∙ sym (ap (λ (b : Bool). if b then value else value_at old k) none)

before : (cone : Cone) (place net : ℕ) → place < length cone.cells.items → is_port_at cone place net ≡ false
before cone place net less = elim (leb_tells (length cone.cells.items) place) [
  | inl past ↦ absurd (let f : ⊥ = (let p = past.1 in omega (arith, less, p)) in f)
  | inr is ↦ ap (λ (b : Bool). b && is_at (numbers_of cone.ports.items) (place - length cone.cells.items) net) is.0
]

within : (cone : Cone) (place net : ℕ) → length cone.cells.items ≤ place → is_port_at cone place net ≡ is_at (numbers_of cone.ports.items) (place - length cone.cells.items) net
within cone place net past = elim (leb_tells (length cone.cells.items) place) [
  | inl is ↦ ap (λ (b : Bool). b && is_at (numbers_of cone.ports.items) (place - length cone.cells.items) net) is.0
  | inr less ↦ absurd (let f : ⊥ = (let l = less.1 in omega (arith, past, l)) in f)
]

no_cell : (cone : Cone) (place c : ℕ) → length cone.cells.items ≤ place → is_cell_at cone place c ≡ false
no_cell cone place c past =
    let xs : List ℕ = map (λ (cell : InstanceId). cell.0) cone.cells.items in
    at_past xs place c (let e = length-map cone.cells.items (λ (cell : InstanceId). cell.0) in omega (arith, past, e))

pub given_cell : (cone : Cone) (place : ℕ) (value : Tri) (x d : InstanceId) (old new : Values) → place < length cone.cells.items → x ≡ get_or cone.cells.items place d → IsPut old.cells.items new.cells.items x.0 value → new.ports ≡ old.ports → IsGivenAt cone place value old new
given_cell cone place value x d old new less is put ports = record {
  count = put.size;
  size = ap (λ (v : Vec Tri). length v.items) ports;
  cells = λ c live. put_by old.cells.items new.cells.items x.0 value c (is_cell_at cone place c) put live (at_here (λ (cell : InstanceId). cell.0) cone.cells.items place x d c less is);
  ports = λ net live. stays old.ports.items new.ports.items value net (is_port_at cone place net) (ap (λ (v : Vec Tri). v.items) ports) (before cone place net less);
}

pub given_port : (cone : Cone) (place : ℕ) (value : Tri) (x d : NetId) (old new : Values) → length cone.cells.items ≤ place → place - length cone.cells.items < length cone.ports.items → x ≡ get_or cone.ports.items (place - length cone.cells.items) d → IsPut old.ports.items new.ports.items x.0 value → new.cells ≡ old.cells → IsGivenAt cone place value old new
given_port cone place value x d old new past less is put cells = record {
  count = ap (λ (v : Vec Tri). length v.items) cells;
  size = put.size;
  cells = λ c live. stays old.cells.items new.cells.items value c (is_cell_at cone place c) (ap (λ (v : Vec Tri). v.items) cells) (no_cell cone place c past);
  ports = λ net live. put_by old.ports.items new.ports.items x.0 value net (is_port_at cone place net) put live (within cone place net past ∙ at_here (λ (net : NetId). net.0) cone.ports.items (place - length cone.cells.items) x d net less is);
}

pub given_none : (cone : Cone) (place : ℕ) (value : Tri) (v : Values) → length cone.cells.items ≤ place → length cone.ports.items ≤ place - length cone.cells.items → IsGivenAt cone place value v v
given_none cone place value v past out = record {
  count = refl;
  size = refl;
  cells = λ c live. stays v.cells.items v.cells.items value c (is_cell_at cone place c) refl (no_cell cone place c past);
  ports = λ net live. stays v.ports.items v.ports.items value net (is_port_at cone place net) refl
      (within cone place net past ∙ at_past (numbers_of cone.ports.items) (place - length cone.cells.items) net (let e = length-map cone.ports.items (λ (net : NetId). net.0) in omega (arith, out, e)));
}
