-- A table is filled in an order of nets: each keeps what its meaning gives it while later ones are written.
use Rattle.std.proofs.Common.{ℕ, suc, List, [], ◌∷◌, ◌≡◌, ◌<◌, ◌≤◌, ◌+◌, ◌≢◌, ◌⊎◌, inl, inr, length, drop, drop-cons, add-one, sym, ap, ◌∙◌, subst, get_or, slice_set, get_or-set_same, get_or-set_other, arith}
use Rattle.std.specs.List.{AllByRecursion}
use Rattle.std.proofs.lemmas.List.{get_or_read, get_or_default, drop_all}
use Rattle.dft_netlist.specs.declared.ids.NetId.{NetId}
use Rattle.dft_behavior.specs.Logic.{Meaning, reads}
use Rattle.dft_netlist.specs.Orders.{Has, numbers_of}
use Rattle.dft_logic.specs.declared.circuit.Op.{Op}
use Rattle.dft_logic.specs.declared.circuit.Op.TheVariants as op
use Rattle.dft_logic.specs.Circuit.{meaning, op_at, AreOrdered}
use Rattle.dft_logic.proofs.Settlings.{all_more}

-- what a table shows at a place
abbrev pub at : {V W : Type 0} (f : V → W) (none : V) (values : List V) → ℕ → W
at f none values k = f (get_or values k none)

-- what a meaning gives depends on what it reads
abbrev pub Depends : {W : Type 0} (given : (ℕ → W) → ℕ → Meaning → W) → Type 1
Depends {W} given = (P : ℕ → Type 0) (v w : ℕ → W) (net : ℕ) (m : Meaning) → AllByRecursion P (reads m) → ((k : ℕ) → P k → v k ≡ w k) → given v net m ≡ given w net m

-- the nets before a place of the order have what they are given
pub record Filling {V W : Type 0} (f : V → W) (none : V) (given : (ℕ → W) → ℕ → Meaning → W) (ops : List Op) (order : List NetId) (values : List V) (j : ℕ) : Type 0 where
  pub before : List ℕ
  pub rest : AreOrdered ops before (numbers_of (drop j order))
  pub closed : (k : ℕ) → Has before k → AllByRecursion (Has before) (reads (meaning (op_at ops k)))
  pub done : (k : ℕ) → Has before k → at f none values k ≡ given (at f none values) k (meaning (op_at ops k))
  pub either : (k : ℕ) → Has (numbers_of order) k → Has before k ⊎ Has (numbers_of (drop j order)) k

pub filling_starts : {V W : Type 0} (f : V → W) (none : V) (given : (ℕ → W) → ℕ → Meaning → W) (ops : List Op) (order : List NetId) (values : List V) → AreOrdered ops [] (numbers_of order) → Filling f none given ops order values 0
filling_starts f none given ops order values ordered = record { before = []; rest = ordered; closed = λ k h. absurd h; done = λ k h. absurd h; either = λ k h. inr h }

pub front : (order : List NetId) (j : ℕ) (net : NetId) → j < length order → net ≡ get_or order j net → drop j order ≡ net ∷ drop (j + 1) order
front order j net less is = rw (add-one) (drop-cons order j net less ∙ ap (λ (n : NetId). n ∷ drop (suc j) order) (sym is))

pub filling_more : {V W : Type 0} (f : V → W) (none : V) (given : (ℕ → W) → ℕ → Meaning → W) → Depends given → (ops : List Op) (order : List NetId) (values : List V) (j : ℕ) (net : NetId) (t : V) → j < length order → net ≡ get_or order j net →
    length values ≡ length ops → Filling f none given ops order values j → f t ≡ given (at f none values) net.0 (meaning (op_at ops net.0)) → Filling f none given ops order (slice_set values net.0 t) (j + 1)
filling_more f none given depends ops order values j net t less is len s gives =
    let e : drop j order ≡ net ∷ drop (j + 1) order = front order j net less is in
    let O : List NetId → Type 0 = λ l. AreOrdered ops s.before (numbers_of l) in
    let Q : List NetId → Type 0 = λ l. (k : ℕ) → Has (numbers_of order) k → Has s.before k ⊎ Has (numbers_of l) k in
    let now = subst O e s.rest in
    let later = subst Q e s.either in
    let new = slice_set values net.0 t in
    let live : net.0 < length values = (let q : net.0 < length ops = now.1 in omega arith) in
    let same : (k : ℕ) → Has s.before k → at f none values k ≡ at f none new k =
    λ k h. (let ne : k ≢ net.0 = λ q. (let R : ℕ → Type 0 = λ n. Has s.before n in now.0 (subst R q h)) in sym (ap f (get_or-set_other values net.0 k t none ne))) in
    let fresh : (k : ℕ) → k ≡ net.0 → at f none new k ≡ given (at f none new) k (meaning (op_at ops k)) =
    λ k q. (let R : ℕ → Type 0 = λ n. at f none new n ≡ given (at f none new) n (meaning (op_at ops n)) in
    subst R (sym q) (ap f (get_or-set_same values net.0 t none live) ∙ gives ∙ depends (Has s.before) (at f none values) (at f none new) net.0 (meaning (op_at ops net.0)) now.2 same)) in
    record {
      before = net.0 ∷ s.before;
      rest = now.3;
      closed = λ k h. elim h [
        | inl q ↦ (let R : ℕ → Type 0 = λ n. AllByRecursion (Has (net.0 ∷ s.before)) (reads (meaning (op_at ops n))) in subst R (sym q) (all_more s.before net.0 (reads (meaning (op_at ops net.0))) now.2))
        | inr older ↦ all_more s.before net.0 (reads (meaning (op_at ops k))) (s.closed k older)
      ];
      done = λ k h. elim h [
        | inl q ↦ fresh k q
        | inr older ↦ sym (same k older) ∙ s.done k older ∙ depends (Has s.before) (at f none values) (at f none new) k (meaning (op_at ops k)) (s.closed k older) same
      ];
      either = λ k h. elim (later k h) [
        | inl older ↦ inl (inr older)
        | inr now ↦ elim now [ inl q ↦ inl (inl q) | inr rest ↦ inr rest ]
      ];
    }

-- a net of the order that comes is one of the circuit's
pub filling_live : {V W : Type 0} (f : V → W) (none : V) (given : (ℕ → W) → ℕ → Meaning → W) (ops : List Op) (order : List NetId) (values : List V) (j : ℕ) (net : NetId) → j < length order → net ≡ get_or order j net →
    Filling f none given ops order values j → net.0 < length ops
filling_live f none given ops order values j net less is s =
    let e : drop j order ≡ net ∷ drop (j + 1) order = front order j net less is in
    let O : List NetId → Type 0 = λ l. AreOrdered ops s.before (numbers_of l) in
    (subst O e s.rest).1

-- the same as a loop over the order reads it
pub filling_step : {V W : Type 0} (f : V → W) (none : V) (given : (ℕ → W) → ℕ → Meaning → W) → Depends given → (ops : List Op) (order nets : List NetId) (values : List V) (j : ℕ) (driver : Op) (t : V) → nets ≡ order → j < length nets →
    length values ≡ length ops → Filling f none given ops order values j → driver ≡ get_or ops (get_or nets j (record { 0 = 0 })).0 driver →
    f t ≡ given (at f none values) (get_or nets j (record { 0 = 0 })).0 (meaning driver) → Filling f none given ops order (slice_set values (get_or nets j (record { 0 = 0 })).0 t) (j + 1)
filling_step f none given depends ops order nets values j driver t e less len s read gives =
    let net : NetId = get_or nets j (record { 0 = 0 }) in
    let here : j < length order = omega (arith, ap length e) in
    let is : net ≡ get_or order j net = get_or_default nets j (record { 0 = 0 }) net less ∙ ap (λ (l : List NetId). get_or l j net) e in
    let live : net.0 < length ops = filling_live f none given ops order values j net here is s in
    filling_more f none given depends ops order values j net t here is len s
    (gives ∙ ap (λ (o : Op). given (at f none values) net.0 (meaning o)) (get_or_read ops net.0 driver live read op.Free))

pub filling_ends : {V W : Type 0} (f : V → W) (none : V) (given : (ℕ → W) → ℕ → Meaning → W) (ops : List Op) (order : List NetId) (values : List V) (j : ℕ) → length order ≤ j →
    Filling f none given ops order values j → (k : ℕ) → Has (numbers_of order) k → at f none values k ≡ given (at f none values) k (meaning (op_at ops k))
filling_ends f none given ops order values j past s k has =
    let Q : List NetId → Type 0 = λ l. Has s.before k ⊎ Has (numbers_of l) k in
    elim (subst Q (drop_all j order past) (s.either k has)) [ inl older ↦ s.done k older | inr nothing ↦ absurd nothing ]
