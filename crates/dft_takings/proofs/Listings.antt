-- A list of nets is settled in its order: each keeps its driver's value while later ones are written.
use Rattle.std.proofs.Common.{ℕ, suc, List, [], ◌∷◌, ◌≡◌, ◌<◌, ◌≤◌, ◌+◌, ◌≢◌, ◌⊎◌, inl, inr, length, drop, drop-cons, add-one, sym, ap, ◌∙◌, subst, get_or, slice_set, get_or-set_same, get_or-set_other, arith}
use Rattle.std.specs.List.{AllByRecursion}
use Rattle.std.proofs.lemmas.Bool.Decides.{leb_tells}
use Rattle.std.proofs.lemmas.List.{get_or_past, get_or_read, get_or_default, drop_all}
use Rattle.dft_base.specs.declared.tri.Tri.{Tri}
use Rattle.dft_base.specs.declared.tri.Tri.TheVariants.{Unknown}
use Rattle.dft_netlist.specs.declared.ids.NetId.{NetId}
use Rattle.dft_behavior.specs.Logic.{reads}
use Rattle.dft_behavior.specs.Settled.{value_given}
use Rattle.dft_netlist.specs.Orders.{Has, numbers_of}
use Rattle.dft_logic.specs.declared.circuit.Op.{Op}
use Rattle.dft_logic.specs.declared.circuit.Op.TheVariants as op
use Rattle.dft_logic.specs.Values.{value_at}
use Rattle.dft_logic.specs.Circuit.{Circuit, meaning, op_at, Supply, leaves_from, AreOrdered, IsCircuit}
use Rattle.dft_logic.proofs.Settlings.{given_agree, all_more, IsGiven}

-- the nets before a place of the order have their drivers' values
pub record Listed (ops : List Op) (base : Supply) (order : List NetId) (values : List Tri) (j : ℕ) : Type 0 where
  pub before : List ℕ
  pub rest : AreOrdered ops before (numbers_of (drop j order))
  pub closed : (k : ℕ) → Has before k → AllByRecursion (Has before) (reads (meaning (op_at ops k)))
  pub done : (k : ℕ) → Has before k → IsGiven ops base values k
  pub either : (k : ℕ) → Has (numbers_of order) k → Has before k ⊎ Has (numbers_of (drop j order)) k

pub listed_starts : (ops : List Op) (base : Supply) (order : List NetId) (values : List Tri) → AreOrdered ops [] (numbers_of order) → Listed ops base order values 0
listed_starts ops base order values ordered = record { before = []; rest = ordered; closed = λ k h. absurd h; done = λ k h. absurd h; either = λ k h. inr h }

front : (ops : List Op) (base : Supply) (order : List NetId) (values : List Tri) (j : ℕ) (net : NetId) → j < length order → net ≡ get_or order j net →
    Listed ops base order values j → drop j order ≡ net ∷ drop (j + 1) order
front ops base order values j net less is s = rw (add-one) (drop-cons order j net less ∙ ap (λ (n : NetId). n ∷ drop (suc j) order) (sym is))

pub net_live : (ops : List Op) (base : Supply) (order : List NetId) (values : List Tri) (j : ℕ) (net : NetId) → j < length order → net ≡ get_or order j net →
    Listed ops base order values j → net.0 < length ops
net_live ops base order values j net less is s =
    let P : List NetId → Type 0 = λ l. AreOrdered ops s.before (numbers_of l) in
    (subst P (front ops base order values j net less is s) s.rest).1

pub one_more : (ops : List Op) (base : Supply) (order : List NetId) (values : List Tri) (j : ℕ) (net : NetId) (t : Tri) → j < length order → net ≡ get_or order j net →
    length values ≡ length ops → Listed ops base order values j →
    t ≡ value_given (leaves_from base (value_at values)) (value_at values) net.0 (meaning (op_at ops net.0)) →
    Listed ops base order (slice_set values net.0 t) (j + 1)
one_more ops base order values j net t less is len s given =
    let e = front ops base order values j net less is s in
    let P : List NetId → Type 0 = λ l. AreOrdered ops s.before (numbers_of l) in
    let Q : List NetId → Type 0 = λ l. (k : ℕ) → Has (numbers_of order) k → Has s.before k ⊎ Has (numbers_of l) k in
    let now = subst P e s.rest in
    let later = subst Q e s.either in
    let live : net.0 < length values = (let q : net.0 < length ops = now.1 in omega arith) in
    let same : (k : ℕ) → Has s.before k → value_at values k ≡ value_at (slice_set values net.0 t) k =
    λ k h. (let ne : k ≢ net.0 = λ q. (let R : ℕ → Type 0 = λ n. Has s.before n in now.0 (subst R q h)) in sym (get_or-set_other values net.0 k t Unknown ne)) in
    let fresh : (k : ℕ) → k ≡ net.0 → IsGiven ops base (slice_set values net.0 t) k =
    λ k q. (let R : ℕ → Type 0 = λ n. IsGiven ops base (slice_set values net.0 t) n in
    subst R (sym q) (get_or-set_same values net.0 t Unknown live ∙ given
    ∙ given_agree (Has s.before) base (value_at values) (value_at (slice_set values net.0 t)) net.0 (meaning (op_at ops net.0)) now.2 same)) in
    record {
      before = net.0 ∷ s.before;
      rest = now.3;
      closed = λ k h. elim h [
        | inl q ↦ (let R : ℕ → Type 0 = λ n. AllByRecursion (Has (net.0 ∷ s.before)) (reads (meaning (op_at ops n))) in subst R (sym q) (all_more s.before net.0 (reads (meaning (op_at ops net.0))) now.2))
        | inr older ↦ all_more s.before net.0 (reads (meaning (op_at ops k))) (s.closed k older)
      ];
      done = λ k h. elim h [
        | inl q ↦ fresh k q
        | inr older ↦ sym (same k older) ∙ s.done k older
            ∙ given_agree (Has s.before) base (value_at values) (value_at (slice_set values net.0 t)) k (meaning (op_at ops k)) (s.closed k older) same
      ];
      either = λ k h. elim (later k h) [
        | inl older ↦ inl (inr older)
        | inr now ↦ elim now [ inl q ↦ inl (inl q) | inr rest ↦ inr rest ]
      ];
    }

-- the same as a loop over the order reads it
pub step : (ops : List Op) (base : Supply) (order nets : List NetId) (values : List Tri) (j : ℕ) (driver : Op) (t : Tri) → nets ≡ order → j < length nets →
    length values ≡ length ops → Listed ops base order values j → driver ≡ get_or ops (get_or nets j (record { 0 = 0 })).0 driver →
    t ≡ value_given (leaves_from base (value_at values)) (value_at values) (get_or nets j (record { 0 = 0 })).0 (meaning driver) →
    Listed ops base order (slice_set values (get_or nets j (record { 0 = 0 })).0 t) (j + 1)
step ops base order nets values j driver t e less len s read given =
    let net : NetId = get_or nets j (record { 0 = 0 }) in
    let here : j < length order = omega (arith, ap length e) in
    let is : net ≡ get_or order j net = get_or_default nets j (record { 0 = 0 }) net less ∙ ap (λ (l : List NetId). get_or l j net) e in
    let live : net.0 < length ops = net_live ops base order values j net here is s in
    one_more ops base order values j net t here is len s
    (given ∙ ap (λ (o : Op). value_given (leaves_from base (value_at values)) (value_at values) net.0 (meaning o)) (get_or_read ops net.0 driver live read op.Free))

pub all_listed : (ops : List Op) (base : Supply) (order : List NetId) (values : List Tri) (j : ℕ) → length order ≤ j →
    Listed ops base order values j → (k : ℕ) → Has (numbers_of order) k → IsGiven ops base values k
all_listed ops base order values j past s k has =
    let Q : List NetId → Type 0 = λ l. Has s.before k ⊎ Has (numbers_of l) k in
    elim (subst Q (drop_all j order past) (s.either k has)) [ inl older ↦ s.done k older | inr none ↦ absurd none ]

-- where the order has each net of a circuit, each has its driver's value
pub all_settled : (x : Circuit) (base : Supply) (values : List Tri) (j : ℕ) → IsCircuit x → length x.order ≤ j → length values ≡ length x.ops →
    Listed x.ops base x.order values j → (k : ℕ) → IsGiven x.ops base values k
all_settled x base values j is past len s k = elim (leb_tells (length x.ops) k) [
  | inl out ↦ (let far : length values ≤ k = omega (arith, out.1) in
      get_or_past values k Unknown far ∙ sym (ap (λ (o : Op). value_given (leaves_from base (value_at values)) (value_at values) k (meaning o)) (get_or_past x.ops k op.Free out.1)))
  | inr live ↦ all_listed x.ops base x.order values j past s k (is.whole k live.1)
]
