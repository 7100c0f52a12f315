-- Nets are settled one after another in all patterns: each keeps its value while later ones are written.
use Rattle.std.proofs.Common.{ℕ, List, [], ◌∷◌, ◌≡◌, ◌<◌, ◌≤◌, ◌+◌, ◌≢◌, ◌⊎◌, inl, inr, length, drop, refl, sym, ap, ◌∙◌, subst, get_or, slice_set, get_or-set_same, get_or-set_other, arith}
use Rattle.std.specs.List.{AllByRecursion}
use Rattle.std.proofs.lemmas.List.{get_or_past, get_or_read, get_or_default, drop_all}
use Rattle.std.proofs.lemmas.Bool.{cases_eq}
use Rattle.std.proofs.lemmas.Bool.Decides.{leb_tells}
use Rattle.dft_base.specs.declared.tri.Tri.{Tri}
use Rattle.dft_cells.specs.Gates.{tri_of}
use Rattle.dft_lanes.specs.declared.wide.Wide.{Wide}
use Rattle.dft_netlist.specs.declared.ids.NetId.{NetId}
use Rattle.dft_behavior.specs.Logic.{Meaning, Input, Clock, Gate, Joined, Flop, Lockup, Free, reads}
use Rattle.dft_netlist.specs.Orders.{Has, numbers_of}
use Rattle.dft_logic.specs.declared.circuit.Op.{Op}
use Rattle.dft_logic.specs.declared.circuit.Op.TheVariants as op
use Rattle.dft_logic.specs.Circuit.{Circuit, meaning, op_at, AreOrdered, IsCircuit}
use Rattle.dft_logic.proofs.Settlings.{all_more, source_agree, inputs_agree}
use Rattle.dft_logic.proofs.Fillings.{front}
use Rattle.dft_evaluator.specs.Wides.{value_in, values_in, wide_at, unknown_wide, IsWide, AreWides}
use Rattle.dft_evaluator.specs.Evaluations.{value_set, IsSettledFrom}
use Rattle.dft_evaluator.proofs.WideLemmas.{wide_is, value_is}

-- ---- a value depends on what it reads

pub set_agree : (P : ℕ → Type 0) (given v w : ℕ → Tri) (net : ℕ) (m : Meaning) → AllByRecursion P (reads m) → ((k : ℕ) → P k → v k ≡ w k) → value_set given v net m ≡ value_set given w net m
set_agree P given v w net Input all same = refl
set_agree P given v w net Clock all same = refl
set_agree P given v w net (Gate kind inputs) all same = ap (tri_of kind) (inputs_agree P v w inputs all same)
set_agree P given v w net (Joined source) all same = source_agree P v w source all same
set_agree P given v w net (Flop c inverted) all same = refl
set_agree P given v w net (Lockup c e high source) all same = refl
set_agree P given v w net Free all same = refl

-- of what is given a net takes what is given at it
given_agree : (given other v : ℕ → Tri) (net : ℕ) (m : Meaning) → given net ≡ other net → value_set given v net m ≡ value_set other v net m
given_agree given other v net Input same = same
given_agree given other v net Clock same = same
given_agree given other v net (Gate kind inputs) same = refl
given_agree given other v net (Joined source) same = refl
given_agree given other v net (Flop c inverted) same = same
given_agree given other v net (Lockup c e high source) same = same
given_agree given other v net Free same = same

-- ---- one net after another

-- the net is settled from what was given at the start
abbrev pub IsDone : List Op → (start wides : List Wide) → (pattern net : ℕ) → Type 0
IsDone ops start wides p k = values_in wides p k ≡ value_set (values_in start p) (values_in wides p) k (meaning (op_at ops k))

-- the nets before a place of the order are settled, and the others are as at the start
pub record Sweeping (ops : List Op) (start : List Wide) (order : List NetId) (wides : List Wide) (j : ℕ) : Type 0 where
  pub whole : AreWides wides
  pub before : List ℕ
  pub rest : AreOrdered ops before (numbers_of (drop j order))
  pub closed : (k : ℕ) → Has before k → AllByRecursion (Has before) (reads (meaning (op_at ops k)))
  pub done : (p k : ℕ) → p < 512 → Has before k → IsDone ops start wides p k
  pub later : (k : ℕ) → (Has before k → ⊥) → wide_at wides k ≡ wide_at start k
  pub either : (k : ℕ) → k < length ops → Has before k ⊎ Has (numbers_of (drop j order)) k

pub sweeping_starts : (x : Circuit) (start : List Wide) → IsCircuit x → AreWides start → Sweeping x.ops start x.order start 0
sweeping_starts x start is whole =
    record { whole = whole; before = []; rest = is.after; closed = λ k h. absurd h; done = λ p k less h. absurd h; later = λ k none. refl; either = λ k less. inr (is.whole k less) }

pub net_live : (ops : List Op) (start : List Wide) (order : List NetId) (wides : List Wide) (j : ℕ) (net : NetId) → j < length order → net ≡ get_or order j net → Sweeping ops start order wides j → net.0 < length ops
net_live ops start order wides j net less is s =
    let P : List NetId → Type 0 = λ l. AreOrdered ops s.before (numbers_of l) in
    (subst P (front order j net less is) s.rest).1

whole_case : (wides : List Wide) (net : ℕ) (w : Wide) (k : ℕ) → net < length wides → AreWides wides → IsWide w (value_in w) → (k ≡ net) ⊎ (k ≢ net) → IsWide (wide_at (slice_set wides net w) k) (value_in (wide_at (slice_set wides net w) k))
whole_case wides net w k live whole is (inl e) =
    let here : wide_at (slice_set wides net w) k ≡ w = ap (λ (n : ℕ). wide_at (slice_set wides net w) n) e ∙ get_or-set_same wides net w unknown_wide live in
    subst (λ (v : Wide). IsWide v (value_in v)) (sym here) is
whole_case wides net w k live whole is (inr ne) = subst (λ (v : Wide). IsWide v (value_in v)) (sym (get_or-set_other wides net k w unknown_wide ne)) (whole k)

pub whole_set : (wides : List Wide) (net : ℕ) (w : Wide) → net < length wides → AreWides wides → IsWide w (value_in w) → AreWides (slice_set wides net w)
whole_set wides net w live whole is = λ k. whole_case wides net w k live whole is (cases_eq k net)

pub one_more : (ops : List Op) (start : List Wide) (order : List NetId) (wides : List Wide) (j : ℕ) (net : NetId) (w : Wide) → j < length order → net ≡ get_or order j net → length wides ≡ length ops
    → Sweeping ops start order wides j → IsWide w (λ p. value_set (values_in wides p) (values_in wides p) net.0 (meaning (op_at ops net.0)))
    → Sweeping ops start order (slice_set wides net.0 w) (j + 1)
one_more ops start order wides j net w less is len s given =
    let e = front order j net less is in
    let P : List NetId → Type 0 = λ l. AreOrdered ops s.before (numbers_of l) in
    let Q : List NetId → Type 0 = λ l. (k : ℕ) → k < length ops → Has s.before k ⊎ Has (numbers_of l) k in
    let now = subst P e s.rest in
    let later = subst Q e s.either in
    let live : net.0 < length wides = (let q : net.0 < length ops = now.1 in omega arith) in
    let made : ℕ → Tri = λ p. value_set (values_in wides p) (values_in wides p) net.0 (meaning (op_at ops net.0)) in
    let apart : (k : ℕ) → Has s.before k → k ≢ net.0 = λ k h q. (let R : ℕ → Type 0 = λ n. Has s.before n in now.0 (subst R q h)) in
    let other : (k : ℕ) → k ≢ net.0 → wide_at (slice_set wides net.0 w) k ≡ wide_at wides k = λ k ne. get_or-set_other wides net.0 k w unknown_wide ne in
    let same : (p k : ℕ) → Has s.before k → values_in wides p k ≡ values_in (slice_set wides net.0 w) p k = λ p k h. sym (ap (λ (v : Wide). value_in v p) (other k (apart k h))) in
    let here : (p : ℕ) → p < 512 → IsDone ops start (slice_set wides net.0 w) p net.0 =
    λ p within. (ap (λ (v : Wide). value_in v p) (get_or-set_same wides net.0 w unknown_wide live) ∙ value_is w made given p within
    ∙ given_agree (values_in wides p) (values_in start p) (values_in wides p) net.0 (meaning (op_at ops net.0)) (ap (λ (v : Wide). value_in v p) (s.later net.0 now.0))
    ∙ set_agree (Has s.before) (values_in start p) (values_in wides p) (values_in (slice_set wides net.0 w) p) net.0 (meaning (op_at ops net.0)) now.2 (same p)) in
    record {
      whole = whole_set wides net.0 w live s.whole (wide_is w made given);
      before = net.0 ∷ s.before;
      rest = now.3;
      closed = λ k h. elim h [
        | inl q ↦ (let R : ℕ → Type 0 = λ n. AllByRecursion (Has (net.0 ∷ s.before)) (reads (meaning (op_at ops n))) in subst R (sym q) (all_more s.before net.0 (reads (meaning (op_at ops net.0))) now.2))
        | inr older ↦ all_more s.before net.0 (reads (meaning (op_at ops k))) (s.closed k older)
      ];
      done = λ p k within h. elim h [
        | inl q ↦ (let R : ℕ → Type 0 = λ n. IsDone ops start (slice_set wides net.0 w) p n in subst R (sym q) (here p within))
        | inr older ↦ sym (same p k older) ∙ s.done p k within older
            ∙ set_agree (Has s.before) (values_in start p) (values_in wides p) (values_in (slice_set wides net.0 w) p) k (meaning (op_at ops k)) (s.closed k older) (same p)
      ];
      later = λ k none. other k (λ q. none (inl q)) ∙ s.later k (λ older. none (inr older));
      either = λ k h. elim (later k h) [
        | inl older ↦ inl (inr older)
        | inr now ↦ elim now [ inl q ↦ inl (inl q) | inr rest ↦ inr rest ]
      ];
    }

-- the same as a loop over the order reads it
pub step : (ops : List Op) (start : List Wide) (order nets : List NetId) (wides : List Wide) (j : ℕ) (driver : Op) (w : Wide) → nets ≡ order → j < length nets → length wides ≡ length ops
    → Sweeping ops start order wides j → driver ≡ get_or ops (get_or nets j (record { 0 = 0 })).0 driver
    → IsWide w (λ p. value_set (values_in wides p) (values_in wides p) (get_or nets j (record { 0 = 0 })).0 (meaning driver))
    → Sweeping ops start order (slice_set wides (get_or nets j (record { 0 = 0 })).0 w) (j + 1)
step ops start order nets wides j driver w e less len s read given =
    let net : NetId = get_or nets j (record { 0 = 0 }) in
    let here : j < length order = omega (arith, ap length e) in
    let is : net ≡ get_or order j net = get_or_default nets j (record { 0 = 0 }) net less ∙ ap (λ (l : List NetId). get_or l j net) e in
    let live : net.0 < length ops = net_live ops start order wides j net here is s in
    let R : Op → Type 0 = λ o. IsWide w (λ p. value_set (values_in wides p) (values_in wides p) net.0 (meaning o)) in
    one_more ops start order wides j net w here is len s (subst R (get_or_read ops net.0 driver live read op.Free) given)

pub all_settled : (x : Circuit) (start wides : List Wide) (j : ℕ) → length x.order ≤ j → length wides ≡ length x.ops → length start ≡ length x.ops
    → Sweeping x.ops start x.order wides j → (p : ℕ) → p < 512 → IsSettledFrom (λ net. meaning (op_at x.ops net)) (values_in start p) (values_in wides p)
all_settled x start wides j past len old s p within k = elim (leb_tells (length x.ops) k) [
  | inl out ↦ (let far : length wides ≤ k = omega (arith, out.1) in
      let before : length start ≤ k = omega (arith, out.1) in
      ap (λ (v : Wide). value_in v p) (get_or_past wides k unknown_wide far ∙ sym (get_or_past start k unknown_wide before))
      ∙ sym (ap (λ (o : Op). value_set (values_in start p) (values_in wides p) k (meaning o)) (get_or_past x.ops k op.Free out.1)))
  | inr live ↦ (let Q : List NetId → Type 0 = λ l. Has s.before k ⊎ Has (numbers_of l) k in
      elim (subst Q (drop_all j x.order past) (s.either k live.1)) [ inl older ↦ s.done p k within older | inr none ↦ absurd none ])
]
