-- Nets are settled one after another in all lanes: each keeps its value while later ones are written.
use Rattle.std.proofs.Common.{ℕ, List, [], ◌∷◌, ◌≡◌, ◌<◌, ◌≤◌, ◌+◌, ◌≢◌, ◌⊎◌, inl, inr, length, drop, sym, ap, ◌∙◌, subst, get_or, slice_set, get_or-set_same, get_or-set_other, arith}
use Rattle.std.specs.List.{AllByRecursion}
use Rattle.std.proofs.lemmas.List.{get_or_read, get_or_default, drop_all}
use Rattle.dft_base.specs.declared.tri.Tri.{Tri}
use Rattle.dft_lanes.specs.declared.wide.Wide.{Wide}
use Rattle.dft_netlist.specs.declared.ids.NetId.{NetId}
use Rattle.dft_behavior.specs.Logic.{Meaning, reads}
use Rattle.dft_behavior.specs.Settled.{value_given}
use Rattle.dft_netlist.specs.Orders.{Has, numbers_of}
use Rattle.dft_logic.specs.declared.circuit.Op.{Op}
use Rattle.dft_logic.specs.declared.circuit.Op.TheVariants as op
use Rattle.dft_logic.specs.Circuit.{meaning, op_at, flag_at, AreOrdered}
use Rattle.dft_logic.specs.Values.{value_at}
use Rattle.dft_takings.specs.Needs.{still_from}
use Rattle.dft_logic.proofs.Settlings.{all_more}
use Rattle.dft_takings.proofs.ReadLemmas.{Agree, still_agrees}
use Rattle.dft_logic.proofs.Fillings.{front}
use Rattle.dft_evaluator.specs.Wides.{value_in, values_in, unknown_wide, IsWide, AreWides}
use Rattle.dft_evaluator.proofs.WideLemmas.{wide_is, value_is}
use Rattle.dft_evaluator.proofs.SweepLemmas.{whole_set}
use Rattle.dft_fault_lanes.specs.Lanes.{clamped, clamp_at, Situation, lane_given}

-- ---- a value depends on what it reads

agrees : (P : ℕ → Type 0) (v w : ℕ → Tri) (nets : List ℕ) → AllByRecursion P nets → ((k : ℕ) → P k → v k ≡ w k) → Agree v w nets
agrees P v w [] all same = tt
agrees P v w (net ∷ nets) all same = (same net all.0, agrees P v w nets all.1 same)

given_agrees : (s : Situation) (P : ℕ → Type 0) (lane : ℕ) (v w : ℕ → Tri) (net : ℕ) (m : Meaning) → AllByRecursion P (reads m) → ((k : ℕ) → P k → v k ≡ w k) → lane_given s lane v net m ≡ lane_given s lane w net m
given_agrees s P lane v w net m all same =
    ap (clamped (clamp_at s.clamps net) lane) (still_agrees (flag_at s.levels) (value_at s.ports) (values_in s.cells lane) v w net m (agrees P v w (reads m) all same))

-- ---- one net after another

-- the nets before a place of the order are settled
pub record Settling (ops : List Op) (s : Situation) (order : List NetId) (wides : List Wide) (j : ℕ) : Type 0 where
  pub whole : AreWides wides
  pub before : List ℕ
  pub rest : AreOrdered ops before (numbers_of (drop j order))
  pub closed : (k : ℕ) → Has before k → AllByRecursion (Has before) (reads (meaning (op_at ops k)))
  pub done : (lane k : ℕ) → lane < 512 → Has before k → values_in wides lane k ≡ lane_given s lane (values_in wides lane) k (meaning (op_at ops k))
  pub either : (k : ℕ) → Has (numbers_of order) k → Has before k ⊎ Has (numbers_of (drop j order)) k

pub settling_starts : (ops : List Op) (s : Situation) (order : List NetId) (start : List Wide) → AreOrdered ops [] (numbers_of order) → AreWides start → Settling ops s order start 0
settling_starts ops s order start ordered whole =
    record { whole = whole; before = []; rest = ordered; closed = λ k h. absurd h; done = λ lane k less h. absurd h; either = λ k h. inr h }

pub net_live : (ops : List Op) (s : Situation) (order : List NetId) (wides : List Wide) (j : ℕ) (net : NetId) → j < length order → net ≡ get_or order j net → Settling ops s order wides j → net.0 < length ops
net_live ops s order wides j net less is settling =
    let P : List NetId → Type 0 = λ l. AreOrdered ops settling.before (numbers_of l) in
    (subst P (front order j net less is) settling.rest).1

pub one_more : (ops : List Op) (s : Situation) (order : List NetId) (wides : List Wide) (j : ℕ) (net : NetId) (w : Wide) → j < length order → net ≡ get_or order j net → length wides ≡ length ops
    → Settling ops s order wides j → IsWide w (λ lane. lane_given s lane (values_in wides lane) net.0 (meaning (op_at ops net.0)))
    → Settling ops s order (slice_set wides net.0 w) (j + 1)
one_more ops s order wides j net w less is len settling given =
    let e = front order j net less is in
    let P : List NetId → Type 0 = λ l. AreOrdered ops settling.before (numbers_of l) in
    let Q : List NetId → Type 0 = λ l. (k : ℕ) → Has (numbers_of order) k → Has settling.before k ⊎ Has (numbers_of l) k in
    let now = subst P e settling.rest in
    let later = subst Q e settling.either in
    let live : net.0 < length wides = (let q : net.0 < length ops = now.1 in omega arith) in
    let new : List Wide = slice_set wides net.0 w in
    let made : ℕ → Tri = λ lane. lane_given s lane (values_in wides lane) net.0 (meaning (op_at ops net.0)) in
    let apart : (k : ℕ) → Has settling.before k → k ≢ net.0 = λ k h q. (let R : ℕ → Type 0 = λ n. Has settling.before n in now.0 (subst R q h)) in
    let same : (lane k : ℕ) → Has settling.before k → values_in wides lane k ≡ values_in new lane k = λ lane k h. sym (ap (λ (v : Wide). value_in v lane) (get_or-set_other wides net.0 k w unknown_wide (apart k h))) in
    let here : (lane : ℕ) → lane < 512 → values_in new lane net.0 ≡ lane_given s lane (values_in new lane) net.0 (meaning (op_at ops net.0)) =
    λ lane within. (ap (λ (v : Wide). value_in v lane) (get_or-set_same wides net.0 w unknown_wide live) ∙ value_is w made given lane within
    ∙ given_agrees s (Has settling.before) lane (values_in wides lane) (values_in new lane) net.0 (meaning (op_at ops net.0)) now.2 (same lane)) in
    record {
      whole = whole_set wides net.0 w live settling.whole (wide_is w made given);
      before = net.0 ∷ settling.before;
      rest = now.3;
      closed = λ k h. elim h [
        | inl q ↦ (let R : ℕ → Type 0 = λ n. AllByRecursion (Has (net.0 ∷ settling.before)) (reads (meaning (op_at ops n))) in subst R (sym q) (all_more settling.before net.0 (reads (meaning (op_at ops net.0))) now.2))
        | inr older ↦ all_more settling.before net.0 (reads (meaning (op_at ops k))) (settling.closed k older)
      ];
      done = λ lane k within h. elim h [
        | inl q ↦ (let R : ℕ → Type 0 = λ n. values_in new lane n ≡ lane_given s lane (values_in new lane) n (meaning (op_at ops n)) in subst R (sym q) (here lane within))
        | inr older ↦ sym (same lane k older) ∙ settling.done lane k within older
            ∙ given_agrees s (Has settling.before) lane (values_in wides lane) (values_in new lane) k (meaning (op_at ops k)) (settling.closed k older) (same lane)
      ];
      either = λ k h. elim (later k h) [
        | inl older ↦ inl (inr older)
        | inr now ↦ elim now [ inl q ↦ inl (inl q) | inr rest ↦ inr rest ]
      ];
    }

-- the same as a loop over the order reads it
pub step : (ops : List Op) (s : Situation) (order nets : List NetId) (wides : List Wide) (j : ℕ) (driver : Op) (given w : Wide) → nets ≡ order → j < length nets → length wides ≡ length ops →
    Settling ops s order wides j → driver ≡ get_or ops (get_or nets j (record { 0 = 0 })).0 driver →
    IsWide given (λ lane. value_given (still_from (flag_at s.levels) (value_at s.ports) (values_in s.cells lane) (values_in wides lane)) (values_in wides lane) (get_or nets j (record { 0 = 0 })).0 (meaning driver)) →
    ((values : ℕ → Tri) → IsWide given values → IsWide w (λ lane. clamped (clamp_at s.clamps (get_or nets j (record { 0 = 0 })).0) lane (values lane))) →
    Settling ops s order (slice_set wides (get_or nets j (record { 0 = 0 })).0 w) (j + 1)
step ops s order nets wides j driver given w e less len settling read is keeps =
    let net : NetId = get_or nets j (record { 0 = 0 }) in
    let here : j < length order = omega (arith, ap length e) in
    let at : net ≡ get_or order j net = get_or_default nets j (record { 0 = 0 }) net less ∙ ap (λ (l : List NetId). get_or l j net) e in
    let live : net.0 < length ops = net_live ops s order wides j net here at settling in
    let value : Meaning → ℕ → Tri = λ m lane. value_given (still_from (flag_at s.levels) (value_at s.ports) (values_in s.cells lane) (values_in wides lane)) (values_in wides lane) net.0 m in
    let S : Op → Type 0 = λ o. IsWide w (λ lane. clamped (clamp_at s.clamps net.0) lane (value (meaning o) lane)) in
    one_more ops s order wides j net w here at len settling (subst S (get_or_read ops net.0 driver live read op.Free) (keeps (value (meaning driver)) is))

pub all_settled : (ops : List Op) (s : Situation) (order : List NetId) (wides : List Wide) (j : ℕ) → length order ≤ j → Settling ops s order wides j →
    (lane k : ℕ) → lane < 512 → Has (numbers_of order) k → values_in wides lane k ≡ lane_given s lane (values_in wides lane) k (meaning (op_at ops k))
all_settled ops s order wides j past settling lane k within has =
    let Q : List NetId → Type 0 = λ l. Has settling.before k ⊎ Has (numbers_of l) k in
    elim (subst Q (drop_all j order past) (settling.either k has)) [ inl older ↦ settling.done lane k within older | inr none ↦ absurd none ]
