-- A sweep goes over the nets of a circuit in its order: a net that is passed raises only marks of nets that read it.
use Rattle.std.proofs.Common.{ℕ, suc, Bool, true, false, List, [], ◌∷◌, ◌≡◌, ◌<◌, ◌≤◌, ◌+◌, ◌⊎◌, inl, inr, length, drop, drop-cons, add-one, refl, sym, ap, ◌∙◌, subst, get_or, true≢false, arith}
use Rattle.std.specs.List.{AllByRecursion}
use Rattle.std.proofs.lemmas.Bool.Decides.{leb_tells}
use Rattle.std.proofs.lemmas.List.{get_or_past, drop_all}
use Rattle.dft_netlist.proofs.StandLemmas.{has_all}
use Rattle.dft_netlist.specs.declared.ids.NetId.{NetId}
use Rattle.dft_behavior.specs.Logic.{reads}
use Rattle.dft_netlist.specs.Orders.{Has, numbers_of}
use Rattle.dft_logic.specs.declared.circuit.Op.{Op}
use Rattle.dft_logic.specs.Circuit.{Circuit, meaning, op_at, AreOrdered, IsCircuit, flag_at}
use Rattle.dft_logic.specs.Sweepings.{Sweeping}
use Rattle.dft_logic.proofs.Settlings.{all_more}

pub sweeping_starts : (x : Circuit) (Given : ℕ → Type 0) (marked : List Bool) → IsCircuit x → ((k : ℕ) → flag_at marked k ≡ false → Given k) → Sweeping x.ops Given x.order marked 0
sweeping_starts x Given marked is given = record { before = []; rest = is.after; closed = λ k h. absurd h; clean = λ k h. absurd h; given = given; either = λ k less. inr (is.whole k less) }

front : (order : List NetId) (j : ℕ) (net d : NetId) → j < length order → net ≡ get_or order j d → drop j order ≡ net ∷ drop (j + 1) order
front order j net d less is = rw (add-one) (drop-cons order j d less ∙ ap (λ (n : NetId). n ∷ drop (suc j) order) (sym is))

-- one net more: marks that were raised are of nets that read it
pub sweeping_more : (ops : List Op) (Old New : ℕ → Type 0) (order : List NetId) (marked now : List Bool) (j : ℕ) (net d : NetId) → (less : j < length order) → (is : net ≡ get_or order j d) →
    Sweeping ops Old order marked j → (given : ((k : ℕ) → flag_at now k ≡ false → New k)) →
    (raised : ((k : ℕ) → flag_at now k ≡ true → ((flag_at marked k ≡ true) × (k ≡ net.0 → ⊥)) ⊎ Has (reads (meaning (op_at ops k))) net.0)) → Sweeping ops New order now (j + 1)
sweeping_more ops Old New order marked now j net d less is s given raised =
    let e = front order j net d less is in
    let P : List NetId → Type 0 = λ l. AreOrdered ops s.before (numbers_of l) in
    let Q : List NetId → Type 0 = λ l. (k : ℕ) → k < length ops → Has s.before k ⊎ Has (numbers_of l) k in
    let here = subst P e s.rest in
    let later = subst Q e s.either in
    record {
      before = net.0 ∷ s.before;
      rest = here.3;
      closed = λ k h. elim h [
        | inl q ↦ (let R : ℕ → Type 0 = λ n. AllByRecursion (Has (net.0 ∷ s.before)) (reads (meaning (op_at ops n))) in subst R (sym q) (all_more s.before net.0 (reads (meaning (op_at ops net.0))) here.2))
        | inr older ↦ all_more s.before net.0 (reads (meaning (op_at ops k))) (s.closed k older)
      ];
      clean = λ k h. down k (flag_at now k) refl (λ up. elim (raised k up) [
        | inl was ↦ elim h [ inl q ↦ was.1 q | inr older ↦ true≢false (sym was.0 ∙ s.clean k older) ]
        | inr reader ↦ elim h [
          | inl q ↦ (let R : ℕ → Type 0 = λ n. Has (reads (meaning (op_at ops n))) net.0 in here.0 (has_all (Has s.before) (reads (meaning (op_at ops net.0))) net.0 here.2 (subst R q reader)))
          | inr older ↦ here.0 (has_all (Has s.before) (reads (meaning (op_at ops k))) net.0 (s.closed k older) reader)
        ]
      ]);
      given = given;
      either = λ k h. elim (later k h) [
        | inl older ↦ inl (inr older)
        | inr now ↦ elim now [ inl q ↦ inl (inl q) | inr rest ↦ inr rest ]
      ];
    } where
      down : (k : ℕ) (b : Bool) → flag_at now k ≡ b → (flag_at now k ≡ true → ⊥) → flag_at now k ≡ false
      down k false is never = is
      down k true is never = absurd (never is)

pub swept : (x : Circuit) (Given : ℕ → Type 0) (marked : List Bool) (j : ℕ) → length x.order ≤ j → length marked ≡ length x.ops → Sweeping x.ops Given x.order marked j → (k : ℕ) → flag_at marked k ≡ false
swept x Given marked j past len s k = elim (leb_tells (length x.ops) k) [
  | inl out ↦ (let far : length marked ≤ k = omega (arith, out.1) in get_or_past marked k false far)
  | inr live ↦ (let Q : List NetId → Type 0 = λ l. Has s.before k ⊎ Has (numbers_of l) k in
      elim (subst Q (drop_all j x.order past) (s.either k live.1)) [ inl older ↦ s.clean k older | inr none ↦ absurd none ])
]
