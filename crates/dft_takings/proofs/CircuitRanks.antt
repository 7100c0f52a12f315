-- The place of a net in a circuit's order is above the places of the nets that its value is settled from.
use Rattle.std.proofs.Common.{ℕ, suc, Bool, true, false, List, [], ◌∷◌, ◌≡◌, ◌<◌, ◌+◌, ◌⊎◌, inl, inr, ◌==◌, length, refl, sym, ap, ◌∙◌, subst, arith}
use Rattle.std.specs.Prelude.{if◌then◌else◌}
use Rattle.std.specs.List.{AllByRecursion}
use Rattle.std.proofs.lemmas.Bool.Decides.{eqb_tells, leb_tells}
use Rattle.std.proofs.lemmas.List.{get_or_past, length-map}
use Rattle.dft_netlist.specs.declared.ids.NetId.{NetId}
use Rattle.dft_netlist.specs.Drivers.{AreBelow}
use Rattle.dft_behavior.specs.Logic.{reads, IsRanked}
use Rattle.dft_netlist.specs.Orders.{Has, numbers_of}
use Rattle.dft_logic.specs.declared.circuit.Op.{Op}
use Rattle.dft_logic.specs.declared.circuit.Op.TheVariants as op
use Rattle.dft_logic.specs.Circuit.{Circuit, meaning, op_at, logic_at, AreOrdered, IsCircuit}
use Rattle.dft_takings.specs.Ranks.{rank_from, rank_of}
use Rattle.dft_logic.proofs.Settlings.{all_more}

-- the ranks of the nets so far
pub record Ranking (ops : List Op) (before : List ℕ) (next : ℕ) (rank : ℕ → ℕ) : Type 0 where
  pub lower : (k : ℕ) → Has before k → rank k < next
  pub below : (k : ℕ) → Has before k → AreBelow rank (rank k) (reads (meaning (op_at ops k)))
  pub closed : (k : ℕ) → Has before k → AllByRecursion (Has before) (reads (meaning (op_at ops k)))

chosen_same : (t : Bool) (a b : ℕ) → t ≡ true → (if t then a else b) ≡ a
chosen_same true a b h = refl
chosen_same false a b h = absurd cc

chosen_other : (t : Bool) (a b : ℕ) → t ≡ false → (if t then a else b) ≡ b
chosen_other true a b h = absurd cc
chosen_other false a b h = refl

-- nets whose ranks did not change, below a rank
still_below : (before : List ℕ) (rank new : ℕ → ℕ) (r : ℕ) (xs : List ℕ) → AllByRecursion (Has before) xs → ((k : ℕ) → Has before k → new k ≡ rank k) → AreBelow rank r xs → AreBelow new r xs
still_below before rank new r [] all same below = tt
still_below before rank new r (x ∷ xs) all same below = (let e : new x ≡ rank x = same x all.0 in let b : rank x < r = below.0 in omega arith, still_below before rank new r xs all.1 same below.1)

all_below : (before : List ℕ) (rank new : ℕ → ℕ) (r : ℕ) (xs : List ℕ) → AllByRecursion (Has before) xs → ((k : ℕ) → Has before k → new k ≡ rank k) → ((k : ℕ) → Has before k → rank k < r) → AreBelow new r xs
all_below before rank new r [] all same lower = tt
all_below before rank new r (x ∷ xs) all same lower = (let e : new x ≡ rank x = same x all.0 in let b : rank x < r = lower x all.0 in omega arith, all_below before rank new r xs all.1 same lower)

ranking_more : (ops : List Op) (before : List ℕ) (next : ℕ) (rank : ℕ → ℕ) (net : ℕ) → Ranking ops before next rank → (Has before net → ⊥) → AllByRecursion (Has before) (reads (meaning (op_at ops net))) →
    Ranking ops (net ∷ before) (suc next) (λ k. if k == net then next else rank k)
ranking_more ops before next rank net s fresh read =
    let new : ℕ → ℕ = λ k. if k == net then next else rank k in
    let same : (k : ℕ) → Has before k → new k ≡ rank k = λ k h. elim (eqb_tells k net) [
      | inl q ↦ (let R : ℕ → Type 0 = λ n. Has before n in absurd (fresh (subst R q.1 h)))
      | inr q ↦ chosen_other (k == net) next (rank k) q.0
    ] in
    let here : new net ≡ next = elim (eqb_tells net net) [ inl q ↦ chosen_same (net == net) next (rank net) q.0 | inr q ↦ absurd (q.1 refl) ] in
    let mine : AreBelow new (new net) (reads (meaning (op_at ops net))) =
    (let R : ℕ → Type 0 = λ r. AreBelow new r (reads (meaning (op_at ops net))) in subst R (sym here) (all_below before rank new next (reads (meaning (op_at ops net))) read same s.lower)) in
    record {
      lower = λ k h. elim h [
        | inl q ↦ (let e : new k ≡ next = ap new q ∙ here in omega arith)
        | inr older ↦ (let e : new k ≡ rank k = same k older in let l : rank k < next = s.lower k older in omega arith)
      ];
      below = λ k h. elim h [
        | inl q ↦ (let R : ℕ → Type 0 = λ n. AreBelow new (new n) (reads (meaning (op_at ops n))) in subst R (sym q) mine)
        | inr older ↦ (let R : ℕ → Type 0 = λ r. AreBelow new r (reads (meaning (op_at ops k))) in
            subst R (sym (same k older)) (still_below before rank new (rank k) (reads (meaning (op_at ops k))) (s.closed k older) same (s.below k older)))
      ];
      closed = λ k h. elim h [
        | inl q ↦ (let R : ℕ → Type 0 = λ n. AllByRecursion (Has (net ∷ before)) (reads (meaning (op_at ops n))) in subst R (sym q) (all_more before net (reads (meaning (op_at ops net))) read))
        | inr older ↦ all_more before net (reads (meaning (op_at ops k))) (s.closed k older)
      ];
    }

-- all the nets of an order, by induction on it
pub record Ranked (ops : List Op) (nets before : List ℕ) (count : ℕ) (rank : ℕ → ℕ) : Type 0 where
  pub below : (k : ℕ) → (Has before k ⊎ Has nets k) → AreBelow rank (rank k) (reads (meaning (op_at ops k)))
  pub lower : (k : ℕ) → (Has before k ⊎ Has nets k) → rank k < count

ranked_from : (ops : List Op) (nets before : List ℕ) (next : ℕ) (rank : ℕ → ℕ) → AreOrdered ops before nets → Ranking ops before next rank → Ranked ops nets before (next + length nets) (rank_from next rank nets)
ranked_from ops [] before next rank ordered s = record { below = λ k h. elim h [ inl older ↦ s.below k older | inr none ↦ absurd none ]; lower = λ k h. elim h [ inl older ↦ (let l : rank k < next = s.lower k older in omega arith) | inr none ↦ absurd none ] }
ranked_from ops (net ∷ nets) before next rank ordered s =
    let ih = ranked_from ops nets (net ∷ before) (suc next) (λ k. if k == net then next else rank k) ordered.3 (ranking_more ops before next rank net s ordered.0 ordered.2) in
    record {
      below = λ k h. elim h [
        | inl older ↦ ih.below k (inl (inr older))
        | inr later ↦ elim later [ inl q ↦ ih.below k (inl (inl q)) | inr rest ↦ ih.below k (inr rest) ]
      ];
      lower = λ k h. elim h [
        | inl older ↦ (let l = ih.lower k (inl (inr older)) in omega arith)
        | inr later ↦ elim later [ inl q ↦ (let l = ih.lower k (inl (inl q)) in omega arith) | inr rest ↦ (let l = ih.lower k (inr rest) in omega arith) ]
      ];
    }

start : (ops : List Op) → Ranking ops [] 0 (λ k. 0)
start ops = record { lower = λ k h. absurd h; below = λ k h. absurd h; closed = λ k h. absurd h }

pub rank_lower : (x : Circuit) → IsCircuit x → (k : ℕ) → k < length x.ops → rank_of x k < length x.ops
unfolding rank_of
rank_lower x is k less =
    let s = ranked_from x.ops (numbers_of x.order) [] 0 (λ n. 0) is.after (start x.ops) in
    let l = s.lower k (inr (is.whole k less)) in
    let e = is.count in
    let m = length-map x.order (λ (n : NetId). n.0) in
    omega arith

circuit_order : (x : Circuit) → IsCircuit x → (k : ℕ) → AreBelow (rank_of x) (rank_of x k) (reads ((logic_at x).net k))
unfolding logic_at rank_of
circuit_order x is k =
    let s = ranked_from x.ops (numbers_of x.order) [] 0 (λ n. 0) is.after (start x.ops) in
    elim (leb_tells (length x.ops) k) [
      | inl out ↦ (let R : Op → Type 0 = λ o. AreBelow (rank_from 0 (λ n. 0) (numbers_of x.order)) (rank_from 0 (λ n. 0) (numbers_of x.order) k) (reads (meaning o)) in
          subst R (sym (get_or_past x.ops k op.Free out.1)) tt)
      | inr live ↦ s.below k (inr (is.whole k live.1))
    ]

pub circuit_ranked : (x : Circuit) → IsCircuit x → IsRanked (logic_at x) (rank_of x)
unfolding logic_at
circuit_ranked x is = record { order = circuit_order x is; lockups = is.stored }
