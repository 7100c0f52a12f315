-- Nets are marked from the last to the first, where one that is settled from them is marked.
use Rattle.std.proofs.Common.{ℕ, zero, suc, Bool, true, false, List, [], ◌∷◌, ◌≡◌, ◌<◌, ◌≤◌, ◌-◌, ◌⊎◌, ◌++◌, inl, inr, length, take, drop, drop-cons, sym, ap, ◌∙◌, subst, get_or, true≢false, arith}
use Rattle.std.specs.Prelude.{if◌then◌else◌}
use Rattle.std.specs.List.{AllByRecursion}
use Rattle.std.proofs.lemmas.Bool.Decides.{leb_tells}
use Rattle.std.proofs.lemmas.List.{get_or_past, drop_all, append-nil}
use Rattle.std.proofs.lemmas.Bool.{cases_Bool}
use Rattle.dft_netlist.proofs.StandLemmas.{has_all}
use Rattle.dft_netlist.specs.declared.ids.NetId.{NetId}
use Rattle.dft_behavior.specs.Logic.{reads}
use Rattle.dft_netlist.specs.Orders.{Has, numbers_of}
use Rattle.dft_netlist.proofs.ListingLemmas.{all_from}
use Rattle.dft_takings.specs.Needs.{HasAll, IsStrobeClosed}
use Rattle.dft_logic.specs.declared.circuit.Op.{Op}
use Rattle.dft_logic.specs.declared.circuit.Op.TheVariants.{Free}
use Rattle.dft_logic.specs.Circuit.{Circuit, meaning, op_at, logic_at, AreOrdered, IsCircuit, flag_at}

-- ---- orders

ordered_apart : (ops : List Op) (before nets : List ℕ) → AreOrdered ops before nets → (k : ℕ) → Has nets k → Has before k → ⊥
ordered_apart ops before [] o k h b = absurd h
ordered_apart ops before (n ∷ ns) o k h b = elim h [
  | inl e ↦ o.0 (subst (λ (m : ℕ). Has before m) e b)
  | inr rest ↦ ordered_apart ops (n ∷ before) ns o.3 k rest (inr b)
]

ordered_at : (ops : List Op) (before : List ℕ) (order : List NetId) (j : ℕ) → AreOrdered ops before (numbers_of order) → (b : List ℕ) × AreOrdered ops b (numbers_of (drop j order))
ordered_at ops before order zero o = (before, o)
ordered_at ops before [] (suc j) o = (before, o)
ordered_at ops before (net ∷ order) (suc j) o = ordered_at ops (net.0 ∷ before) order j o.3

-- a net of an order is not settled from itself or from a later one
reads_earlier : (ops : List Op) (before : List ℕ) (net : ℕ) (nets : List ℕ) → AreOrdered ops before (net ∷ nets) → (k : ℕ) → Has (reads (meaning (op_at ops net))) k → Has (net ∷ nets) k → ⊥
reads_earlier ops before net nets o k read later = ordered_apart ops before (net ∷ nets) o k later (has_all (Has before) (reads (meaning (op_at ops net))) k o.2 read)

front : (order : List NetId) (j : ℕ) (d : NetId) → j < length order → numbers_of (drop j order) ≡ (get_or order j d).0 ∷ numbers_of (drop (suc j) order)
front order j d less = ap numbers_of (drop-cons order j d less)

-- what a net of an order is settled from is in the order, or came before
reads_within : (ops : List Op) (before nets : List ℕ) → AreOrdered ops before nets → (k : ℕ) → Has nets k → (m : ℕ) → Has (reads (meaning (op_at ops k))) m → Has before m ⊎ Has nets m
reads_within ops before [] o k h m read = absurd h
reads_within ops before (n ∷ ns) o k h m read = elim h [
  | inl e ↦ inl (has_all (Has before) (reads (meaning (op_at ops n))) m o.2 (subst (λ (i : ℕ). Has (reads (meaning (op_at ops i))) m) e read))
  | inr rest ↦ elim (reads_within ops (n ∷ before) ns o.3 k rest m read) [
    | inl was ↦ elim was [ inl e ↦ inr (inl e) | inr older ↦ inl older ]
    | inr later ↦ inr (inr later)
  ]
]

-- ---- marks from a place of the order on

-- what marked nets are settled from is marked, where it stands from this place on
pub record Needing (ops : List Op) (order : List NetId) (start marked : List Bool) (j : ℕ) : Type 0 where
  pub closed : (net k : ℕ) → Has (numbers_of (drop j order)) net → flag_at marked k ≡ true → Has (reads (meaning (op_at ops k))) net → flag_at marked net ≡ true
  pub kept : (k : ℕ) → flag_at start k ≡ true → flag_at marked k ≡ true

pub needing_starts : (ops : List Op) (order : List NetId) (start : List Bool) (j : ℕ) → length order ≤ j → Needing ops order start start j
needing_starts ops order start j past = record {
  closed = λ net k later up read. (let P : List NetId → Type 0 = λ l. Has (numbers_of l) net in absurd (subst P (drop_all j order past) later));
  kept = λ k up. up;
}

pub needing_more : (x : Circuit) (start marked now : List Bool) (j place : ℕ) (d : NetId) → IsCircuit x → place ≡ suc j → j < length x.order →
    ((k : ℕ) → flag_at marked k ≡ true → Has (reads (meaning (op_at x.ops k))) (get_or x.order j d).0 → flag_at now (get_or x.order j d).0 ≡ true) →
    ((k : ℕ) → flag_at marked k ≡ true → flag_at now k ≡ true) → ((k : ℕ) → flag_at now k ≡ true → (k ≡ (get_or x.order j d).0) ⊎ (flag_at marked k ≡ true)) →
    Needing x.ops x.order start marked place → Needing x.ops x.order start now j
needing_more x start marked now j place d is e less read kept only n =
    let net : ℕ = (get_or x.order j d).0 in
    let ops : List Op = x.ops in
    let rest : List ℕ = numbers_of (drop (suc j) x.order) in
    let at = ordered_at ops [] x.order j is.after in
    let O : List ℕ → Type 0 = λ l. AreOrdered ops at.0 l in
    let ordered : AreOrdered ops at.0 (net ∷ rest) = subst O (front x.order j d less) at.1 in
    let later : (m k : ℕ) → Has (net ∷ rest) m → k ≡ net → Has (reads (meaning (op_at ops k))) m → ⊥ = λ m k has q reading.
    reads_earlier ops at.0 net rest ordered m (subst (λ (i : ℕ). Has (reads (meaning (op_at ops i))) m) q reading) has in
    let older : (m : ℕ) → Has rest m → Has (numbers_of (drop place x.order)) m = λ m has. subst (λ (i : ℕ). Has (numbers_of (drop i x.order)) m) (sym e) has in
    record {
      closed = λ m k has up reading. (let H : List ℕ → Type 0 = λ l. Has l m in
          let here : Has (net ∷ rest) m = subst H (front x.order j d less) has in
          elim (only k up) [
            | inl q ↦ absurd (later m k here q reading)
            | inr was ↦ elim here [
              | inl q ↦ subst (λ (i : ℕ). flag_at now i ≡ true) (sym q) (read k was (subst (λ (i : ℕ). Has (reads (meaning (op_at ops k))) i) q reading))
              | inr after ↦ kept m (n.closed m k (older m after) was reading)
            ]
          ]);
      kept = λ k up. kept k (n.kept k up);
    }

pub needing_ends : (x : Circuit) (start marked : List Bool) → IsCircuit x → Needing x.ops x.order start marked 0 → IsStrobeClosed (logic_at x) (flag_at marked)
unfolding logic_at
needing_ends x start marked is n k up = elim (leb_tells (length x.ops) k) [
  | inl out ↦ (let P : Op → Type 0 = λ o. HasAll (flag_at marked) (reads (meaning o)) in subst P (sym (get_or_past x.ops k Free out.1)) tt)
  | inr live ↦ all_from (λ m. flag_at marked m ≡ true) (reads (meaning (op_at x.ops k))) (λ m reading. elim (reads_within x.ops [] (numbers_of x.order) is.after k (is.whole k live.1) m reading) [
    | inl none ↦ absurd none
    | inr has ↦ n.closed m k has up reading
  ])
]

-- the same as a loop over the order's places reads it
pub needing_step : (x : Circuit) (start marked now : List Bool) (place : ℕ) (m : NetId) → IsCircuit x → 0 < place → place ≤ length x.order → m ≡ get_or x.order (place - 1) m →
    ((k : ℕ) → flag_at marked k ≡ true → Has (reads (meaning (op_at x.ops k))) m.0 → flag_at now m.0 ≡ true) → ((k : ℕ) → flag_at marked k ≡ true → flag_at now k ≡ true) →
    ((k : ℕ) → flag_at now k ≡ true → (k ≡ m.0) ⊎ (flag_at marked k ≡ true)) → Needing x.ops x.order start marked place → Needing x.ops x.order start now (place - 1)
needing_step x start marked now place m is more within at read kept only n =
    let P : NetId → Type 0 = λ i. (k : ℕ) → flag_at marked k ≡ true → Has (reads (meaning (op_at x.ops k))) i.0 → flag_at now i.0 ≡ true in
    let Q : NetId → Type 0 = λ i. (k : ℕ) → flag_at now k ≡ true → (k ≡ i.0) ⊎ (flag_at marked k ≡ true) in
    needing_more x start marked now (place - 1) place m is (omega arith) (omega arith) (subst P at read) kept (subst Q at only) n

pub ordered_live : (x : Circuit) (place : ℕ) (m : NetId) → IsCircuit x → 0 < place → place ≤ length x.order → m ≡ get_or x.order (place - 1) m → m.0 < length x.ops
ordered_live x place m is more within at =
    let found = ordered_at x.ops [] x.order (place - 1) is.after in
    let O : List ℕ → Type 0 = λ l. AreOrdered x.ops found.0 l in
    let less : place - 1 < length x.order = omega arith in
    let L : NetId → Type 0 = λ i. i.0 < length x.ops in
    subst L (sym at) (subst O (front x.order (place - 1) m less) found.1).1

-- ---- the marked nets, in the order

abbrev pub kept_of : (flags : List Bool) → List NetId → List NetId
kept_of flags [] = []
kept_of flags (net ∷ nets) = if flag_at flags net.0 then net ∷ kept_of flags nets else kept_of flags nets

-- the marked nets before a place of the order are listed
pub record Listing (flags : List Bool) (order list : List NetId) (count j : ℕ) : Type 0 where
  pub fits : count ≤ j
  pub is : take count list ++ kept_of flags (drop j order) ≡ kept_of flags order

pub listed_all : (flags : List Bool) (order list : List NetId) (count j : ℕ) → length order ≤ j → Listing flags order list count j → take count list ≡ kept_of flags order
listed_all flags order list count j past l =
    let P : List NetId → Type 0 = λ rest. take count list ++ kept_of flags rest ≡ kept_of flags order in
    sym (append-nil (take count list)) ∙ subst P (drop_all j order past) l.is

both_all : (P Q R : ℕ → Type 0) (xs : List ℕ) → AllByRecursion P xs → AllByRecursion Q xs → ((k : ℕ) → P k → Q k → R k) → AllByRecursion R xs
both_all P Q R [] p q r = tt
both_all P Q R (x ∷ xs) p q r = (r x p.0 q.0, both_all P Q R xs p.1 q.1 r)

-- the marked nets of an order are in order, where the marks are closed under reading
kept_ordered : (ops : List Op) (flags : List Bool) (before kept : List ℕ) (order : List NetId) → AreOrdered ops before (numbers_of order) →
    ((k : ℕ) → flag_at flags k ≡ true → HasAll (flag_at flags) (reads (meaning (op_at ops k)))) → ((k : ℕ) → Has before k → flag_at flags k ≡ true → Has kept k) → ((k : ℕ) → Has kept k → Has before k) →
    AreOrdered ops kept (numbers_of (kept_of flags order))
kept_ordered ops flags before kept [] o closed up old = tt
kept_ordered ops flags before kept (net ∷ order) o closed up old =
    let R : Bool → Type 0 = λ t. AreOrdered ops kept (numbers_of (if t then net ∷ kept_of flags order else kept_of flags order)) in
    elim (cases_Bool (flag_at flags net.0)) [
      | inl is ↦ subst R (sym is) (
        (λ h. o.0 (old net.0 h)),
        o.1,
        both_all (Has before) (λ k. flag_at flags k ≡ true) (Has kept) (reads (meaning (op_at ops net.0))) o.2 (closed net.0 is) up,
        kept_ordered ops flags (net.0 ∷ before) (net.0 ∷ kept) order o.3 closed
            (λ k h f. elim h [ inl e ↦ inl e | inr b ↦ inr (up k b f) ]) (λ k h. elim h [ inl e ↦ inl e | inr b ↦ inr (old k b) ]),
      )
      | inr is_not ↦ subst R (sym is_not) (
          kept_ordered ops flags (net.0 ∷ before) kept order o.3 closed
          (λ k h f. elim h [ inl e ↦ absurd (true≢false (sym f ∙ ap (flag_at flags) e ∙ is_not)) | inr b ↦ up k b f ]) (λ k h. inr (old k h))
          )
    ]

kept_has : (flags : List Bool) (order : List NetId) (k : ℕ) → Has (numbers_of order) k → flag_at flags k ≡ true → Has (numbers_of (kept_of flags order)) k
kept_has flags [] k h f = absurd h
kept_has flags (net ∷ order) k h f =
    let R : Bool → Type 0 = λ t. Has (numbers_of (if t then net ∷ kept_of flags order else kept_of flags order)) k in
    elim (cases_Bool (flag_at flags net.0)) [
      | inl is ↦ subst R (sym is) (elim h [ inl e ↦ inl e | inr rest ↦ inr (kept_has flags order k rest f) ])
      | inr is_not ↦ subst R (sym is_not) (elim h [ inl e ↦ absurd (true≢false (sym f ∙ ap (flag_at flags) e ∙ is_not)) | inr rest ↦ kept_has flags order k rest f ])
    ]

pub list_ordered : (x : Circuit) (flags : List Bool) (list : List NetId) (count j : ℕ) → IsCircuit x → IsStrobeClosed (logic_at x) (flag_at flags) → length x.order ≤ j → Listing flags x.order list count j →
    AreOrdered x.ops [] (numbers_of (take count list))
unfolding logic_at
list_ordered x flags list count j is closed past l =
    let P : List NetId → Type 0 = λ nets. AreOrdered x.ops [] (numbers_of nets) in
    subst P (sym (listed_all flags x.order list count j past l)) (kept_ordered x.ops flags [] [] x.order is.after (λ k up. closed k up) (λ k none f. absurd none) (λ k none. absurd none))

pub list_has : (x : Circuit) (flags : List Bool) (list : List NetId) (count j : ℕ) → IsCircuit x → length flags ≡ length x.ops → length x.order ≤ j → Listing flags x.order list count j →
    (k : ℕ) → flag_at flags k ≡ true → Has (numbers_of (take count list)) k
list_has x flags list count j is len past l k up =
    let P : List NetId → Type 0 = λ nets. Has (numbers_of nets) k in
    elim (leb_tells (length x.ops) k) [
      | inl out ↦ (let far : length flags ≤ k = omega (arith, out.1, len) in absurd (true≢false (sym up ∙ get_or_past flags k false far)))
      | inr live ↦ subst P (sym (listed_all flags x.order list count j past l)) (kept_has flags x.order k (is.whole k live.1) up)
    ]
