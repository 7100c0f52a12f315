-- Lists settle in their order.
use Rattle.std.proofs.Common.{ℕ, Bool, true, false, List, [], ◌∷◌, ◌≡◌, ◌==◌, ◌⊎◌, inl, inr, refl, sym, ap, subst, ◌∙◌}
use Rattle.std.proofs.lemmas.Bool.{eqb-true, cases_Bool, or_left, or_right, or_cases}
use Rattle.dft_base.specs.declared.tri.Tri.{Tri}
use Rattle.dft_behavior.specs.Logic.{Logic, Meaning, reads}
use Rattle.dft_behavior.specs.Settled.{value_given}
use Rattle.dft_takings.specs.Needs.{HasAll, strobe_from, IsStrobeClosed, IsStrobeOn}
use Rattle.dft_takings.specs.Lists.{is_listed, IsListFrom, settled_at, settled_by}
use Rattle.dft_takings.specs.Laws.{ListIsClosed, ListIsSettled}
use Rattle.dft_takings.proofs.ReadLemmas.{Agree, still_agrees, set_agrees}

-- ---- what is listed

more_listed : (before : List ℕ) (net : ℕ) (nets : List ℕ) → HasAll (is_listed before) nets → HasAll (is_listed (net ∷ before)) nets
more_listed before net [] all = tt
more_listed before net (k ∷ nets) all = (or_right (net == k) (is_listed before k) all.0, more_listed before net nets all.1)

pub wider : (some all : ℕ → Bool) (nets : List ℕ) → ((k : ℕ) → some k ≡ true → all k ≡ true) → HasAll some nets → HasAll all nets
wider some all [] over has = tt
wider some all (net ∷ nets) over has = (over net has.0, wider some all nets over has.1)

closed_more : (l : Logic) (before : List ℕ) (net : ℕ) → IsStrobeClosed l (is_listed before) → HasAll (is_listed before) (reads (l.net net)) → IsStrobeClosed l (is_listed (net ∷ before))
closed_more l before net closed read k is = elim (or_cases (net == k) (is_listed before k) is) [
  | inl same ↦ (let e : net ≡ k = eqb-true net k same in more_listed before net (reads (l.net k)) (subst (λ (n : ℕ). HasAll (is_listed before) (reads (l.net n))) e read))
  | inr old ↦ more_listed before net (reads (l.net k)) (closed k old)
]

-- ---- one more net is settled

-- a net settles to the same value in assignments that agree on what it reads
strobe_agrees : (ports flops v w : ℕ → Tri) (net : ℕ) (m : Meaning) → Agree v w (reads m) → value_given (strobe_from ports flops v) v net m ≡ value_given (strobe_from ports flops w) w net m
strobe_agrees ports flops v w net m same = still_agrees (λ e. false) ports flops v w net m same

stays : (l : Logic) (ports flops : ℕ → Tri) (net : ℕ) (values : ℕ → Tri) (before : List ℕ) → is_listed before net ≡ false → (k : ℕ) → is_listed before k ≡ true → values k ≡ settled_at l ports flops net values k
stays l ports flops net values before new k old = elim (cases_Bool (net == k)) [
  | inl same ↦ (let e : is_listed before net ≡ is_listed before k = ap (is_listed before) (eqb-true net k same) in absurd cc)
  | inr other ↦ rw other refl
]

settles : (l : Logic) (ports flops : ℕ → Tri) (net : ℕ) (values : ℕ → Tri) (k : ℕ) → (net == k) ≡ true → settled_at l ports flops net values k ≡ value_given (strobe_from ports flops values) values k (l.net k)
settles l ports flops net values k same =
    let e : net ≡ k = eqb-true net k same in
    let first : settled_at l ports flops net values k ≡ value_given (strobe_from ports flops values) values net (l.net net) = rw same refl in
    first ∙ ap (λ (n : ℕ). value_given (strobe_from ports flops values) values n (l.net n)) e

on_more : (l : Logic) (ports flops : ℕ → Tri) (before : List ℕ) (net : ℕ) (values : ℕ → Tri) → is_listed before net ≡ false → IsStrobeClosed l (is_listed before) → HasAll (is_listed before) (reads (l.net net)) →
    IsStrobeOn l ports flops (is_listed before) values → IsStrobeOn l ports flops (is_listed (net ∷ before)) (settled_at l ports flops net values)
on_more l ports flops before net values new closed read on k is =
    let after : ℕ → Tri = settled_at l ports flops net values in
    let agree : (nets : List ℕ) → HasAll (is_listed before) nets → Agree values after nets = λ nets all. set_agrees (is_listed before) values after nets all (stays l ports flops net values before new) in
    elim (or_cases (net == k) (is_listed before k) is) [
      | inl same ↦ settles l ports flops net values k same
          ∙ strobe_agrees ports flops values after k (l.net k) (agree (reads (l.net k)) (subst (λ (n : ℕ). HasAll (is_listed before) (reads (l.net n))) (eqb-true net k same) read))
      | inr old ↦ sym (stays l ports flops net values before new k old) ∙ on k old ∙ strobe_agrees ports flops values after k (l.net k) (agree (reads (l.net k)) (closed k old))
    ]

-- ---- the whole list

-- what comes before a list, or in it
moved : (before : List ℕ) (net : ℕ) (nets : List ℕ) (k : ℕ) → (is_listed before k ≡ true) ⊎ (is_listed (net ∷ nets) k ≡ true) → (is_listed (net ∷ before) k ≡ true) ⊎ (is_listed nets k ≡ true)
moved before net nets k (inl old) = inl (or_right (net == k) (is_listed before k) old)
moved before net nets k (inr is) = elim (or_cases (net == k) (is_listed nets k) is) [
  | inl same ↦ inl (or_left (net == k) (is_listed before k) same)
  | inr later ↦ inr later
]

list_settled : (l : Logic) (ports flops : ℕ → Tri) (before nets : List ℕ) (values : ℕ → Tri) → IsListFrom l before nets → IsStrobeClosed l (is_listed before) → IsStrobeOn l ports flops (is_listed before) values →
    (k : ℕ) → (is_listed before k ≡ true) ⊎ (is_listed nets k ≡ true) → settled_by l ports flops nets values k ≡ value_given (strobe_from ports flops (settled_by l ports flops nets values)) (settled_by l ports flops nets values) k (l.net k)
list_settled l ports flops before [] values list closed on k (inl old) = on k old
list_settled l ports flops before [] values list closed on k (inr is) = absurd cc
list_settled l ports flops before (net ∷ nets) values list closed on k is =
    list_settled l ports flops (net ∷ before) nets (settled_at l ports flops net values) list.2 (closed_more l before net closed list.1) (on_more l ports flops before net values list.0 closed list.1 on) k (moved before net nets k is)

pub list_is_settled : ListIsSettled
list_is_settled l ports flops nets values list k is = list_settled l ports flops [] nets values list (λ net none. absurd cc) (λ net none. absurd cc) k (inr is)

-- the nets that a listed net is settled from are listed, there or before
list_closed : (l : Logic) (before nets all : List ℕ) → IsListFrom l before nets → ((k : ℕ) → is_listed before k ≡ true → is_listed all k ≡ true) → ((k : ℕ) → is_listed nets k ≡ true → is_listed all k ≡ true) →
    (k : ℕ) → is_listed nets k ≡ true → HasAll (is_listed all) (reads (l.net k))
list_closed l before [] all list old later k is = absurd cc
list_closed l before (net ∷ nets) all list old later k is = elim (or_cases (net == k) (is_listed nets k) is) [
  | inl same ↦ wider (is_listed before) (is_listed all) (reads (l.net k)) old (subst (λ (n : ℕ). HasAll (is_listed before) (reads (l.net n))) (eqb-true net k same) list.1)
  | inr rest ↦ list_closed l (net ∷ before) nets all list.2
      (λ j has. elim (or_cases (net == j) (is_listed before j) has) [ inl same ↦ later j (or_left (net == j) (is_listed nets j) same) | inr was ↦ old j was ])
      (λ j has. later j (or_right (net == j) (is_listed nets j) has)) k rest
]

pub list_is_closed : ListIsClosed
list_is_closed l nets list = list_closed l [] nets nets list (λ k none. absurd cc) (λ k is. is)
