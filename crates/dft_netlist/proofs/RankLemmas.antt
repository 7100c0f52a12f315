-- An order ranks the nets by their places.
use Rattle.std.proofs.Common.{◌≡◌, ℕ, suc, ◌<◌, ◌≤◌, Bool, true, false, cond, List, [], ◌∷◌, length, refl, sym, ◌∙◌, ap, subst, arith, ◌⊎◌, inl, inr, ◌==◌}
use Rattle.std.proofs.lemmas.Bool.{eqb-true, eq-eqb}
use Rattle.dft_netlist.proofs.StandLemmas.{has_all}
use Rattle.dft_netlist.specs.Netlist.{Netlist}
use Rattle.dft_netlist.specs.Drivers.{nets_read, AreBelow}
use Rattle.dft_netlist.specs.DesignLaws.{OrderRanks}
use Rattle.dft_netlist.specs.Orders.{Has, reads_of, IsOrderFrom}
use Rattle.dft_netlist.specs.Sound.{IsNetlist}
use Rattle.dft_netlist.proofs.LiveLemmas.{le_or_lt, past_free}

-- how many nets stand before this one
abbrev place_in : List ℕ → (net : ℕ) → ℕ
place_in [] net = 0
place_in (x ∷ xs) net = cond (x == net) 0 (suc (place_in xs net))

place_few : (t : Bool) (k m : ℕ) → k ≤ m → cond t 0 (suc k) ≤ suc m
place_few true k m h = omega arith
place_few false k m h = omega arith

place_bound : (xs : List ℕ) (net : ℕ) → place_in xs net ≤ length xs
place_bound [] net = omega arith
place_bound (x ∷ xs) net = place_few (x == net) (place_in xs net) (length xs) (place_bound xs net)

apart_place : (x : ℕ) (xs : List ℕ) (net : ℕ) → (x ≡ net → ⊥) → place_in (x ∷ xs) net ≡ suc (place_in xs net)
apart_place x xs net ne = by (x == net) refl
  where
    by : (t : Bool) → (x == net) ≡ t → cond t 0 (suc (place_in xs net)) ≡ suc (place_in xs net)
    by true is = absurd (ne (eqb-true x net is))
    by false is = refl

first_place : (x : ℕ) (xs : List ℕ) → place_in (x ∷ xs) x ≡ 0
first_place x xs = rw (eq-eqb x x refl) refl

-- what is still to come was not before
not_before : (n : Netlist) (before xs : List ℕ) → IsOrderFrom n before xs → (k : ℕ) → Has xs k → Has before k → ⊥
not_before n before [] o k has was = has
not_before n before (x ∷ xs) o k has was = elim has [ inl e ↦ o.0 (subst (Has before) e was) | inr more ↦ not_before n (x ∷ before) xs o.3 k more (inr was) ]

read_earlier : (n : Netlist) (before xs : List ℕ) → IsOrderFrom n before xs → (net r : ℕ) → Has xs net → Has (reads_of n net) r → Has before r ⊎ (Has xs r × (place_in xs r < place_in xs net))
read_earlier n before [] o net r has reads = absurd has
read_earlier n before (x ∷ xs) o net r has reads = elim has [
  | inl e ↦ inl (has_all (Has before) (reads_of n x) r o.2 (subst (λ k. Has (reads_of n k) r) e reads))
  | inr later ↦ (
      let apart : x ≡ net → ⊥ = λ e. not_before n (x ∷ before) xs o.3 net later (inl (sym e)) in
      let here = apart_place x xs net apart in
      elim (read_earlier n (x ∷ before) xs o.3 net r later reads) [
        | inl was ↦ elim was [
          | inl e ↦ inr (inl e, (let zero_place : place_in (x ∷ xs) r ≡ 0 = ap (place_in (x ∷ xs)) e ∙ first_place x xs in omega (arith, here, zero_place)))
          | inr earlier ↦ inl earlier
        ]
        | inr more ↦ (
            let other : x ≡ r → ⊥ = λ e. not_before n (x ∷ before) xs o.3 r more.0 (inl (sym e)) in
            let there = apart_place x xs r other in
            inr (inr more.0, omega (arith, here, there, more.1)))
      ])
]

pub all_below : (rank : ℕ → ℕ) (k : ℕ) (xs : List ℕ) → ((r : ℕ) → Has xs r → rank r < k) → AreBelow rank k xs
all_below rank k [] h = tt
all_below rank k (x ∷ xs) h = (h x (inl refl), all_below rank k xs (λ r m. h r (inr m)))

-- a net past the end reads none
past_reads : (n : Netlist) → IsNetlist n → (net : ℕ) → length n.nets ≤ net → reads_of n net ≡ []
past_reads n s net past = ap (nets_read n) (past_free n s net past)

pub order_ranks : OrderRanks
order_ranks = λ n order s o. (
  place_in order,
  record {
    after = λ net. elim (le_or_lt (length n.nets) net) [
      | inl past ↦ rw (past_reads n s net past) tt
      | inr lt ↦ all_below (place_in order) (place_in order net) (reads_of n net) (λ r reads. elim (read_earlier n [] order o.after net r (o.whole net lt) reads) [ inl never ↦ absurd never | inr less ↦ less.1 ])
    ];
    within = λ net. (let few = place_bound order net in let c = o.count in omega arith);
  },
)
