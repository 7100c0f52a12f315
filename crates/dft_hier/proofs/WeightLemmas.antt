-- Weights: they are found in an order, and tell how many nets there are and where nothing is.
use Rattle.std.proofs.Common.{ℕ, zero, suc, ◌+◌, ◌<◌, ◌≤◌, ◌≡◌, ◌⊎◌, inl, inr, List, [], ◌∷◌, length, take, get_or, set, replicate, Some, slice_get, refl, sym, ap, subst, arith, ◌∙◌, length-set}
use Rattle.std.proofs.lemmas.List.{get_or-set_same, get_or-set_other, get_or-replicate, length-replicate}
use Rattle.std.proofs.lemmas.Option.{slice_get_within}
use Rattle.std.proofs.lemmas.Bool.{cases_eq, cases_lt}
use Rattle.dft_netlist.specs.declared.limits.TheConstants.{MAX_NETS}
use Rattle.dft_modules.specs.Modules.{Module}
use Rattle.dft_hier.specs.declared.weights.Weight.{Weight}
use Rattle.dft_hier.specs.Reach.{Graph, StandsIn, children_at, IsOrder}
use Rattle.dft_hier.specs.Weights.{AreWeights, AreBounded, alone, no_weight, with_all, weights_of, weight_by}
use Rattle.dft_hier.proofs.ReachLemmas.{stands_cases, stands_none, stands_more}

-- ---- the same weights of instances

pub weights_same : (old new : List Weight) (children : List ℕ) → ((child : ℕ) → StandsIn children child → get_or new child no_weight ≡ get_or old child no_weight) → weights_of new children ≡ weights_of old children
weights_same old new [] same = refl
weights_same old new (c ∷ children) same =
    ap (λ (w : Weight). w ∷ weights_of new children) (same c (record { place = 0; at = refl }))
    ∙ ap (λ (ws : List Weight). get_or old c no_weight ∷ ws) (weights_same old new children (λ child h. same child (stands_more c children child h)))

-- whether a number stands in a list
stands_or : (xs : List ℕ) (k : ℕ) → StandsIn xs k ⊎ (StandsIn xs k → ⊥)
stands_or [] k = inr (stands_none k)
stands_or (x ∷ xs) k = elim (cases_eq x k) [
  | inl e ↦ inl (record { place = 0; at = ap (λ (n : ℕ). Some n) e })
  | inr ne ↦ elim (stands_or xs k) [
    | inl more ↦ inl (stands_more x xs k more)
    | inr none ↦ inr (λ h. elim (stands_cases x xs k h) [ inl e ↦ ne e | inr more ↦ none more ])
  ]
]

-- the modules of the order so far have their weights
pub record WeighedSoFar (ms : List Module) (g : Graph) (order : List ℕ) (done : ℕ) (weights : List Weight) : Type 0 where
  pub count : length weights ≡ length ms
  pub bounded : AreBounded weights
  pub each : (place number : ℕ) (m : Module) → place < done → slice_get order place ≡ Some number → slice_get ms number ≡ Some m → get_or weights number no_weight ≡ weight_by m (children_at g number) weights

pub none_weighed : (ms : List Module) (g : Graph) (order : List ℕ) (count : ℕ) → count ≡ length ms → WeighedSoFar ms g order 0 (replicate count no_weight)
none_weighed ms g order count is = record {
  count = length-replicate count no_weight ∙ is;
  bounded = λ k d less. (let e = get_or-replicate count k no_weight d (let l = length-replicate count no_weight in omega arith) in subst (λ (w : Weight). w.nets ≤ MAX_NETS + 1) (sym e) (omega arith));
  each = λ place number m less. absurd (omega (arith, less));
}

stands_taken : (order : List ℕ) (done place number : ℕ) → place < done → slice_get order place ≡ Some number → slice_get (take done order) place ≡ Some number
stands_taken order zero place number less at = absurd (omega (arith, less))
stands_taken [] (suc done) place number less at = at
stands_taken (x ∷ order) (suc done) zero number less at = at
stands_taken (x ∷ order) (suc done) (suc place) number less at = stands_taken order done place number (omega (arith, less)) at

taken_stands : (order : List ℕ) (done place number : ℕ) → slice_get (take done order) place ≡ Some number → (place < done) × (slice_get order place ≡ Some number)
taken_stands order zero place number at = absurd (let f : ⊥ = cc in f)
taken_stands [] (suc done) place number at = absurd (let f : ⊥ = cc in f)
taken_stands (x ∷ order) (suc done) zero number at = (omega arith, at)
taken_stands (x ∷ order) (suc done) (suc place) number at = let r = taken_stands order done place number at in ((let l = r.0 in omega arith), r.1)

pub weighed_next : (ms : List Module) (g : Graph) (order : List ℕ) (done number : ℕ) (m : Module) (children : List ℕ) (w : Weight) (old : List Weight) → IsOrder g order → slice_get order done ≡ Some number → slice_get ms number ≡ Some m →
    children ≡ children_at g number → w ≡ weight_by m children old → w.nets ≤ MAX_NETS + 1 → WeighedSoFar ms g order done old → WeighedSoFar ms g order (done + 1) (set old number w)
weighed_next ms g order done number m children w old o at there are is few h =
    let new : List Weight = set old number w in
    let size = h.count in
    let within = slice_get_within ms number m there in
    let here : get_or new number no_weight ≡ w = get_or-set_same old number w no_weight (omega arith) in
    let written : w ≡ weight_by m (children_at g number) old = is ∙ ap (λ (xs : List ℕ). weight_by m xs old) are in
    -- what stood in the order before has the weight that it had
    let kept : (k : ℕ) → StandsIn (take done order) k → get_or new k no_weight ≡ get_or old k no_weight = λ k before. elim (cases_eq k number) [
      | inl e ↦ (
          let t = taken_stands order done before.place k before.at in
          let again : get_or old number no_weight ≡ w = h.each before.place number m t.0 (t.1 ∙ ap (λ (j : ℕ). Some j) e) there ∙ sym written in
          ap (λ (j : ℕ). get_or new j no_weight) e ∙ here ∙ sym again ∙ ap (λ (j : ℕ). get_or old j no_weight) (sym e))
      | inr ne ↦ get_or-set_other old number k w no_weight ne
    ] in
    let same : (place k : ℕ) (x : Module) → place < done + 1 → slice_get order place ≡ Some k → weight_by x (children_at g k) new ≡ weight_by x (children_at g k) old = λ place k x less is_.
    ap (with_all (alone x)) (weights_same old new (children_at g k) (λ child below. kept child (shorter order place done child (omega (arith, less)) (o.after place k child is_ below)))) in
    record {
      count = length-set old number w ∙ h.count;
      bounded = bounded old number w few h.bounded;
      each = λ place k x less is_ x_at. elim (cases_lt place done) [
        | inl early ↦ kept k (record { place = place; at = stands_taken order done place k early is_ }) ∙ h.each place k x early is_ x_at ∙ sym (same place k x less is_)
        | inr late ↦ (
            let e : place ≡ done = omega arith in
            let f : Some k ≡ Some number = sym is_ ∙ ap (slice_get order) e ∙ at in
            let n : k ≡ number = cc in
            let s : Some x ≡ Some m = sym x_at ∙ ap (slice_get ms) n ∙ there in
            let q : x ≡ m = cc in
            ap (λ (j : ℕ). get_or new j no_weight) n ∙ here ∙ written ∙ ap (λ (j : ℕ). weight_by m (children_at g j) old) (sym n) ∙ ap (λ (y : Module). weight_by y (children_at g k) old) (sym q) ∙ sym (same place k x less is_))
      ];
    }
  where
    shorter : (order : List ℕ) (place done child : ℕ) → place ≤ done → StandsIn (take place order) child → StandsIn (take done order) child
    shorter order place done child less h = let t = taken_stands order place h.place child h.at in record { place = h.place; at = stands_taken order done h.place child (let l = t.0 in omega arith) t.1 }

    bounded : (old : List Weight) (k : ℕ) (w : Weight) → w.nets ≤ MAX_NETS + 1 → AreBounded old → AreBounded (set old k w)
    bounded old k w few all = λ i d less. (
        let size = length-set old k w in
        elim (cases_eq i k) [
          | inl e ↦ subst (λ (x : Weight). x.nets ≤ MAX_NETS + 1) (sym (ap (λ (j : ℕ). get_or (set old k w) j d) e ∙ get_or-set_same old k w d (omega arith))) few
          | inr ne ↦ subst (λ (x : Weight). x.nets ≤ MAX_NETS + 1) (sym (get_or-set_other old k i w d ne)) (all i d (omega arith))
        ])

pub all_weighed : (ms : List Module) (g : Graph) (order : List ℕ) (done : ℕ) (weights : List Weight) → IsOrder g order → length g ≡ length ms → length order ≤ done → WeighedSoFar ms g order done weights → AreWeights ms g weights
all_weighed ms g order done weights o size past h = record {
  count = h.count;
  each = λ number m at. (
      let within = slice_get_within ms number m at in
      let there = o.whole number (omega arith) in
      let less = slice_get_within order there.place number there.at in
      h.each there.place number m (omega arith) there.at at);
}
